-- What the readers of this crate find at the front of a slice. Definitions for this crate's contracts.
use Rattle.std.specs.Prelude.{ℕ, Bool, true, false, not, ◌||◌, ◌≡◌, List, [], ◌∷◌, ◌++◌, Option, Some, None, eqb, length, take, drop}
use Rattle.std.specs.Borrow.{Bor}
use Rattle.rules.specs.Basics.{is, word, Read, only_if, every}
use Rattle.rules.specs.Reading.{space}

-- whether the byte b stands there
abbrev pub begins : ℕ → List ℕ → Bool
begins b [] = false
begins b (x ∷ s) = eqb b x

-- what follows it
abbrev pub after_byte : ℕ → List ℕ → Read (List ℕ)
after_byte b s = only_if (begins b s) (drop 1 s)

-- whether s begins with the word w, letters in either case
unfoldable pub leads : List ℕ → List ℕ → Bool
leads w s = word w (take (length w) s)

-- "Between date and time any run of whitespace and `T`"
abbrev pub gap : ℕ → Bool
gap b = space b || is "T" b

-- ---- a text in two
-- the bytes of a rest, if there is one
abbrev pub rest_of : Option (Bor (List ℕ)) → Option (List ℕ)
rest_of (Some s) = Some s.now
rest_of None = None

-- a text of what stands before its first byte b and what follows it, if that byte stands in it
abbrev pub joined : ℕ → List ℕ → Option (List ℕ) → List ℕ
joined b front (Some rest) = front ++ b ∷ rest
joined b front None = front

pub record IsCut (b : ℕ) (s front : List ℕ) (rest : Option (List ℕ)) : Type 0 where
  pub whole : s ≡ joined b front rest
  pub clear : every (λ x. not (eqb x b)) front ≡ true
