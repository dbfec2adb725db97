-- The fields of a line, as the code finds them: one after another.
use Rattle.std.specs.Prelude.{ℕ, suc, Bool, not, ◌&&◌, ◌≤◌, ◌≡◌, List, [], ◌∷◌, Option, Some, None, Result, Ok, Err, eqb, leb, length}
use Rattle.std.specs.Borrow.{Bor}
use Rattle.std.proofs.lemmas.List.Edits.{sets}
use Rattle.rules.specs.Basics.{every, parts, Read, got, other, refuse, ◌or◌, ◌>>=◌}
use Rattle.rules.specs.Calls.{Call, call, strftime, timediff, Outcome}
use Rattle.rules.specs.Functions.{answer, settle}
use Rattle.rules.specs.declared.Refusal.{Refusal}
use Rattle.rules.specs.declared.Setting.{Setting}
use Rattle.text.specs.Places.{rest_of}

abbrev pub is_tab : ℕ → Bool
is_tab b = eqb b 9

-- the fields of what follows a field: none, where nothing does
abbrev pub fields_of : Option (List ℕ) → List (List ℕ)
fields_of (Some s) = parts is_tab s
fields_of None = []

-- and how many bytes follow it: a tab, and the rest
abbrev pub following : Option (List ℕ) → ℕ
following (Some s) = suc (length s)
following None = 0

-- the next field is taken; or there is none
abbrev pub TakesField : Option (List ℕ) → Result (Bor (List ℕ) × Option (Bor (List ℕ))) Refusal → Type 0
TakesField rest (Ok (field, after)) = (fields_of rest ≡ field.now ∷ fields_of (rest_of after)) × (following (rest_of after) ≤ following rest)
TakesField rest (Err x) = (x ≡ Refusal.Shape) × (fields_of rest ≡ [])

-- "A line over 8,192 bytes, or with a zero byte" is no call
abbrev pub plain : List ℕ → Bool
plain s = leb (length s) 8192 && every (λ b. not (eqb b 0)) s

-- the modifiers' buffer of a call: none where there is no call, or one without modifiers
abbrev pub modifiers_in : Read Call → List ℕ
modifiers_in (got (call f v m)) = m
modifiers_in (got (strftime f v m)) = m
modifiers_in (got (timediff a b)) = []
modifiers_in other = []
modifiers_in (refuse r) = []

-- what the lent room holds once the modifiers of a line's call are laid at its front
abbrev pub laid_out : Read Call → List ℕ → List ℕ
laid_out c room = sets room 0 (modifiers_in c)

-- what comes of a line's call: refusal 2 where it is none
unfoldable pub outcome : Setting → Read Call → Outcome
outcome set r = settle (do c ← r or refuse Refusal.Shape; got (answer set c))
