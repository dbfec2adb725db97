-- A number's digits one after another, and what follows a zero byte.
use Rattle.std.proofs.Common.{◌≡◌, ℕ, ◌+◌, ◌-◌, ◌*◌, ◌≤◌, ◌<◌, List, [], ◌∷◌, ◌++◌, length, drop, get_or, refl, sym, add-one, drop-cons}
use Rattle.std.specs.Prelude.{Bool, true, false, not, Some, None, eqb, neg_ℤ, pos}
use Rattle.std.specs.Io.BufRead.{drop_through}
use Rattle.std.proofs.lemmas.Bool.{le-leb, lt-leb}
use borrow.Author.Tests.{not-true}
use Rattle.rules.specs.Basics.{is_digit, every, got, other}
use Rattle.text.specs.Places.{IsCut, begins, after_byte}
use Rattle.text.proofs.Tests.{and_false, and_left, and_right}
use Rattle.rows.specs.Numbers.{number, number_on, signed}

module _ (limit n : ℕ) (s : List ℕ) (i : ℕ) (h : i < length s) where
  more : ℕ
  more = n * 10 + (get_or s i 0 - 48)

  here : drop i s ≡ get_or s i 0 ∷ drop (i + 1) s
  here = rw add-one (drop-cons s i 0 h)

  pub goes_on : is_digit (get_or s i 0) ≡ true → n * 10 + (get_or s i 0 - 48) ≤ limit
      → number_on limit n (drop i s) ≡ number_on limit (n * 10 + (get_or s i 0 - 48)) (drop (i + 1) s)
  unfolding number_on
  goes_on e w = rw (here, e, le-leb _ _ w) refl

  pub stops : is_digit (get_or s i 0) ≡ false → number_on limit n (drop i s) ≡ n
  unfolding number_on
  stops e = rw (here, e) refl

  pub too_large : limit < n * 10 + (get_or s i 0 - 48) → number_on limit n (drop i s) ≡ n
  unfolding number_on
  too_large w = rw (here, lt-leb _ _ w, and_false (is_digit (get_or s i 0))) refl

pub ended : (limit n : ℕ) → number_on limit n [] ≡ n
unfolding number_on
ended limit n = refl

pub after : (line front rest : List ℕ) → IsCut 0 line front (Some rest) → drop_through 0 line ≡ rest
unfolding every
after line front rest c = rw c.whole (go front c.clear)
  where
    go : (front : List ℕ) → every (λ x. not (eqb x 0)) front ≡ true → drop_through 0 (front ++ 0 ∷ rest) ≡ rest
    go [] h = refl
    go (x ∷ front) h = rw (not-true (eqb x 0) (and_left _ _ h)) (go front (and_right (not (eqb x 0)) _ h))

pub nothing_after : (line front : List ℕ) → IsCut 0 line front None → drop_through 0 line ≡ []
unfolding every
nothing_after line front c = rw c.whole (go front c.clear)
  where
    go : (front : List ℕ) → every (λ x. not (eqb x 0)) front ≡ true → drop_through 0 front ≡ []
    go [] h = refl
    go (x ∷ front) h = rw (not-true (eqb x 0) (and_left _ _ h)) (go front (and_right (not (eqb x 0)) _ h))

got_other : {w : List ℕ} → got w ≡ other → ⊥
got_other h = cc

pub with_minus : (limit : ℕ) (s w : List ℕ) → got w ≡ after_byte 45 s → signed limit s ≡ neg_ℤ (pos (number limit w))
with_minus limit s w h = go (begins 45 s) refl
  where
    go : (t : Bool) → begins 45 s ≡ t → signed limit s ≡ neg_ℤ (pos (number limit w))
    go true e = let is : got w ≡ got (drop 1 s) = rw e at h in let same : w ≡ drop 1 s = cc in rw (e, same) refl
    go false e = absurd (got_other (rw e at h))

pub without_minus : (limit : ℕ) (s : List ℕ) → other ≡ after_byte 45 s → signed limit s ≡ pos (number limit s)
without_minus limit s h = go (begins 45 s) refl
  where
    go : (t : Bool) → begins 45 s ≡ t → signed limit s ≡ pos (number limit s)
    go true e = let is : other ≡ got (drop 1 s) = rw e at h in absurd (got_other (sym is))
    go false e = rw e refl
