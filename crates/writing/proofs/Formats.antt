-- A format, gone through from its first byte on: what it writes so far, and what its rest is. Assumes nothing.
use Prim.Native.Nat.{ℕ, ◌<◌}
use mathlib.Core.Path.{◌≡◌, refl, sym, ap, ◌∙◌}
use mathlib.Core.List.{List, [], ◌∷◌, ◌++◌, append_assoc, append-nil}
use native.Mathlib.Omega.{arith}
use borrow.Author.Tests.{eq-eqb, ne_eqb}
use lib.ListN.{length}
use Rattle.rules.specs.Basics.{Read, got, other, refuse}
use Rattle.rules.specs.Moments.{Moment}
use Rattle.rules.specs.Writing.{letter, before, formatted}
use Rattle.rules.specs.declared.Refusal.{Refusal}
use Rattle.writing.specs.Formats.{text_of, IsText}

-- ---- one text before another
before_assoc : (s t : List ℕ) (r : Read (List ℕ)) → before (got s) (before (got t) r) ≡ before (got (s ++ t)) r
before_assoc s t (got u) = ap got (sym (append_assoc s t u))
before_assoc s t other = refl
before_assoc s t (refuse x) = refl

before_none : (r : Read (List ℕ)) → r ≡ before (got []) r
before_none (got u) = refl
before_none other = refl
before_none (refuse x) = refl

-- where both together are a text, each is one
pub record Both (a b : Read (List ℕ)) (t : List ℕ) : Type 0 where
  pub first : IsText a
  pub second : IsText b
  pub joined : t ≡ text_of a ++ text_of b

no_text : {x : Refusal} {s : List ℕ} → refuse x ≡ got s → ⊥
no_text z = let q : ◌≡◌ {A = ℕ} 0 1 = cc in omega arith

both : (a b : Read (List ℕ)) (t : List ℕ) → before a b ≡ got t → Both a b t
both (got s) (got u) t e = record { first = refl; second = refl; joined = cc }
both (got s) other t e = absurd (let z : ◌≡◌ {A = ℕ} 0 1 = cc in omega arith)
both (got s) (refuse x) t e = absurd (no_text e)
both other b t e = absurd (let z : ◌≡◌ {A = ℕ} 0 1 = cc in omega arith)
both (refuse x) b t e = absurd (no_text e)

-- ---- one step
plain : (p : Moment) (b : ℕ) (s : List ℕ) → (b ≡ 37 → ⊥) → formatted p (b ∷ s) ≡ before (got (b ∷ [])) (formatted p s)
unfolding formatted
plain p b [] n = rw (ne_eqb 37 b (λ e. n (sym e)))
plain p b (c ∷ s) n = rw (ne_eqb 37 b (λ e. n (sym e)))

lettered : (p : Moment) (b c : ℕ) (s : List ℕ) → b ≡ 37 → formatted p (b ∷ c ∷ s) ≡ before (letter c p) (formatted p s)
unfolding formatted
lettered p b c s e = rw (eq-eqb 37 b (sym e))

last : (p : Moment) (b : ℕ) → b ≡ 37 → formatted p (b ∷ []) ≡ refuse Refusal.Null
unfolding formatted
last p b e = rw (eq-eqb 37 b (sym e))

-- a format is passed up to its rest, and `done` is what it writes so far
pub record Passed (p : Moment) (f rest done : List ℕ) : Type 0 where
  pub is : formatted p f ≡ before (got done) (formatted p rest)

pub passed_none : {p : Moment} {f : List ℕ} → Passed p f f []
passed_none {p} {f} = record { is = before_none (formatted p f) }

pub passed_plain : {p : Moment} {f : List ℕ} {b : ℕ} {s done : List ℕ} → (b ≡ 37 → ⊥) → Passed p f (b ∷ s) done → Passed p f s (done ++ (b ∷ []))
passed_plain {p} {f} {b} {s} {done} n here = record { is = here.is ∙ ap (before (got done)) (plain p b s n) ∙ before_assoc done (b ∷ []) (formatted p s) }

module _ {p : Moment} {f : List ℕ} {b c : ℕ} {s done : List ℕ} where
  at_letter : {r : Read (List ℕ)} → b ≡ 37 → Passed p f (b ∷ c ∷ s) done → letter c p ≡ r → formatted p f ≡ before (got done) (before r (formatted p s))
  at_letter {r} e here l = here.is ∙ ap (before (got done)) (lettered p b c s e ∙ ap (λ (r : Read (List ℕ)). before r (formatted p s)) l)

  pub passed_letter : {t : List ℕ} → b ≡ 37 → Passed p f (b ∷ c ∷ s) done → letter c p ≡ got t → Passed p f s (done ++ t)
  passed_letter {t} e here l = record { is = at_letter e here l ∙ before_assoc done t (formatted p s) }

  pub passed_refused : {x : Refusal} → b ≡ 37 → Passed p f (b ∷ c ∷ s) done → letter c p ≡ refuse x → formatted p f ≡ refuse x
  passed_refused e here l = at_letter e here l

pub passed_last : {p : Moment} {f done : List ℕ} {b : ℕ} → b ≡ 37 → Passed p f (b ∷ []) done → formatted p f ≡ refuse Refusal.Null
passed_last {p} {f} {done} {b} e here = here.is ∙ ap (before (got done)) (last p b e)

pub passed_end : {p : Moment} {f done : List ℕ} → Passed p f [] done → formatted p f ≡ got done
unfolding formatted
passed_end {p} {f} {done} here = here.is ∙ ap got (append-nil done)

-- ---- where the whole format is a text
module _ {p : Moment} {f : List ℕ} (text : IsText (formatted p f)) where
  left : {s done : List ℕ} → Passed p f s done → Both (got done) (formatted p s) (text_of (formatted p f))
  left {s} {done} here = both (got done) (formatted p s) (text_of (formatted p f)) (sym here.is ∙ text)

  -- a last byte is no %
  no_last : {b : ℕ} {done : List ℕ} → Passed p f (b ∷ []) done → b ≡ 37 → ⊥
  no_last here e = no_text (sym (passed_last e here) ∙ text)

  -- so a letter follows it
  pub letter_follows : {b : ℕ} (s : List ℕ) {done : List ℕ} → b ≡ 37 → Passed p f (b ∷ s) done → 0 < length s
  letter_follows [] e here = absurd (no_last here e)
  letter_follows (c ∷ s) e here = omega arith

  module _ {b c : ℕ} {s done : List ℕ} (e : b ≡ 37) (here : Passed p f (b ∷ c ∷ s) done) where
    rest_letter : Both (letter c p) (formatted p s) (text_of (formatted p (b ∷ c ∷ s)))
    rest_letter = both (letter c p) (formatted p s) (text_of (formatted p (b ∷ c ∷ s))) (sym (lettered p b c s e) ∙ (left here).second)

    pub letter_text_lem : IsText (letter c p)
    letter_text_lem = rest_letter.first

    -- what is still to come after the letter, or after the byte
    pub after_letter : text_of (formatted p f) ≡ done ++ (text_of (letter c p) ++ text_of (formatted p s))
    after_letter = (left here).joined ∙ ap (λ (s : List ℕ). done ++ s) rest_letter.joined

  pub after_plain : {b : ℕ} {s done : List ℕ} → (b ≡ 37 → ⊥) → Passed p f (b ∷ s) done → text_of (formatted p f) ≡ done ++ ((b ∷ []) ++ text_of (formatted p s))
  after_plain {b} {s} {done} n here = (left here).joined ∙ ap (λ (s : List ℕ). done ++ s) (both (got (b ∷ [])) (formatted p s) (text_of (formatted p (b ∷ s))) (sym (plain p b s n) ∙ (left here).second)).joined
