-- What a step hands back, as what one modifier hands back. Assumes nothing.
use Rattle.std.proofs.Common.{if◌then◌else◌, eqb, ◌≡◌, ℕ, zero, suc, ◌+◌, ◌*◌, ◌<◌, ◌≤◌, Bool, true, false, ◌&&◌, List, sym, refl, ap, ◌∙◌, div-lt_iff_lt-mul, arith, ltb-true}
use borrow.Author.Tests.{ne_eqb}
use Rattle.std.specs.Prelude.{Result, Ok, Err}
use lib.Ieee.{Float, nan, inf, fin, up, down, lt, eq, of_int, round, to_unsigned}
use lib.Ieee.Fits.{down_pos}
use Rattle.rules.specs.Basics.{Read, got, refuse, trim}
use Rattle.rules.specs.Decimal.{decimal}
use Rattle.rules.specs.Floats.{number, whole, within}
use Rattle.rules.specs.Moments as rule
use Rattle.rules.specs.Modifiers.{first, provided, or_null, wide_space, weekday, to_weekday}
use Rattle.rules.specs.declared.Refusal.{Refusal}
use Rattle.moment.specs.Held.{held}
use Rattle.moment.specs.Ranges.{After, Lands, Moved, Answered}
use Rattle.moment.specs.declared.Moment.{Moment}
use Rattle.moment.proofs.Bounds.{after_more}
use Rattle.modifiers.specs.Stepped.{Stepped}

-- what tests that a modifier is the first
abbrev pub only_first : ℕ → Result (Unit {0}) Refusal
only_first i = if eqb i 0 then Ok tt else Err Refusal.Null

lands_more : (n : ℕ) (s : Result Moment Refusal) → Lands (λ r. After n r) s → Lands (λ r. After (n + 1) r) s
lands_more n (Ok p) a = after_more n (n + 1) (held p) (omega arith) a
lands_more n (Err x) a = tt

-- a step that only fills
pub answered_stepped : {p : Moment} {s : Result Moment Refusal} {q : Read rule.Moment} → Answered p s q → Stepped p s q
answered_stepped {p} {s} a = record { is = a.is; after = λ n h. lands_more n s (a.after n h) }

-- one that moves
pub stepped : {p r : Moment} {x : rule.Moment} (y : Read rule.Moment) → y ≡ got x → Moved p r x → Stepped p (Ok r) y
stepped y e m = record { is = ap got m.is ∙ sym e; after = m.after }

-- none
pub refused : (p : Moment) (y : Read rule.Moment) (n : Refusal) → y ≡ refuse n → Stepped p (Err n) y
refused p y n e = record { is = sym e; after = λ n a. tt }

-- the same, as the rules say it
pub stepped_as : {p : Moment} {s : Result Moment Refusal} {x : Read rule.Moment} (y : Read rule.Moment) → y ≡ x → Stepped p s x → Stepped p s y
stepped_as y e a = record { is = a.is ∙ sym e; after = a.after }

-- ---- a step that is allowed only where a test passes
pub provided_then : {t : Bool} (p : rule.Moment) → t ≡ true → provided t p ≡ got p
provided_then p h = rw h

pub provided_else : {t : Bool} (p : rule.Moment) → t ≡ false → provided t p ≡ refuse Refusal.Null
provided_else p h = rw h

-- ---- "first only"
later_only : (i : ℕ) → only_first (suc i) ≡ Err Refusal.Null
later_only i = rw (ne_eqb (suc i) 0 (omega arith))

pub at_first : (i : ℕ) (r : Read rule.Moment) → Ok tt ≡ only_first i → first i r ≡ r
at_first zero r h = refl
at_first (suc i) r h = let e = h ∙ later_only i in absurd (cc)

pub later : (i : ℕ) (x : Refusal) (r : Read rule.Moment) → Err x ≡ only_first i → first i r ≡ refuse x
later zero x r h = absurd (cc)
later (suc i) x r h = let e = h ∙ later_only i in let k : Refusal.Null ≡ x = cc in ap refuse k

-- ---- a day of the week
module _ (s : List ℕ) (p : rule.Moment) where
  pub weekday_not : (x : Refusal) → refuse x ≡ or_null (decimal (trim wide_space s)) → weekday s p ≡ refuse x
  unfolding weekday
  weekday_not x e = rw (← e)

  pub weekday_is : (x : Float) → got x ≡ or_null (decimal (trim wide_space s)) → weekday s p ≡ provided (within (number 0) x (number 7) && eq (number (whole x)) x) (to_weekday (whole x) p)
  unfolding weekday
  weekday_is x e = rw (← e)

never : {A : Type 0} → false ≡ true → A
never h = let q : ◌≡◌ {A = ℕ} 0 1 = ap (λ (b : Bool). elim b [ false ↦ 0 | true ↦ 1 ]) h in absurd (omega arith)

pub day_most : (x : Float) → lt x (number 7) ≡ true → whole x ≤ 6
unfolding lt of_int round to_unsigned
day_most nan h = never h
day_most (inf true) h = omega arith
day_most (inf false) h = never h
day_most (fin true m e) h = omega arith
day_most (fin false m e) h =
    let k = ltb-true (m * up e * 1) (7 * down e) h in
    let l : m * up e < 7 * down e = omega arith in
    omega (arith, (div-lt_iff_lt-mul (down_pos e)).1 l)
