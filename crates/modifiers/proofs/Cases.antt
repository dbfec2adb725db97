-- Cases of the words, the counts and the days of the week that no answer asks for by themselves: a step of a unit by the unit's scale, a
-- number that does not read, a sign, and `weekday` by its first letter. Assumes nothing.
use Rattle.std.proofs.Common.{◌≡◌, ℕ, Bool, true, false, ◌≢◌, List, [], ◌∷◌, length, get_or, sym, refl, ap, ◌∙◌, ne_eqb}
use lib.Ieee.{Float}
use Rattle.rules.specs.Basics.{ascii, lower, is_digit, Read, other, refuse, ◌or◌, only_if, front, trim}
use Rattle.rules.specs.Decimal.{decimal}
use Rattle.rules.specs.Floats.{below}
use Rattle.rules.specs.Moments.{Moment}
use Rattle.rules.specs.Modifiers as rule
use Rattle.rules.specs.Modifiers.{provided, wide_space, unit_step, weekday}
use Rattle.rules.specs.declared.Refusal.{Refusal}
use Rattle.text.specs.Places.{leads}
use Rattle.modifiers.specs.Words.{kind_of, sign_or_digit, scale_of, by_scale, step_by}
use Rattle.modifiers.specs.declared.counts.Scale.{Scale}
use Rattle.modifiers.specs.declared.words.Kind.{Kind}
use Rattle.modifiers.specs.declared.words.Unit.{Unit as Named}
use Rattle.modifiers.proofs.Letters.{kind_w as by_letter}
use Rattle.modifiers.proofs.Forms.{in_word}

-- ---- a sign or a digit
pub plus : (b : ℕ) → b ≡ 43 → sign_or_digit b ≡ true
plus b e = rw e

pub minus : (b : ℕ) → b ≡ 45 → sign_or_digit b ≡ true
minus b e = rw e

pub no_sign : (b : ℕ) → b ≢ 43 → b ≢ 45 → sign_or_digit b ≡ is_digit b
no_sign b h k = rw (ne_eqb 43 b (λ e. h (sym e)), ne_eqb 45 b (λ e. k (sym e)))

-- ---- `weekday ` and what follows it
abbrev pub kind_w : List ℕ → Read Kind
kind_w s = only_if (leads (ascii "weekday ") s) Kind.Weekday

pub kind_w_lem : (s : List ℕ) → length s ≢ 0 → lower (get_or s 0 0) ≡ 119 → kind_of s ≡ kind_w s
kind_w_lem [] h e = absurd (h refl)
kind_w_lem (b ∷ s) h e = by_letter (b ∷ s) b s refl e

module _ (s : List ℕ) (p : Moment) where
  pub weekday_none : decimal (trim wide_space s) ≡ other → weekday s p ≡ refuse Refusal.Null
  unfolding weekday
  weekday_none e = rw e

  pub weekday_over : (x : Refusal) → decimal (trim wide_space s) ≡ refuse x → weekday s p ≡ refuse x
  unfolding weekday
  weekday_over x e = rw e

  -- ---- `N unit`
  pub unit_none : decimal (front in_word s) ≡ other → (unit_step s p or refuse Refusal.Null) ≡ refuse Refusal.Null
  unfolding unit_step
  unit_none e = rw e

  pub unit_over : (x : Refusal) → decimal (front in_word s) ≡ refuse x → (unit_step s p or refuse Refusal.Null) ≡ refuse x
  unfolding unit_step
  unit_over x e = rw e

-- by the scale of the unit; either ends the reading
final : (t : Bool) (p : Moment) → (provided t p or refuse Refusal.Null) ≡ provided t p
final true p = refl
final false p = refl

module _ (u : Named) (n : Float) (p : Moment) where
  pub by_scale_lem : (s : Scale) → scale_of u ≡ s → (step_by u n p or refuse Refusal.Null) ≡ (by_scale s n p or refuse Refusal.Null)
  by_scale_lem s e = ap (λ s. by_scale s n p or refuse Refusal.Null) e

  pub length_by : (l m : Float) → scale_of u ≡ Scale.Length l m → (step_by u n p or refuse Refusal.Null) ≡ rule.by_length l m n p
  unfolding rule.by_length
  length_by l m e = by_scale_lem _ e ∙ final (below n l) _

  pub months_by : (l : Float) (k : ℕ) (d : Float) → scale_of u ≡ Scale.Months l k d → (step_by u n p or refuse Refusal.Null) ≡ rule.by_months l k d n p
  unfolding rule.by_months
  months_by l k d e = by_scale_lem _ e ∙ final (below n l) _
