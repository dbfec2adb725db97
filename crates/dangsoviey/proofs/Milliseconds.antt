-- Whole Unix milliseconds: the milliseconds of a call's moment or its refusal, and which stamps are written. Assumes nothing.
use Prim.Native.Nat.{ℕ, ◌≤◌}
use mathlib.Core.Bool.{true, false}
use mathlib.Core.List.{List, ◌++◌}
use mathlib.Core.Path.{◌≡◌, sym, ap, ◌∙◌}
use native.Mathlib.Omega.{arith}
use borrow.Author.Tests.{ltb-true, ltb-false}
use lib.IntN.{ℤ, pos, negsuc, nat_abs}
use lib.Signed.{lt_z}
use Rattle.std.specs.Prelude.{Result, Ok, Err}
use Rattle.rules.specs.Basics.{ascii, Read, got, ◌>>=◌}
use Rattle.rules.specs.Calendar.{in_range}
use Rattle.rules.specs.Calls.{Value, text, integer, refused, call, answered}
use Rattle.rules.specs.Functions.{moment_of, settle, opened}
use Rattle.rules.specs.Moments.{Moment}
use Rattle.rules.specs.Writing.{since_epoch, date_text, time_text}
use Rattle.rules.specs.declared.Answer.{Answer}
use Rattle.rules.specs.declared.Function.{Function}
use Rattle.rules.specs.declared.Refusal.{Refusal}
use Rattle.rules.specs.declared.Setting.{Setting}
use Rattle.rules.specs.declared.Unanswered.{Unanswered}
use Rattle.calendar.specs.Ranges.{InRange}
use Rattle.real.specs.StepMost.{step_most}
use Rattle.moment.specs.Ranges.{read_of}
use Rattle.moment.specs.declared.Moment as code
use Rattle.moment.proofs.Steps.{in_range_lem}
use Rattle.moment.proofs.Refused.{before_range, after_range}
use Rattle.dangsoviey.specs.Milliseconds.{milliseconds, instant_of, stamped, stamp}

-- ---- of a moment
module _ (set : Setting) (v : Value) (m : List ℕ) (s : Result code.Moment Refusal) (h : read_of s ≡ opened set (call Function.Date v m) (moment_of set v m)) where
  told : Read Moment → Result Answer Unanswered
  told r = answered (settle (◌>>=◌ r (λ (p : Moment). got (integer (since_epoch p.ms))))) 0

  pub milliseconds_next : (p : code.Moment) → s ≡ Ok p → {z : ℤ} → z ≡ since_epoch p.ms → Ok (Answer.Integer z) ≡ answered (milliseconds set v m) 0
  unfolding milliseconds answered told
  milliseconds_next p e k = ap (λ (z : ℤ). Ok (Answer.Integer z)) k ∙ ap (λ (t : Result code.Moment Refusal). told (read_of t)) (sym e) ∙ ap told h

  pub milliseconds_refused : (x : Refusal) → s ≡ Err x → Err (Unanswered.Refused x) ≡ answered (milliseconds set v m) 0
  unfolding milliseconds answered told
  milliseconds_refused x e = ap (λ (t : Result code.Moment Refusal). told (read_of t)) (sym e) ∙ ap told h

-- ---- a stamp
never : {A : Type 0} → false ≡ true → A
never h = absurd (let z : ◌≡◌ {A = ℕ} 0 1 = cc in omega arith)

-- the range, by its two ends
pub stamp_early : (z : ℤ) → lt_z z (negsuc 210866759999999) ≡ true → in_range (instant_of z) ≡ false
stamp_early (pos n) h = never h
stamp_early (negsuc n) h = before_range (instant_of (negsuc n)) (omega (arith, ltb-true 210866759999999 n h))

pub stamp_late : (z : ℤ) → lt_z (pos 253402300799999) z ≡ true → in_range (instant_of z) ≡ false
stamp_late (pos n) h = after_range (instant_of (pos n)) (omega (arith, ltb-true 253402300799999 n h))
stamp_late (negsuc n) h = never h

pub stamp_range : (z : ℤ) → lt_z z (negsuc 210866759999999) ≡ false → lt_z (pos 253402300799999) z ≡ false → InRange (instant_of z)
stamp_range (pos n) a b = let h = ltb-false 253402300799999 n b in record { from = omega arith; to = omega arith }
stamp_range (negsuc n) a b = let h = ltb-false 210866759999999 n a in record { from = omega arith; to = omega arith }

pub stamp_near : (z : ℤ) → InRange (instant_of z) → nat_abs z ≤ step_most
stamp_near (pos n) r = omega (arith, r.to)
stamp_near (negsuc n) r = omega (arith, r.from)

-- what is then written, or refused
pub stamp_text : (z : ℤ) → InRange (instant_of z) → stamp z ≡ text (date_text (stamped z) ++ ascii " " ++ time_text (stamped z))
unfolding stamp
stamp_text z r = rw (in_range_lem (instant_of z) r.from r.to)

pub stamp_refused : (z : ℤ) → in_range (instant_of z) ≡ false → stamp z ≡ refused Refusal.Null
unfolding stamp
stamp_refused z e = rw e
