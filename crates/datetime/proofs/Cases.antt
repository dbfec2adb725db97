-- What each step of a call gives where it goes on and where it refuses, by itself: the setting, the moment that a call is about, timediff's
-- two instants, and what is given back without a text. The check finds these by itself at each function; they are laws of the definitions.
-- Assumes nothing.
use mathlib.Core.Bool.{Bool, true, false, ◌||◌}
use mathlib.Core.Path.{◌≡◌, refl, sym, ap, ◌∙◌}
use mathlib.Core.List.{List, [], ◌∷◌}
use Prim.Native.Nat.{ℕ, suc, ◌≤◌, ◌<◌}
use native.Mathlib.Omega.{arith}
use borrow.Author.Tests.{ltb-false, lt-ltb, le-ltb, lt-leb}
use lib.Dec.{ltb, leb-suc-suc}
use lib.ListN.{length}
use lib.IntN.{ℤ, pos, negsuc, nat_abs}
use lib.Signed.{lt_z}
use Rattle.std.specs.Prelude.{Err}
use Rattle.rules.specs.Basics.{every, Read, got, refuse}
use Rattle.rules.specs.Calls.{Value, value_of, bytes_of, Call, call, strftime, text, refused, answered, after, modifiers, over, high, bad_shape, bad_bytes, bad_setting, far_off}
use Rattle.rules.specs.Functions.{opened, reading, settle, answer, moment_of, present, ranged, renewed}
use Rattle.rules.specs.Modifiers.{modified}
use Rattle.rules.specs.Moments.{Moment, count_ms, fill}
use Rattle.rules.specs.Reading.{time_value}
use Rattle.rules.specs.declared.Function.{Function}
use Rattle.rules.specs.declared.Given.{Given}
use Rattle.rules.specs.declared.Refusal.{Refusal}
use Rattle.rules.specs.declared.Setting.{Setting}
use Rattle.rules.specs.declared.Unanswered.{Unanswered}
use Rattle.moment.proofs.Branches.{never}
use Rattle.moment.proofs.Modifiers.{passes}
use Rattle.datetime.specs.Given.{Gives}
use Rattle.datetime.specs.Instants.{ranged_both, instants, present_of}

pub both_false : (s t : Bool) → (s || t) ≡ false → (s ≡ false) × (t ≡ false)
both_false true t h = never h
both_false false t h = (refl, h)

pub answer_is : (set : Setting) (c : Call) → answer set c ≡ settle (opened set c (reading set c))
unfolding answer
answer_is set c = refl

-- an empty format is never refused: the call is let through as one without
pub no_format : {A : Type 0} (set : Setting) (f : Function) (v : Value) (m : List ℕ) (r : Read A) {s : Read A} → s ≡ opened set (strftime [] v m) r → s ≡ opened set (call f v m) r
unfolding bad_shape bad_bytes high every
no_format set f v m r e = e

-- ---- the setting
module _ (set : Setting) where
  pub clock_bad : 253402300799999 < set.clock → bad_setting set ≡ true
  unfolding bad_setting
  clock_bad h = rw (lt-ltb 253402300799999 set.clock h)

  pub clock_good : bad_setting set ≡ false → set.clock ≤ 253402300799999
  unfolding bad_setting
  clock_good h = ltb-false 253402300799999 set.clock (both_false (ltb 253402300799999 set.clock) (far_off set.offset) h).0

  pub offset_tells : set.clock ≤ 253402300799999 → bad_setting set ≡ far_off set.offset
  unfolding bad_setting
  offset_tells h = rw (le-ltb 253402300799999 set.clock h)

  pub offset_good : bad_setting set ≡ false → nat_abs set.offset ≤ 86399
  unfolding bad_setting
  offset_good h = near set.offset (both_false (ltb 253402300799999 set.clock) (far_off set.offset) h).1
    where
      near : (z : ℤ) → far_off z ≡ false → nat_abs z ≤ 86399
      near (pos n) h = ltb-false 86399 n h
      near (negsuc n) h = ltb-false 86399 (suc n) h

pub far_east : (z : ℤ) → lt_z (pos 86399) z ≡ true → far_off z ≡ true
far_east (pos n) h = h
far_east (negsuc n) h = never (sym h)

pub else_west : (z : ℤ) → lt_z (pos 86399) z ≡ false → far_off z ≡ lt_z z (negsuc 86398)
else_west (pos n) h = h
else_west (negsuc n) h = leb-suc-suc 86399 n

-- ---- the moment that a call is about: its time value, its modifiers, the final range
module _ (set : Setting) (v : Value) (m : List ℕ) where
  pub moment_is : {p q : Moment} → time_value set.clock v ≡ got p → modified set.offset 0 (modifiers m) p ≡ got q → moment_of set v m ≡ ranged q
  unfolding moment_of
  moment_is e f = rw (e, f)

  pub no_modifier : {p : Moment} {x : Refusal} → time_value set.clock v ≡ got p → modified set.offset 0 (modifiers m) p ≡ refuse x → moment_of set v m ≡ refuse x
  unfolding moment_of
  no_modifier e f = rw (e, f)

  pub no_value : {x : Refusal} → time_value set.clock v ≡ refuse x → moment_of set v m ≡ refuse x
  unfolding moment_of
  no_value e = rw e

pub renewed_some : (m : List ℕ) (p : Moment) → (length m ≡ 0 → ⊥) → fill p ≡ renewed m p
unfolding renewed
renewed_some [] p h = absurd (h refl)
renewed_some (b ∷ m) p h = refl

-- ---- timediff's two instants
-- what is given, where an absent one is null
present_value : (g : Given) (s : List ℕ) → value_of (present_of g) s ≡ present (value_of g s)
present_value Given.Absent s = refl
present_value Given.Null s = refl
present_value Given.Bytes s = refl
present_value (Given.Integer n) s = refl
present_value (Given.Real x) s = refl

present_bytes : (g : Given) (s : List ℕ) → bytes_of (value_of (present_of g) s) ≡ bytes_of (value_of g s)
present_bytes Given.Absent s = refl
present_bytes Given.Null s = refl
present_bytes Given.Bytes s = refl
present_bytes (Given.Integer n) s = refl
present_bytes (Given.Real x) s = refl

module _ (g : Given) (s : List ℕ) {x : Given} where
  pub present_read : (clock : ℕ) → x ≡ present_of g → time_value clock (value_of x s) ≡ time_value clock (present (value_of g s))
  present_read clock e = ap (λ (v : Value). time_value clock v) (ap (λ (h : Given). value_of h s) e ∙ present_value g s)

  pub present_short : x ≡ present_of g → over 255 (bytes_of (value_of g s)) ≡ false → length (bytes_of (value_of x s)) ≤ 255
  present_short e h = rw (e, present_bytes g s) (ltb-false 255 (length (bytes_of (value_of g s))) h)

-- the final range of both, once their milliseconds are counted
module _ (p q : Moment) {a b : Moment} (e : a ≡ count_ms p) (f : b ≡ count_ms q) where
  pub both_are : passes a ≡ true → passes b ≡ true → ranged_both p q ≡ got (a.ms, b.ms)
  unfolding ranged_both ranged
  both_are h k = rw (sym e, sym f, h, k)

  pub second_out : passes a ≡ true → passes b ≡ false → ranged_both p q ≡ refuse Refusal.Null
  unfolding ranged_both ranged
  second_out h k = rw (sym e, sym f, h, k)

  pub first_out : passes a ≡ false → ranged_both p q ≡ refuse Refusal.Null
  unfolding ranged_both ranged
  first_out h = rw (sym e, h)

-- both values
module _ (clock : ℕ) (a b : Value) where
  pub instants_are : {p q : Moment} → time_value clock (present a) ≡ got p → time_value clock (present b) ≡ got q → instants clock a b ≡ ranged_both p q
  unfolding instants
  instants_are e f = rw (e, f)

  pub no_second : {p : Moment} {x : Refusal} → time_value clock (present a) ≡ got p → time_value clock (present b) ≡ refuse x → instants clock a b ≡ refuse x
  unfolding instants
  no_second e f = rw (e, f)

  pub no_first : {x : Refusal} → time_value clock (present a) ≡ refuse x → instants clock a b ≡ refuse x
  unfolding instants
  no_first e = rw e

-- ---- what is given back without a text
-- 7: the length, and no byte changes
pub gives_length : {old s : List ℕ} {n : ℕ} → n ≡ length s → length old < n → Gives (text s) old old (Err (Unanswered.NoRoom n))
unfolding answered after
gives_length {old} {s} {n} e h =
    let f = lt-leb (length s) (length old) (omega arith) in
    record { is = rw f (ap (λ (k : ℕ). Err (Unanswered.NoRoom k)) e); bytes = rw f refl }

pub gives_refusal : (old : List ℕ) (x : Refusal) → Gives (refused x) old old (Err (Unanswered.Refused x))
unfolding answered after
gives_refusal old x = record { is = refl; bytes = refl }
