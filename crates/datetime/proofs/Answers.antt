-- From the moment that a call is about to the call's outcome. Assumes nothing.
use Prim.Native.Nat.{ℕ}
use mathlib.Core.Bool.{Bool, true, false}
use mathlib.Core.List.{List, [], ◌∷◌}
use mathlib.Core.Path.{◌≡◌, refl, sym, ap, ◌∙◌, subst}
use native.Mathlib.Omega.{arith}
use borrow.Author.Tests.{eqb-true}
use Rattle.std.specs.Prelude.{if◌then◌else◌, length, ◌==◌}
use Rattle.rules.specs.Basics.{Read, got, other, refuse, ◌>>=◌}
use Rattle.rules.specs.Calls.{Value, Call, Outcome, text, call, strftime, timediff, bad_shape, bad_bytes, bad_setting}
use Rattle.rules.specs.Functions.{moment_of, present, ranged, renewed, outcome_of, reading, settle, answer, opened}
use Rattle.rules.specs.Moments.{Moment, fill}
use Rattle.rules.specs.Reading.{time_value}
use Rattle.rules.specs.Writing.{difference, formatted}
use Rattle.rules.specs.declared.Function.{Function}
use Rattle.rules.specs.declared.Refusal.{Refusal}
use Rattle.rules.specs.declared.Setting.{Setting}
use Rattle.moment.specs.Ranges.{Full}
use Rattle.moment.proofs.Bounds.{fill_full, renewed_full}
use Rattle.datetime.specs.Instants.{ranged_both, instants}
use Rattle.datetime.specs.Opened.{Ready}

-- the tests stand before the first of what is then read
tests_then : {A B : Type 0} (shape bytes setting : Bool) (r : Read A) (k : A → Read B) → (if shape then refuse Refusal.Shape else (if bytes then refuse Refusal.Bytes else (if setting then refuse Refusal.Setting else (◌>>=◌ r k)))) ≡ (◌>>=◌ (if shape then refuse Refusal.Shape else (if bytes then refuse Refusal.Bytes else (if setting then refuse Refusal.Setting else r))) k)
tests_then true b t r k = refl
tests_then false true t r k = refl
tests_then false false true r k = refl
tests_then false false false r k = refl

opened_then : {A B : Type 0} (set : Setting) (c : Call) (r : Read A) (k : A → Read B) → opened set c (◌>>=◌ r k) ≡ ◌>>=◌ (opened set c r) k
opened_then set c r k = tests_then (bad_shape c) (bad_bytes c) (bad_setting set) r k

-- the outcome of one of the five functions of one time value: the tests before reading are the same for each of them
pub called : (set : Setting) (f : Function) (v : Value) (m : List ℕ) → answer set (call f v m) ≡ settle (◌>>=◌ (opened set (call Function.Date v m) (moment_of set v m)) (λ (p : Moment). got (outcome_of f m p)))
unfolding answer reading bad_shape bad_bytes
called set f v m = ap settle (opened_then set (call f v m) (moment_of set v m) (λ (p : Moment). got (outcome_of f m p)))

-- and of strftime
pub called_format : (set : Setting) (f : List ℕ) (v : Value) (m : List ℕ) → answer set (strftime f v m) ≡ settle (◌>>=◌ (opened set (strftime f v m) (moment_of set v m)) (λ (p : Moment). ◌>>=◌ (formatted (fill p) f) (λ (t : List ℕ). got (text t))))
unfolding answer reading
called_format set f v m = ap settle (opened_then set (strftime f v m) (moment_of set v m) (λ (p : Moment). ◌>>=◌ (formatted (fill p) f) (λ (t : List ℕ). got (text t))))

-- ---- the record
-- filled, with its fields as they are or renewed: it can be written
pub filled : {p q : Moment} → Ready p → q ≡ fill p → Full q
filled {p} r e = subst (λ (x : Moment). Full x) (sym e) (fill_full 16 p r.after r.ranged)

pub filled_anew : (m : List ℕ) {p q : Moment} → Ready p → q ≡ renewed m p → Full q
filled_anew m {p} r e = subst (λ (x : Moment). Full x) (sym e) (renewed_full 16 m p r.after r.ranged)

pub renewed_none : (m : List ℕ) (p : Moment) → true ≡ (length m == 0) → renewed [] p ≡ renewed m p
renewed_none [] p h = refl
renewed_none (b ∷ m) p h = absurd (omega (arith, eqb-true (length (b ∷ m)) 0 (sym h)))

-- ---- timediff reads its two instants, and then writes
told : ℕ × ℕ → Read Outcome
told t = got (text (difference t.0 t.1))

reading_is : (set : Setting) (a b : Value) → reading set (timediff a b) ≡ ◌>>=◌ (instants set.clock a b) told
unfolding reading instants ranged_both told
reading_is set a b = go (time_value set.clock (present a)) (time_value set.clock (present b))
  where
    both : (r s : Read Moment) → (◌>>=◌ r (λ (p : Moment). ◌>>=◌ s (λ (q : Moment). got (text (difference p.ms q.ms))))) ≡ ◌>>=◌ (◌>>=◌ r (λ (p : Moment). ◌>>=◌ s (λ (q : Moment). got (p.ms, q.ms)))) told
    both (got p) (got q) = refl
    both (got p) other = refl
    both (got p) (refuse x) = refl
    both other s = refl
    both (refuse x) s = refl

    go : (r s : Read Moment) → (◌>>=◌ r (λ (p : Moment). ◌>>=◌ s (λ (q : Moment). ◌>>=◌ (ranged p) (λ (p : Moment). ◌>>=◌ (ranged q) (λ (q : Moment). got (text (difference p.ms q.ms))))))) ≡ ◌>>=◌ (◌>>=◌ r (λ (p : Moment). ◌>>=◌ s (λ (q : Moment). ranged_both p q))) told
    go (got p) (got q) = both (ranged p) (ranged q)
    go (got p) other = refl
    go (got p) (refuse x) = refl
    go other s = refl
    go (refuse x) s = refl

pub called_both : (set : Setting) (a b : Value) → answer set (timediff a b) ≡ settle (◌>>=◌ (opened set (timediff a b) (instants set.clock a b)) (λ (t : ℕ × ℕ). got (text (difference t.0 t.1))))
unfolding answer told
called_both set a b = ap (λ (r : Read Outcome). settle (opened set (timediff a b) r)) (reading_is set a b) ∙ ap settle (opened_then set (timediff a b) (instants set.clock a b) told)
