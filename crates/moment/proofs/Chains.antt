-- From the rules' steps to the contracts of the code's, one and one after another. Assumes nothing.
use mathlib.Core.Bool.{false}
use Rattle.std.specs.Prelude.{Ok, Err}
use mathlib.Core.Path.{◌≡◌, refl, sym, ap, ◌∙◌, subst}
use Prim.Native.Nat.{◌+◌}
use native.Mathlib.Omega.{arith}
use lib.IntN.{ℤ}
use Rattle.rules.specs.Basics.{Read, got, refuse}
use Rattle.rules.specs.Moments as rule
use Rattle.rules.specs.declared.Refusal.{Refusal}
use Rattle.moment.specs.declared.Moment.{Moment}
use Rattle.moment.specs.Held.{held}
use Rattle.moment.specs.Ranges.{Sane, After, most_before, Movable, Filled, Moved, Answered}
use Rattle.moment.proofs.Bounds.{after_more, Kept, count_fresh}

-- ---- the rules' step, and the code's that hands the same record back
pub filled : (p : Moment) {r : Moment} {q : rule.Moment} → Kept (held p) q → held r ≡ q → Filled p r q
filled p k e = record { is = e; after = λ n a. subst (λ (x : rule.Moment). After n x) (sym e) (k n a) }

pub same : (p : Moment) → Filled p p (held p)
same p = record { is = refl; after = λ n a. a }

pub sane_of : (p : Moment) → Sane (held p)
sane_of p = record { date = p.date_in; time = p.time_in; overs = p.over_in }

-- ---- one after another
module _ {p q r : Moment} {x : rule.Moment} (g : rule.Moment → rule.Moment) where
  pub then_fill : Filled p q x → Filled q r (g (held q)) → Filled p r (g x)
  then_fill f h = record { is = h.is ∙ ap g f.is; after = λ n a. h.after n (f.after n a) }

  pub then_move : Filled p q x → Moved q r (g (held q)) → Moved p r (g x)
  then_move f h = record { is = h.is ∙ ap g f.is; after = λ n a. h.after n (f.after n a) }

  pub move_fill : Moved p q x → Filled q r (g (held q)) → Moved p r (g x)
  move_fill f h = record { is = h.is ∙ ap g f.is; after = λ n a. h.after (n + 1) (f.after n a) }

-- a record whose milliseconds do not stand is summed before it is moved: its year may lie out of range
module _ {u q : Moment} (c : (held u).counted ≡ false) (f : Filled u q (rule.count_ms (held u))) where
  fresh : After 0 (held q)
  fresh = subst (λ (x : rule.Moment). After 0 x) (sym f.is) (count_fresh (held u) (sane_of u) c)

  pub fresh_movable : Movable (held q)
  fresh_movable = after_more 0 most_before (held q) (omega arith) fresh

  pub fresh_move : (p : Moment) {r : Moment} (g : rule.Moment → rule.Moment) → Moved q r (g (held q)) → Moved p r (g (rule.count_ms (held u)))
  fresh_move p {r} g m = record { is = m.is ∙ ap g f.is; after = λ n a. after_more 1 (n + 1) (held r) (omega arith) (m.after 0 fresh) }

module _ {p r : Moment} {x : rule.Moment} where
  -- a step that only fills is no further than one that moves
  pub no_move : Filled p r x → Moved p r x
  no_move f = record { is = f.is; after = λ n a. after_more n (n + 1) (held r) (omega arith) (f.after n a) }

  -- the same record, as the rules say it
  pub filled_as : {y : rule.Moment} → x ≡ y → Filled p r x → Filled p r y
  filled_as e f = record { is = f.is ∙ e; after = f.after }

  pub moved_as : {y : rule.Moment} → x ≡ y → Moved p r x → Moved p r y
  moved_as e f = record { is = f.is ∙ e; after = f.after }

  pub answered : {y : Read rule.Moment} → y ≡ got x → Filled p r x → Answered p (Ok r) y
  answered e f = record { is = ap got f.is ∙ sym e; after = f.after }

pub refused : (p : Moment) (y : Read rule.Moment) (n : Refusal) → y ≡ refuse n → Answered p (Err n) y
refused p y n e = record { is = sym e; after = λ n a. tt }

-- a record filled, its months moved, and the days by which its day then lies past its month's end
module _ {p f u s e : Moment} (z : ℤ) (i : Filled p f (rule.fill (held p))) (j : Filled f u (rule.set_counted (held f) false)) (k : held s ≡ rule.shift (held u) z 1) (l : Filled s e (rule.past_end (held s))) where
  pub shifted : held e ≡ rule.past_end (rule.shift (rule.set_counted (rule.fill (held p)) false) z 1)
  shifted = l.is ∙ ap rule.past_end (k ∙ ap (λ (q : rule.Moment). rule.shift q z 1) (j.is ∙ ap (λ (q : rule.Moment). rule.set_counted q false) i.is))

  pub shifted_uncounted : (held e).counted ≡ false
  unfolding rule.past_end rule.shift
  shifted_uncounted = ap (λ (q : rule.Moment). q.counted) shifted
