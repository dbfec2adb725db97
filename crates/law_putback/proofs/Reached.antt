-- A time value whose fields stand for an instant, and what it reaches with no modifier and with a shift for its only one. Assumes nothing.
use Prim.Native.Nat.{ℕ, ◌*◌, ◌/◌, ◌≤◌, ◌<◌}
use mathlib.Core.Bool.{Bool, true, false}
use mathlib.Core.Path.{◌≡◌, refl, ap, ◌∙◌}
use mathlib.Core.List.{List, [], ◌∷◌}
use lib.IntN.{ℤ}
use Rattle.rules.specs.Basics.{got}
use Rattle.rules.specs.Calendar.{in_range, day_length}
use Rattle.rules.specs.Calls.{bytes, timediff, text, modifiers}
use Rattle.rules.specs.Functions.{ranged, moment_of, reading}
use Rattle.rules.specs.Moments.{Moment, counted, count_ms}
use Rattle.rules.specs.Modifiers.{modifier, modified}
use Rattle.rules.specs.Reading.{time_value}
use Rattle.rules.specs.Writing.{difference}
use Rattle.rules.specs.declared.Setting.{Setting}
use Rattle.calendar.specs.Ranges.{InRange}
use Rattle.moment.proofs.Modifiers.{range_in}
use Rattle.moment.proofs.Steps.{already, in_range_lem}
use Rattle.timediff.specs.Promise.{StandsFor, Counts, put_back}
use Rattle.modifiers.proofs.Shifts.{shift_read}
use Rattle.law_putback.specs.Demand.{alone, shift_by}

-- s reads to the record p, whose fields stand for the instant t
pub record Reads (set : Setting) (s : List ℕ) (t : ℕ) (p : Moment) : Type 0 where
  pub reads : time_value set.clock (bytes s) ≡ got p
  pub stands : StandsFor t p
  pub counts : count_ms p ≡ counted p t
  pub range : InRange t

-- the final range
ranges_as : (p : Moment) {q : Moment} {t : ℕ} → count_ms p ≡ q → q.failed ≡ false → q.ms ≡ t → InRange t → ranged p ≡ got q
ranges_as p {q} {t} e f m R =
    range_in p (ap (λ (x : Moment). x.failed) e ∙ f) (ap (λ (x : Moment). in_range x.ms) e ∙ ap in_range m ∙ in_range_lem t R.from R.to) ∙ ap got e

module _ {set : Setting} {s : List ℕ} {t : ℕ} {p : Moment} (r : Reads set s t p) where
  pub ranges : ranged p ≡ got (counted p t)
  ranges = ranges_as p r.counts r.stands.not_failed refl r.range

  -- with no modifier
  pub by_itself : moment_of set (bytes s) [] ≡ got (counted p t)
  unfolding moment_of modifiers modified
  by_itself = rw (r.reads, ranges)

  -- with one that reaches u
  pub with_one : (m : List ℕ) {q : Moment} {u : ℕ} → modifiers (alone m) ≡ m ∷ [] → modifier set.offset 0 m p ≡ got q → Counts u q → InRange u → moment_of set (bytes s) (alone m) ≡ got q
  unfolding moment_of modified
  with_one m {q} e f c R = rw (r.reads, e, f) (ranges_as q (already q c.is_counted) c.not_failed c.ms_is R)

-- a text of timediff's form, with four digits for the year, is the shift that it says
pub shift_is : (offset : ℤ) (plus : Bool) (n rest : ℕ) (p : Moment) → n / 12 ≤ 9999 → rest < 31 * day_length → modifier offset 0 (shift_by plus n rest) p ≡ got (put_back plus n rest p)
shift_is offset true n rest p h l = shift_read offset 0 false n rest p h l
shift_is offset false n rest p h l = shift_read offset 0 true n rest p h l

-- timediff's text
pub difference_read : {set : Setting} {s t : List ℕ} {a b : ℕ} {p q : Moment} → Reads set s a p → Reads set t b q → reading set (timediff (bytes s) (bytes t)) ≡ got (text (difference a b))
unfolding reading
difference_read i j = rw (i.reads, j.reads, ranges i, ranges j)
