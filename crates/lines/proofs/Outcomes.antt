-- What comes of a call: a number needs no room, and none is a NaN. Assumes nothing.
use Prim.Native.Nat.{ℕ, ◌-◌, ◌≤◌}
use Rattle.std.specs.Prelude.{if◌then◌else◌, Result, Ok, Err}
use mathlib.Core.Bool.{Bool, true, false, not, ◌&&◌}
use mathlib.Core.Path.{◌≡◌, refl}
use mathlib.Core.List.{List}
use native.Mathlib.Omega.{arith}
use lib.Dec.{T, leb, lit≤}
use lib.Ieee.{is_nan, of_int, round, div}
use lib.ListN.{length}
use borrow.Author.Tests.{leb-true}
use Rattle.rules.specs.Basics.{Read, got, other, refuse, ◌>>=◌}
use Rattle.rules.specs.Calendar.{instant, last, in_range}
use Rattle.rules.specs.Calls.{Value, Call, call, strftime, timediff, Outcome, text, integer, real, refused, bad_shape, bad_bytes, bad_setting, answered, after}
use Rattle.rules.specs.Floats.{number}
use Rattle.rules.specs.Functions.{present, ranged, moment_of, outcome_of, reading, settle, answer}
use Rattle.rules.specs.Moments.{Moment, count_ms, fill}
use Rattle.rules.specs.Modifiers.{modified}
use Rattle.rules.specs.Calls as calls
use Rattle.rules.specs.Reading.{time_value}
use Rattle.rules.specs.Writing.{formatted, unix_real, unix_seconds, julian_real}
use Rattle.rules.specs.declared.Answer.{Answer}
use Rattle.rules.specs.declared.Unanswered.{Unanswered}
use Rattle.rules.specs.declared.Function.{Function}
use Rattle.rules.specs.declared.Refusal.{Refusal}
use Rattle.rules.specs.declared.Setting.{Setting}
use Rattle.real.proofs.Epoch.{unix_span}
use Rattle.real.proofs.Tests.{not_nan, number_plain, number_within, below_within}
use Rattle.real.proofs.Within.{Finite, within_div}
use Rattle.text.proofs.Tests.{and_left, and_right}
use Rattle.datetime.specs.Given.{Gives}
use Rattle.lines.specs.Fields.{outcome}
use Rattle.lines.specs.Shown.{Sound}

-- ---- what holds of each refusal and of what is read, where nothing is too long, holds of the answer
module _ (P : Outcome → Type 0) (none : (x : Refusal) → P (refused x)) where
  pub answer_holds : (set : Setting) (c : Call) → (bad_shape c ≡ false → P (settle (reading set c))) → P (answer set c)
  unfolding answer
  answer_holds set c h = go (bad_shape c) (bad_bytes c) (bad_setting set) h
    where
      go : (s b t : Bool) → (s ≡ false → P (settle (reading set c))) → P (settle (if s then refuse Refusal.Shape else (if b then refuse Refusal.Bytes else (if t then refuse Refusal.Setting else reading set c))))
      go true b t h = none Refusal.Shape
      go false true t h = none Refusal.Bytes
      go false false true h = none Refusal.Setting
      go false false false h = h refl

  -- of what is read first, and then k
  pub then_holds : {A : Type 0} (r : Read A) (k : A → Read Outcome) → ((a : A) → r ≡ got a → P (settle (k a))) → P (settle (◌>>=◌ r k))
  then_holds (got a) k h = h a refl
  then_holds other k h = none Refusal.Null
  then_holds (refuse x) k h = none x

-- ---- a number, or a refusal
abbrev Textless : Outcome → Type 0
Textless (text s) = ⊥
Textless (integer n) = Unit
Textless (real x) = Unit
Textless (refused x) = Unit

textless_gives : (o : Outcome) (old : List ℕ) {r : Result Answer Unanswered} → Textless o → r ≡ answered o 0 → Gives o old old r
unfolding answered after
textless_gives (text s) old t e = absurd t
textless_gives (integer n) old t e = record { is = e; bytes = refl }
textless_gives (real x) old t e = record { is = e; bytes = refl }
textless_gives (refused x) old t e = record { is = e; bytes = refl }

module _ (set : Setting) (v : Value) (m : List ℕ) (old : List ℕ) {r : Result Answer Unanswered} where
  -- as a function that lends no buffer says it
  pub julianday_gives : r ≡ answered (answer set (call Function.Julianday v m)) 0 → Gives (answer set (call Function.Julianday v m)) old old r
  unfolding reading outcome_of
  julianday_gives e = textless_gives _ old (answer_holds Textless (λ x. tt) set (call Function.Julianday v m) (λ _. then_holds Textless (λ x. tt) (moment_of set v m) (λ p. got (outcome_of Function.Julianday m p)) (λ p h. tt))) e

  pub unixepoch_gives : r ≡ answered (answer set (call Function.Unixepoch v m)) 0 → Gives (answer set (call Function.Unixepoch v m)) old old r
  unfolding reading outcome_of
  unixepoch_gives e = textless_gives _ old (answer_holds Textless (λ x. tt) set (call Function.Unixepoch v m) (λ _. then_holds Textless (λ x. tt) (moment_of set v m) (λ p. got (outcome_of Function.Unixepoch m p)) (λ p h. pick p.subsec p))) e
    where
      pick : (t : Bool) (p : Moment) → Textless (if t then real (unix_real p.ms) else integer (unix_seconds p.ms))
      pick true p = tt
      pick false p = tt

-- ---- the moment of a call lies within the range
abbrev In : Read Moment → Type 0
In (got p) = in_range p.ms ≡ true
In other = Unit
In (refuse x) = Unit

then_in : {A : Type 0} (r : Read A) (k : A → Read Moment) → ((a : A) → In (k a)) → In (◌>>=◌ r k)
then_in (got a) k h = h a
then_in other k h = tt
then_in (refuse x) k h = tt

ranged_in : (p : Moment) → In (ranged p)
unfolding ranged
ranged_in p = go (not (count_ms p).failed) (in_range (count_ms p).ms) refl
  where
    go : (a b : Bool) → in_range (count_ms p).ms ≡ b → In (if a && b then got (count_ms p) else refuse Refusal.Null)
    go true true e = e
    go true false e = tt
    go false b e = tt

moment_in : (set : Setting) (v : Value) (m : List ℕ) → In (moment_of set v m)
unfolding moment_of
moment_in set v m = then_in (time_value set.clock v) (λ p. ◌>>=◌ (modified set.offset 0 (calls.modifiers m) p) ranged) (λ p. then_in (modified set.offset 0 (calls.modifiers m) p) ranged ranged_in)

in_range_lem : (set : Setting) (v : Value) (m : List ℕ) (p : Moment) → moment_of set v m ≡ got p → (instant 0 ≤ p.ms) × (p.ms ≤ last)
in_range_lem set v m p e =
    let h : in_range p.ms ≡ true = rw e at (moment_in set v m) in
    (leb-true (instant 0) p.ms (and_left (leb (instant 0) p.ms) (leb p.ms last) h), leb-true p.ms last (and_right (leb (instant 0) p.ms) (leb p.ms last) h))

-- ---- so its f64 is finite
julian_finite : (t : ℕ) → instant 0 ≤ t → t ≤ last → Finite (julian_real t)
unfolding julian_real of_int round div
julian_finite t h k = (within_div (number 86400000) (number_within (t - instant 0) 464269060799999 (omega arith) (lit≤ tt)) tt tt).left

unix_finite : (t : ℕ) → instant 0 ≤ t → t ≤ last → Finite (unix_real t)
unix_finite t h k = (below_within (unix_real t) (number_plain 9007199254740992 (lit≤ tt)) (unix_span t h k)).left

abbrev Fine : Outcome → Type 0
Fine (text s) = Unit
Fine (integer n) = Unit
Fine (real x) = T (not (is_nan x))
Fine (refused x) = Unit

fine_outcome : (f : Function) (m : List ℕ) (p : Moment) → (instant 0 ≤ p.ms) × (p.ms ≤ last) → Fine (outcome_of f m p)
unfolding outcome_of
fine_outcome Function.Date m p h = tt
fine_outcome Function.Time m p h = tt
fine_outcome Function.Datetime m p h = tt
fine_outcome Function.Julianday m p h = not_nan (julian_finite p.ms h.0 h.1)
fine_outcome Function.Unixepoch m p h = pick p.subsec
  where
    pick : (t : Bool) → Fine (if t then real (unix_real p.ms) else integer (unix_seconds p.ms))
    pick true = not_nan (unix_finite p.ms h.0 h.1)
    pick false = tt

fine_reading : (set : Setting) (c : Call) → Fine (settle (reading set c))
unfolding reading
fine_reading set (call f v m) = then_holds Fine (λ x. tt) (moment_of set v m) (λ p. got (outcome_of f m p)) (λ p e. fine_outcome f m p (in_range_lem set v m p e))
fine_reading set (strftime f v m) =
    then_holds Fine (λ x. tt) (moment_of set v m) (λ p. ◌>>=◌ (formatted (fill p) f) (λ s. got (text s)))
    (λ p e. then_holds Fine (λ x. tt) (formatted (fill p) f) (λ s. got (text s)) (λ s h. tt))
fine_reading set (timediff a b) =
    then_holds Fine (λ x. tt) (time_value set.clock (present a)) _
    (λ p e. then_holds Fine (λ x. tt) (time_value set.clock (present b)) _
    (λ q f. then_holds Fine (λ x. tt) (ranged p) _
    (λ p g. then_holds Fine (λ x. tt) (ranged q) _ (λ q h. tt))))

fine_sound : (o : Outcome) (room : ℕ) → Fine o → Sound (answered o room)
unfolding answered
fine_sound (text s) room f = pick (leb (length s) room)
  where
    pick : (t : Bool) → Sound (if t then Ok (Answer.Text (length s)) else Err (Unanswered.NoRoom (length s)))
    pick true = tt
    pick false = tt
fine_sound (integer n) room f = tt
fine_sound (real x) room f = f
fine_sound (refused x) room f = tt

pub sound : (set : Setting) (r : Read Call) {a : Result Answer Unanswered} (room : ℕ) → a ≡ answered (outcome set r) room → Sound a
unfolding outcome
sound set r room e = rw e (fine_sound (outcome set r) room (go r))
  where
    go : (r : Read Call) → Fine (outcome set r)
    go (got c) = answer_holds Fine (λ x. tt) set c (λ _. fine_reading set c)
    go other = tt
    go (refuse x) = tt
