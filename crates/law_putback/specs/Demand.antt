-- Demand 3: "Take any two instants A and B, whole milliseconds, in years 0 to 9999, written in full in at most 255 bytes, existing day,
-- hour 00 to 23, no zone. Under any setting that refusal 4 lets through, `timediff` of A and B, given a buffer of 24 bytes, answers; that
-- text as B's only modifier reaches A to the millisecond. Of all shifts up to the months between B's calendar month and A's, its years and
-- months are the most that do not carry B past A; its days are at most 30."
--
-- Said over rules' `answer`, `answered`, `after` and `moment_of`. The proof is `demand_3` in proofs/Demand.antt.
use Rattle.std.specs.Prelude.{if◌then◌else◌, ℕ, ◌+◌, ◌-◌, ◌*◌, ◌/◌, ◌≤◌, ◌<◌, Bool, false, ◌≡◌, List, [], ◌∷◌, ◌++◌, leb, length, Ok}
use Rattle.rules.specs.Basics.{ascii, got}
use Rattle.rules.specs.Calendar.{day_length}
use Rattle.rules.specs.Calls.{Value, bytes, call, strftime, timediff, text, modifiers, bad_setting, answered, after}
use Rattle.rules.specs.Functions.{moment_of, answer}
use Rattle.rules.specs.Moments.{Moment}
use Rattle.rules.specs.Writing.{shift_text}
use Rattle.rules.specs.declared.Setting.{Setting}
use Rattle.rules.specs.declared.Function.{Function}
use Rattle.rules.specs.declared.Answer.{Answer}
use Rattle.timediff.specs.Spans.{Toward}
use Rattle.timediff.specs.Promise.{Past}
use Rattle.reading.specs.Written.{Stamp, written, Full, instant_of}

-- ---- A and B
-- "whole milliseconds, in years 0 to 9999, written in full .., existing day, hour 00 to 23, no zone": YYYY-MM-DD HH:MM:SS.F, with any run
-- of whitespace and `T` between date and time, any whitespace at the end, and a fraction, if there is one, of `millis` thousandths
-- (reading/specs/Written.antt). `Full` counts the fraction's digits too, which `short` does already: `few_digits` in reading.
pub record Instant : Type 0 where
  pub stamp : Stamp
  pub millis : ℕ
  pub full : Full stamp millis
  pub short : length (written stamp) ≤ 255

-- it, as a time value
abbrev pub value : Instant → Value
value a = bytes (written a.stamp)

-- the millisecond that it means, by counting, as rules holds milliseconds
abbrev pub at : Instant → ℕ
at a = instant_of a.stamp a.millis

-- its calendar month, as a count of months
abbrev pub month : Instant → ℕ
month a = a.stamp.year * 12 + a.stamp.month

-- "the months between B's calendar month and A's": forward from B to A, or backward
abbrev pub between : Bool → Instant → Instant → ℕ
between plus a b = if plus then month a - month b else month b - month a

-- ---- what a modifier reaches
-- a buffer of modifiers that holds t alone
abbrev pub alone : List ℕ → List ℕ
alone t = t ++ (0 ∷ [])

-- t as B's only modifier reaches a millisecond, of which P holds
pub record Reaches (set : Setting) (b : Instant) (t : List ℕ) (P : ℕ → Type 0) : Type 0 where
  pub moment : Moment
  pub reads : moment_of set (value b) (alone t) ≡ got moment
  pub there : P moment.ms

-- a text of timediff's form: a sign, n months as years and months, and so many milliseconds as days and a time
abbrev pub shift_by : Bool → ℕ → ℕ → List ℕ
shift_by plus n rest = (if plus then ascii "+" else ascii "-") ++ shift_text n rest

-- ---- the demand, for A and B under a setting
pub record Kept (set : Setting) (a b : Instant) : Type 0 where
  -- "`timediff` of A and B .. answers": a sign, months and a rest
  pub plus : Bool
  pub months : ℕ
  pub rest : ℕ
  pub answers : answer set (timediff (value a) (value b)) ≡ text (shift_by plus months rest)
  -- "given a buffer of 24 bytes": 24 comes back, and the buffer then holds that text
  pub comes_back : answered (answer set (timediff (value a) (value b))) 24 ≡ Ok (Answer.Text 24)
  pub holds : (buffer : List ℕ) → length buffer ≡ 24 → after (answer set (timediff (value a) (value b))) buffer ≡ shift_by plus months rest
  -- "that text as B's only modifier reaches A to the millisecond"
  pub only_one : modifiers (alone (shift_by plus months rest)) ≡ shift_by plus months rest ∷ []
  pub reaches : Reaches set b (shift_by plus months rest) (λ t. t ≡ at a)
  -- so B with it is answered as A is: by each function of one time value, and by strftime in every format
  pub answers_as_A : (f : Function) → answer set (call f (value b) (alone (shift_by plus months rest))) ≡ answer set (call f (value a) [])
  pub formats_as_A : (format : List ℕ) → answer set (strftime format (value b) (alone (shift_by plus months rest))) ≡ answer set (strftime format (value a) [])
  -- "The sign is plus if A is not before B."
  pub sign : plus ≡ leb (at b) (at a)
  -- "Of all shifts up to the months between B's calendar month and A's, its years and months are the most that do not carry B past A": a
  -- shift is a modifier of the same form without a rest; one by its own months does not pass A, and every longer one does. It moves B as
  -- `N months` does (modifiers/proofs/Shifts.antt: `by_date_lem`, `by_months_lem`).
  pub up_to : months ≤ between plus a b
  pub stays : Reaches set b (shift_by plus months 0) (λ t. Toward plus (at a) t)
  pub most : (n : ℕ) → months < n → n ≤ between plus a b → Reaches set b (shift_by plus n 0) (λ t. Past plus (at a) t)
  -- "its days are at most 30"
  pub days : rest / day_length ≤ 30

-- "Under any setting that refusal 4 lets through", for any A and B
abbrev pub Demand3 : Type 0
Demand3 = (set : Setting) → bad_setting set ≡ false → (a b : Instant) → Kept set a b
