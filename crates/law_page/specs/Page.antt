-- SQLite's page, section by section. Each part quotes the page's sentences above what renders them; the proof of all is `page` in
-- proofs/Page.antt.
use Rattle.std.specs.Prelude.{false, ◌≡◌, List, [], ℕ}
use Rattle.rules.specs.Calls.{call, timediff, text, bad_setting}
use Rattle.rules.specs.Functions.{answer}
use Rattle.rules.specs.declared.Function.{Function}
use Rattle.rules.specs.declared.Setting.{Setting}
use Rattle.law_putback.specs.Demand.{Instant, value, alone}
use Rattle.law_page.specs.Functions.{Functions}
use Rattle.law_page.specs.Letters.{Letters}
use Rattle.law_page.specs.TimeValues.{TimeValues}
use Rattle.law_page.specs.Modifiers.{Modifiers}
use Rattle.law_page.specs.Examples.{Examples}
use Rattle.law_page.specs.Rows.{rows, more, All}

-- "The following invariant holds for time-values A and B: datetime(A) = datetime(B, timediff(A,B))", of whole milliseconds in the years 0 to
-- 9999 (putback/specs/Demand.antt says more)
pub record Invariant (set : Setting) (a b : Instant) : Type 0 where
  pub difference : List ℕ
  pub timediff_is : answer set (timediff (value a) (value b)) ≡ text difference
  pub datetimes : answer set (call Function.Datetime (value b) (alone difference)) ≡ answer set (call Function.Datetime (value a) [])

pub record Page : Type 0 where
  -- "1. Overview"
  pub functions : Functions
  pub letters : Letters
  pub invariant : (set : Setting) → bad_setting set ≡ false → (a b : Instant) → Invariant set a b
  -- "2. Time Values"
  pub time_values : TimeValues
  -- "3. Modifiers"
  pub modifiers : Modifiers
  -- "4. Examples"
  pub examples : (set : Setting) → bad_setting set ≡ false → Examples set
  pub worked : (set : Setting) → bad_setting set ≡ false → All set rows × All set more
