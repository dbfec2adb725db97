-- Section 4, under every clock. Assumes nothing.
use Prim.Native.Nat.{ℕ, suc, ◌+◌, ◌-◌, ◌*◌, ◌/◌, ◌≤◌}
use mathlib.Core.Bool.{Bool, true, false, ◌||◌}
use mathlib.Core.Path.{◌≡◌, refl, sym, ap, ◌∙◌, subst}
use mathlib.Core.List.{List, [], ◌∷◌}
use native.Mathlib.Omega.{arith}
use borrow.Author.Tests.{ltb-false}
use lib.Dec.{ltb, lit≤}
use lib.IntN.{pos}
use Rattle.rules.specs.Basics.{ascii, every, got}
use Rattle.rules.specs.Calendar.{year, minus_year, unix_epoch, day_length, start, sum, before_month, day_of_year, days_to, Exists, month_length, midnight, day_of, civil, since_sunday}
use Rattle.rules.specs.Calls.{Value, absent, bytes, call, strftime, text, integer, modifiers, last_ended, modifiers_bad, bad_shape, high, bad_bytes, bad_setting, far_off}
use Rattle.rules.specs.Decimal.{value}
use Rattle.rules.specs.Functions.{moment_of, ranged, answer}
use Rattle.rules.specs.Moments.{Moment, blank, counted}
use Rattle.rules.specs.Modifiers.{modifier, modified, days_on}
use Rattle.rules.specs.Reading.{now, time_value}
use Rattle.rules.specs.Writing.{wide, integer_text, floor_div, unix_seconds, in_month}
use Rattle.rules.specs.declared.Function.{Function}
use Rattle.rules.specs.declared.Setting.{Setting}
use Rattle.rules.specs.declared.Ymd.{Ymd}
use Rattle.calendar.specs.Ranges.{InRange}
use Rattle.calendar.proofs.Counting.{DateOf, month_day}
use Rattle.calendar.proofs.Instants.{start_is, date_of_lem}
use Rattle.calendar.proofs.Years.{month_low, closed}
use Rattle.calendar.proofs.Months.{first, first_next, of_date, of_length}
use Rattle.real.proofs.Signs.{minus_pos}
use Rattle.law_putback.proofs.Years.{in_range_lem}
use Rattle.timediff.specs.Spans.{month_at}
use Rattle.timediff.proofs.Shifts.{into, in_month_is, month_order}
use Rattle.law_page.specs.Stands.{Stands, Leads}
use Rattle.law_page.specs.TimeValues.{date_text}
use Rattle.law_page.specs.Numerals.{plus, minus, Writes}
use Rattle.law_page.specs.Modifiers.{Shifts, runs_over, months, days, tuesday}
use Rattle.law_page.specs.Functions.{Good, written}
use Rattle.law_page.specs.Examples.{◌then◌, present, today, this_year, FirstTuesday, Examples}
use Rattle.law_page.proofs.Stands.{stands_at, only_ms}
use Rattle.law_page.proofs.Amounts.{amounts}
use Rattle.law_page.proofs.Months.{periods}
use Rattle.law_page.proofs.Starts.{year_first, date_at, time_at, to_month, to_year}
use Rattle.law_page.proofs.Weekdays.{to_weekday_lem, on_few, on_day}
use Rattle.law_page.proofs.Functions.{range_is, counted_stands, date, unixepoch, unixepoch_is}
use Rattle.law_page.proofs.TimeValues.{time_values, now_counts}

-- ---- calls that no refusal meets
good_last : (set : Setting) → bad_setting set ≡ false → Good set (call Function.Date (bytes (ascii "now")) ("start of month" then "+1 month" then "-1 day" then []))
unfolding bad_shape bad_bytes modifiers_bad last_ended modifiers high every
good_last set h = record { setting = h; shape = refl; bytes = refl }

good_tuesday : (set : Setting) → bad_setting set ≡ false → Good set (call Function.Date (bytes (ascii "now")) ("start of year" then "+9 months" then "weekday 2" then []))
unfolding bad_shape bad_bytes modifiers_bad last_ended modifiers high every
good_tuesday set h = record { setting = h; shape = refl; bytes = refl }

good_none : (set : Setting) → bad_setting set ≡ false → (f : Function) → Good set (call f absent [])
unfolding bad_shape bad_bytes modifiers_bad last_ended modifiers high every
good_none set h f = record { setting = h; shape = refl; bytes = refl }

-- ---- three modifiers in a row
three : (set : Setting) (v : Value) (m a b c : List ℕ) {p q r s u : Moment} → modifiers m ≡ a ∷ b ∷ c ∷ [] → time_value set.clock v ≡ got p → modifier set.offset 0 a p ≡ got q → modifier set.offset 1 b q ≡ got r → modifier set.offset 2 c r ≡ got s → ranged s ≡ got u → moment_of set v m ≡ got u
unfolding moment_of modified
three set v m a b c e f g h i j = rw (e, f, g, h, i, j)

one : Writes (1 ∷ []) 1
unfolding every value
one = record { digits = refl; some = lit≤ tt; is = refl }

nine : Writes (9 ∷ []) 9
unfolding every value
nine = record { digits = refl; some = lit≤ tt; is = refl }

or_left : (a b : Bool) → (a || b) ≡ false → a ≡ false
or_left true b h = h
or_left false b h = refl

-- ---- 1970
epoch_is : midnight (year 1970) 1 1 ≡ unix_epoch
unfolding midnight days_to day_of_year before_month sum
epoch_is = let e = start_is in let c = closed 41969 (lit≤ tt) in omega (arith, c)

epoch_date : civil unix_epoch ≡ record { year = year 1970; month = 1; day = 1 }
epoch_date = subst (λ (t : ℕ). civil t ≡ record { year = year 1970; month = 1; day = 1 }) epoch_is (date_at (year 1970) 1 1 (year_first (year 1970)) (lit≤ tt) (lit≤ tt))

epoch_month : month_at unix_epoch ≡ year 1970 * 12
unfolding month_at
epoch_month = rw epoch_date

-- a date of the years 0 to 9999 lies in range
date_in : (y m d : ℕ) → Exists y m d → year 0 ≤ y → y ≤ year 9999 → InRange (midnight y m d)
date_in y m d E low high =
    let e : midnight y m d + 0 ≡ midnight y m d = omega arith in
    subst InRange e (in_range_lem y m d 0 low high (month_day _ _ _ E) (omega arith))

-- the first day of a month, by its number
month_at_lem : (y m : ℕ) → Exists y m 1 → minus_year 4713 ≤ y → y ≤ year 9999 → month_at (midnight y m 1) ≡ y * 12 + (m - 1)
unfolding month_at
month_at_lem y m E low high = rw (date_at y m 1 E low high)

-- moved to another month, it is that month's first day
in_first : (y m k : ℕ) → Exists y m 1 → minus_year 4713 ≤ y → y ≤ year 9999 → in_month (midnight y m 1) k ≡ start + first k * day_length
unfolding into
in_first y m k E low high = in_month_is (midnight y m 1) k ∙ rw (date_at y m 1 E low high, time_at y m 1) (omega arith)

at_day : (y m d : ℕ) → 1 ≤ m → m ≤ 12 → midnight y m d ≡ start + (first (y * 12 + (m - 1)) + (d - 1)) * day_length
unfolding midnight
at_day y m d l h = ap (λ (n : ℕ). start + n * day_length) (of_date y m d l h)

first_exists : (y m : ℕ) → 1 ≤ m → m ≤ 12 → Exists y m 1
first_exists y m l h = record { month_low = l; month_high = h; day_low = lit≤ tt; day_high = omega (arith, month_low y m l h) }

last_exists : (y m : ℕ) → 1 ≤ m → m ≤ 12 → Exists y m (month_length y m)
last_exists y m l h = record { month_low = l; month_high = h; day_low = omega (arith, month_low y m l h); day_high = omega arith }

module _ (set : Setting) (ok : bad_setting set ≡ false) where
  clock_high : set.clock ≤ 253402300799999
  unfolding bad_setting
  clock_high = ltb-false 253402300799999 set.clock (or_left (ltb 253402300799999 set.clock) (far_off set.offset) ok)

  abbrev t : ℕ
  t = present set

  R : InRange t
  R = record { from = omega arith; to = omega (arith, clock_high) }

  D : DateOf (day_of t) (today set).year (today set).month (today set).day
  D = date_of_lem t R.to

  abbrev y : ℕ
  y = (today set).year

  abbrev m : ℕ
  m = (today set).month

  from_1970 : year 1970 ≤ y
  unfolding month_at
  from_1970 =
      let E : InRange unix_epoch = record { from = lit≤ tt; to = lit≤ tt } in
      let o = month_order unix_epoch t E R (omega arith) in
      omega (arith, epoch_month, D.exists.month_high)

  L : Leads (time_value set.clock (bytes (ascii "now"))) t
  L = time_values.format_11 set.clock

  -- ---- the last day of the month
  module _ (soon : y ≤ year 9998) where
    E : Exists y m 1
    E = first_exists y m D.exists.month_low D.exists.month_high

    L1 : Leads (modifier set.offset 0 (ascii "start of month") L.moment) (midnight y m 1)
    L1 = to_month set.offset 0 L.stands R

    abbrev k : ℕ
    k = y * 12 + (m - 1)

    month_1 : month_at (midnight y m 1) + 1 * 1 ≡ suc k
    month_1 = let e = month_at_lem y m E D.low D.high in omega arith

    L2 : Shifts (modifier set.offset 1 (ascii "+1 month") L1.moment) (in_month (midnight y m 1) (month_at (midnight y m 1) + 1 * 1)) (runs_over (midnight y m 1) (month_at (midnight y m 1) + 1 * 1))
    L2 =
        periods set.offset 1 L1.moment (midnight y m 1) L1.stands (date_in y m 1 E (omega (arith, from_1970)) D.high) plus (1 ∷ []) 1 one months false (lit≤ tt)
        (omega (arith, month_1, from_1970)) (omega (arith, month_1, soon, D.exists.month_high))

    abbrev u : ℕ
    u = in_month (midnight y m 1) (month_at (midnight y m 1) + 1 * 1)

    L3 : Leads (modifier set.offset 2 (ascii "-1 day") L2.leads.moment) (u - 1 * 86400000)
    L3 = amounts set.offset 2 L2.leads.moment u L2.leads.stands minus (1 ∷ []) 1 one days false (lit≤ tt)

    last_is : u - 1 * 86400000 ≡ midnight y m (month_length y m)
    last_is =
        let a = in_first y m (month_at (midnight y m 1) + 1 * 1) E D.low D.high in
        let b = ap first month_1 in
        let c = first_next k (omega (arith, D.low)) in
        let d = of_length y m D.exists.month_low D.exists.month_high in
        let e = at_day y m (month_length y m) D.exists.month_low D.exists.month_high in
        let f = month_low y m D.exists.month_low D.exists.month_high in
        omega arith

    L4 : Leads (moment_of set (bytes (ascii "now")) ("start of month" then "+1 month" then "-1 day" then [])) (midnight y m (month_length y m))
    unfolding modifiers
    L4 =
        let S : Stands (midnight y m (month_length y m)) L3.moment = stands_at (sym last_is) L3.stands in
        let Q = date_in y m (month_length y m) (last_exists y m D.exists.month_low D.exists.month_high) (omega (arith, from_1970)) D.high in
        record {
          moment = counted L3.moment (midnight y m (month_length y m));
          reads = three set (bytes (ascii "now")) _ (ascii "start of month") (ascii "+1 month") (ascii "-1 day") refl L.reads L1.reads L2.leads.reads L3.reads (range_is S Q);
          stands = counted_stands S Q;
        }

    last_day_of_month : answer set (call Function.Date (bytes (ascii "now")) ("start of month" then "+1 month" then "-1 day" then [])) ≡ text (date_text (this_year set) m (month_length y m))
    last_day_of_month =
        let X = last_exists y m D.exists.month_low D.exists.month_high in
        let c = date_at y m (month_length y m) X D.low D.high in
        let Q = date_in y m (month_length y m) X (omega (arith, from_1970)) D.high in
        subst (λ (c : Ymd). year 0 ≤ c.year → answer set (call Function.Date (bytes (ascii "now")) ("start of month" then "+1 month" then "-1 day" then [])) ≡ text (date_text (c.year - year 0) c.month c.day)) c
        (λ low. date set (bytes (ascii "now")) _ _ Q (good_last set ok) L4 low) (omega (arith, from_1970))

  -- ---- the first Tuesday in October
  E1 : Exists y 1 1
  E1 = year_first y

  M1 : Leads (modifier set.offset 0 (ascii "start of year") L.moment) (midnight y 1 1)
  M1 = to_year set.offset 0 L.stands R

  october : month_at (midnight y 1 1) + 9 * 1 ≡ y * 12 + 9
  october = let e = month_at_lem y 1 E1 D.low D.high in omega arith

  M2 : Shifts (modifier set.offset 1 (ascii "+9 months") M1.moment) (in_month (midnight y 1 1) (month_at (midnight y 1 1) + 9 * 1)) (runs_over (midnight y 1 1) (month_at (midnight y 1 1) + 9 * 1))
  M2 =
      periods set.offset 1 M1.moment (midnight y 1 1) M1.stands (date_in y 1 1 E1 (omega (arith, from_1970)) D.high) plus (9 ∷ []) 9 nine months true (lit≤ tt)
      (omega (arith, october, from_1970)) (omega (arith, october, D.high))

  october_is : in_month (midnight y 1 1) (month_at (midnight y 1 1) + 9 * 1) ≡ midnight y 10 1
  october_is =
      let a = in_first y 1 (month_at (midnight y 1 1) + 9 * 1) E1 D.low D.high in
      let b = ap first october in
      let e = at_day y 10 1 (lit≤ tt) (lit≤ tt) in
      omega arith

  S2 : Stands (midnight y 10 1) M2.leads.moment
  S2 = stands_at (sym october_is) M2.leads.stands

  E10 : Exists y 10 1
  E10 = first_exists y 10 (lit≤ tt) (lit≤ tt)

  Q10 : InRange (midnight y 10 1)
  Q10 = date_in y 10 1 E10 (omega (arith, from_1970)) D.high

  abbrev on : ℕ
  on = days_on 2 (midnight y 10 1)

  few : on ≤ 6
  few = on_few (midnight y 10 1) Q10.from 2 (lit≤ tt)

  M3 : Leads (modifier set.offset 2 (ascii "weekday 2") M2.leads.moment) (midnight y 10 1 + on * day_length)
  M3 = to_weekday_lem set.offset 2 M2.leads.moment (midnight y 10 1) S2 Q10 tuesday

  day_is : midnight y 10 1 + on * day_length ≡ midnight y 10 (on + 1)
  day_is = let a = at_day y 10 1 (lit≤ tt) (lit≤ tt) in let b = at_day y 10 (on + 1) (lit≤ tt) (lit≤ tt) in omega arith

  EX : Exists y 10 (on + 1)
  EX = record { month_low = lit≤ tt; month_high = lit≤ tt; day_low = omega arith; day_high = omega (arith, few, month_low y 10 (lit≤ tt) (lit≤ tt)) }

  QX : InRange (midnight y 10 (on + 1))
  QX = date_in y 10 (on + 1) EX (omega (arith, from_1970)) D.high

  M4 : Leads (moment_of set (bytes (ascii "now")) ("start of year" then "+9 months" then "weekday 2" then [])) (midnight y 10 (on + 1))
  unfolding modifiers
  M4 =
      let S : Stands (midnight y 10 (on + 1)) M3.moment = stands_at (sym day_is) M3.stands in
      record {
        moment = counted M3.moment (midnight y 10 (on + 1));
        reads = three set (bytes (ascii "now")) _ (ascii "start of year") (ascii "+9 months") (ascii "weekday 2") refl L.reads M1.reads M2.leads.reads M3.reads (range_is S QX);
        stands = counted_stands S QX;
      }

  first_tuesday : FirstTuesday set
  first_tuesday =
      let c = date_at y 10 (on + 1) EX D.low D.high in
      record {
        day = on + 1;
        from = omega arith;
        to = omega (arith, few);
        tuesday = ap since_sunday (sym day_is) ∙ on_day (midnight y 10 1) 2 Q10 (lit≤ tt);
        answers =
            subst (λ (c : Ymd). year 0 ≤ c.year → answer set (call Function.Date (bytes (ascii "now")) ("start of year" then "+9 months" then "weekday 2" then [])) ≡ text (date_text (c.year - year 0) c.month c.day)) c
            (λ low. date set (bytes (ascii "now")) _ _ QX (good_tuesday set ok) M4 low) (omega (arith, from_1970));
      }

  -- ---- the present
  abbrev here : Moment
  here = now set.clock blank

  S0 : Stands t here
  S0 = only_ms (now_counts set.clock)

  N : Leads (moment_of set absent []) t
  unfolding moment_of modifiers modified time_value
  N = record { moment = counted here t; reads = range_is S0 R; stands = counted_stands S0 R }

  plain : N.moment.subsec ≡ false
  unfolding N
  plain = refl

  current_date : answer set (call Function.Date absent []) ≡ text (date_text (this_year set) m (today set).day)
  current_date = date set absent [] t R (good_none set ok Function.Date) N (omega (arith, from_1970))

  seconds_are : unix_seconds t ≡ pos (set.clock / 1000)
  unfolding unix_seconds floor_div
  seconds_are = let e : t - unix_epoch ≡ set.clock = omega arith in rw (minus_pos t unix_epoch (omega arith), e)

  timestamp : answer set (call Function.Unixepoch absent []) ≡ integer (pos (set.clock / 1000))
  timestamp = unixepoch set absent [] t R (good_none set ok Function.Unixepoch) N plain ∙ ap integer seconds_are

  timestamp_text : answer set (strftime (ascii "%s") absent []) ≡ text (wide 1 (set.clock / 1000))
  unfolding integer_text
  timestamp_text = sym (unixepoch_is set absent [] (λ p e. ap (λ (q : Moment). q.subsec) (same e) ∙ plain)) ∙ ap written timestamp
    where
      same : {p : Moment} → moment_of set absent [] ≡ got p → p ≡ N.moment
      same e = let f = N.reads in cc

  pub shown : Examples set
  shown = record { current_date = current_date; last_day_of_month = last_day_of_month; timestamp = timestamp; timestamp_text = timestamp_text; first_tuesday = first_tuesday }
