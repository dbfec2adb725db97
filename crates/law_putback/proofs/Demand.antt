-- Demand 3, as specs/Demand.antt says it. Assumes nothing.
use Prim.Native.Nat.{ℕ, ◌*◌, ◌/◌, ◌≤◌, ◌<◌}
use mathlib.Core.Bool.{Bool, true, false}
use mathlib.Core.Path.{◌≡◌, refl, sym, ap, ◌∙◌}
use mathlib.Core.List.{List, [], ◌∷◌, append-nil}
use native.Mathlib.Omega.{arith}
use borrow.Author.Tests.{le-ltb}
use lib.ListN.{length, drop_of_length-le}
use Rattle.std.specs.Prelude.{Ok}
use Rattle.rules.specs.Basics.{every, got}
use Rattle.rules.specs.Calendar.{year, day_length, civil}
use Rattle.rules.specs.Calls.{Call, call, strftime, timediff, text, modifiers, last_ended, modifiers_bad, bad_shape, high, bad_bytes, bad_setting, answered, after}
use Rattle.rules.specs.Functions.{moment_of, renewed, reading, settle, answer}
use Rattle.rules.specs.Moments.{Moment, fill}
use Rattle.rules.specs.Writing.{difference}
use Rattle.rules.specs.declared.Setting.{Setting}
use Rattle.rules.specs.declared.Function.{Function}
use Rattle.rules.specs.declared.Answer.{Answer}
use Rattle.reading.specs.Written.{written}
use Rattle.timediff.specs.Promise.{StandsFor, put_back, Promise}
use Rattle.timediff.specs.Spans.{Toward, shifted, span, span_text}
use Rattle.timediff.specs.Spans as spans
use Rattle.timediff.specs.declared.Span.{Span}
use Rattle.timediff.proofs.Answer as timediff
use Rattle.timediff.proofs.Promise.{keeps}
use Rattle.timediff.proofs.PutBack.{as_filled, shifts}
use Rattle.timediff.proofs.Text.{years_high, bytes_24}
use Rattle.law_putback.specs.Demand.{Instant, value, at, between, alone, shift_by, Demand3}
use Rattle.law_putback.proofs.Texts.{in_written, in_shift, not_high, not_high_alone, one_alone, good_alone}
use Rattle.law_putback.proofs.Years.{lies_in_range, its_date, same_between, between_high, shift_in_range}
use Rattle.law_putback.proofs.Reached.{by_itself, with_one, shift_is, difference_read}
use Rattle.law_putback.proofs.Given.{fields, stands, given}
use Rattle.law_putback.proofs.Shown.{Shows, formats, outcomes}
use Rattle.law_putback.proofs.Fields.{reached, shows_filled, shift_plain, shows_itself, shows_renewed, stands_filled}

-- ---- calls that are not refused at once
answer_is : (set : Setting) (c : Call) → bad_setting set ≡ false → bad_shape c ≡ false → bad_bytes c ≡ false → answer set c ≡ settle (reading set c)
unfolding answer
answer_is set c ok s b = rw (s, b, ok)

same_answer : (set : Setting) (c d : Call) → bad_shape c ≡ bad_shape d → bad_bytes c ≡ bad_bytes d → reading set c ≡ reading set d → answer set c ≡ answer set d
unfolding answer
same_answer set c d s b r = rw (s, b, r)

pub none_bad : modifiers_bad [] ≡ false
unfolding modifiers_bad last_ended modifiers every
none_bad = refl

pub none_high : high [] ≡ false
unfolding high every
none_high = refl

-- a modifier stands
renewed_alone : (t : List ℕ) (p : Moment) → renewed (alone t) p ≡ fill p
unfolding renewed
renewed_alone [] p = refl
renewed_alone (b ∷ t) p = refl

-- the years 0 to 9999
year_low : (a : Instant) → year 0 ≤ (civil (at a)).year
year_low a = rw (its_date a) (omega arith)

-- no rest is less than 31 days
days_rest : (rest : ℕ) → rest / day_length ≤ 30 → rest < 31 * day_length
days_rest rest h = omega arith

-- ---- A and B in numbers
module _ (a b : Instant) where
  abbrev shift : Span
  shift = span (at a) (at b)

  abbrev shift_text : List ℕ
  shift_text = shift_by shift.plus shift.months shift.rest

  fields_stand : StandsFor (at b) (fill (fields b))
  fields_stand = as_filled (at b) (fields b) (stands b)

  promise : Promise (at a) (at b) (fields b) shift
  promise = keeps (at a) (at b) (lies_in_range a) (lies_in_range b) (fields b) fields_stand

  toward : Toward shift.plus (at a) (at b)
  toward = rw promise.sign (timediff.toward (at a) (at b))

  text_is : difference (at a) (at b) ≡ shift_text
  unfolding span_text
  text_is = sym (timediff.text (at a) (at b))

  bytes_are : length shift_text ≡ 24
  bytes_are = ap length (sym text_is) ∙ bytes_24 (at a) (at b) (lies_in_range a) (lies_in_range b) (year_low a) (year_low b)

  four_digits : shift.months / 12 ≤ 9999
  four_digits = years_high (at a) (at b) (lies_in_range a) (lies_in_range b) (year_low a) (year_low b)

  up_to_months : shift.months ≤ between shift.plus a b
  up_to_months = rw (same_between shift.plus a b) at promise.up_to

  -- ---- under a setting
  module _ (set : Setting) where
    -- the record that B reaches with timediff's text, and with a shift of whole months
    put_back_lem : moment_of set (value b) (alone shift_text) ≡ got (put_back shift.plus shift.months shift.rest (fields b))
    put_back_lem =
        with_one (given b set) shift_text (one_alone (in_shift shift.plus shift.months shift.rest))
        (shift_is set.offset shift.plus shift.months shift.rest (fields b) four_digits (days_rest shift.rest promise.days))
        promise.reach (lies_in_range a)

    by_months_lem : (n : ℕ) → n ≤ between shift.plus a b → moment_of set (value b) (alone (shift_by shift.plus n 0)) ≡ got (put_back shift.plus n 0 (fields b))
    by_months_lem n h =
        let plus = shift.plus in
        let c = shifts plus (at a) (at b) (lies_in_range a) (lies_in_range b) toward (fields b) fields_stand n 0 (rw (same_between plus a b) h) in
        with_one (given b set) (shift_by plus n 0) (one_alone (in_shift plus n 0))
        (shift_is set.offset plus n 0 (fields b) (omega (arith, between_high plus a b)) (omega arith))
        c (rw (none plus (shifted plus (at b) n)) (shift_in_range plus a b n h))
      where
        none : (p : Bool) (x : ℕ) → spans.moved p x 0 ≡ x
        none true x = omega arith
        none false x = omega arith

    -- what it then shows is A
    abbrev landed : Moment
    landed = put_back shift.plus shift.months shift.rest (fields b)

    landed_plain : landed.subsec ≡ false
    landed_plain = shift_plain shift.plus shift.months shift.rest (fields b) (ap (λ (p : Moment). p.subsec) (stands_filled (fields b) refl refl))

    shows_A : Shows (at a) (fill landed)
    shows_A = shows_filled landed (at a) promise.reach landed_plain (lies_in_range a)

    module _ (ok : bad_setting set ≡ false) where
      answers_text : answer set (timediff (value a) (value b)) ≡ text shift_text
      unfolding bad_shape bad_bytes
      answers_text =
          answer_is set (timediff (value a) (value b)) ok
          (rw (le-ltb 255 (length (written a.stamp)) a.short, le-ltb 255 (length (written b.stamp)) b.short))
          (rw (not_high (in_written a.stamp a.millis a.full), not_high (in_written b.stamp b.millis b.full)))
          ∙ ap settle (difference_read (given a set) (given b set)) ∙ ap text text_is

      comes : answered (answer set (timediff (value a) (value b))) 24 ≡ Ok (Answer.Text 24)
      unfolding answered
      comes = rw (answers_text, bytes_are)

      holding : (buffer : List ℕ) → length buffer ≡ 24 → after (answer set (timediff (value a) (value b))) buffer ≡ shift_text
      unfolding after
      holding buffer e = let h : length buffer ≤ 24 = omega arith in rw (answers_text, bytes_are, e, drop_of_length-le buffer h) (append-nil shift_text)

    good_shift : modifiers_bad (alone shift_text) ≡ false
    good_shift = good_alone (in_shift shift.plus shift.months shift.rest) (omega (arith, bytes_are))

    low_shift : high (alone shift_text) ≡ false
    low_shift = not_high_alone (in_shift shift.plus shift.months shift.rest)

    -- B with that modifier is answered as A is
    functions : (f : Function) → answer set (call f (value b) (alone shift_text)) ≡ answer set (call f (value a) [])
    unfolding bad_shape bad_bytes reading
    functions f =
        let S : Shows (at a) (renewed (alone shift_text) landed) = rw (renewed_alone shift_text landed) shows_A in
        same_answer set (call f (value b) (alone shift_text)) (call f (value a) [])
        (rw (le-ltb 255 (length (written a.stamp)) a.short, le-ltb 255 (length (written b.stamp)) b.short, good_shift, none_bad))
        (rw (not_high (in_written a.stamp a.millis a.full), not_high (in_written b.stamp b.millis b.full), low_shift, none_high))
        (rw (put_back_lem, by_itself (given a set)) (ap got (outcomes (at a) (alone shift_text) [] landed (reached a) promise.reach.ms_is landed_plain S (shows_renewed a) f)))

    formatted_alike : (f : List ℕ) → answer set (strftime f (value b) (alone shift_text)) ≡ answer set (strftime f (value a) [])
    unfolding bad_shape bad_bytes reading
    formatted_alike f =
        same_answer set (strftime f (value b) (alone shift_text)) (strftime f (value a) [])
        (rw (le-ltb 255 (length (written a.stamp)) a.short, le-ltb 255 (length (written b.stamp)) b.short, good_shift, none_bad))
        (rw (not_high (in_written a.stamp a.millis a.full), not_high (in_written b.stamp b.millis b.full), low_shift, none_high))
        (rw (put_back_lem, by_itself (given a set), formats (at a) (fill landed) (fill (reached a)) shows_A (shows_itself a) f))

-- ---- the demand
pub demand_3 : Demand3
demand_3 set ok a b =
    let P = promise a b in
    let plus = (shift a b).plus in
    let months = (shift a b).months in
    let same = same_between plus a b in
    record {
      plus = plus;
      months = months;
      rest = (shift a b).rest;
      answers = answers_text a b set ok;
      comes_back = comes a b set ok;
      holds = holding a b set ok;
      only_one = one_alone (in_shift plus months (shift a b).rest);
      reaches = record { moment = landed a b set; reads = put_back_lem a b set; there = P.reach.ms_is };
      answers_as_A = functions a b set;
      formats_as_A = formatted_alike a b set;
      sign = P.sign;
      up_to = up_to_months a b;
      stays = record { moment = put_back plus months 0 (fields b); reads = by_months_lem a b set months (up_to_months a b); there = P.stays };
      most = λ n l h. record { moment = put_back plus n 0 (fields b); reads = by_months_lem a b set n h; there = P.passes n l (rw same h) };
      days = P.days;
    }
