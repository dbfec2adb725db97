-- The key to computing: a statement that says `unfolding computing` computes every definition of rules, and f64's. It says nothing itself.
use Rattle.rules.specs.Basics.{word, every, skip, front, trim_end, trim, parts, digits_on, digits, beside}
use Rattle.rules.specs.Calls.{modifiers, last_ended, modifiers_bad, bad_shape, high, bad_bytes, bad_setting, answered, after}
use Rattle.rules.specs.Calendar.{leap, month_lengths, month_length, year_length, sum, years, before_month, day_of_year, days_to, in_months, in_years, date_after, day_zero, start, midnight, day_of, time_of_day, civil, since_monday, since_sunday, thursday, iso_week}
use Rattle.rules.specs.Moments.{with_time, sum_of, count_ms, fill_date, fill_time, fill, past_end, shift}
use Rattle.rules.specs.Decimal.{sign, run, value, point, exponent, nearest_to, digits_form, named_form, decimal}
use Rattle.rules.specs.Reading.{digit_sum, scale, fraction_of, fraction, seconds_in, seconds, hours_minutes, zone_in, time, date_from, date_form, time_form, number_form, text_value, time_value}
use Rattle.rules.specs.Modifiers.{auto, unix, ceiling, floor, localtime, utc, days_on, to_weekday, weekday, start_of, time_of, by_date, date_step, time_step, by_length, by_months, unit_step, arithmetic, modifier, modified}
use Rattle.rules.specs.Writing.{places, width, wide, spaced, integer_text, signed_year, year_short, three_decimals, date_text, time_text, floor_div, unix_seconds, unix_real, unix_text, julian_real, julian_text, julian_letter, letters, writer, letter, formatted, in_month, back_off, shift_text, forward, backward, difference}
use Rattle.rules.specs.Functions.{ranged, moment_of, renewed, outcome_of, reading, answer}
use Rattle.rules.specs.Program.{buffered, same, general, line_call, hex, shown, line, digits_all, signed_all, first_line, answers, program}
use Rattle.std.specs.Float.Ieee.{add, sub, mul, div, neg, lt, le, eq, of_int, of_bits, round, to_signed, to_unsigned, to_bits}

unfoldable pub computing : Unit {0}
unfolding word every skip front trim_end trim parts digits_on digits beside modifiers last_ended modifiers_bad bad_shape high bad_bytes bad_setting answered after leap month_lengths month_length year_length sum years before_month day_of_year days_to in_months in_years date_after day_zero start midnight day_of time_of_day civil since_monday since_sunday thursday iso_week with_time sum_of count_ms fill_date fill_time fill past_end shift sign run value point exponent nearest_to digits_form named_form decimal digit_sum scale fraction_of fraction seconds_in seconds hours_minutes zone_in time date_from date_form time_form number_form text_value time_value auto unix ceiling floor localtime utc days_on to_weekday weekday start_of time_of by_date date_step time_step by_length by_months unit_step arithmetic modifier modified places width wide spaced integer_text signed_year year_short three_decimals date_text time_text floor_div unix_seconds unix_real unix_text julian_real julian_text julian_letter letters writer letter formatted in_month back_off shift_text forward backward difference ranged moment_of renewed outcome_of reading answer buffered same general line_call hex shown line digits_all signed_all first_line answers program add sub mul div neg lt le eq of_int of_bits round to_signed to_unsigned to_bits
computing = tt
