-- Instants as the demand means them: so it says something of these. Assumes nothing.
use mathlib.Core.Path.{◌≡◌, refl}
use mathlib.Core.List.{[], ◌∷◌}
use lib.Dec.{lit≤}
use Rattle.rules.specs.Basics.{ascii, every}
use Rattle.rules.specs.Calendar.{leap, month_lengths, month_length}
use Rattle.rules.specs.Decimal.{value}
use Rattle.rules.specs.Writing.{places}
use Rattle.reading.specs.Written.{written}
use Rattle.law_putback.specs.Demand.{Instant}

-- the first of all, and the last
first : Instant
unfolding written places every month_length month_lengths leap value
first =
    record {
      stamp = record { year = 0; month = 1; day = 1; gap = ascii " "; hour = 0; minute = 0; second = 0; fraction = []; blanks = [] };
      millis = 0;
      full = record { years = lit≤ tt; exists = record { month_low = lit≤ tt; month_high = lit≤ tt; day_low = lit≤ tt; day_high = lit≤ tt }; gaps = refl; hours = lit≤ tt; minutes = lit≤ tt; seconds = lit≤ tt; digits = refl; few = lit≤ tt; millis = lit≤ tt; value = refl; spaces = refl };
      short = lit≤ tt;
    }

last : Instant
unfolding written places every month_length month_lengths leap value
last =
    record {
      stamp = record { year = 9999; month = 12; day = 31; gap = ascii "T"; hour = 23; minute = 59; second = 59; fraction = 9 ∷ 9 ∷ 9 ∷ 0 ∷ []; blanks = ascii " " };
      millis = 999;
      full = record { years = lit≤ tt; exists = record { month_low = lit≤ tt; month_high = lit≤ tt; day_low = lit≤ tt; day_high = lit≤ tt }; gaps = refl; hours = lit≤ tt; minutes = lit≤ tt; seconds = lit≤ tt; digits = refl; few = lit≤ tt; millis = lit≤ tt; value = refl; spaces = refl };
      short = lit≤ tt;
    }

their_texts : (written first.stamp ≡ ascii "0000-01-01 00:00:00") × (written last.stamp ≡ ascii "9999-12-31T23:59:59.9990 ")
unfolding first last written places
their_texts = (refl, refl)
