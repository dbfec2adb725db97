-- The seconds of a time of day as an f64: from 0 to 59.999, so that their milliseconds and their thousandths stay below 60000.
use Rattle.std.specs.Prelude.{Bool, ◌&&◌, Float}
use Rattle.std.specs.Float.Ieee.{le}
use Rattle.rules.specs.Floats.{number, ratio}

abbrev pub in_minute : Float → Bool
in_minute x = le (number 0) x && le x (ratio 59999 1000)
