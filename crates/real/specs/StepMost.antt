-- The most milliseconds that one modifier moves a time by, either way: a number of hours just below its limit.
use Rattle.std.specs.Prelude.{ℕ}

abbrev pub step_most : ℕ
step_most = 464292000000000000
