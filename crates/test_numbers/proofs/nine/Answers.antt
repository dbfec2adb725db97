use Rattle.std.proofs.Common.{◌≡◌, refl, sym}
use lib.Ieee.{binary64, of_bits, of_int, round}
use Rattle.rules.specs.Floats.{number}
use Rattle.test_numbers.proofs.nine.Goals as goal

million : of_bits binary64 4696837146684686336 ≡ number 1000000
unfolding of_bits of_int round
million = refl

two23 : of_bits binary64 4710765210229538816 ≡ number 8388608
unfolding of_bits of_int round
two23 = refl

pub billionths-requires : goal.billionths-requires
billionths-requires c = rw (sym million, sym two23, c.if-x.true, c.if-x-2.true)
