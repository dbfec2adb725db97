use Rattle.std.proofs.Common.{◌≡◌, refl, sym}
use lib.Ieee.{binary64, of_bits, of_int, round}
use Rattle.rules.specs.Floats.{number}
use Rattle.test_numbers.proofs.three.Goals as goal

two53 : of_bits binary64 4845873199050653696 ≡ number 9007199254740992
unfolding of_bits of_int round
two53 = refl

pub thousandths-requires : goal.thousandths-requires
thousandths-requires c = rw (sym two53) (cc (c.below.ensures, c.if-not-below.false))
