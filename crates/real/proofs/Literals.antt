-- Each f64 that the code writes out is the number that crate rules names. Assumes nothing.
use Rattle.std.proofs.Common.{◌≡◌, refl}
use lib.Ieee.{binary64, of_bits, of_int, round}
use Rattle.rules.specs.Floats as floats
use Rattle.rules.specs.Floats.{number, ratio}

pub nil : of_bits binary64 0x0000_0000_0000_0000 ≡ number 0
unfolding of_bits of_int round
nil = refl

pub half : of_bits binary64 0x3fe0_0000_0000_0000 ≡ floats.half
unfolding of_bits of_int round
half = refl

pub most : of_bits binary64 0x3fef_f7ce_d916_872b ≡ ratio 999 1000
unfolding of_bits of_int round
most = refl

pub one : of_bits binary64 0x3ff0_0000_0000_0000 ≡ number 1
unfolding of_bits of_int round
one = refl

pub ten : of_bits binary64 0x4024_0000_0000_0000 ≡ number 10
unfolding of_bits of_int round
ten = refl

pub thousand : of_bits binary64 0x408f_4000_0000_0000 ≡ number 1000
unfolding of_bits of_int round
thousand = refl

-- ---- days, and seconds from 1970
pub day : of_bits binary64 0x4194_9970_0000_0000 ≡ number 86400000
unfolding of_bits of_int round
day = refl

pub julian_end : of_bits binary64 0x4154_7f8b_2000_0000 ≡ ratio 53734845 10
unfolding of_bits of_int round
julian_end = refl

pub epoch : of_bits binary64 0x42e7_f907_ca64_4000 ≡ number 210866760000000
unfolding of_bits of_int round
epoch = refl

pub end : of_bits binary64 0x42fa_6401_072f_e000 ≡ number 464269060800000
unfolding of_bits of_int round
end = refl

pub auto_low : of_bits binary64 0x4248_8c51_b4a0_0000 ≡ number 210866760000
unfolding of_bits of_int round
auto_low = refl

pub auto_high : of_bits binary64 0x424d_7ffa_20bf_8000 ≡ number 253402300799
unfolding of_bits of_int round
auto_high = refl

-- ---- what the modifiers hand over: units and their limits, in milliseconds and days, and the week
pub hour : of_bits binary64 0x414b_7740_0000_0000 ≡ number 3600000
unfolding of_bits of_int round
hour = refl

pub minute : of_bits binary64 0x40ed_4c00_0000_0000 ≡ number 60000
unfolding of_bits of_int round
minute = refl

pub thirty : of_bits binary64 0x403e_0000_0000_0000 ≡ number 30
unfolding of_bits of_int round
thirty = refl

pub year_days : of_bits binary64 0x4076_d000_0000_0000 ≡ number 365
unfolding of_bits of_int round
year_days = refl

pub days_limit : of_bits binary64 0x4154_7f8b_4000_0000 ≡ number 5373485
unfolding of_bits of_int round
days_limit = refl

pub hours_limit : of_bits binary64 0x423e_0736_0680_0000 ≡ number 128970000000
unfolding of_bits of_int round
hours_limit = refl

pub minutes_limit : of_bits binary64 0x429c_267b_1f8c_0000 ≡ number 7737900000000
unfolding of_bits of_int round
minutes_limit = refl

pub seconds_limit : of_bits binary64 0x42fa_6404_86e0_c000 ≡ number 464270000000000
unfolding of_bits of_int round
seconds_limit = refl

pub months_limit : of_bits binary64 0x4105_8d10_0000_0000 ≡ number 176546
unfolding of_bits of_int round
months_limit = refl

pub years_limit : of_bits binary64 0x40cc_bc80_0000_0000 ≡ number 14713
unfolding of_bits of_int round
years_limit = refl

pub seven : of_bits binary64 0x401c_0000_0000_0000 ≡ number 7
unfolding of_bits of_int round
seven = refl

-- all of them, for the check
pub ruleset literals = (nil, half, most, one, ten, thousand, day, julian_end, epoch, end, auto_low, auto_high, hour, minute, thirty, year_days, days_limit, hours_limit, minutes_limit, seconds_limit, months_limit, years_limit, seven)
