-- `real::billionths` meets its contract. Assumes nothing.
use Rattle.std.proofs.Common.{◌≡◌, ℕ, ◌+◌, ◌*◌, ◌/◌, ◌%◌, ◌^◌, ◌<◌, ◌≤◌, true, sym, refl, ap, ◌∙◌, subst, le_trans, lt_of_lt_of_le, mod-lt, arith, lit≤, pow_pos, pow_mono}
use lib.Ieee.{Float}
use lib.Ieee.Nearest.{closest}
use Rattle.rules.specs.Floats.{number, within}
use Rattle.real.specs.PartsOf.{PartsOf}
use Rattle.real.proofs.Fixed.{decimals_of, one_shifted, split, rest_le, nine_below, nine_shift, nine_whole}
use Rattle.real.proofs.billionths.Goals as goal

pub parts_of-p-requires : goal.parts_of-p-requires
parts_of-p-requires c = nine_below c.args.x c.requires

-- the unit, `1 << shift`
record Unit' (m s one : ℕ) : Type 0 where
  is : one ≡ 2 ^ s
  above : 0 < one
  most : one ≤ 2 ^ 33
  whole : m / one ≤ 2 ^ 23
  rest : m % one < 2 ^ 33

unit : (x : Float) (m s : ℕ) → within (number 1000000) x (number 8388608) ≡ true → PartsOf x m s → Unit' m s (1 * 2 ^ s % 2 ^ 64)
unit x m s h p =
    let l = nine_shift x m s h p in
    let e = one_shifted s (omega arith) in
    subst (λ (one : ℕ). Unit' m s one) (sym e) (record {
      is = refl;
      above = pow_pos s;
      most = pow_mono l;
      whole = nine_whole x m s h p;
      rest = lt_of_lt_of_le (mod-lt m (pow_pos s)) (pow_mono l);
    })

pub overflow_shl-one : goal.overflow_shl-one
overflow_shl-one c = omega (arith, nine_shift _ _ _ c.requires c.parts_of-p.ensures)

pub nonzero_div-result : goal.nonzero_div-result
nonzero_div-result c = (unit _ _ _ c.requires c.parts_of-p.ensures).above

pub overflow_mul-result : goal.overflow_mul-result
overflow_mul-result c = omega (arith, (unit _ _ _ c.requires c.parts_of-p.ensures).whole)

pub nonzero_rem-p : goal.nonzero_rem-p
nonzero_rem-p c = (unit _ _ _ c.requires c.parts_of-p.ensures).above

pub overflow_mul-p : goal.overflow_mul-p
overflow_mul-p c = omega (arith, (unit _ _ _ c.requires c.parts_of-p.ensures).rest)

pub nearest-requires : goal.nearest-requires
nearest-requires c = let u = unit _ _ _ c.requires c.parts_of-p.ensures in record { n_in = omega (arith, u.rest); p_above = u.above; p_in = le_trans u.most (lit≤ tt) }

pub overflow_add-result : goal.overflow_add-result
overflow_add-result c = let u = unit _ _ _ c.requires c.parts_of-p.ensures in omega (arith, u.whole, c.nearest.ensures, rest_le c.parts_of-p.result.digits _ u.above)

pub returns : goal.returns
returns c = let m = c.parts_of-p.result.digits in
    let s = c.parts_of-p.result.shift in
    let u = unit _ _ _ c.requires c.parts_of-p.ensures in
    ap (λ (x : ℕ). m / (1 * 2 ^ s % 2 ^ 64) * 1000000000 + x) c.nearest.ensures ∙ sym (split m _ u.above) ∙ ap (λ (x : ℕ). closest (m * 1000000000) x) u.is ∙ sym (decimals_of 9 _ _ _ c.parts_of-p.ensures)
