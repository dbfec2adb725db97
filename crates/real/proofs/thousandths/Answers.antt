-- `real::thousandths` meets its contract. Assumes nothing.
use Rattle.std.proofs.Common.{ℕ, ◌*◌, ◌^◌, ◌<◌, ◌≤◌, sym, ap, ◌∙◌, subst, le_of_suc-le-suc, arith, pow_pos, pow_mono}
use lib.Ieee.Nearest.{closest}
use Rattle.real.proofs.Fixed.{decimals_of, one_shifted, to_none}
use Rattle.real.proofs.thousandths.Goals as goal

pub nearest-requires : goal.nearest-requires
nearest-requires c = let s = c.parts_of-p.result.shift in
    let e = one_shifted s c.if-p-lt64.true in
    record { n_in = omega (arith, c.parts_of-p.ensures.small); p_above = subst (λ (x : ℕ). 0 < x) (sym e) (pow_pos s); p_in = subst (λ (x : ℕ). x ≤ 2 ^ 63) (sym e) (pow_mono (le_of_suc-le-suc c.if-p-lt64.true)) }

pub returns-then-p-lt64 : goal.returns-then-p-lt64
returns-then-p-lt64 c = let p = c.parts_of-p in
    c.nearest.ensures ∙ ap (λ (x : ℕ). closest (p.result.digits * 1000) x) (one_shifted p.result.shift c.if-p-lt64.true) ∙ sym (decimals_of 3 _ _ _ p.ensures)

pub returns-else-p-lt64 : goal.returns-else-p-lt64
returns-else-p-lt64 c = let p = c.parts_of-p in
    sym (decimals_of 3 _ _ _ p.ensures ∙ to_none (p.result.digits * 1000) p.result.shift (omega (arith, p.ensures.small)) c.if-p-lt64.false)
