-- `decimal::run` meets its contract.
use Rattle.std.proofs.Common.{◌≡◌, ℕ, ◌+◌, ◌-◌, ◌*◌, ◌<◌, List, [], ◌∷◌, length, sym, ap, ◌∙◌, arith}
use Rattle.std.specs.Borrow.{Bor}
use Rattle.rules.specs.Decimal.{run, value}
use Rattle.decimal.specs.Held.{held, Taken}
use Rattle.decimal.proofs.Limits.{held_value}
use Rattle.decimal.proofs.Readers.{run_length}
use Rattle.decimal.proofs.run.Invariants.{Going}
use Rattle.decimal.proofs.run.Goals as goal

goes_on : (s : List ℕ) (before v d : ℕ) (rest after : List ℕ) → run rest ≡ (d ∷ (run after).0, (run after).1) → length after < length rest → Going s before v rest → Going s before (held (v * 10 + d)) after
unfolding value
goes_on s before v d rest after r l g = record {
  number = held_value (v * 10 + d) (run after).0 ∙ sym (ap (λ x. held (value v x.0)) r) ∙ g.number;
  follows = sym (ap (λ x. x.1) r) ∙ g.follows;
  fits = omega arith;
  shorter = omega (arith, g.shorter);
}

ends : (s : List ℕ) (before v : ℕ) (rest : Bor (List ℕ)) → run rest.now ≡ ([], rest.now) → Going s before v rest.now → Taken (run s) before (record { value = v; count = length s - length rest.now; rest = rest })
unfolding value
ends s before v rest r g =
    let f : rest.now ≡ (run s).1 = sym (ap (λ x. x.1) r) ∙ g.follows in
    let n : held v ≡ held (value before (run s).0) = sym (ap (λ x. held (value v x.0)) r) ∙ g.number in
    record {
      number = omega (arith, g.fits);
      many = omega (arith, run_length s, ap length f);
      follows = f;
    }

pub loop-d-preserved : goal.loop-d-preserved
loop-d-preserved c = rw c.more-value.ensures (goes_on _ _ _ _ _ _ c.in-Some.ensures.digit c.in-Some.ensures.shorter c.loop-d.invariant)

pub returns : goal.returns
returns c = ends _ _ _ _ c.in_default.ensures.other c.loop-d.invariant
