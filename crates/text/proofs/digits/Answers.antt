-- `text::digits` meets its contract.
use Prim.Native.Nat.{ℕ, ◌+◌, ◌≤◌, ◌<◌}
use mathlib.Core.Path.{◌≡◌, sym, ap, ◌∙◌}
use mathlib.Core.List.{List, ◌∷◌, ◌++◌}
use native.Mathlib.Numerals.{add-one}
use native.Mathlib.Omega.{arith}
use lib.ListN.{length, get_or, take, drop, drop_of_length-le}
use lib.Seq.{drop-cons}
use Rattle.std.proofs.Common.{rules, tests, None, ◌&&◌, leb}
use Rattle.std.proofs.lemmas.List.{length-take-le}
use Rattle.text.proofs.Numbers.{digits_short, digit_on, digit_stop, more, few, digits_other, digits_all}
use Rattle.text.proofs.digits.Goals as goal

pub returns-in_err-front-clause-value : goal.returns-in_err-front-clause-value
returns-in_err-front-clause-value g c =
    let k : c.from_residual.result ≡ None = search rules in
    let h : length c.args.s.now < g.row.N = search rules in
    rw k (sym (digits_short _ _ _ _ h))

-- the front has n bytes
chunk : (s front rest : List ℕ) (n : ℕ) → (front ≡ take n s) × (rest ≡ drop n s) × (length rest + n ≡ length s) → length front ≡ n
chunk s front rest n p = rw p.0 (length-take-le n s (omega arith))

-- a byte of the front, and what follows it
at : (front rest : List ℕ) (n i : ℕ) → length front ≡ n → i < n → drop i front ++ rest ≡ get_or front i 0 ∷ (drop (i + 1) front ++ rest)
at front rest n i e h = let k : i < length front = omega arith in rw (add-one, drop-cons front i 0 k)

past : (front rest : List ℕ) (n i : ℕ) → length front ≡ n → n ≤ i → rest ≡ drop i front ++ rest
past front rest n i e h = let k : length front ≤ i = omega arith in rw (drop_of_length-le front k)

pub returns-then-not-is_digit-clause-value : goal.returns-then-not-is_digit-clause-value
returns-then-not-is_digit-clause-value g c =
    let e : length c.in_ok-front.front.now ≡ g.row.N = chunk c.args.s.now _ _ _ c.in_ok-front.ensures.cases in
    sym (digits_other _ _ _ _ (c.loop-b.invariant.left ∙ digit_stop _ _ _ (omega arith) _ _ (at c.in_ok-front.front.now _ _ _ e c.loop-b-test.true) (sym c.is_digit.ensures ∙ c.if-not-is_digit.true)))

pub overflow_mul-v : goal.overflow_mul-v
overflow_mul-v g c =
    let h = few c.loop-b.v (get_or c.in_ok-front.front.now c.loop-b.b-index 0) c.loop-b.b-index g.row.N c.loop-b.invariant.small c.loop-b-test.true c.requires (sym c.is_digit.ensures ∙ c.if-not-is_digit.false) in
    omega arith

pub overflow_add-v : goal.overflow_add-v
overflow_add-v g c =
    let h = few c.loop-b.v (get_or c.in_ok-front.front.now c.loop-b.b-index 0) c.loop-b.b-index g.row.N c.loop-b.invariant.small c.loop-b-test.true c.requires (sym c.is_digit.ensures ∙ c.if-not-is_digit.false) in
    omega arith

pub loop-b-preserved : goal.loop-b-preserved
loop-b-preserved g c =
    let e : length c.in_ok-front.front.now ≡ g.row.N = chunk c.args.s.now _ _ _ c.in_ok-front.ensures.cases in
    let d = sym c.is_digit.ensures ∙ c.if-not-is_digit.false in
    record {
      left = c.loop-b.invariant.left ∙ digit_on _ _ _ (omega arith) _ _ (at c.in_ok-front.front.now _ _ _ e c.loop-b-test.true) _ (omega arith) d;
      small = more _ _ _ c.loop-b.invariant.small d;
    }

pub returns-clause-value : goal.returns-clause-value
returns-clause-value g c =
    let e : length c.in_ok-front.front.now ≡ g.row.N = chunk c.args.s.now _ _ _ c.in_ok-front.ensures.cases in
    let k : c.contains.result ≡ (leb c.args.lo c.loop-b.v && leb c.loop-b.v c.args.hi) = search (rules, tests) in
    rw (c.then_some.ensures, k) (digits_all _ _ _ _ _ _ _ _ _ c.loop-b.invariant.left (omega arith) (ap (λ (t : List ℕ). (c.loop-b.v, t)) (past c.in_ok-front.front.now _ _ _ e c.loop-b-test.false)))
