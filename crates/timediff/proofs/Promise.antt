-- Demand 3 in numbers: timediff's answer keeps what is promised, and no other answer does. Assumes nothing.
use mathlib.Core.Path.{◌≡◌, refl, sym, ◌∙◌}
use mathlib.Core.Bool.{Bool, true, false, true≢false}
use Prim.Native.Nat.{ℕ, ◌≤◌, ◌<◌}
use native.Mathlib.Omega.{arith}
use native.Mathlib.Decide.{dec_lt}
use borrow.Author.Tests.{le-leb, lt-leb}
use lib.Dec.{leb}
use Rattle.rules.specs.Calendar.{instant}
use Rattle.rules.specs.Moments.{Moment, fill}
use Rattle.calendar.specs.Ranges.{InRange}
use Rattle.timediff.specs.Promise.{StandsFor, put_back, Promise}
use Rattle.timediff.specs.Spans.{moved, gap, Toward, between, months_of, rest_of, span}
use Rattle.timediff.specs.declared.Span.{Span}
use Rattle.timediff.proofs.Shifts.{month_order, none}
use Rattle.timediff.proofs.Numbers as numbers
use Rattle.timediff.proofs.Answer.{toward, days_high}
use Rattle.timediff.proofs.PutBack.{shifts, by_months_lem, arrives}

make : Bool → ℕ → ℕ → Span
make plus months rest = record { plus = plus; months = months; rest = rest }

-- what is left from x to a
left : (plus : Bool) (x r a : ℕ) → instant 0 ≤ a → moved plus x r ≡ a → r ≡ gap plus x a
left true x r a h e = omega arith
left false x r a h e = omega arith

module _ (a b : ℕ) (A : InRange a) (B : InRange b) (p : Moment) (h : StandsFor b (fill p)) where
  -- the promise is kept
  pub keeps : Promise a b p (span a b)
  unfolding span
  keeps =
      let plus = leb b a in
      let w = toward a b in
      let shift = by_months_lem plus a b A B w p h in
      let up = numbers.up_to plus a b in
      record { sign = refl; reach = arrives plus a b A B w p h; days = days_high a b A B; up_to = up; stays = rw (shift _ up) (numbers.stays plus a b A B w); most = λ n l t. numbers.greatest plus a b n l (rw (shift n l) at t); passes = λ n m l. rw (shift n l) (numbers.greater_passes plus a b n m l) }

  -- the other way from A no month lies between, and B itself lies past A: so the sign need not be promised but for equal instants
  at_home : (plus : Bool) → (put_back plus 0 0 p).ms ≡ b
  at_home true = by_months_lem true b b B B (omega arith) p h 0 (omega arith) ∙ none true b b B B (omega arith)
  at_home false = by_months_lem false b b B B (omega arith) p h 0 (omega arith) ∙ none false b b B B (omega arith)

  pub sign_is : (plus : Bool) (n : ℕ) → (a ≡ b → plus ≡ true) → n ≤ between plus a b → Toward plus a (put_back plus n 0 p).ms → plus ≡ leb b a
  unfolding between
  sign_is true n e l t = go (dec_lt a b)
    where
      go : Dec (a < b) → true ≡ leb b a
      go (yes k) = let z : n ≡ 0 = omega (arith, month_order a b A B (omega arith)) in absurd (omega (arith, at_home true, rw z at t))
      go (no k) = sym (le-leb b a (omega (arith, k)))
  sign_is false n e l t = go (dec_lt a b)
    where
      go : Dec (a < b) → false ≡ leb b a
      go (yes k) = sym (lt-leb b a k)
      go (no k) = let z : n ≡ 0 = omega (arith, k, month_order b a B A (omega (arith, k))) in absurd (true≢false (sym (e (omega (arith, k, at_home false, rw z at t)))))

  -- two answers that keep the promise are one
  pub only : (s : Span) → Promise a b p s → s ≡ span a b
  unfolding rest_of span make
  only s k =
      let plus = s.plus in
      let w : Toward plus a b = rw k.sign (toward a b) in
      let shift = by_months_lem plus a b A B w p h in
      let up = numbers.up_to plus a b in
      let low = numbers.greatest plus a b s.months k.up_to (rw (shift s.months k.up_to) at k.stays) in
      let high = k.most (months_of plus a b) up (rw (shift (months_of plus a b) up) (numbers.stays plus a b A B w)) in
      let months : s.months ≡ months_of plus a b = omega (arith, low, high) in
      let reach = sym (shifts plus a b A B w p h s.months s.rest k.up_to).ms_is ∙ k.reach.ms_is in
      let rest : s.rest ≡ rest_of plus a b = left plus _ _ a A.from reach ∙ rw months in
      let e : make s.plus s.months s.rest ≡ make (leb b a) (months_of (leb b a) a b) (rest_of (leb b a) a b) = rw (months, rest, k.sign) in
      e
