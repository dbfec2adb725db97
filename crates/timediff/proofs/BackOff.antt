-- Rules' `back_off`: of n, n - 1, .. 0 the first that does not pass is the greatest that does not. Assumes nothing.
use Rattle.std.proofs.Common.{◌≡◌, refl, sym, ◌∙◌, true≢false}
use mathlib.Core.Bool.{Bool, true, false}
use Prim.Native.Nat.{ℕ, zero, suc, ◌-◌, ◌≤◌, ◌<◌}
use native.Mathlib.Omega.{arith}
use native.Mathlib.Decide.{dec_lt}
use Rattle.rules.specs.Writing.{back_off}

module _ (passes : ℕ → Bool) where
  -- one step, by the test
  step_on : (n : ℕ) → passes (suc n) ≡ true → back_off passes (suc n) ≡ back_off passes n
  unfolding back_off
  step_on n h = rw h

  step_stop : (n : ℕ) → passes (suc n) ≡ false → back_off passes (suc n) ≡ suc n
  unfolding back_off
  step_stop n h = rw h

  at_zero : back_off passes 0 ≡ 0
  unfolding back_off
  at_zero = refl

  -- the same as a loop meets it
  pub stops_at : (n : ℕ) → passes n ≡ false → back_off passes n ≡ n
  stops_at zero h = at_zero
  stops_at (suc n) h = step_stop n h

  pub goes_on : (n : ℕ) → passes 0 ≡ false → passes n ≡ true → (1 ≤ n) × (back_off passes (n - 1) ≡ back_off passes n)
  goes_on zero z h = absurd (true≢false (sym h ∙ z))
  goes_on (suc n) z h =
      let e : suc n - 1 ≡ n = omega arith in
      (omega arith, rw e (sym (step_on n h)))

  pub up_to : (n : ℕ) → back_off passes n ≤ n
  up_to zero = omega (arith, at_zero)
  up_to (suc n) = go (passes (suc n)) refl (up_to n)
    where
      go : (b : Bool) → passes (suc n) ≡ b → back_off passes n ≤ n → back_off passes (suc n) ≤ suc n
      go true h ih = omega (arith, step_on n h)
      go false h ih = omega (arith, step_stop n h)

  -- it does not pass, if 0 does not
  pub stays : (n : ℕ) → passes 0 ≡ false → passes (back_off passes n) ≡ false
  stays zero z = rw at_zero z
  stays (suc n) z = go (passes (suc n)) refl (stays n z)
    where
      go : (b : Bool) → passes (suc n) ≡ b → passes (back_off passes n) ≡ false → passes (back_off passes (suc n)) ≡ false
      go true h ih = rw (step_on n h) ih
      go false h ih = rw (step_stop n h) h

  -- all above it pass
  pub above : (n m : ℕ) → back_off passes n < m → m ≤ n → passes m ≡ true
  above zero m l h = absurd (omega arith)
  above (suc n) m l h = go (passes (suc n)) refl (above n m) (dec_lt n m)
    where
      go : (b : Bool) → passes (suc n) ≡ b → (back_off passes n < m → m ≤ n → passes m ≡ true) → Dec (n < m) → passes m ≡ true
      go false e ih d = absurd (omega (arith, step_stop n e))
      go true e ih (yes k) = let i : m ≡ suc n = omega arith in rw i e
      go true e ih (no k) = ih (omega (arith, step_on n e)) (omega (arith, k))

  -- so whatever does not pass is at most it
  pub greatest : (n m : ℕ) → m ≤ n → passes m ≡ false → m ≤ back_off passes n
  greatest n m h e = go (dec_lt (back_off passes n) m)
    where
      go : Dec (back_off passes n < m) → m ≤ back_off passes n
      go (yes l) = absurd (true≢false (sym (above n m l h) ∙ e))
      go (no l) = omega (arith, l)
