-- What the three loops over a format know of its rest: a bound of what was passed, its length, or that it is written. Assumes nothing.
use Prim.Native.Nat.{ℕ, ◌+◌, ◌-◌, ◌*◌, ◌≤◌}
use mathlib.Core.Path.{◌≡◌, refl, sym, ap, subst, ◌∙◌}
use mathlib.Core.List.{List, [], ◌∷◌, ◌++◌}
use native.Mathlib.Omega.{arith}
use lib.ListN.{length, length-append}
use Rattle.std.specs.Prelude.{Ok, Err}
use Rattle.rules.specs.Basics.{Read, got, other, refuse}
use Rattle.rules.specs.Moments.{Moment}
use Rattle.rules.specs.Writing.{letter, formatted}
use Rattle.rules.specs.declared.Refusal.{Refusal}
use Rattle.digits.specs.Writers.{Room, Laid}
use Rattle.digits.proofs.Buffer.{room_as, room_first, room_then, laid_then}
use Rattle.writing.specs.Formats.{text_of, IsText, PutIs, CheckIs, most, most_of}
use Rattle.writing.proofs.Formats.{Passed, passed_none, passed_plain, passed_letter, passed_refused, passed_last, passed_end, letter_text_lem, after_letter, after_plain}
use Rattle.writing.proofs.Bounds.{bound_byte, bound_pair, bound_few}

-- ---- check
record Most (r : Read (List ℕ)) (bound n : ℕ) : Type 0 where
  text : IsText r
  short : length (text_of r) ≤ n
  exact : n ≡ bound

a_most : (r : Read (List ℕ)) (bound n : ℕ) → CheckIs r bound (Ok n) → Most r bound n
a_most (got s) bound n h = record { text = refl; short = h.0; exact = h.1 }
a_most other bound n h = absurd h
a_most (refuse x) bound n h = absurd h

a_refusal : (r : Read (List ℕ)) (bound : ℕ) (x : Refusal) → CheckIs r bound (Err x) → r ≡ refuse x
a_refusal (got s) bound x h = absurd h
a_refusal other bound x h = absurd h
a_refusal (refuse y) bound x h = ap refuse (sym h)

pub record Bounded (p : Moment) (f rest : List ℕ) (sum : ℕ) : Type 0 where
  pub done : List ℕ
  pub passed : Passed p f rest done
  pub short : length done ≤ sum
  pub exact : most_of f ≡ sum + most_of rest

-- so the sum fits, as the whole bound does
pub bounded_fits : {p : Moment} {f rest : List ℕ} {sum : ℕ} → Bounded p f rest sum → sum ≤ 17 * length f
bounded_fits {p} {f} so = omega (arith, so.exact, bound_few f)

pub bounded_plain : {p : Moment} {f s : List ℕ} {b sum : ℕ} → (b ≡ 37 → ⊥) → Bounded p f (b ∷ s) sum → Bounded p f s (sum + 1)
bounded_plain {p} {f} {s} {b} {sum} n so = record {
  done = so.done ++ (b ∷ []);
  passed = passed_plain n so.passed;
  short = omega (arith, length-append so.done (b ∷ []), so.short);
  exact = omega (arith, so.exact, bound_byte b s n);
}

module _ {p : Moment} {f s : List ℕ} {b c sum : ℕ} (e : b ≡ 37) (so : Bounded p f (b ∷ c ∷ s) sum) where
  pub bounded_letter : (n : ℕ) → CheckIs (letter c p) (most c) (Ok n) → Bounded p f s (sum + n)
  bounded_letter n h =
      let m = a_most (letter c p) (most c) n h in
      record {
        done = so.done ++ text_of (letter c p);
        passed = passed_letter e so.passed m.text;
        short = omega (arith, length-append so.done (text_of (letter c p)), so.short, m.short);
        exact = omega (arith, so.exact, m.exact, bound_pair b c s e);
      }

  pub bounded_refused : (x : Refusal) (bound : ℕ) → CheckIs (letter c p) (most c) (Err x) → CheckIs (formatted p f) bound (Err x)
  bounded_refused x bound h = rw (passed_refused e so.passed (a_refusal (letter c p) (most c) x h)) refl

pub bounded_last : {p : Moment} {f : List ℕ} {b sum : ℕ} (bound : ℕ) → b ≡ 37 → Bounded p f (b ∷ []) sum → CheckIs (formatted p f) bound (Err Refusal.Null)
bounded_last bound e so = rw (passed_last e so.passed) refl

pub bounded_end : {p : Moment} {f : List ℕ} {sum : ℕ} → Bounded p f [] sum → CheckIs (formatted p f) (most_of f) (Ok sum)
unfolding most_of
bounded_end so = rw (passed_end so.passed) (so.short, omega (arith, so.exact))

-- the bound as the loop holds it, with one for each byte that is left
pub record Summed (p : Moment) (f rest : List ℕ) (bound : ℕ) : Type 0 where
  pub sum : ℕ
  pub so : Bounded p f rest sum
  pub is : bound ≡ sum + length rest
  pub left : length rest ≤ length f

pub summed_none : {p : Moment} {f : List ℕ} → Summed p f f (length f)
summed_none {p} {f} = record { sum = 0; so = record { done = []; passed = passed_none; short = omega arith; exact = omega arith }; is = omega arith; left = omega arith }

pub summed_fits : {p : Moment} {f rest : List ℕ} {bound : ℕ} → Summed p f rest bound → bound ≤ 18 * length f
summed_fits h = omega (arith, bounded_fits h.so, h.is, h.left)

pub summed_plain : {p : Moment} {f s : List ℕ} {b bound : ℕ} → (b ≡ 37 → ⊥) → Summed p f (b ∷ s) bound → Summed p f s bound
summed_plain n h = record { sum = h.sum + 1; so = bounded_plain n h.so; is = omega (arith, h.is); left = omega (arith, h.left) }

module _ {p : Moment} {f s : List ℕ} {b c bound : ℕ} (h : Summed p f (b ∷ c ∷ s) bound) where
  pub summed_two : 2 ≤ bound
  summed_two = omega (arith, h.is)

  pub summed_letter : b ≡ 37 → (n : ℕ) → CheckIs (letter c p) (most c) (Ok n) → Summed p f s (bound - 2 + n)
  summed_letter e n k = record { sum = h.sum + n; so = bounded_letter e h.so n k; is = omega (arith, h.is); left = omega (arith, h.left) }

pub summed_end : {p : Moment} {f : List ℕ} {bound : ℕ} → Summed p f [] bound → CheckIs (formatted p f) (most_of f) (Ok bound)
summed_end {p} {f} {bound} h =
    let e : h.sum ≡ bound = omega (arith, h.is) in
    subst (λ (n : ℕ). CheckIs (formatted p f) (most_of f) (Ok n)) e (bounded_end h.so)

-- ---- format_length
pub record Counted (p : Moment) (f rest : List ℕ) (n : ℕ) : Type 0 where
  pub done : List ℕ
  pub passed : Passed p f rest done
  pub exact : n ≡ length done
  pub few : n + 17 * length rest ≤ 17 * length f

pub counted_plain : {p : Moment} {f s : List ℕ} {b n : ℕ} → (b ≡ 37 → ⊥) → Counted p f (b ∷ s) n → Counted p f s (n + 1)
counted_plain {p} {f} {s} {b} {n} k so = record {
  done = so.done ++ (b ∷ []);
  passed = passed_plain k so.passed;
  exact = omega (arith, length-append so.done (b ∷ []), so.exact);
  few = omega (arith, so.few);
}

pub counted_letter : {p : Moment} {f s : List ℕ} {b c n m : ℕ} → IsText (formatted p f) → b ≡ 37 → Counted p f (b ∷ c ∷ s) n → m ≡ length (text_of (letter c p)) → m ≤ 17 → Counted p f s (n + m)
counted_letter {p} {f} {s} {b} {c} {n} {m} text e so l few = record {
  done = so.done ++ text_of (letter c p);
  passed = passed_letter e so.passed (letter_text_lem text e so.passed);
  exact = omega (arith, length-append so.done (text_of (letter c p)), so.exact);
  few = omega (arith, so.few);
}

pub counted_end : {p : Moment} {f : List ℕ} {n : ℕ} → Counted p f [] n → n ≡ length (text_of (formatted p f))
counted_end so = so.exact ∙ sym (ap (λ (r : Read (List ℕ)). length (text_of r)) (passed_end so.passed))

-- ---- put_format
pub record Written (p : Moment) (f old : List ℕ) (at : ℕ) (rest new : List ℕ) (next : ℕ) : Type 0 where
  pub done : List ℕ
  pub passed : Passed p f rest done
  pub laid : Laid old at done new next

module _ {p : Moment} {f old : List ℕ} {at : ℕ} {s new : List ℕ} {b next : ℕ} (n : b ≡ 37 → ⊥) (so : Written p f old at (b ∷ s) new next) where
  pub room_plain : IsText (formatted p f) → Room old at (text_of (formatted p f)) → Room new next (b ∷ [])
  room_plain text room = room_first (b ∷ []) _ (room_then so.laid (room_as (after_plain text n so.passed) room))

  pub written_plain : {new' : List ℕ} {o : ℕ} → Laid new next (b ∷ []) new' o → Written p f old at s new' o
  written_plain l = record { done = so.done ++ (b ∷ []); passed = passed_plain n so.passed; laid = laid_then so.laid l }

module _ {p : Moment} {f old : List ℕ} {at : ℕ} {s new : List ℕ} {b c next : ℕ} (text : IsText (formatted p f)) (e : b ≡ 37) (so : Written p f old at (b ∷ c ∷ s) new next) where
  pub room_letter : Room old at (text_of (formatted p f)) → Room new next (text_of (letter c p))
  room_letter room = room_first _ _ (room_then so.laid (room_as (after_letter text e so.passed) room))

  pub written_laid : (new' : List ℕ) (o : ℕ) → Laid new next (text_of (letter c p)) new' o → Written p f old at s new' o
  written_laid new' o l = record { done = so.done ++ text_of (letter c p); passed = passed_letter e so.passed (letter_text_lem text e so.passed); laid = laid_then so.laid l }

  pub written_letter : (new' : List ℕ) (o : ℕ) → PutIs (letter c p) new next new' (Ok o) → Written p f old at s new' o
  written_letter new' o l = written_laid new' o (rw (letter_text_lem text e so.passed) at l)

  -- a letter is not refused where there is a text
  pub written_refused : (new' : List ℕ) (x : Refusal) → PutIs (letter c p) new next new' (Err x) → ⊥
  written_refused new' x l = rw (letter_text_lem text e so.passed) at l

pub written_end : {p : Moment} {f old : List ℕ} {at : ℕ} {new : List ℕ} {next : ℕ} → Written p f old at [] new next → PutIs (formatted p f) old at new (Ok next)
written_end so = rw (passed_end so.passed) so.laid
