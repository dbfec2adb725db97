-- A text in two at its first byte b. Assumes nothing.
use Prim.Native.Nat.{ℕ, suc, ◌+◌, ◌-◌, ◌<◌}
use mathlib.Core.Bool.{Bool, true, false, not}
use mathlib.Core.Path.{◌≡◌, refl, ap, sym, ◌∙◌}
use mathlib.Core.List.{List, [], ◌∷◌, ◌++◌}
use native.Mathlib.Numerals.{add-one}
use native.Mathlib.Omega.{arith}
use borrow.Author.Tests.{eqb-true, eq-eqb, ltb-false, not-true}
use lib.Dec.{eqb}
use lib.ListN.{length, get_or, take, drop, length-drop, length-append}
use lib.Seq.{drop-cons, take_all}
use Rattle.std.specs.Prelude.{Option, Some, None, nat_lt}
use Rattle.std.specs.List.{position, position_or_len}
use Rattle.std.proofs.lemmas.List.{take-append-drop, get_or-take, length-take}
use Rattle.std.proofs.lemmas.List.Quantifiers.{position-Some}
use Rattle.std.proofs.lemmas.List.Sums.{fails_before_first}
use Rattle.rules.specs.Basics.{every, parts}
use Rattle.text.specs.Places.{IsCut}
use Rattle.text.proofs.Tests.{and_left, and_right}

all_pass : (f : ℕ → Bool) (l : List ℕ) → ((k : ℕ) → k < length l → f (get_or l k 0) ≡ true) → every f l ≡ true
unfolding every
all_pass f [] h = refl
all_pass f (x ∷ l) h = rw (h 0 (omega arith)) (all_pass f l (λ k p. h (suc k) (omega arith)))

some_none : {A : Type 0} {x : A} → Some x ≡ None → ⊥
some_none e = cc

pub found : (b i : ℕ) (s : List ℕ) → position (λ x. eqb x b) s ≡ Some i → IsCut b s (take i s) (Some (take (length s - (i + 1)) (drop (i + 1) s)))
found b i s e =
    let at = position-Some (λ (x : ℕ). eqb x b) s i 0 e in
    let h : i < length s = at.0 in
    let k : get_or s i 0 ≡ b = eqb-true _ _ at.1 in
    let all : take (length s - (i + 1)) (drop (i + 1) s) ≡ drop (suc i) s = rw add-one (take_all (length s - suc i) (drop (suc i) s) (simp length-drop (omega arith))) in
    let c : drop i s ≡ b ∷ take (length s - (i + 1)) (drop (i + 1) s) = drop-cons s i 0 h ∙ cc in
    record {
      whole = sym (take-append-drop i s) ∙ ap (λ (r : List ℕ). take i s ++ r) c;
      clear = all_pass (λ x. not (eqb x b)) (take i s) (λ j p. let l : j < i = omega (arith, length-take i s) in rw (get_or-take i s j 0 l, at.2 j l));
    }

pub none : (b : ℕ) (s : List ℕ) → position (λ x. eqb x b) s ≡ None → IsCut b s s None
none b s e = go (nat_lt (position_or_len (λ x. eqb x b) s) (length s)) refl
  where
    go : (t : Bool) → nat_lt (position_or_len (λ x. eqb x b) s) (length s) ≡ t → IsCut b s s None
    go true h = absurd (some_none (rw h at e))
    go false h = record { whole = refl; clear = all_pass (λ x. not (eqb x b)) s (λ k p. let l : k < position_or_len (λ x. eqb x b) s = omega (arith, ltb-false _ _ h) in rw (fails_before_first (λ (x : ℕ). eqb x b) s k 0 l)) }

-- ---- what a caller asks of it
pub cut_length : {b : ℕ} {s front rest : List ℕ} → IsCut b s front (Some rest) → length s ≡ length front + suc (length rest)
cut_length {b} {s} {front} {rest} p = ap length p.whole ∙ length-append front (b ∷ rest)

module _ (b : ℕ) where
  abbrev stop : ℕ → Bool
  stop x = eqb x b

  parts_alone : (s : List ℕ) → every (λ x. not (eqb x b)) s ≡ true → parts stop s ≡ s ∷ []
  unfolding parts every
  parts_alone [] h = refl
  parts_alone (x ∷ s) h = rw (not-true (stop x) (and_left (not (stop x)) (every (λ x. not (eqb x b)) s) h), parts_alone s (and_right (not (stop x)) (every (λ x. not (eqb x b)) s) h))

  parts_two : (s t : List ℕ) → every (λ x. not (eqb x b)) s ≡ true → parts stop (s ++ b ∷ t) ≡ s ∷ parts stop t
  unfolding parts every
  parts_two [] t h = rw (eq-eqb b b refl)
  parts_two (x ∷ s) t h = rw (not-true (stop x) (and_left (not (stop x)) (every (λ x. not (eqb x b)) s) h), parts_two s t (and_right (not (stop x)) (every (λ x. not (eqb x b)) s) h))

  abbrev pub parts_of : Option (List ℕ) → List (List ℕ)
  parts_of (Some rest) = parts stop rest
  parts_of None = []

  -- the first part stands before the byte, and the others are those of what follows it
  pub parts_cut : (s front : List ℕ) (rest : Option (List ℕ)) → IsCut b s front rest → parts stop s ≡ front ∷ parts_of rest
  parts_cut s front (Some rest) p = rw p.whole (parts_two front rest p.clear)
  parts_cut s front None p = rw p.whole (parts_alone front p.clear)
