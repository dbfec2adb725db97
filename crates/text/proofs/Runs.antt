-- Runs of bytes that pass a test f: at the front of a text, and at its end. Assumes nothing.
use Prim.Native.Nat.{ℕ, suc, ◌+◌, ◌-◌, ◌≤◌, ◌<◌}
use Rattle.std.specs.Prelude.{if◌then◌else◌}
use mathlib.Core.Bool.{Bool, true, false, ◌&&◌}
use mathlib.Core.Path.{◌≡◌, refl, ap, sym, ◌∙◌}
use mathlib.Core.List.{List, [], ◌∷◌, ◌++◌}
use native.Mathlib.Numerals.{add-one}
use native.Mathlib.Omega.{arith}
use lib.ListN.{length, get_or, take, drop, drop_of_length-le, length-append, length-drop}
use lib.Seq.{drop-cons, take_all}
use Rattle.std.proofs.lemmas.List.{take_at, drop_at}
use Rattle.rules.specs.Basics.{every, skip, front, trim_end}
use Rattle.text.proofs.Tests.{and_true, and_false}

-- what `&s[from..]` holds
pub part_all : (s : List ℕ) (from : ℕ) → take (length s - from) (drop from s) ≡ drop from s
part_all s from = take_all (length s - from) (drop from s) (simp length-drop (omega arith))

module _ (f : ℕ → Bool) where
  -- ---- at the front
  module _ (s : List ℕ) (b : ℕ) (t : List ℕ) (h : s ≡ b ∷ t) where
    pub skip_on : f b ≡ true → skip f s ≡ skip f t
    unfolding skip
    skip_on e = rw (h, e)

    pub skip_stop : f b ≡ false → skip f s ≡ s
    unfolding skip
    skip_stop e = rw (h, e)

  pub skip_none : (s : List ℕ) → length s ≡ 0 → skip f s ≡ s
  unfolding skip
  skip_none [] h = refl
  skip_none (b ∷ s) h = absurd (omega arith)

  pub front-skip : (s : List ℕ) → front f s ++ skip f s ≡ s
  unfolding front skip
  front-skip [] = refl
  front-skip (b ∷ s) = go (f b) (front-skip s)
    where
      go : (t : Bool) → front f s ++ skip f s ≡ s → (if t then b ∷ front f s else []) ++ (if t then skip f s else b ∷ s) ≡ b ∷ s
      go true e = ap (λ (r : List ℕ). b ∷ r) e
      go false e = refl

  length_parts : (s : List ℕ) → length (front f s) + length (skip f s) ≡ length s
  length_parts s = sym (length-append (front f s) (skip f s)) ∙ ap length (front-skip s)

  pub skip_le : (s : List ℕ) → length (skip f s) ≤ length s
  skip_le s = omega (arith, length_parts s)

  pub take_front : (s : List ℕ) → take (length s - length (skip f s)) s ≡ front f s
  take_front s =
      let n : length (front f s) ≡ length s - length (skip f s) = omega (arith, length_parts s) in
      rw front-skip at (take_at (front f s) (skip f s) (length s - length (skip f s)) n)

  pub drop_front : (s : List ℕ) → drop (length (front f s)) s ≡ skip f s
  drop_front s = rw front-skip at (drop_at (front f s) (skip f s) (length (front f s)) refl)

  -- ---- at the end
  module _ (b : ℕ) where
    all_on : f b ≡ true → (l : List ℕ) → every f (l ++ b ∷ []) ≡ every f l
    unfolding every
    all_on h [] = rw h
    all_on h (x ∷ l) = rw (all_on h l)

    all_stop : f b ≡ false → (l : List ℕ) → every f (l ++ b ∷ []) ≡ false
    unfolding every
    all_stop h [] = rw h
    all_stop h (x ∷ l) = rw (all_stop h l) (and_false (f x))

    drop_last : f b ≡ true → (l : List ℕ) → trim_end f (l ++ b ∷ []) ≡ trim_end f l
    unfolding every trim_end
    drop_last h [] = rw h
    drop_last h (x ∷ l) = rw (all_on h l, drop_last h l)

    keep_last : f b ≡ false → (l : List ℕ) → trim_end f (l ++ b ∷ []) ≡ l ++ b ∷ []
    unfolding trim_end
    keep_last h [] = rw (all_stop h [])
    keep_last h (x ∷ l) = rw (all_stop h (x ∷ l), keep_last h l)

  module _ (s : List ℕ) (b : ℕ) (t : List ℕ) (h : s ≡ t ++ b ∷ []) where
    pub trim_on : f b ≡ true → trim_end f s ≡ trim_end f t
    trim_on e = rw h (drop_last b e t)

    pub trim_stop : f b ≡ false → trim_end f s ≡ s
    trim_stop e = rw h (keep_last b e t)

  pub trim_none : (s : List ℕ) → length s ≡ 0 → trim_end f s ≡ s
  unfolding trim_end
  trim_none [] h = refl
  trim_none (b ∷ s) h = absurd (omega arith)

  -- ---- an answer for all bytes, found at one place after another
  module _ (s : List ℕ) (i : ℕ) (a : Bool) (e : every f s ≡ (a && every f (drop i s))) where
    pub every_past : length s ≤ i → every f s ≡ a
    unfolding every
    every_past h = e ∙ rw (drop_of_length-le s h) (and_true a)

    pub every_on : i < length s → every f s ≡ ((a && f (get_or s i 0)) && every f (drop (i + 1) s))
    unfolding every
    every_on h = e ∙ rw (add-one, drop-cons s i 0 h) (go a (f (get_or s i 0)) (every f (drop (suc i) s)))
      where
        go : (a b c : Bool) → (a && (b && c)) ≡ ((a && b) && c)
        go true b c = refl
        go false b c = refl
