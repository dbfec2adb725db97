-- Texts laid one after another. Assumes nothing.
use Prim.Native.Nat.{ℕ, suc, ◌+◌, ◌≤◌}
use mathlib.Core.Path.{◌≡◌, refl, sym, ap, ◌∙◌}
use mathlib.Core.List.{List, [], ◌∷◌, ◌++◌, append_assoc}
use mathlib.Core.Logic.{◌≢◌}
use native.Mathlib.Omega.{arith}
use native.Mathlib.Nat.{add-zero, add_assoc}
use borrow.Rule.Slice.PartMut.{put_mid}
use lib.ListN.{length, take, drop, set, length-append}
use lib.Seq.{drop-drop, sets, sets-eq, length-sets, set_comm}
use Rattle.digits.specs.Writers.{Room, Laid}

pub sets_append : (l : List ℕ) (i : ℕ) (xs ys : List ℕ) → sets (sets l i xs) (i + length xs) ys ≡ sets l i (xs ++ ys)
sets_append l i [] ys = rw add-zero
sets_append l i (x ∷ xs) ys = let e : i + suc (length xs) ≡ suc i + length xs = omega arith in rw e (sets_append (set l i x) (suc i) xs ys)

-- a byte, before what stands in front of it
pub sets_before : (l : List ℕ) (i : ℕ) (xs : List ℕ) (a : ℕ) → sets (set l (i + length xs) a) i xs ≡ sets l i (xs ++ (a ∷ []))
sets_before l i [] a = rw add-zero
sets_before l i (x ∷ xs) a =
    let e : i + suc (length xs) ≡ suc i + length xs = omega arith in
    let later : suc i + length xs ≢ i = omega arith in
    rw (e, set_comm l (suc i + length xs) i a x later) (sets_before (set l i x) (suc i) xs a)

-- two texts in a row
pub laid_then : {a b c xs ys : List ℕ} {at o r : ℕ} → Laid a at xs b o → Laid b o ys c r → Laid a at (xs ++ ys) c r
laid_then {a} {b} {c} {xs} {ys} {at} {o} {r} p q = record {
  place = q.place ∙ ap (λ (k : ℕ). k + length ys) p.place ∙ add_assoc at (length xs) (length ys) ∙ ap (λ (k : ℕ). at + k) (sym (length-append xs ys));
  bytes = q.bytes ∙ ap (λ (k : ℕ). sets b k ys) p.place ∙ ap (λ (l : List ℕ). sets l (at + length xs) ys) p.bytes ∙ sets_append a at xs ys;
}

pub laid_length : {a b xs : List ℕ} {at o : ℕ} → Laid a at xs b o → length b ≡ length a
laid_length {a} {b} {xs} {at} l = ap length l.bytes ∙ length-sets a at xs

-- room for two texts is room for the first, and for the second after it
pub room_first : {a : List ℕ} {at : ℕ} (xs ys : List ℕ) → Room a at (xs ++ ys) → Room a at xs
room_first xs ys h = record { fits = omega (arith, h.fits, length-append xs ys) }

pub room_then : {a b xs ys : List ℕ} {at o : ℕ} → Laid a at xs b o → Room a at (xs ++ ys) → Room b o ys
room_then {a} {b} {xs} {ys} {at} l h = record { fits = omega (arith, h.fits, l.place, length-append xs ys, laid_length l) }

-- a text by another name
pub laid_as : {a b xs ys : List ℕ} {at r : ℕ} → xs ≡ ys → Laid a at xs b r → Laid a at ys b r
laid_as e l = rw e at l

pub room_as : {a xs ys : List ℕ} {at : ℕ} → xs ≡ ys → Room a at xs → Room a at ys
room_as e h = rw e at h

-- a text that is copied there
pub laid_copy : (l : List ℕ) (at k : ℕ) (s new : List ℕ) → k ≡ length s → at + length s ≤ length l → new ≡ s → Laid l at s (put_mid at k l new) (at + length s)
laid_copy l at k s new n h e = record {
  place = refl;
  bytes = rw (e, n, drop-drop (length s) at l, ← append_assoc (take at l) s (drop (at + length s) l)) (sym (sets-eq s l at h));
}
