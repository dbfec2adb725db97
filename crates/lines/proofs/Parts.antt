-- Fields, one after another. Assumes nothing.
use Prim.Native.Nat.{ℕ, suc, ◌+◌, ◌≤◌, ◌<◌}
use Rattle.std.specs.Prelude.{if◌then◌else◌, Option, Some, None}
use Rattle.std.specs.List.{list_any}
use mathlib.Core.Bool.{Bool, true, false, not, ◌&&◌, ◌||◌}
use mathlib.Core.Path.{◌≡◌, refl, sym, ap, ◌∙◌}
use mathlib.Core.List.{List, [], ◌∷◌, ◌++◌, map}
use native.Mathlib.Nat.{zero-add}
use native.Mathlib.Omega.{arith}
use lib.Dec.{eqb}
use lib.ListN.{length, get_or, set, take, length-append, length-map}
use lib.Seq.{sets, take_all}
use Rattle.std.proofs.lemmas.List.{take_more, map-append, length-take}
use Rattle.digits.specs.Writers.{Laid}
use Rattle.digits.proofs.Buffer.{sets_append}
use Rattle.rules.specs.Basics.{every, parts, on_first}
use Rattle.rules.specs.Program.{buffered}
use Rattle.text.specs.Places.{IsCut}
use Rattle.text.proofs.Cuts.{parts_cut, cut_length}
use Rattle.lines.specs.Fields.{is_tab, fields_of, following}

-- ---- the first field stands before the next tab, and the others are those of what follows it
pub cut_fields : (s front : List ℕ) (rest : Option (List ℕ)) → IsCut 9 s front rest → parts is_tab s ≡ front ∷ fields_of rest
cut_fields s front (Some rest) p = parts_cut 9 s front (Some rest) p
cut_fields s front None p = parts_cut 9 s front None p

pub cut_following : (s front : List ℕ) (rest : Option (List ℕ)) → IsCut 9 s front rest → following rest ≤ suc (length s)
cut_following s front (Some rest) p = omega (arith, cut_length p)
cut_following s front None p = omega arith

-- there is a first field
pub record Parted (ss : List (List ℕ)) : Type 0 where
  pub first : List ℕ
  pub others : List (List ℕ)
  pub is : ss ≡ first ∷ others

pub parts_some : (l : List ℕ) → Parted (parts is_tab l)
unfolding parts
parts_some [] = record { first = []; others = []; is = refl }
parts_some (b ∷ l) = go (is_tab b) (parts is_tab l) (parts_some l)
  where
    go : (t : Bool) (ss : List (List ℕ)) → Parted ss → Parted (if t then [] ∷ ss else on_first b ss)
    go true ss p = record { first = []; others = ss; is = refl }
    go false ss p = record { first = b ∷ p.first; others = p.others; is = rw p.is }

-- ---- no zero byte
pub no_zero : (s : List ℕ) → not (list_any (λ b. eqb b 0) s) ≡ every (λ b. not (eqb b 0)) s
unfolding every
no_zero [] = refl
no_zero (b ∷ s) = go (eqb b 0) (no_zero s)
  where
    go : (t : Bool) → not (list_any (λ b. eqb b 0) s) ≡ every (λ b. not (eqb b 0)) s → not (t || list_any (λ b. eqb b 0) s) ≡ (not t && every (λ b. not (eqb b 0)) s)
    go true e = refl
    go false e = e

-- ---- the modifiers' buffer: each tab is a zero byte there, and one more ends the last
abbrev pub zeroed : ℕ → ℕ
zeroed b = if is_tab b then 0 else b

pub buffered_is : (l : List ℕ) → buffered (parts is_tab l) ≡ map zeroed l ++ (0 ∷ [])
unfolding buffered parts
buffered_is [] = refl
buffered_is (b ∷ l) = go (is_tab b) (parts is_tab l) (parts_some l) (buffered_is l)
  where
    go : (t : Bool) (ss : List (List ℕ)) → Parted ss → buffered ss ≡ map zeroed l ++ (0 ∷ []) → buffered (if t then [] ∷ ss else on_first b ss) ≡ (if t then 0 else b) ∷ (map zeroed l ++ (0 ∷ []))
    go true ss p e = ap (λ (m : List ℕ). 0 ∷ m) e
    go false ss p e = rw p.is (ap (λ (m : List ℕ). b ∷ m) (rw p.is at e))

pub length_buffered : (l : List ℕ) → length (buffered (parts is_tab l)) ≡ length l + 1
length_buffered l = omega (arith, ap length (buffered_is l), length-append (map zeroed l) (0 ∷ []), length-map l zeroed)

-- laid byte by byte
pub lay_on : (room s : List ℕ) (i b : ℕ) → i < length s → b ≡ zeroed (get_or s i 0) → set (sets room 0 (map zeroed (take i s))) i b ≡ sets room 0 (map zeroed (take (i + 1) s))
lay_on room s i b h e =
    let n : length (map zeroed (take i s)) ≡ i = omega (arith, length-map (take i s) zeroed, length-take i s) in
    rw (take_more s i 0 h, map-append zeroed (take i s) (get_or s i 0 ∷ []), ← sets_append room 0 (map zeroed (take i s)) (zeroed (get_or s i 0) ∷ []), n, zero-add i, ← e) refl

lay_end : (room s : List ℕ) → set (sets room 0 (map zeroed s)) (length s) 0 ≡ sets room 0 (buffered (parts is_tab s))
lay_end room s = rw (buffered_is s, ← sets_append room 0 (map zeroed s) (0 ∷ []), length-map s zeroed, zero-add (length s)) refl

pub lay_all : (room s : List ℕ) (i : ℕ) → length s ≤ i → Laid room 0 (buffered (parts is_tab s)) (set (sets room 0 (map zeroed (take i s))) (length s) 0) (length s + 1)
lay_all room s i h = rw (take_all i s h) (record { place = sym (zero-add _ ∙ length_buffered s); bytes = lay_end room s })
