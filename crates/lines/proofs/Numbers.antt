-- Digits alone whose number has a limit, one after another, and the first line's two fields. Assumes nothing.
use Prim.Native.Nat.{ℕ, zero, suc, ◌+◌, ◌-◌, ◌*◌, ◌≤◌, ◌<◌}
use mathlib.Core.Bool.{Bool, true, false, not, ◌||◌}
use mathlib.Core.Path.{◌≡◌, refl, sym, ap, ◌∙◌}
use mathlib.Core.List.{List, [], ◌∷◌}
use native.Mathlib.Numerals.{add-one}
use native.Mathlib.Omega.{arith}
use borrow.Author.Tests.{le-leb, lt-leb, leb-true, leb-false, le-ltb, lt-ltb, eqb-true}
use lib.Dec.{eqb, ltb, leb}
use lib.IntN.{ℤ, pos, neg_ℤ}
use lib.ListN.{length, get_or, drop}
use lib.Seq.{drop-cons}
use Rattle.std.specs.Prelude.{Option, Some}
use Rattle.rules.specs.Basics.{is_digit, Read, got, other, refuse, ◌>>=◌, ◌or◌, only_if, ended, byte}
use Rattle.rules.specs.Calls.{far_off, bad_setting}
use Rattle.rules.specs.Decimal.{run, value, some}
use Rattle.rules.specs.Program.{digits_all, signed_all, two_fields, first_line}
use Rattle.rules.specs.declared.Setting.{Setting}
use Rattle.text.specs.Places.{after_byte, IsCut}
use Rattle.text.proofs.Numbers.{run_on, run_stop}
use Rattle.text.proofs.Reading.{byte_after}
use Rattle.lines.specs.Fields.{fields_of}
use Rattle.lines.specs.First.{up_to, near}
use Rattle.lines.proofs.Parts.{cut_fields, parts_some}

-- a number that must be at most `most`
abbrev limit : ℕ → ℕ → Read ℕ
limit most n = only_if (leb n most) n

-- what digits are still to come, after those whose number is v
abbrev pub on_from : ℕ → ℕ → List ℕ → Read ℕ
on_from most v l = ◌>>=◌ (ended (run l).1 (value v (run l).0)) (limit most)

pub number_none : (most : ℕ) (s : List ℕ) → length s ≡ 0 → up_to most s ≡ other
unfolding digits_all run
number_none most [] h = refl
number_none most (b ∷ s) h = absurd (omega arith)

pub number_start : (most : ℕ) (s : List ℕ) → (length s ≡ 0 → ⊥) → up_to most s ≡ on_from most 0 s
unfolding digits_all
number_start most [] h = absurd (h refl)
number_start most (b ∷ s) h = go (is_digit b) refl
  where
    go : (t : Bool) → is_digit b ≡ t → up_to most (b ∷ s) ≡ on_from most 0 (b ∷ s)
    go true e = rw (run_on (b ∷ s) b s refl e)
    go false e = rw (run_stop (b ∷ s) b s refl e)

module _ (most v : ℕ) (s : List ℕ) (i : ℕ) (h : i < length s) where
  here : drop i s ≡ get_or s i 0 ∷ drop (i + 1) s
  here = rw add-one (drop-cons s i 0 h)

  pub number_on : (d : ℕ) → is_digit (get_or s i 0) ≡ true → d ≡ get_or s i 0 - 48 → on_from most v (drop i s) ≡ on_from most (v * 10 + d) (drop (i + 1) s)
  unfolding value
  number_on d e k = rw (run_on _ _ _ here e, k)

  pub number_stop : is_digit (get_or s i 0) ≡ false → on_from most v (drop i s) ≡ other
  number_stop e = rw (run_stop _ _ _ here e, here)

value_more : (v : ℕ) (ds : List ℕ) → v ≤ value v ds
unfolding value
value_more v [] = omega arith
value_more v (d ∷ ds) = omega (arith, value_more (v * 10 + d) ds)

pub number_over : (most v : ℕ) (l : List ℕ) → most < v → on_from most v l ≡ other
number_over most v l h = go (run l).1
  where
    go : (r : List ℕ) → ◌>>=◌ (ended r (value v (run l).0)) (limit most) ≡ other
    go [] = rw (lt-leb (value v (run l).0) most (omega (arith, value_more v (run l).0)))
    go (b ∷ r) = refl

pub number_end : (most v : ℕ) → v ≤ most → on_from most v [] ≡ got v
unfolding run value
number_end most v k = rw (le-leb v most k)

-- ---- an offset
-- over a limit, and not
over_is : (most n : ℕ) → ltb most n ≡ not (leb n most)
over_is most n = go (leb n most) refl
  where
    go : (t : Bool) → leb n most ≡ t → ltb most n ≡ not t
    go true e = le-ltb most n (leb-true n most e)
    go false e = lt-ltb most n (leb-false n most e)

far_west : (n : ℕ) → far_off (neg_ℤ (pos n)) ≡ ltb 86399 n
far_west zero = refl
far_west (suc n) = refl

abbrev east : ℕ → Read ℤ
east n = got (pos n)

abbrev west : ℕ → Read ℤ
west n = got (neg_ℤ (pos n))

abbrev close : ℤ → Read ℤ
close z = only_if (not (far_off z)) z

-- a minus is no digit
minus_none : (l : List ℕ) → digits_all (45 ∷ l) ≡ other
unfolding digits_all run
minus_none l = refl

minus_first : (s w : List ℕ) → after_byte 45 s ≡ got w → s ≡ 45 ∷ w
minus_first [] w h = absurd (let z : ◌≡◌ {A = ℕ} 0 1 = cc in omega arith)
minus_first (b ∷ s) w h = go (eqb 45 b) (eqb-true 45 b) h
  where
    go : (t : Bool) → (t ≡ true → 45 ≡ b) → only_if t s ≡ got w → b ∷ s ≡ 45 ∷ w
    go true e h = cc (e refl)
    go false e h = absurd (let z : ◌≡◌ {A = ℕ} 0 1 = cc in omega arith)

pub near_west : (s w : List ℕ) → got w ≡ after_byte 45 s → near s ≡ ◌>>=◌ (up_to 86399 w) west
unfolding signed_all
near_west s w h = rw (minus_first s w (sym h), minus_none w) (go (digits_all w))
  where
    go : (r : Read ℕ) → ◌>>=◌ (◌>>=◌ r west) close ≡ ◌>>=◌ (◌>>=◌ r (limit 86399)) west
    go (got n) = rw (far_west n, over_is 86399 n) (pick (leb n 86399))
      where
        pick : (t : Bool) → only_if (not (not t)) (neg_ℤ (pos n)) ≡ ◌>>=◌ (only_if t n) west
        pick true = refl
        pick false = refl
    go other = refl
    go (refuse x) = refl

pub near_east : (s : List ℕ) → other ≡ after_byte 45 s → near s ≡ ◌>>=◌ (up_to 86399 s) east
unfolding signed_all
near_east s h = rw (byte_after "-" s ∙ sym h) (go (digits_all s))
  where
    go : (r : Read ℕ) → ◌>>=◌ (◌>>=◌ r east or other) close ≡ ◌>>=◌ (◌>>=◌ r (limit 86399)) east
    go (got n) = rw (over_is 86399 n) (pick (leb n 86399))
      where
        pick : (t : Bool) → only_if (not (not t)) (pos n) ≡ ◌>>=◌ (only_if t n) east
        pick true = refl
        pick false = refl
    go other = refl
    go (refuse x) = refl

-- ---- no first line is refused by another number than 4
abbrev Sure : {A : Type 0} → Read A → Type 0
Sure (got a) = Unit
Sure other = Unit
Sure (refuse x) = ⊥

sure_digits : (s : List ℕ) → Sure (digits_all s)
unfolding digits_all
sure_digits s = go (run s).0 (run s).1
  where
    go : (ds r : List ℕ) → Sure (◌>>=◌ (some ds) (λ ds. ended r (value 0 ds)))
    go [] r = tt
    go (d ∷ ds) [] = tt
    go (d ∷ ds) (b ∷ r) = tt

sure_byte : (s : List ℕ) → Sure (byte "-" s)
sure_byte [] = tt
sure_byte (b ∷ s) = go (eqb 45 b)
  where
    go : (t : Bool) → Sure (only_if t s)
    go true = tt
    go false = tt

sure_signed : (s : List ℕ) → Sure (signed_all s)
unfolding signed_all
sure_signed s = go (digits_all s) (sure_digits s) (byte "-" s) (sure_byte s)
  where
    after : (r : Read ℕ) → Sure r → Sure (◌>>=◌ r west)
    after (got n) u = tt
    after other u = tt
    after (refuse x) u = u

    front : (q : Read (List ℕ)) → Sure q → Sure (◌>>=◌ q (λ s. ◌>>=◌ (digits_all s) west))
    front (got s) u = after (digits_all s) (sure_digits s)
    front other u = tt
    front (refuse x) u = u

    go : (r : Read ℕ) → Sure r → (q : Read (List ℕ)) → Sure q → Sure (◌>>=◌ r east or ◌>>=◌ q (λ s. ◌>>=◌ (digits_all s) west))
    go (got n) u q k = tt
    go other u q k = front q k
    go (refuse x) u q k = u

-- ---- the two fields
pub two_fields_lem : (c o : List ℕ) → two_fields (c ∷ o ∷ []) ≡ ◌>>=◌ (up_to 253402300799999 c) (λ k. ◌>>=◌ (near o) (λ z. got (record { clock = k; offset = z })))
unfolding bad_setting
two_fields_lem c o = go (digits_all c) (signed_all o) (sure_signed o)
  where
    pick : (k : ℕ) (z : ℤ) (t u : Bool) → only_if {A = Setting} (not (not t || u)) (record { clock = k; offset = z }) ≡ ◌>>=◌ (only_if t k) (λ k. ◌>>=◌ (only_if (not u) z) (λ z. got (record { clock = k; offset = z })))
    pick k z true true = refl
    pick k z true false = refl
    pick k z false u = refl

    none : (k : ℕ) (t : Bool) → ◌≡◌ {A = Read Setting} other (◌>>=◌ (only_if t k) (λ k. other))
    none k true = refl
    none k false = refl

    go : (p : Read ℕ) (q : Read ℤ) → Sure q → ◌>>=◌ p (λ k. ◌>>=◌ q (λ z. let set : Setting = record { clock = k; offset = z } in only_if (not (bad_setting set)) set)) ≡ ◌>>=◌ (◌>>=◌ p (limit 253402300799999)) (λ k. ◌>>=◌ (◌>>=◌ q close) (λ z. got (record { clock = k; offset = z })))
    go (got k) (got z) u = rw (over_is 253402300799999 k) (pick k z (leb k 253402300799999) (far_off z))
    go (got k) other u = none k (leb k 253402300799999)
    go (got k) (refuse x) u = absurd u
    go other q u = refl
    go (refuse x) q u = refl

-- ---- the first line
pub first_long : (s : List ℕ) → 8192 < length s → first_line s ≡ other
unfolding first_line
first_long s h = rw (lt-leb (length s) 8192 h)

module _ (s front : List ℕ) (rest : Option (List ℕ)) (few : length s ≤ 8192) (first : IsCut 9 s front rest) where
  pub first_is : first_line s ≡ two_fields (front ∷ fields_of rest)
  unfolding first_line
  first_is = rw (le-leb (length s) 8192 few) (ap two_fields (cut_fields s front rest first))

-- one field alone, and three
pub first_three : (a b l : List ℕ) → two_fields (a ∷ b ∷ fields_of (Some l)) ≡ other
first_three a b l = rw (parts_some l).is refl
