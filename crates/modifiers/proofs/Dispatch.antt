-- One modifier is the step of its kind; a unit's step is that of its name. Assumes nothing.
use Rattle.std.proofs.Common.{if◌then◌else◌, ◌≡◌, ℕ, zero, suc, ◌≤◌, Bool, true, false, ◌&&◌, ◌||◌, eqb, List, [], ◌∷◌, length, drop, ℤ, sym, refl, ap, ◌∙◌, true≢false, arith, eqb-true}
use borrow.Author.Tests.{lt-leb}
use native.Mathlib.Decide.{dec_le}
use lib.Ieee.{Float, eq}
use Rattle.rules.specs.Basics.{every, ascii, word, beside, only_if, trim, Read, got, other, refuse, ◌or◌, ◌>>=◌}
use Rattle.rules.specs.Decimal.{decimal}
use Rattle.rules.specs.Floats.{number, whole, within}
use Rattle.rules.specs.Moments.{Moment, set_subsec}
use Rattle.rules.specs.Modifiers.{provided, or_null, first, words, starts, units, counts, wide_space, auto, julian, from_epoch, is_unix, unix, ceiling, floor, localtime, utc, weekday, day_start, start_of, arithmetic, modifier}
use Rattle.rules.specs.declared.Refusal.{Refusal}
use Rattle.text.specs.Places.{leads}
use Rattle.text.proofs.Tests.{and_left, and_right}
use Rattle.text.proofs.Words.{leads_short}
use Rattle.moment.specs.Steps.{first_of_month, first_of_year}
use Rattle.modifiers.specs.Words.{kinds, kind_of, unit_names, unit_of, step_by}
use Rattle.modifiers.specs.declared.words.Kind.{Kind}
use Rattle.modifiers.specs.declared.words.Unit.{Unit}

-- ---- a table with other things beside its words

abbrev rows_by : {A B : Type 0} → (A → B) → List (List ℕ × A) → List (List ℕ × B)
rows_by f [] = []
rows_by f (row ∷ rows) = (row.0, f row.1) ∷ rows_by f rows

beside_by : {A B : Type 0} (f : A → B) (rows : List (List ℕ × A)) (s : List ℕ) → beside (rows_by f rows) s ≡ ◌>>=◌ (beside rows s) (λ a. got (f a))
unfolding beside
beside_by f [] s = refl
beside_by f (row ∷ rows) s = go (word row.0 s) (beside_by f rows s)
  where
    go : (t : Bool) → beside (rows_by f rows) s ≡ ◌>>=◌ (beside rows s) (λ a. got (f a)) → (if t then got (f row.1) else beside (rows_by f rows) s) ≡ ◌>>=◌ (if t then got row.1 else beside rows s) (λ a. got (f a))
    go true e = refl
    go false e = e

-- it is read or it is not: a table refuses nothing
data Found {A : Type 0} : Read A → Type 0 where
  here : {a : A} → Found (got a)
  nowhere : Found other

found : {A : Type 0} (rows : List (List ℕ × A)) (s : List ℕ) → Found (beside rows s)
unfolding beside
found [] s = nowhere
found (row ∷ rows) s = go (word row.0 s) (found rows s)
  where
    go : (t : Bool) → Found (beside rows s) → Found (if t then got row.1 else beside rows s)
    go true f = here
    go false f = f

-- ---- a step after which no other form is tried
abbrev Final : Read Moment → Type 0
Final r = (q : Read Moment) → (r or q) ≡ r

final_provided : (t : Bool) (p : Moment) → Final (provided t p)
final_provided true p q = refl
final_provided false p q = refl

final_first : (i : ℕ) (r : Read Moment) → Final r → Final (first i r)
final_first zero r h q = h q
final_first (suc i) r h q = refl

final_null : {A : Type 0} (r : Read A) (f : A → Read Moment) → ((a : A) → Final (f a)) → Final (◌>>=◌ (or_null r) f)
final_null (got a) f h q = h a q
final_null other f h q = refl
final_null (refuse x) f h q = refl

final_or : (r : Read Moment) → Final (r or refuse Refusal.Null)
final_or (got p) q = refl
final_or other q = refl
final_or (refuse x) q = refl

-- ---- the step of each kind; i modifiers stand before this one
abbrev pub step_of : Kind → ℤ → ℕ → List ℕ → Moment → Read Moment
step_of Kind.Auto offset i s p = first i (got (auto p))
step_of Kind.Julianday offset i s p = first i (julian p)
step_of Kind.Unixepoch offset i s p = first i (unix p)
step_of Kind.Ceiling offset i s p = got (ceiling p)
step_of Kind.Floor offset i s p = got (floor p)
step_of Kind.Localtime offset i s p = got (localtime offset p)
step_of Kind.Utc offset i s p = got (utc offset p)
step_of Kind.Subsec offset i s p = got (set_subsec p true)
step_of Kind.Weekday offset i s p = weekday (drop 8 s) p
step_of Kind.Start offset i s p = start_of (drop 9 s) p
step_of Kind.Count offset i s p = arithmetic (trim wide_space s) p or refuse Refusal.Null

final : (k : Kind) (offset : ℤ) (i : ℕ) (s : List ℕ) (p : Moment) → Final (step_of k offset i s p)
unfolding unix weekday start_of
final Kind.Auto offset i s p = final_first i (got (auto p)) (λ q. refl)
final Kind.Julianday offset i s p = final_first i (julian p) (final_provided (p.counted && p.raw) _)
final Kind.Unixepoch offset i s p = final_first i (unix p) (final_provided (p.raw && is_unix (from_epoch p.second)) _)
final Kind.Ceiling offset i s p = λ q. refl
final Kind.Floor offset i s p = λ q. refl
final Kind.Localtime offset i s p = λ q. refl
final Kind.Utc offset i s p = λ q. refl
final Kind.Subsec offset i s p = λ q. refl
final Kind.Weekday offset i s p = final_null (decimal (trim wide_space (drop 8 s))) _ (λ x. final_provided (within (number 0) x (number 7) && eq (number (whole x)) x) _)
final Kind.Start offset i s p = final_null (beside starts (drop 9 s)) _ (λ f. final_provided (p.counted || (p.dated || p.timed)) _)
final Kind.Count offset i s p = final_or (arithmetic (trim wide_space s) p)

module _ (offset : ℤ) (i : ℕ) (s : List ℕ) (p : Moment) where
  -- the table's steps are those of its kinds
  words_by : ◌>>=◌ (beside (words offset i) s) (λ f. f p) ≡ ◌>>=◌ (beside kinds s) (λ k. step_of k offset i s p)
  words_by = ap (λ (r : Read (Moment → Read Moment)). ◌>>=◌ r (λ f. f p)) (beside_by (λ k. step_of k offset i s) kinds s) ∙ go (beside kinds s)
    where
      go : (r : Read Kind) → ◌>>=◌ (◌>>=◌ r (λ k. got (step_of k offset i s))) (λ f. f p) ≡ ◌>>=◌ r (λ k. step_of k offset i s p)
      go (got k) = refl
      go other = refl
      go (refuse x) = refl

  in_order : (r : Read Kind) (t u v : Bool) → Found r →
      (◌>>=◌ r (λ k. step_of k offset i s p)
      or (◌>>=◌ (only_if t (drop 8 s)) (λ s. weekday s p)
      or (◌>>=◌ (only_if u (drop 9 s)) (λ s. start_of s p)
      or (◌>>=◌ (only_if v s) (λ s. arithmetic (trim wide_space s) p)
      or refuse Refusal.Null))))
      ≡ ◌>>=◌ (or_null (r or (only_if t Kind.Weekday or (only_if u Kind.Start or only_if v Kind.Count)))) (λ k. step_of k offset i s p)
  in_order (got k) t u v f = final k offset i s p _
  in_order other true u v f = final Kind.Weekday offset i s p _
  in_order other false true v f = final Kind.Start offset i s p _
  in_order other false false true f = refl
  in_order other false false false f = refl
  in_order (refuse _) t u v f = elim f [ ]

  pub by_kind : modifier offset i s p ≡ ◌>>=◌ (or_null (kind_of s)) (λ k. step_of k offset i s p)
  unfolding modifier kind_of leads
  by_kind = rw words_by (in_order (beside kinds s) (leads (ascii "weekday ") s) (leads (ascii "start of ") s) (counts s) (found kinds s))

pub of_kind : {k : Kind} (offset : ℤ) (i : ℕ) (s : List ℕ) (p : Moment) → kind_of s ≡ got k → modifier offset i s p ≡ step_of k offset i s p
of_kind offset i s p e = by_kind offset i s p ∙ rw e

pub of_none : (offset : ℤ) (i : ℕ) (s : List ℕ) (p : Moment) → kind_of s ≡ other → modifier offset i s p ≡ refuse Refusal.Null
of_none offset i s p e = by_kind offset i s p ∙ rw e

-- ---- what follows a word that leads begins inside
abbrev pub rest_from : Kind → ℕ
rest_from Kind.Auto = 0
rest_from Kind.Julianday = 0
rest_from Kind.Unixepoch = 0
rest_from Kind.Ceiling = 0
rest_from Kind.Floor = 0
rest_from Kind.Localtime = 0
rest_from Kind.Utc = 0
rest_from Kind.Subsec = 0
rest_from Kind.Weekday = 8
rest_from Kind.Start = 9
rest_from Kind.Count = 0

abbrev pub From : Read Kind → ℕ → Type 0
From (got k) n = rest_from k ≤ n
From other n = Prim.Unit {0}
From (refuse x) n = Prim.Unit {0}

-- of a word alone there is no rest
alone : (rows : List (List ℕ × Kind)) (s : List ℕ) → every (λ row. eqb (rest_from row.1) 0) rows ≡ true → From (beside rows s) (length s)
unfolding beside every
alone [] s h = tt
alone (row ∷ rows) s h = go (word row.0 s) (eqb-true _ _ (and_left _ _ h)) (alone rows s (and_right (eqb (rest_from row.1) 0) _ h))
  where
    go : (t : Bool) → rest_from row.1 ≡ 0 → From (beside rows s) (length s) → From (if t then got row.1 else beside rows s) (length s)
    go true a b = omega arith
    go false a b = b

leads_inside : (w s : List ℕ) → leads w s ≡ true → length w ≤ length s
leads_inside w s h = go (dec_le (length w) (length s))
  where
    go : Dec (length w ≤ length s) → length w ≤ length s
    go (yes k) = k
    go (no k) = absurd (true≢false (sym h ∙ sym (leads_short w s (omega (arith, k))) ∙ lt-leb (length w) (length s) (omega (arith, k))))

rest_within : (s : List ℕ) → From (kind_of s) (length s)
unfolding kind_of every
rest_within s = go (beside kinds s) (leads (ascii "weekday ") s) (leads (ascii "start of ") s) (counts s) (alone kinds s refl) (leads_inside (ascii "weekday ") s) (leads_inside (ascii "start of ") s) (found kinds s)
  where
    go : (r : Read Kind) (t u v : Bool) → From r (length s) → (t ≡ true → 8 ≤ length s) → (u ≡ true → 9 ≤ length s) → Found r → From (r or (only_if t Kind.Weekday or (only_if u Kind.Start or only_if v Kind.Count))) (length s)
    go (got k) t u v z a b f = z
    go other true u v z a b f = a refl
    go other false true v z a b f = b refl
    go other false false true z a b f = omega arith
    go other false false false z a b f = tt
    go (refuse _) t u v z a b f = elim f [ ]

pub rest_inside : (k : Kind) (s : List ℕ) → kind_of s ≡ got k → rest_from k ≤ length s
rest_inside k s e = rw e at (rest_within s)

-- ---- the step of each unit
abbrev pub unit_named : List ℕ → Float → Moment → Read Moment
unit_named w n p = ◌>>=◌ (unit_of w) (λ u. step_by u n p)

pub by_unit : (w : List ℕ) (n : Float) (p : Moment) → ◌>>=◌ (beside units w) (λ f. f n p) ≡ unit_named w n p
unfolding unit_of
by_unit w n p = ap (λ (r : Read (Float → Moment → Read Moment)). ◌>>=◌ r (λ f. f n p)) (beside_by step_by unit_names w) ∙ go (beside unit_names w)
  where
    go : (r : Read Unit) → ◌>>=◌ (◌>>=◌ r (λ u. got (step_by u))) (λ f. f n p) ≡ ◌>>=◌ r (λ u. step_by u n p)
    go (got u) = refl
    go other = refl
    go (refuse x) = refl

-- ---- what is to begin

-- whether there is anything that begins
abbrev Stands : Moment → Bool
Stands p = p.counted || (p.dated || p.timed)

module _ (s : List ℕ) (p : Moment) where
  pub start_not : Stands p ≡ false → start_of s p ≡ refuse Refusal.Null
  unfolding start_of
  start_not h = rw h (go (beside starts s) (found starts s))
    where
      go : (r : Read (Moment → Moment)) → Found r → ◌>>=◌ (or_null r) (λ f. provided false (f (day_start p))) ≡ refuse Refusal.Null
      go (got f) k = refl
      go other k = refl
      go (refuse _) k = elim k [ ]

  module _ (h : Stands p ≡ true) where
    pub start_day : word (ascii "day") s ≡ true → start_of s p ≡ got (day_start p)
    unfolding start_of beside
    start_day a = rw (h, a)

    pub start_month : word (ascii "day") s ≡ false → word (ascii "month") s ≡ true → start_of s p ≡ got (first_of_month (day_start p))
    unfolding start_of beside
    start_month a b = rw (h, a, b)

    pub start_year : word (ascii "day") s ≡ false → word (ascii "month") s ≡ false → word (ascii "year") s ≡ true → start_of s p ≡ got (first_of_year (day_start p))
    unfolding start_of beside
    start_year a b c = rw (h, a, b, c)

  pub start_none : word (ascii "day") s ≡ false → word (ascii "month") s ≡ false → word (ascii "year") s ≡ false → start_of s p ≡ refuse Refusal.Null
  unfolding start_of beside
  start_none a b c = rw (a, b, c)
