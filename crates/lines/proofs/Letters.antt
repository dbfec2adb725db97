-- The names of the functions by their first letter: the other names begin with another one. The code compares a field with each name in
-- turn, so no answer needs this. And a line's call by the name that its first field is. Assumes nothing.
use Prim.Native.Nat.{ℕ, suc, ◌+◌, ◌≤◌, ◌<◌}
use Rattle.std.specs.Prelude.{if◌then◌else◌, Option}
use mathlib.Core.Bool.{Bool, true, false, not}
use mathlib.Core.Logic.{◌≢◌}
use mathlib.Core.Path.{◌≡◌, refl, sym, ap, ◌∙◌}
use mathlib.Core.List.{List, [], ◌∷◌}
use native.Mathlib.Numerals.{add-one}
use native.Mathlib.Omega.{arith}
use lib.Dec.{eqb, leb}
use lib.ListN.{length, get_or, drop, drop_of_length-le}
use lib.Seq.{drop-cons}
use borrow.Author.Tests.{eq-eqb, ne_eqb, leb-true}
use Rattle.rules.specs.Basics.{ascii, every, Read, got, other, ◌or◌, ◌>>=◌, only_if}
use Rattle.rules.specs.Program.{same, general, line_call}
use Rattle.rules.specs.declared.Function.{Function}
use Rattle.text.specs.Places.{IsCut}
use Rattle.text.proofs.Tests.{and_false, and_left}
use Rattle.lines.specs.Fields.{fields_of, plain}
use Rattle.lines.specs.Names.{named, call_of}
use Rattle.lines.specs.declared.names.Name.{Name}
use Rattle.lines.proofs.Asking.{line_named}

-- ---- two texts, at one place after another
pub same_length : (w s : List ℕ) → length w ≢ length s → same w s ≡ false
unfolding same
same_length [] [] h = absurd (h refl)
same_length [] (b ∷ s) h = refl
same_length (c ∷ w) [] h = refl
same_length (c ∷ w) (b ∷ s) h = rw (same_length w s (λ e. h (ap suc e))) (and_false (eqb c b))

module _ (w s : List ℕ) (i : ℕ) (h : i < length w) (k : i < length s) where
  pub same_on : get_or w i 0 ≡ get_or s i 0 → same (drop i w) (drop i s) ≡ same (drop (i + 1) w) (drop (i + 1) s)
  unfolding same
  same_on e = rw (add-one, drop-cons w i 0 h, drop-cons s i 0 k, eq-eqb (get_or w i 0) (get_or s i 0) e)

  pub same_stop : get_or w i 0 ≢ get_or s i 0 → same (drop i w) (drop i s) ≡ false
  unfolding same
  same_stop e = rw (drop-cons w i 0 h, drop-cons s i 0 k, ne_eqb (get_or w i 0) (get_or s i 0) e)

pub same_past : (w s : List ℕ) (i : ℕ) → length w ≤ i → length s ≤ i → same (drop i w) (drop i s) ≡ true
unfolding same
same_past w s i h k = rw (drop_of_length-le w h, drop_of_length-le s k)

-- ---- by the first letter
abbrev pub name_d : List ℕ → Read Name
name_d f = if same (ascii "date") f then got (Name.General Function.Date) else only_if (same (ascii "datetime") f) (Name.General Function.Datetime)

abbrev pub name_t : List ℕ → Read Name
name_t f = if same (ascii "time") f then got (Name.General Function.Time) else only_if (same (ascii "timediff") f) Name.Timediff

pub name_none : (s : List ℕ) → length s ≡ 0 → named s ≡ other
unfolding named general same
name_none [] h = refl
name_none (b ∷ s) h = absurd (omega arith)

pub name_d_lem : (s : List ℕ) → length s ≢ 0 → get_or s 0 0 ≡ 100 → named s ≡ name_d s
unfolding named general same
name_d_lem [] h e = absurd (h refl)
name_d_lem (b ∷ s) h e = rw e (go (same (ascii "ate") s) (same (ascii "atetime") s))
  where
    go : (t u : Bool) → ((do g ← only_if t Function.Date or other or only_if u Function.Datetime or other or other; got (Name.General g)) or other or other) ≡ (if t then got (Name.General Function.Date) else only_if u (Name.General Function.Datetime))
    go true u = refl
    go false true = refl
    go false false = refl

pub name_t_lem : (s : List ℕ) → length s ≢ 0 → get_or s 0 0 ≡ 116 → named s ≡ name_t s
unfolding named general same
name_t_lem [] h e = absurd (h refl)
name_t_lem (b ∷ s) h e = rw e (go (same (ascii "ime") s) (same (ascii "imediff") s))
  where
    go : (t u : Bool) → ((do g ← other or only_if t Function.Time or other or other or other; got (Name.General g)) or other or only_if u Name.Timediff) ≡ (if t then got (Name.General Function.Time) else only_if u Name.Timediff)
    go true u = refl
    go false true = refl
    go false false = refl

pub name_j : (s : List ℕ) → length s ≢ 0 → get_or s 0 0 ≡ 106 → named s ≡ only_if (same (ascii "julianday") s) (Name.General Function.Julianday)
unfolding named general same
name_j [] h e = absurd (h refl)
name_j (b ∷ s) h e = rw e (go (same (ascii "ulianday") s))
  where
    go : (t : Bool) → ((do g ← only_if t Function.Julianday or other; got (Name.General g)) or other or other) ≡ only_if t (Name.General Function.Julianday)
    go true = refl
    go false = refl

pub name_u : (s : List ℕ) → length s ≢ 0 → get_or s 0 0 ≡ 117 → named s ≡ only_if (same (ascii "unixepoch") s) (Name.General Function.Unixepoch)
unfolding named general same
name_u [] h e = absurd (h refl)
name_u (b ∷ s) h e = rw e (go (same (ascii "nixepoch") s))
  where
    go : (t : Bool) → ((do g ← only_if t Function.Unixepoch; got (Name.General g)) or other or other) ≡ only_if t (Name.General Function.Unixepoch)
    go true = refl
    go false = refl

pub name_s : (s : List ℕ) → length s ≢ 0 → get_or s 0 0 ≡ 115 → named s ≡ only_if (same (ascii "strftime") s) Name.Strftime
unfolding named general same
name_s [] h e = absurd (h refl)
name_s (b ∷ s) h e = rw e (go (same (ascii "trftime") s))
  where
    go : (t : Bool) → (only_if t Name.Strftime or other) ≡ only_if t Name.Strftime
    go true = refl
    go false = refl

pub name_rest : (s : List ℕ) → length s ≢ 0 → (get_or s 0 0 ≢ 100) × (get_or s 0 0 ≢ 106) × (get_or s 0 0 ≢ 115) × (get_or s 0 0 ≢ 116) × (get_or s 0 0 ≢ 117) → named s ≡ other
unfolding named general same
name_rest [] h k = absurd (h refl)
name_rest (b ∷ s) h (ed, ej, es, et, eu) =
    let differ : (d : ℕ) → b ≢ d → eqb d b ≡ false = λ d k. ne_eqb d b (λ i. k (sym i)) in
    rw (differ 100 ed, differ 116 et, differ 106 ej, differ 117 eu, differ 115 es)

-- ---- the line's call
pub plain_few : (s : List ℕ) → plain s ≡ true → length s ≤ 8192
plain_few s h = leb-true (length s) 8192 (and_left (leb (length s) 8192) (every (λ b. not (eqb b 0)) s) h)

-- by what its first field names: x is a name, or none
pub line_call_lem : (s front : List ℕ) (rest : Option (List ℕ)) {n : Read Name} (x : Read Name) → plain s ≡ true → IsCut 9 s front rest → n ≡ named front → n ≡ x → line_call s ≡ ◌>>=◌ x (λ m. call_of m (fields_of rest))
line_call_lem s front rest {n} x h p k e = line_named s front rest h p (sym e ∙ k)
