-- A `match` over a byte, and a table by bytes. Assumes nothing.
use Prim.Native.Nat.{ℕ}
use Prim.Native.Char.{Char, code}
use mathlib.Core.Bool.{Bool, true, false, ◌&&◌, ◌||◌}
use mathlib.Core.Path.{◌≡◌, refl, sym, ◌∙◌}
use mathlib.Core.List.{List, [], ◌∷◌}
use borrow.Author.Tests.{ne_eqb}
use lib.Dec.{T, eqb, eqb→eq}
use Rattle.rules.specs.Basics.{Read, refuse}
use Rattle.rules.specs.Moments.{Moment}
use Rattle.rules.specs.Writing.{writer}
use Rattle.rules.specs.declared.Refusal.{Refusal}
use Rattle.writing.specs.Formats.{most_in}

-- what the `_` of a `match` knows: the byte is none of the keys, the last of which stands first here
abbrev pub NoneOf : List ℕ → ℕ → Type 0
NoneOf [] b = Unit {0}
NoneOf (k ∷ ks) b = NoneOf ks b × (b ≡ k → ⊥)

-- every key of a table is among them
abbrev pub among : ℕ → List ℕ → Bool
among k [] = false
among k (j ∷ ks) = eqb k j || among k ks

abbrev pub covered : {A : Type 0} → List (Char × A) → List ℕ → Bool
covered [] ks = true
covered (row ∷ rows) ks = among (code row.0) ks && covered rows ks

or_cases : (a b : Bool) {X : Type 0} → (T a → X) → (T b → X) → T (a || b) → X
or_cases true b f g t = f tt
or_cases false b f g t = g t

pub and_both : (a b : Bool) → T (a && b) → T a × T b
and_both true b t = (tt, t)
and_both false b t = absurd t

pub missed : (ks : List ℕ) (b k : ℕ) → NoneOf ks b → T (among k ks) → k ≡ b → ⊥
missed [] b k n t e = absurd t
missed (j ∷ ks) b k n t e = or_cases (eqb k j) (among k ks) (λ h. n.1 (sym e ∙ eqb→eq k j h)) (λ h. missed ks b k n.0 h e) t

pub writer_none : (rows : List (Char × (Moment → Read (List ℕ)))) (ks : List ℕ) (b : ℕ) → T (covered rows ks) → NoneOf ks b → writer rows b ≡ refuse Refusal.Null
unfolding writer
writer_none [] ks b t n = refl
writer_none (row ∷ rows) ks b t n =
    let (h, r) = and_both (among (code row.0) ks) (covered rows ks) t in
    rw (ne_eqb (code row.0) b (missed ks b (code row.0) n h)) (writer_none rows ks b r n)

pub most_none : (rows : List (Char × ℕ)) (ks : List ℕ) (b : ℕ) → T (covered rows ks) → NoneOf ks b → most_in rows b ≡ 0
unfolding most_in
most_none [] ks b t n = refl
most_none (row ∷ rows) ks b t n =
    let (h, r) = and_both (among (code row.0) ks) (covered rows ks) t in
    rw (ne_eqb (code row.0) b (missed ks b (code row.0) n h)) (most_none rows ks b r n)
