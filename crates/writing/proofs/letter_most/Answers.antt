-- `writing::letter_most` meets its contract. Assumes nothing.
use Prim.Native.Nat.{ℕ, ◌≤◌, ◌<◌}
use mathlib.Core.Bool.{true}
use mathlib.Core.Path.{◌≡◌, sym, ap, ◌∙◌}
use mathlib.Core.List.{List, [], ◌∷◌, ◌++◌}
use mathlib.Core.Logic.{◌⊎◌, inl, inr}
use lib.Dec.{T, eqb, leb, eqb→eq, lit≤}
use Rattle.rules.specs.Basics.{every}
use Rattle.writing.specs.Formats.{most, most_in, mosts}
use Rattle.writing.proofs.Cases.{NoneOf, and_both, most_none}
use Rattle.writing.proofs.letter_most.Goals as goal

-- one of several letters
abbrev OneOf : List ℕ → ℕ → Type 0
OneOf [] b = ⊥
OneOf (k ∷ []) b = b ≡ k
OneOf (k ∷ j ∷ ks) b = (b ≡ k) ⊎ OneOf (j ∷ ks) b

one : (n : ℕ) (ks : List ℕ) (b : ℕ) → T (leb 1 n) → T (leb n 17) → T (every (λ k. eqb n (most k)) ks) → OneOf ks b → (n ≡ most b) × (0 < n) × (n ≤ 17)
unfolding every
one n [] b m l t h = absurd h
one n (k ∷ []) b m l t h = (eqb→eq n (most k) (and_both (eqb n (most k)) true t).0 ∙ ap most (sym h), lit≤ m, lit≤ l)
one n (k ∷ j ∷ ks) b m l t (inl h) = (eqb→eq n (most k) (and_both (eqb n (most k)) (every (λ k. eqb n (most k)) (j ∷ ks)) t).0 ∙ ap most (sym h), lit≤ m, lit≤ l)
one n (k ∷ j ∷ ks) b m l t (inr h) = one n (j ∷ ks) b m l (and_both (eqb n (most k)) (every (λ k. eqb n (most k)) (j ∷ ks)) t).1 h

-- none of the letters of several arms, and so none of them all
abbrev NoArm : List (List ℕ) → ℕ → Type 0
NoArm [] b = Unit {0}
NoArm (ks ∷ arms) b = NoArm arms b × (OneOf ks b → ⊥)

abbrev all : List (List ℕ) → List ℕ
all [] = []
all (ks ∷ arms) = ks ++ all arms

no_arm : (arms : List (List ℕ)) (b : ℕ) → NoArm arms b → NoneOf (all arms) b
no_arm [] b n = tt
no_arm (ks ∷ arms) b n = go ks (no_arm arms b n.0) n.1
  where
    go : (ks : List ℕ) → NoneOf (all arms) b → (OneOf ks b → ⊥) → NoneOf (ks ++ all arms) b
    go [] r h = r
    go (k ∷ []) r h = (r, h)
    go (k ∷ j ∷ ks) r h = (go (j ∷ ks) r (λ e. h (inr e)), λ e. h (inl e))

-- the arms of the code, the last first
abbrev arms : List (List ℕ)
arms =
    (74 ∷ 115 ∷ []) ∷ (70 ∷ []) ∷ (84 ∷ []) ∷ (102 ∷ []) ∷ (71 ∷ 82 ∷ 89 ∷ []) ∷ (103 ∷ 106 ∷ []) ∷ (80 ∷ 108 ∷ 112 ∷ []) ∷ (86 ∷ 101 ∷ 107 ∷ [])
    ∷ (73 ∷ 83 ∷ 85 ∷ 87 ∷ []) ∷ (72 ∷ 77 ∷ 100 ∷ 109 ∷ []) ∷ (37 ∷ 117 ∷ 119 ∷ []) ∷ []

none : {b : ℕ} → NoArm arms b → most b ≡ 0
unfolding most mosts
none {b} n = most_none mosts (all arms) b tt (no_arm arms b n)

pub returns-in-117 : goal.returns-in-117
unfolding most most_in mosts every
returns-in-117 c = one 1 (37 ∷ 117 ∷ 119 ∷ []) _ tt tt tt c.in-117.is

pub returns-in-100 : goal.returns-in-100
unfolding most most_in mosts every
returns-in-100 c = one 2 (72 ∷ 77 ∷ 100 ∷ 109 ∷ []) _ tt tt tt c.in-100.is

pub returns-in-73 : goal.returns-in-73
unfolding most most_in mosts every
returns-in-73 c = one 2 (73 ∷ 83 ∷ 85 ∷ 87 ∷ []) _ tt tt tt c.in-73.is

pub returns-in-101 : goal.returns-in-101
unfolding most most_in mosts every
returns-in-101 c = one 2 (86 ∷ 101 ∷ 107 ∷ []) _ tt tt tt c.in-101.is

pub returns-in-108 : goal.returns-in-108
unfolding most most_in mosts every
returns-in-108 c = one 2 (80 ∷ 108 ∷ 112 ∷ []) _ tt tt tt c.in-108.is

pub returns-in-103 : goal.returns-in-103
unfolding most most_in mosts every
returns-in-103 c = one 3 (103 ∷ 106 ∷ []) _ tt tt tt c.in-103.is

pub returns-in-71 : goal.returns-in-71
unfolding most most_in mosts every
returns-in-71 c = one 5 (71 ∷ 82 ∷ 89 ∷ []) _ tt tt tt c.in-71.is

pub returns-in-102 : goal.returns-in-102
unfolding most most_in mosts every
returns-in-102 c = one 6 (102 ∷ []) _ tt tt tt c.in-102.is

pub returns-in-84 : goal.returns-in-84
unfolding most most_in mosts every
returns-in-84 c = one 8 (84 ∷ []) _ tt tt tt c.in-84.is

pub returns-in-70 : goal.returns-in-70
unfolding most most_in mosts every
returns-in-70 c = one 11 (70 ∷ []) _ tt tt tt c.in-70.is

pub returns-in-74 : goal.returns-in-74
unfolding most most_in mosts every
returns-in-74 c = one 17 (74 ∷ 115 ∷ []) _ tt tt tt c.in-74.is

pub returns-in_default : goal.returns-in_default
returns-in_default c = none c.in_default.in_default-own.rest
