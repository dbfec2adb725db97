-- One form after another. Assumes nothing.
use Prim.Native.Nat.{ℕ, zero, suc, ◌+◌, ◌-◌, ◌*◌}
use Rattle.std.specs.Prelude.{if◌then◌else◌}
use Prim.Native.Char.{Char}
use mathlib.Core.Bool.{Bool, true, false, ◌&&◌}
use mathlib.Core.Path.{◌≡◌, refl, ◌∙◌}
use mathlib.Core.List.{List, [], ◌∷◌}
use lib.Dec.{leb}
use lib.ListN.{drop}
use Rattle.rules.specs.Basics.{is, is_digit, Read, got, other, refuse, ◌>>=◌, ◌or◌, only_if, byte, digits_on, digits}

-- nothing after the last form
pub or_other : {A : Type 0} (r : Read A) → (r or other) ≡ r
or_other (got a) = refl
or_other other = refl
or_other (refuse x) = refl

-- one thing after two others
pub then_then : {A B C : Type 0} (r : Read A) (f : A → Read B) (g : B → Read C) → ◌>>=◌ (◌>>=◌ r f) g ≡ ◌>>=◌ r (λ a. ◌>>=◌ (f a) g)
then_then (got a) f g = refl
then_then other f g = refl
then_then (refuse x) f g = refl

-- ---- where what follows does not read
module _ {B : Type 0} where
  pub char_then : (c : Char) (l : List ℕ) (f : List ℕ → Read B) → f (drop 1 l) ≡ other → ◌>>=◌ (byte c l) f ≡ other
  char_then c [] f h = refl
  char_then c (b ∷ l) f h = go (is c b)
    where
      go : (t : Bool) → ◌>>=◌ (only_if t l) f ≡ other
      go true = h
      go false = refl

  on_then : (n v : ℕ) (l : List ℕ) (f : ℕ × List ℕ → Read B) → ((x : ℕ) → f (x, drop n l) ≡ other) → ◌>>=◌ (digits_on n v l) f ≡ other
  unfolding digits_on
  on_then zero v l f h = h v
  on_then (suc n) v [] f h = refl
  on_then (suc n) v (b ∷ l) f h = go (is_digit b) (on_then n (v * 10 + (b - 48)) l f h)
    where
      go : (t : Bool) → ◌>>=◌ (digits_on n (v * 10 + (b - 48)) l) f ≡ other → ◌>>=◌ (if t then digits_on n (v * 10 + (b - 48)) l else other) f ≡ other
      go true e = e
      go false e = refl

  pub digits_then : (n lo hi : ℕ) (l : List ℕ) (f : ℕ × List ℕ → Read B) → ((x : ℕ) → f (x, drop n l) ≡ other) → ◌>>=◌ (digits n lo hi l) f ≡ other
  unfolding digits
  digits_then n lo hi l f h = then_then (digits_on n 0 l) _ f ∙ on_then n 0 l _ (λ x. go x (leb lo x && leb x hi))
    where
      go : (x : ℕ) (t : Bool) → ◌>>=◌ (only_if t (x, drop n l)) f ≡ other
      go x true = h x
      go x false = refl
