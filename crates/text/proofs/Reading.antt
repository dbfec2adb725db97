-- Reading, one thing after another: laws that turn what a function of the code answered into the rule's equation, for `rw`. Assumes nothing.
use Prim.Native.Nat.{ℕ}
use Prim.Native.Char.{Char, code}
use mathlib.Core.Path.{◌≡◌, refl}
use mathlib.Core.List.{List, [], ◌∷◌}
use Rattle.rules.specs.Basics.{Read, got, other, ◌>>=◌, ◌or◌, byte}
use Rattle.text.specs.Places.{after_byte}

-- ---- sequence and choice
module _ {A B : Type 0} {r : Read A} (f : A → Read B) where
  pub bind_got : {a : A} → r ≡ got a → ◌>>=◌ r f ≡ f a
  bind_got h = rw h

  pub bind_other : r ≡ other → ◌>>=◌ r f ≡ other
  bind_other h = rw h

module _ {A : Type 0} {r : Read A} (q : Read A) where
  pub or_got : {a : A} → r ≡ got a → (r or q) ≡ got a
  or_got h = rw h

  pub or_other : r ≡ other → (r or q) ≡ q
  or_other h = rw h

-- ---- one byte
pub byte_after : (c : Char) (s : List ℕ) → byte c s ≡ after_byte (code c) s
byte_after c [] = refl
byte_after c (b ∷ s) = refl
