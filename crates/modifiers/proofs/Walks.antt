-- The walk through the buffer: one modifier after another, none of them further from the millisecond 0 than 64 bits hold. Assumes nothing.
use Rattle.std.proofs.Common.{◌≡◌, ℕ, suc, ◌+◌, ◌≤◌, Bool, true, false, not, ◌&&◌, ◌||◌, eqb, ltb, List, [], ◌∷◌, ◌++◌, length, ℤ, sym, refl, ap, ◌∙◌, add-one, arith, ltb-false}
use Rattle.std.specs.Prelude.{Some, None}
use borrow.Author.Tests.{not-true}
use Rattle.rules.specs.Basics.{got, refuse, every}
use Rattle.rules.specs.Calls.{modifiers, last_ended, over, modifiers_bad}
use Rattle.rules.specs.Moments.{Moment}
use Rattle.rules.specs.Modifiers.{modifier, modified}
use Rattle.rules.specs.declared.Refusal.{Refusal}
use Rattle.text.specs.Places.{IsCut}
use Rattle.text.proofs.Tests.{and_left, and_right}
use Rattle.moment.specs.Ranges.{most_before, After}
use Rattle.moment.proofs.Bounds.{after_more}

-- ---- a buffer in two, at its first zero byte
abbrev byte : ℕ → Bool
byte x = not (eqb x 0)

modifiers_two : (front rest : List ℕ) → every byte front ≡ true → modifiers (front ++ 0 ∷ rest) ≡ front ∷ modifiers rest
unfolding modifiers every
modifiers_two [] rest h = refl
modifiers_two (x ∷ front) rest h = rw (not-true (eqb x 0) (and_left (byte x) (every byte front) h), modifiers_two front rest (and_right (byte x) (every byte front) h))

ended_two : (front rest : List ℕ) → last_ended (front ++ 0 ∷ rest) ≡ last_ended (0 ∷ rest)
unfolding last_ended
ended_two [] rest = refl
ended_two (x ∷ []) rest = refl
ended_two (x ∷ y ∷ front) rest = ended_two (y ∷ front) rest

ended_zero : (s : List ℕ) → last_ended (0 ∷ s) ≡ last_ended s
unfolding last_ended
ended_zero [] = refl
ended_zero (c ∷ s) = refl

none_left : (s : List ℕ) → every byte s ≡ true → last_ended s ≡ true → s ≡ []
unfolding last_ended every
none_left [] h e = refl
none_left (x ∷ []) h e = let k : eqb x 0 ≡ false = not-true (eqb x 0) (and_left (byte x) true h) in absurd (cc)
none_left (x ∷ y ∷ s) h e = let k : y ∷ s ≡ [] = none_left (y ∷ s) (and_right (byte x) (every byte (y ∷ s)) h) e in absurd (cc)

-- ---- what holds on the walk, where i modifiers stand before the rest l
abbrev fits : List ℕ → Bool
fits m = not (over 255 m)

pub record Walk (l : List ℕ) (i : ℕ) : Type 0 where
  pub ended : last_ended l ≡ true
  pub few : i + length (modifiers l) ≤ 16
  pub short : every fits (modifiers l) ≡ true

walk_start : (s : List ℕ) → modifiers_bad s ≡ false → Walk s 0
unfolding modifiers_bad
walk_start s h = go (last_ended s) (ltb 16 (length (modifiers s))) (every fits (modifiers s)) refl refl refl h
  where
    go : (t u v : Bool) → last_ended s ≡ t → ltb 16 (length (modifiers s)) ≡ u → every fits (modifiers s) ≡ v → not t || (u || not v) ≡ false → Walk s 0
    go true false true a b c e = record { ended = a; few = omega (arith, ltb-false 16 (length (modifiers s)) b); short = c }
    go true false false a b c e = absurd (cc)
    go true true v a b c e = absurd (cc)
    go false u v a b c e = absurd (cc)

-- p has come to q, where i modifiers stand before the rest l
pub record Going (offset : ℤ) (s : List ℕ) (p q : Moment) (l : List ℕ) (i : ℕ) : Type 0 where
  pub walk : Walk l i
  pub after : After i q
  pub is : modified offset 0 (modifiers s) p ≡ modified offset i (modifiers l) q

pub going_start : (offset : ℤ) (s : List ℕ) (p : Moment) → modifiers_bad s ≡ false → After 0 p → Going offset s p p s 0
going_start offset s p b a = record { walk = walk_start s b; after = a; is = refl }

module _ {offset : ℤ} {s : List ℕ} {p q : Moment} {l : List ℕ} {i : ℕ} (g : Going offset s p q l i) where
  module _ {front rest : List ℕ} (c : IsCut 0 l front (Some rest)) where
    split : modifiers l ≡ front ∷ modifiers rest
    split = ap modifiers c.whole ∙ modifiers_two front rest c.clear

    longer : length (modifiers l) ≡ suc (length (modifiers rest))
    longer = ap length split

    fit : (fits front && every fits (modifiers rest)) ≡ true
    unfolding every
    fit = rw split at g.walk.short

    pub short : length front ≤ 255
    short = omega (arith, ltb-false 255 (length front) (not-true (over 255 front) (and_left (fits front) (every fits (modifiers rest)) fit)))

    pub few : i ≤ 15
    few = omega (arith, longer, g.walk.few)

    next : Walk rest (i + 1)
    next = record {
      ended = sym (ap last_ended c.whole ∙ ended_two front rest ∙ ended_zero rest) ∙ g.walk.ended;
      few = omega (arith, longer, g.walk.few);
      short = and_right (fits front) (every fits (modifiers rest)) fit;
    }

    pub going_on : {r : Moment} → modifier offset i front q ≡ got r → After (i + 1) r → Going offset s p r rest (i + 1)
    unfolding modified
    going_on h a = record { walk = next; after = a; is = g.is ∙ rw (split, h, add-one i) }

    pub going_stop : {x : Refusal} → modifier offset i front q ≡ refuse x → modified offset 0 (modifiers s) p ≡ refuse x
    unfolding modified
    going_stop h = g.is ∙ rw (split, h)

  pub going_end : {front : List ℕ} → IsCut 0 l front None → (modified offset 0 (modifiers s) p ≡ got q) × After (most_before + 1) q
  unfolding modified modifiers
  going_end {front} c =
      let e : l ≡ [] = c.whole ∙ none_left front c.clear (sym (ap last_ended c.whole) ∙ g.walk.ended) in
      (g.is ∙ rw e, after_more i (most_before + 1) q (omega (arith, g.walk.few)) g.after)
