-- The names of the functions, byte for byte, and the call that each begins. Assumes nothing.
use Prim.Native.Nat.{ℕ}
use mathlib.Core.Bool.{Bool, true, false, true≢false, ◌&&◌}
use mathlib.Core.Path.{◌≡◌, refl, sym, ap, subst, ◌∙◌}
use mathlib.Core.List.{List, [], ◌∷◌}
use borrow.Author.Tests.{eqb-true}
use lib.Dec.{eqb}
use lib.Pointwise.{pointwise}
use Rattle.rules.specs.Basics.{ascii, Read, got, other, refuse, ◌or◌, ◌>>=◌, only_if}
use Rattle.rules.specs.Program.{same, general, general_call, strftime_call, fields_call}
use Rattle.rules.specs.declared.Function.{Function}
use Rattle.text.proofs.Tests.{and_left, and_right}
use Rattle.lines.specs.Names.{named, call_of}
use Rattle.lines.specs.declared.names.Name.{Name}

pub same_eq : (w s : List ℕ) → pointwise eqb w s ≡ same w s
unfolding same
same_eq [] [] = refl
same_eq [] (b ∷ s) = refl
same_eq (c ∷ w) [] = refl
same_eq (c ∷ w) (b ∷ s) = ap (λ (t : Bool). eqb c b && t) (same_eq w s)

same_is : (w s : List ℕ) → same w s ≡ true → w ≡ s
unfolding same
same_is [] [] h = refl
same_is [] (b ∷ s) h = absurd (true≢false (sym h))
same_is (c ∷ w) [] h = absurd (true≢false (sym h))
same_is (c ∷ w) (b ∷ s) h = ap (λ (x : ℕ). x ∷ w) (eqb-true c b (and_left (eqb c b) (same w s) h)) ∙ ap (λ (l : List ℕ). b ∷ l) (same_is w s (and_right (eqb c b) (same w s) h))

-- ---- the call of a name: one of the five is none of the other two
or_none_lem : {A : Type 0} (r : Read A) → (r or other) ≡ r
or_none_lem (got a) = refl
or_none_lem other = refl
or_none_lem (refuse x) = refl

of_five : (fs : List (List ℕ)) (a b c d e : Bool) →
    let g = only_if a Function.Date or only_if b Function.Time or only_if c Function.Datetime or only_if d Function.Julianday or only_if e Function.Unixepoch in
    ((do f ← g; general_call fs f) or other) ≡ ◌>>=◌ ((do f ← g; got (Name.General f)) or other) (λ n. call_of n fs)
of_five fs true b c d e = or_none_lem (general_call fs Function.Date)
of_five fs false true c d e = or_none_lem (general_call fs Function.Time)
of_five fs false false true d e = or_none_lem (general_call fs Function.Datetime)
of_five fs false false false true e = or_none_lem (general_call fs Function.Julianday)
of_five fs false false false false true = or_none_lem (general_call fs Function.Unixepoch)
of_five fs false false false false false = refl

of_strftime : (fs : List (List ℕ)) → fields_call (ascii "strftime" ∷ fs) ≡ ◌>>=◌ (named (ascii "strftime")) (λ n. call_of n fs)
unfolding named general same
of_strftime fs = or_none_lem (strftime_call fs)

of_timediff : (fs : List (List ℕ)) → fields_call (ascii "timediff" ∷ fs) ≡ ◌>>=◌ (named (ascii "timediff")) (λ n. call_of n fs)
unfolding named general same
of_timediff fs = refl

pub named_call : (f : List ℕ) (fs : List (List ℕ)) → fields_call (f ∷ fs) ≡ ◌>>=◌ (named f) (λ n. call_of n fs)
unfolding named general
named_call f fs = go (same (ascii "strftime") f) (same (ascii "timediff") f) refl refl
  where
    go : (t u : Bool) → same (ascii "strftime") f ≡ t → same (ascii "timediff") f ≡ u → fields_call (f ∷ fs) ≡ ◌>>=◌ (named f) (λ n. call_of n fs)
    go true u e k = subst (λ (l : List ℕ). fields_call (l ∷ fs) ≡ ◌>>=◌ (named l) (λ n. call_of n fs)) (same_is (ascii "strftime") f e) (of_strftime fs)
    go false true e k = subst (λ (l : List ℕ). fields_call (l ∷ fs) ≡ ◌>>=◌ (named l) (λ n. call_of n fs)) (same_is (ascii "timediff") f k) (of_timediff fs)
    go false false e k = rw (e, k) (of_five fs (same (ascii "date") f) (same (ascii "time") f) (same (ascii "datetime") f) (same (ascii "julianday") f) (same (ascii "unixepoch") f))
