-- Words, letters in either case. Assumes nothing.
use Prim.Native.Nat.{ℕ, suc, ◌≤◌, ◌<◌}
use mathlib.Core.Bool.{false}
use mathlib.Core.Logic.{◌≢◌}
use mathlib.Core.Path.{◌≡◌, refl, ap, sym, ◌∙◌}
use mathlib.Core.List.{List, [], ◌∷◌}
use native.Mathlib.Omega.{arith}
use lib.Dec.{eqb, leb}
use lib.ListN.{length}
use lib.Seq.{take_all}
use borrow.Author.Tests.{ne_eqb, lt-leb}
use Rattle.std.specs.Prelude.{nat_eq}
use Rattle.std.specs.List.{list_all, zip}
use Rattle.rules.specs.Basics.{lower, word}
use Rattle.text.specs.Places.{leads}
use Rattle.text.proofs.Tests.{and_false}

pub word_length : (w s : List ℕ) → length w ≢ length s → word w s ≡ false
unfolding word
word_length [] [] h = absurd (h refl)
word_length [] (b ∷ s) h = refl
word_length (c ∷ w) [] h = refl
word_length (c ∷ w) (b ∷ s) h = rw (word_length w s (λ e. h (ap suc e))) (and_false (eqb c (lower b)))

no_lead : (w s : List ℕ) → length s < length w → leads w s ≡ false
unfolding leads
no_lead w s h = rw (take_all (length w) s (omega arith)) (word_length w s (omega arith))

pub leads_short : (w s : List ℕ) → length s < length w → leb (length w) (length s) ≡ leads w s
unfolding leads
leads_short w s h = lt-leb (length w) (length s) h ∙ sym (no_lead w s h)

pub word_other : (w s : List ℕ) → length s ≢ length w → nat_eq (length s) (length w) ≡ word w s
word_other w s h = ne_eqb (length s) (length w) h ∙ sym (word_length w s (λ e. h (sym e)))

-- the front of s that is as long as w is all of s
pub leads_all : (w s : List ℕ) → length s ≡ length w → leads w s ≡ word w s
unfolding leads
leads_all w s e = rw (take_all (length w) s (omega arith))

-- and so it is by pairs
pub leads_pairs : (w s : List ℕ) → length w ≤ length s → list_all (λ p. eqb p.0 (lower p.1)) (zip w s) ≡ leads w s
unfolding leads word
leads_pairs [] s h = refl
leads_pairs (c ∷ w) [] h = absurd (omega arith)
leads_pairs (c ∷ w) (b ∷ s) h = rw (leads_pairs w s (omega arith), leads)
