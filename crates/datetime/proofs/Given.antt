-- What is given back of an outcome: a text laid in the lent buffer, its length where it has no room, or a refusal. Assumes nothing.
use Prim.Native.Nat.{ℕ, ◌+◌, ◌≤◌}
use mathlib.Core.List.{List, [], ◌∷◌, ◌++◌}
use mathlib.Core.Path.{◌≡◌, ap, ◌∙◌, subst}
use native.Mathlib.Omega.{arith}
use native.Mathlib.Nat.{zero-add}
use borrow.Author.Tests.{le-leb}
use lib.ListN.{length, drop, length-append}
use lib.Seq.{sets-eq}
use Rattle.std.specs.Prelude.{Result, Ok}
use Rattle.rules.specs.Basics.{Read, got, other, refuse, ◌>>=◌}
use Rattle.rules.specs.Functions.{settle}
use Rattle.rules.specs.declared.Refusal.{Refusal}
use Rattle.rules.specs.Calls.{text, answered, after}
use Rattle.rules.specs.declared.Answer.{Answer}
use Rattle.digits.specs.Writers.{Room, Laid}
use Rattle.writing.specs.Formats.{text_of, PutIs, CheckIs}
use Rattle.datetime.specs.Given.{Gives}

-- a text that fits, laid from the first byte on
pub gives_text : {old s new : List ℕ} {n : ℕ} → Room old 0 s → Laid old 0 s new n → Gives (text s) old new (Ok (Answer.Text n))
unfolding answered after
gives_text {old} {s} {new} {n} r l =
    let h = le-leb (length s) (length old) (omega (arith, r.fits)) in
    record {
      is = rw h (ap (λ (k : ℕ). Ok (Answer.Text k)) (l.place ∙ zero-add (length s)));
      bytes = rw h (l.bytes ∙ sets-eq s old 0 r.fits ∙ ap (λ (k : ℕ). s ++ drop k old) (zero-add (length s)));
    }

-- two texts with a byte between them
pub parted_length : (s t : List ℕ) (b : ℕ) → length ((s ++ (b ∷ [])) ++ t) ≡ length s + 1 + length t
parted_length s t b = omega (arith, length-append (s ++ (b ∷ [])) t, length-append s (b ∷ []))

-- a format that is let through, laid where it has room
pub gives_format : (r : Read (List ℕ)) {old new : List ℕ} {n : ℕ} (s : Result ℕ Refusal) → length (text_of r) ≤ length old → s ≡ Ok n → PutIs r old 0 new s → Gives (settle (◌>>=◌ r (λ (t : List ℕ). got (text t)))) old new (Ok (Answer.Text n))
gives_format r {old} {new} s f e h = go r f (subst (λ (a : Result ℕ Refusal). PutIs r old 0 new a) e h)
  where
    go : {n : ℕ} (r : Read (List ℕ)) → length (text_of r) ≤ length old → PutIs r old 0 new (Ok n) → Gives (settle (◌>>=◌ r (λ (t : List ℕ). got (text t)))) old new (Ok (Answer.Text n))
    go (got t) f h = gives_text (record { fits = omega arith }) h
    go other f h = absurd h
    go (refuse y) f h = absurd h

pub check_short : (r : Read (List ℕ)) (limit n : ℕ) → CheckIs r limit (Ok n) → length (text_of r) ≤ n
check_short (got t) limit n h = h.0
check_short other limit n h = absurd h
check_short (refuse y) limit n h = absurd h
