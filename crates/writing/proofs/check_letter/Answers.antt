-- `writing::check_letter` meets its contract. Assumes nothing.
use Prim.Native.Nat.{ℕ, ◌≤◌, ◌<◌}
use mathlib.Core.Path.{◌≡◌, refl, ap}
use mathlib.Core.List.{List}
use native.Mathlib.Omega.{arith}
use lib.ListN.{length}
use Rattle.std.specs.Prelude.{Result, Ok, Err}
use Rattle.std.proofs.lemmas.Result.{err_from_is_err_and}
use Rattle.rules.specs.Basics.{Read, refuse}
use Rattle.rules.specs.Calendar.{instant}
use Rattle.rules.specs.Moments.{Moment}
use Rattle.rules.specs.Writing.{letter, letters, writer}
use Rattle.rules.specs.declared.Refusal.{Refusal}
use Rattle.moment.specs.Held.{held}
use Rattle.writing.specs.Formats.{text_of, IsText, CheckIs}
use Rattle.writing.proofs.Letters.{no_letter, a_letter, most_length}
use Rattle.writing.proofs.Texts.{julian_early, julian_late}
use Rattle.writing.proofs.check_letter.Goals as goal
use Rattle.writing.proofs.check_letter.Goals.{else-c-eq74-via-then-c-eq74+else-p-lt-EARLY, else-c-eq74-via-else-c-eq74}

early : (p : Moment) → p.ms < instant 86400000000000 → letter 74 p ≡ refuse Refusal.Early
unfolding letter letters writer
early p h = julian_early p.ms h

late : (p : Moment) → instant 86400000000000 ≤ p.ms → IsText (letter 74 p)
unfolding letter letters writer
late p h = rw (julian_late p.ms h) refl

is_most : (r : Read (List ℕ)) (bound n : ℕ) → IsText r → length (text_of r) ≤ n → n ≡ bound → CheckIs r bound (Ok n)
is_most r bound n t h e = rw t (h, e)

abbrev refusal_of : Result ℕ Refusal → Refusal
refusal_of (Ok n) = Refusal.Null
refusal_of (Err x) = x

pub returns-in_err-most : goal.returns-in_err-most
returns-in_err-most c =
    let h = err_from_is_err_and c.from_residual.result c.from_residual.ensures.1 in
    let null = ap refusal_of (rw c.in_err-most.ensures.ok_part at c.in_err-most.ensures.value) in
    let none = rw c.in_err-most.ensures.ok_part at c.letter_most.ensures in
    rw (h.1, h.2, no_letter (held c.args.p) c.requires c.args.c none) null

pub returns-then-p-lt-EARLY : goal.returns-then-p-lt-EARLY
returns-then-p-lt-EARLY c = rw (c.if-c-eq74.true, early (held c.args.p) c.if-p-lt-EARLY.true) refl

pub returns : goal.returns
returns c =
    let p = held c.args.p in
    let m = rw c.in_ok-most.ensures.ok_part at c.letter_most.ensures in
    let text : IsText (letter c.args.c p) = elim c.else-c-eq74.branch [
      | else-c-eq74-via-then-c-eq74+else-p-lt-EARLY w ↦ rw w.if-c-eq74.true (late p w.if-p-lt-EARLY.false)
      | else-c-eq74-via-else-c-eq74 w ↦ a_letter p c.requires c.args.c (λ z. omega (arith, z, m.0, m.1)) w.if-c-eq74.false
    ] in
    is_most _ _ _ text (rw m.0 (most_length p c.requires c.args.c)) m.0
