-- `writing::check` meets its contract. Assumes nothing.
use native.Mathlib.Omega.{arith}
use mathlib.Core.Path.{refl}
use Rattle.std.proofs.lemmas.Result.{err_from_is_err_and}
use Rattle.writing.proofs.Loops.{bounded_refused, bounded_last, summed_none, summed_fits, summed_two, summed_plain, summed_letter, summed_end}
use Rattle.writing.proofs.check.Goals as goal

pub loop-part-init : goal.loop-part-init
loop-part-init c = summed_none

pub overflow_sub-most : goal.overflow_sub-most
overflow_sub-most c = let front = rw c.in-Letter.is at c.in-Some.ensures in summed_two (rw front at c.loop-part.invariant)

pub overflow_add-most : goal.overflow_add-most
overflow_add-most c =
    let front = rw c.in-Letter.is at c.in-Some.ensures in
    omega (arith, c.requires.short, summed_fits (summed_letter (rw front at c.loop-part.invariant) refl _ (rw c.in_ok-most-in-Letter.was at c.check_letter.ensures)))

pub returns-in_err-most-in-Letter : goal.returns-in_err-most-in-Letter
returns-in_err-most-in-Letter c =
    let h = err_from_is_err_and c.from_residual.result c.from_residual.ensures.1 in
    let front = rw c.in-Letter.is at c.in-Some.ensures in
    let here = rw front at c.loop-part.invariant in
    rw (h.1, h.2) (bounded_refused refl here.so _ _ (rw c.in_err-most-in-Letter.was at c.check_letter.ensures))

pub returns-in-Last : goal.returns-in-Last
returns-in-Last c =
    let front = rw c.in-Last.is at c.in-Some.ensures in
    let here = rw front at c.loop-part.invariant in
    bounded_last _ refl here.so

pub loop-part-preserved-in-Byte : goal.loop-part-preserved-in-Byte
loop-part-preserved-in-Byte c = let front = rw c.in-Byte.is at c.in-Some.ensures in summed_plain front.0 (rw front.1 at c.loop-part.invariant)

pub loop-part-preserved : goal.loop-part-preserved
loop-part-preserved c =
    let front = rw c.in-Letter.is at c.in-Some.ensures in summed_letter (rw front at c.loop-part.invariant) refl _ (rw c.in_ok-most-in-Letter.was at c.check_letter.ensures)

pub returns : goal.returns
returns c = summed_end (rw c.in_default.ensures at c.loop-part.invariant)
