-- `writing::put_format` meets its contract. Assumes nothing.
use native.Mathlib.Omega.{arith}
use mathlib.Core.Path.{refl}
use Rattle.writing.proofs.Formats.{letter_follows, letter_text_lem}
use Rattle.writing.proofs.Loops.{room_plain, written_plain, room_letter, written_laid, written_letter, written_refused, written_end}
use Rattle.writing.proofs.put_format.Goals as goal

-- ---- the first letters
pub put_byte-next-requires : goal.put_byte-next-requires
put_byte-next-requires c = let front = rw c.in-Byte.is at c.in-Some.ensures in room_plain front.0 (rw front.1 at c.loop-part.invariant.0) c.requires.is_text c.requires.room

pub put_letter_alone-next-requires-clause-is_text : goal.put_letter_alone-next-requires-clause-is_text
put_letter_alone-next-requires-clause-is_text c = let front = rw c.in-Letter.is at c.in-Some.ensures in letter_text_lem c.requires.is_text refl (rw front at c.loop-part.invariant.0).passed

pub put_letter_alone-next-requires-clause-room : goal.put_letter_alone-next-requires-clause-room
put_letter_alone-next-requires-clause-room c = let front = rw c.in-Letter.is at c.in-Some.ensures in room_letter c.requires.is_text refl (rw front at c.loop-part.invariant.0) c.requires.room

pub unreachable-requires : goal.unreachable-requires
unreachable-requires c = let front = rw c.in-Last.is at c.in-Some.ensures in omega (arith, letter_follows c.requires.is_text _ refl (rw front at c.loop-part.invariant.0).passed)

pub loop-part-preserved-in-Byte : goal.loop-part-preserved-in-Byte
loop-part-preserved-in-Byte c =
    let front = rw c.in-Byte.is at c.in-Some.ensures in (written_plain front.0 (rw front.1 at c.loop-part.invariant.0) c.put_byte-next.ensures, c.loop-part.invariant.1)

pub loop-part-preserved : goal.loop-part-preserved
loop-part-preserved c =
    let front = rw c.in-Letter.is at c.in-Some.ensures in (
      written_laid c.requires.is_text refl (rw front at c.loop-part.invariant.0) _ _ c.put_letter_alone-next.ensures,
      omega (arith, c.loop-part.invariant.1, c.if-letters-eq-FEW.false),
    )

-- ---- the others
pub loop-part-2-init : goal.loop-part-2-init
loop-part-2-init c = c.loop-part.invariant.0

pub put_byte-next-requires-in-Byte-part : goal.put_byte-next-requires-in-Byte-part
put_byte-next-requires-in-Byte-part c =
    let front = rw c.in-Byte-part.is at c.in-Some-next_part.ensures in room_plain front.0 (rw front.1 at c.loop-part-2.invariant) c.requires.is_text c.requires.room

pub put_letter-requires-clause-room : goal.put_letter-requires-clause-room
put_letter-requires-clause-room c =
    let front = rw c.in-Letter-part.is at c.in-Some-next_part.ensures in room_letter c.requires.is_text refl (rw front at c.loop-part-2.invariant) c.requires.room

pub returns-in_err-next-in-Letter-part : goal.returns-in_err-next-in-Letter-part
returns-in_err-next-in-Letter-part c =
    let front = rw c.in-Letter-part.is at c.in-Some-next_part.ensures in
    absurd (written_refused c.requires.is_text refl (rw front at c.loop-part-2.invariant) _ _ (rw c.in_err-next-in-Letter-part.was at c.put_letter.ensures))

pub unreachable-requires-in-Last-part : goal.unreachable-requires-in-Last-part
unreachable-requires-in-Last-part c =
    let front = rw c.in-Last-part.is at c.in-Some-next_part.ensures in omega (arith, letter_follows c.requires.is_text _ refl (rw front at c.loop-part-2.invariant).passed)

pub loop-part-2-preserved-in-Byte-part : goal.loop-part-2-preserved-in-Byte-part
loop-part-2-preserved-in-Byte-part c =
    let front = rw c.in-Byte-part.is at c.in-Some-next_part.ensures in written_plain front.0 (rw front.1 at c.loop-part-2.invariant) c.put_byte-next-in-Byte-part.ensures

pub loop-part-2-preserved : goal.loop-part-2-preserved
loop-part-2-preserved c =
    let front = rw c.in-Letter-part.is at c.in-Some-next_part.ensures in
    written_letter c.requires.is_text refl (rw front at c.loop-part-2.invariant) _ _ (rw c.in_ok-next-in-Letter-part.was at c.put_letter.ensures)

pub returns : goal.returns
returns c = written_end (rw c.in_default-next_part.ensures at c.loop-part-2.invariant)
