-- `writing::format_length` meets its contract. Assumes nothing.
use native.Mathlib.Omega.{arith}
use mathlib.Core.Path.{refl}
use Rattle.writing.proofs.Formats.{letter_follows}
use Rattle.writing.proofs.Loops.{counted_plain, counted_letter, counted_end}
use Rattle.writing.proofs.format_length.Goals as goal
use Rattle.writing.proofs.format_length.Goals.{in-Byte, in-Letter}

pub unreachable-requires : goal.unreachable-requires
unreachable-requires c = let front = rw c.in-Last.is at c.in-Some.ensures in omega (arith, letter_follows c.requires.is_text _ refl (rw front at c.loop-part.invariant).passed)

pub loop-part-preserved : goal.loop-part-preserved
loop-part-preserved c = elim c.match-part.branch [
  | in-Byte w ↦ let front = rw w.in-Byte.is at c.in-Some.ensures in rw w.n-is (counted_plain front.0 (rw front.1 at c.loop-part.invariant))
  | in-Letter w ↦ let front = rw w.in-Letter.is at c.in-Some.ensures in rw w.n-is (counted_letter c.requires.is_text refl (rw front at c.loop-part.invariant) w.letter_length.ensures.0 w.letter_length.ensures.1)
]

pub returns : goal.returns
returns c = counted_end (rw c.in_default.ensures at c.loop-part.invariant)
