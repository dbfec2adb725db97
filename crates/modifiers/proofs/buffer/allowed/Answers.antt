-- `modifiers::buffer::allowed` meets its contract.
use Rattle.std.proofs.Common.{sym, ◌∙◌, arith}
use Rattle.modifiers.proofs.Buffers.{allowed_start, zero_on, too_many, byte_on, high_byte, too_long_byte, not_ended, all_ended}
use Rattle.modifiers.proofs.buffer.allowed.Goals as goal
use Rattle.modifiers.proofs.buffer.allowed.Goals.{then-b-eq0+else-ended-eq16, else-b-eq0+else-bytes-eq255+then-b-gt127, else-b-eq0+else-bytes-eq255+else-b-gt127}

pub loop-b-init : goal.loop-b-init
loop-b-init c = record { left = allowed_start _; few = omega arith; short = omega arith }

pub returns-then-ended-eq16 : goal.returns-then-ended-eq16
returns-then-ended-eq16 c = sym (c.loop-b.invariant.left ∙ too_many _ _ _ _ _ c.loop-b-test.true c.if-b-eq0.true c.if-ended-eq16.true)

pub returns-then-bytes-eq255 : goal.returns-then-bytes-eq255
returns-then-bytes-eq255 c = sym (c.loop-b.invariant.left ∙ too_long_byte _ _ _ _ _ c.loop-b-test.true c.if-b-eq0.false c.if-bytes-eq255.true)

pub loop-b-preserved : goal.loop-b-preserved
loop-b-preserved c =
    let l = c.loop-b.invariant in
    let h = c.loop-b-test.true in
    elim c.if-b-eq0.branch [
      | then-b-eq0+else-ended-eq16 w ↦ record { left = l.left ∙ rw (w.high-is, w.ended-is, w.bytes-is) (zero_on _ _ _ _ _ h w.if-b-eq0.true (omega arith) (omega arith)); few = omega arith; short = omega arith }
      | else-b-eq0+else-bytes-eq255+then-b-gt127 w ↦ record { left = l.left ∙ rw (w.high-is, w.ended-is, w.bytes-is) (high_byte _ _ _ _ _ h w.if-b-eq0.false w.if-b-gt127.true); few = omega arith; short = omega arith }
      | else-b-eq0+else-bytes-eq255+else-b-gt127 w ↦ record { left = l.left ∙ rw (w.high-is, w.ended-is, w.bytes-is) (byte_on _ _ _ _ _ h w.if-b-eq0.false w.if-b-gt127.false); few = omega arith; short = omega arith }
    ]

pub returns-then-bytes-gt0 : goal.returns-then-bytes-gt0
returns-then-bytes-gt0 c = sym (c.loop-b.invariant.left ∙ not_ended _ _ _ _ _ c.loop-b-test.false c.if-bytes-gt0.true)

pub returns-then-high : goal.returns-then-high
returns-then-high c = sym (c.loop-b.invariant.left ∙ all_ended _ _ _ _ _ c.loop-b-test.false c.if-bytes-gt0.false ∙ rw c.if-high.true)

pub returns : goal.returns
returns c = sym (c.loop-b.invariant.left ∙ all_ended _ _ _ _ _ c.loop-b-test.false c.if-bytes-gt0.false ∙ rw c.if-high.false)
