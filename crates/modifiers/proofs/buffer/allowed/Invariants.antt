-- The answer is that of the bytes from here on, where so many modifiers are ended, so many bytes of one stand before, and one of them may be high.
use Rattle.std.proofs.Common.{◌≡◌, ◌≤◌, drop}
use Rattle.modifiers.specs.Buffer.{allowed}
use Rattle.modifiers.proofs.Buffers.{allowed_from}
use Rattle.modifiers.proofs.buffer.allowed.Given as goal

abbrev pub invariant-loop-b : goal.invariant-loop-b
invariant-loop-b l = record { left : allowed l.buffer ≡ allowed_from l.high l.ended l.bytes (drop l.b-index l.buffer); few : l.ended ≤ 16; short : l.bytes ≤ 255 }
