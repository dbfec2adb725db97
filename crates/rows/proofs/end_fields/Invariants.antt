-- The bytes so far are those of fields, the others as they were.
use Rattle.std.proofs.Common.{◌≡◌, ◌++◌, map, take, drop}
use Rattle.rows.specs.Lines.{field_byte}
use Rattle.rows.proofs.end_fields.Given as goal

abbrev pub invariant-loop-b : goal.invariant-loop-b
invariant-loop-b l = l.line ≡ map field_byte (take l.b-index l.fn.line) ++ drop l.b-index l.fn.line
