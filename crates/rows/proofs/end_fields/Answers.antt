use Rattle.std.proofs.Common.{◌<◌, length, get_or, sym, arith}
use Rattle.std.proofs.lemmas.Grind.{get_or_default_zero}
use Rattle.std.proofs.lemmas.List.Edits.{map_over_more}
use Rattle.rows.specs.Lines.{field_byte}
use Rattle.rows.proofs.end_fields.Goals as goal

pub loop-b-preserved : goal.loop-b-preserved
loop-b-preserved c =
    let within : c.loop-b.b-index < length c.loop-b.line = omega arith in
    rw c.field_byte.ensures (map_over_more field_byte _ _ _ (get_or c.loop-b.line c.loop-b.b-index 0) c.loop-b-test.true c.loop-b.invariant (sym (get_or_default_zero _ _ _ within)))
