-- `datetime::texts::formatted` meets its contract.
use Prim.Native.Nat.{◌≤◌}
use Rattle.std.specs.Prelude.{length}
use native.Mathlib.Omega.{arith}
use Rattle.rules.specs.Writing.{formatted}
use Rattle.moment.specs.Held.{held}
use Rattle.writing.specs.Formats.{text_of}
use Rattle.datetime.proofs.Given.{check_short, gives_format}
use Rattle.datetime.proofs.texts.formatted.Goals as goal
use Rattle.datetime.proofs.texts.formatted.Goals.{then-out-most+in_ok-has_room, else-out-most}

pub returns : goal.returns
returns c = let r = formatted (held c.args.p) c.args.format.now in
    let short : length (text_of r) ≤ length c.args.out.now =
    elim c.if-out-most.branch [
      | then-out-most+in_ok-has_room w ↦ omega (arith, w.format_length.ensures, w.in_ok-has_room.ensures)
      | else-out-most w ↦ omega (arith, w.if-out-most.false, check_short r _ _ c.in_ok-most.ensures)
    ] in
    gives_format r _ short c.in_ok-put_format.was c.put_format.ensures
