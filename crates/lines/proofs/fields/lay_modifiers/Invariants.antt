-- `lines::fields::lay_modifiers` meets its contract. Assumes nothing.
use mathlib.Core.Path.{◌≡◌}
use mathlib.Core.List.{map}
use lib.ListN.{take}
use lib.Seq.{sets}
use Rattle.lines.proofs.Parts.{zeroed}
use Rattle.lines.proofs.fields.lay_modifiers.Given as goal

abbrev pub invariant-loop-i : goal.invariant-loop-i
invariant-loop-i l = l.room ≡ sets l.fn.room 0 (map zeroed (take l.i l.s))
