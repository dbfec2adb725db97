-- Whoever writes the rest has written all. Each turn leaves less.
use Rattle.std.proofs.Common.{length}
use Rattle.std.specs.Prelude.{Option, Result, ℕ, List, ⊤}
use Rattle.streams.specs.declared.Unwritten.{Unwritten}
use Rattle.streams.specs.Known.{Writes}
use Rattle.streams.proofs.write_all.Given as goal

abbrev pub invariant-loop-rest : goal.invariant-loop-rest
invariant-loop-rest g l = (after : Option (List ℕ)) (r : Result ⊤ Unwritten)
    → Writes (g.W.Write.contents l.out) after l.rest r → Writes (g.W.Write.contents l.fn.out) after l.bytes r

abbrev pub decreases-loop-rest : goal.decreases-loop-rest
decreases-loop-rest g l = length l.rest
