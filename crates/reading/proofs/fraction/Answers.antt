-- `reading::fraction` meets its contract.
use native.Mathlib.Omega.{arith}
use Rattle.std.proofs.lemmas.Grind.{common_steps}
use Rattle.rules.specs.Reading.{fraction}
use Rattle.rules.specs.Decimal.{run}
use Rattle.real.proofs.Literals.{literals}
use Rattle.reading.proofs.Fractions.{too_short}
use Rattle.reading.proofs.fraction.Goals as goal
use Rattle.reading.proofs.fraction.Goals.{in_default-via-then-s-lt2, in_default-via-else-s-lt2+in-46+then-s-lt48, in_default-via-else-s-lt2+in-46+else-s-lt48+else-s-lt58, in_default-via-else-s-lt2+in_default-1}

pub returns-in_default : goal.returns-in_default
unfolding fraction run
returns-in_default c =
    elim c.in_default.branch [
      | in_default-via-then-s-lt2 w ↦ grind (arith, common_steps, literals, too_short)
      | in_default-via-else-s-lt2+in-46+then-s-lt48 w ↦ grind (arith, common_steps, literals)
      | in_default-via-else-s-lt2+in-46+else-s-lt48+else-s-lt58 w ↦ grind (arith, common_steps, literals)
      | in_default-via-else-s-lt2+in_default-1 w ↦ grind (arith, common_steps, literals)
    ]
