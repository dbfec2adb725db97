-- The first line, as the code's answers.
use Rattle.std.specs.Prelude.{ℕ, not, List, leb, ℤ}
use Rattle.rules.specs.Basics.{Read, ◌>>=◌, only_if}
use Rattle.rules.specs.Calls.{far_off}
use Rattle.rules.specs.Program.{digits_all, signed_all}

-- digits alone, at least one, whose number is at most `most`
abbrev pub up_to : ℕ → List ℕ → Read ℕ
up_to most s = do
  n ← digits_all s
  only_if (leb n most) n

-- the same with a minus allowed before them, and a number that is no bad offset
abbrev pub near : List ℕ → Read ℤ
near s = do
  z ← signed_all s
  only_if (not (far_off z)) z
