-- The digits that are left, after those that wrote n, bring what all of them do.
use Rattle.std.proofs.Common.{◌≡◌, ◌≤◌, drop}
use Rattle.rows.specs.Numbers.{number, number_on}
use Rattle.rows.proofs.number.Given as goal

abbrev pub invariant-loop-b : goal.invariant-loop-b
invariant-loop-b l = record { value : number l.limit l.s ≡ number_on l.limit l.n (drop l.b-index l.s); within : l.n ≤ l.limit }
