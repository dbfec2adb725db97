-- What a modifier hands back.
use Rattle.std.specs.Prelude.{◌≡◌, ℕ, ◌+◌, Result}
use Rattle.rules.specs.Basics.{Read}
use Rattle.rules.specs.Moments as rule
use Rattle.rules.specs.declared.Refusal.{Refusal}
use Rattle.moment.specs.Held.{held}
use Rattle.moment.specs.Ranges.{After, read_of, Lands}
use Rattle.moment.specs.declared.Moment.{Moment}

-- s for p by one modifier, where the rules say q
pub record Stepped (p : Moment) (s : Result Moment Refusal) (q : Read rule.Moment) : Type 0 where
  pub is : read_of s ≡ q
  pub after : (n : ℕ) → After n (held p) → Lands (λ r. After (n + 1) r) s
