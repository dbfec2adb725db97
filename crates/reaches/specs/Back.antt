-- What the code that puts timediff's text back answers, on all inputs and for A and B of demand 3.
use Rattle.std.specs.Prelude.{if◌then◌else◌, ℕ, ◌≤◌, false, ◌≡◌, List, [], leb, length, Result, Ok, Err}
use Rattle.rules.specs.Calls.{Value, bytes, Call, timediff, Outcome, text, integer, real, refused, bad_setting, answered, after}
use Rattle.rules.specs.Functions.{answer}
use Rattle.rules.specs.declared.Setting.{Setting}
use Rattle.rules.specs.declared.Answer.{Answer}
use Rattle.rules.specs.declared.Unanswered.{Unanswered}
use Rattle.reading.specs.Written.{written}
use Rattle.law_putback.specs.Demand.{Instant, value, alone}

-- ---- the first call
-- its text, ended by the zero byte of a modifier
abbrev pub ended : Outcome → Outcome
ended (text t) = text (alone t)
ended (integer n) = integer n
ended (real x) = real x
ended (refused r) = refused r

-- timediff of the bytes a and b, as a buffer of one modifier
abbrev pub span_of : Setting → List ℕ → List ℕ → Outcome
span_of set a b = ended (answer set (timediff (bytes a) (bytes b)))

-- ---- the second call, f, of b and those modifiers, if they found room
-- what comes back, with so much room for the modifiers and for the answer
abbrev pub back_of : (List ℕ → Outcome) → Outcome → ℕ → ℕ → Result Answer Unanswered
back_of again (text m) span out = if leb (length m) span then answered (again m) out else Err (Unanswered.NoRoom (length m))
back_of again (integer n) span out = Ok (Answer.Integer n)
back_of again (real x) span out = Ok (Answer.Real x)
back_of again (refused r) span out = Err (Unanswered.Refused r)

unfoldable pub back_with : Setting → (Value → List ℕ → Call) → List ℕ → List ℕ → ℕ → ℕ → Result Answer Unanswered
back_with set f a b span out = back_of (λ m. answer set (f (bytes b) m)) (span_of set a b) span out

-- what the answer's buffer then holds
abbrev pub out_of : (List ℕ → Outcome) → Outcome → ℕ → List ℕ → List ℕ
out_of again (text m) span out = if leb (length m) span then after (again m) out else out
out_of again (integer n) span out = out
out_of again (real x) span out = out
out_of again (refused r) span out = out

unfoldable pub out_with : Setting → (Value → List ℕ → Call) → List ℕ → List ℕ → ℕ → List ℕ → List ℕ
out_with set f a b span out = out_of (λ m. answer set (f (bytes b) m)) (span_of set a b) span out

-- ---- demand 3
-- "Under any setting that refusal 4 lets through", for instants A and B, with 25 bytes for timediff's text and its zero byte: what comes
-- back, and what the answer's buffer holds, is what f gives of A alone. f is datetime, or strftime in any format.
unfoldable pub AsOfA : Setting → (Value → List ℕ → Call) → List ℕ → List ℕ → ℕ → List ℕ → List ℕ → Result Answer Unanswered → Type 0
AsOfA set f a b span old new r =
    (A B : Instant) → a ≡ written A.stamp → b ≡ written B.stamp → bad_setting set ≡ false → 25 ≤ span →
    (r ≡ answered (answer set (f (value A) [])) (length old)) × (new ≡ after (answer set (f (value A) [])) old)
