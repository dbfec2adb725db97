-- What is given and what comes back, as plain numbers.
use Rattle.std.specs.Prelude.{if◌then◌else◌, ℕ, eqb, ℤ, pos, Float, Result, Ok, Err}
use Rattle.rules.specs.Calls.{refusal_of}
use Rattle.rules.specs.Floats.{number}
use Rattle.rules.specs.declared.Answer.{Answer}
use Rattle.rules.specs.declared.Given.{Given}
use Rattle.rules.specs.declared.Unanswered.{Unanswered}
use Rattle.dangsoviey.specs.declared.Reply.{Reply}

-- 0 nothing, 1 null, 2 bytes, 3 an integer, 4 an f64; any other number is null
abbrev pub given_of : ℕ → ℤ → Float → Given
given_of k n x =
    if eqb k 0 then Given.Absent else (
    if eqb k 2 then Given.Bytes else (
    if eqb k 3 then Given.Integer n else (
    if eqb k 4 then Given.Real x else Given.Null)))

-- `kind`: 0 refused, 1 a text, 2 an integer, 3 an f64; 7: "the length needed comes back with it"
abbrev pub reply_of : Result Answer Unanswered → Reply
reply_of (Ok (Answer.Text n)) = record { kind = 1; refusal = 0; length = n; integer = pos 0; real = number 0 }
reply_of (Ok (Answer.Integer n)) = record { kind = 2; refusal = 0; length = 0; integer = n; real = number 0 }
reply_of (Ok (Answer.Real x)) = record { kind = 3; refusal = 0; length = 0; integer = pos 0; real = x }
reply_of (Err (Unanswered.Refused r)) = record { kind = 0; refusal = refusal_of (Err (Unanswered.Refused r)); length = 0; integer = pos 0; real = number 0 }
reply_of (Err (Unanswered.NoRoom n)) = record { kind = 0; refusal = refusal_of (Err (Unanswered.NoRoom n)); length = n; integer = pos 0; real = number 0 }
