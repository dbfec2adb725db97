-- An answer, shown as a text in the lent buffer.
use Rattle.std.specs.Prelude.{ℕ, not, List, T, Result, Ok, Err}
use Rattle.std.specs.Float.Ieee.{is_nan}
use Rattle.rules.specs.Calls.{text, integer, real, refused, answered, after}
use Rattle.rules.specs.Program.{shown}
use Rattle.rules.specs.declared.Answer.{Answer}
use Rattle.rules.specs.declared.Unanswered.{Unanswered}

-- no call's f64 is a NaN, which has no one pattern of bits
abbrev pub Sound : Result Answer Unanswered → Type 0
Sound (Ok (Answer.Real x)) = T (not (is_nan x))
Sound (Ok (Answer.Text n)) = Unit
Sound (Ok (Answer.Integer n)) = Unit
Sound (Err x) = Unit

-- a text stands in the buffer already, or found no room there; any other answer is shown there, or finds no room
abbrev pub shown_answer : Result Answer Unanswered → ℕ → Result Answer Unanswered
shown_answer (Ok (Answer.Text n)) room = Ok (Answer.Text n)
shown_answer (Ok (Answer.Integer n)) room = answered (text (shown (integer n))) room
shown_answer (Ok (Answer.Real x)) room = answered (text (shown (real x))) room
shown_answer (Err (Unanswered.Refused r)) room = answered (text (shown (refused r))) room
shown_answer (Err (Unanswered.NoRoom n)) room = Err (Unanswered.NoRoom n)

abbrev pub shown_after : Result Answer Unanswered → List ℕ → List ℕ
shown_after (Ok (Answer.Text n)) buffer = buffer
shown_after (Ok (Answer.Integer n)) buffer = after (text (shown (integer n))) buffer
shown_after (Ok (Answer.Real x)) buffer = after (text (shown (real x))) buffer
shown_after (Err (Unanswered.Refused r)) buffer = after (text (shown (refused r))) buffer
shown_after (Err (Unanswered.NoRoom n)) buffer = buffer
