-- The one contract of every writer. Assumes nothing.
use Rattle.std.specs.Prelude.{if◌then◌else◌, ℕ, ◌+◌, ◌^◌, ◌≤◌, ◌<◌, ◌≡◌, List, [], ◌++◌, ltb, length}
use Rattle.std.proofs.lemmas.List.Edits.{sets}
use Rattle.rules.specs.Basics.{ascii, is, trim_end}
use Rattle.rules.specs.Floats.{negative}
use Rattle.rules.specs.Writing.{places, three_decimals, unix_real}

-- the buffer has room for a text from `at` on
pub record Room (buffer : List ℕ) (at : ℕ) (text : List ℕ) : Type 0 where
  pub fits : at + length text ≤ length buffer

-- the text stands in the buffer from `at` on, and every other byte is as it was; `next` is the place after it
pub record Laid (old : List ℕ) (at : ℕ) (text : List ℕ) (new : List ℕ) (next : ℕ) : Type 0 where
  pub place : next ≡ at + length text
  pub bytes : new ≡ sets old at text

-- nine places without the zeros at their end: how many are left, and the number that they show
pub record Trimmed (n : ℕ) (left : ℕ × ℕ) : Type 0 where
  pub few : left.0 ≤ 9
  pub fits : left.1 < 10 ^ left.0
  pub shows : places left.0 left.1 ≡ trim_end (is "0") (places 9 n)

-- a hexadecimal digit's byte
abbrev pub hex_digit : ℕ → ℕ
hex_digit d = if ltb d 10 then 48 + d else 87 + d

-- rules' text of the seconds since the Unix epoch, where `subsec` was asked for
abbrev pub unix_decimals : ℕ → List ℕ
unix_decimals t = (if negative (unix_real t) then ascii "-" else []) ++ three_decimals 1 (unix_real t)
