-- What is kept of a line and what is to be written, as they stand in their buffers.
use Rattle.std.specs.Prelude.{ℕ, ◌-◌, ◌<◌, ◌≡◌, List, ◌++◌, length, take}

-- an answer and its newline have room after `used` bytes of the output's buffer
abbrev pub HasRoom : ℕ → Type 0
HasRoom used = 16384 < 65536 - used

-- the `have` bytes that are kept of a line
abbrev pub kept_line : List ℕ → ℕ → List ℕ
kept_line kept have = take have kept

-- what is kept is the line s, as far as there is room
abbrev pub Holds : List ℕ → ℕ → List ℕ → Type 0
Holds kept have s = kept_line kept have ≡ take (length kept) s

-- what is kept is what was, and after it the part, as far as there is room
abbrev pub Keeps : List ℕ → ℕ → List ℕ → List ℕ → ℕ → Type 0
Keeps old have part new next = Holds new next (kept_line old have ++ part)
