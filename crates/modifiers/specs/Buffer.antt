-- What refuses a text, and the modifiers' buffer, before anything is read.
use Rattle.std.specs.Prelude.{if◌then◌else◌, Bool, ℕ, List, Result, Ok, Err}
use Rattle.rules.specs.Calls.{modifiers_bad, high}
use Rattle.rules.specs.declared.Refusal.{Refusal}

-- refusal 2 before refusal 3
abbrev pub allowed_by : Bool → Bool → Result (Unit {0}) Refusal
allowed_by shape bytes = if shape then Err Refusal.Shape else (if bytes then Err Refusal.Bytes else Ok tt)

abbrev pub allowed : List ℕ → Result (Unit {0}) Refusal
allowed s = allowed_by (modifiers_bad s) (high s)
