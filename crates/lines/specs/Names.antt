-- The names of the functions, as the code classifies them.
use Rattle.std.specs.Prelude.{ℕ, List}
use Rattle.rules.specs.Basics.{ascii, Read, got, ◌or◌, ◌>>=◌, only_if}
use Rattle.rules.specs.Calls.{Call}
use Rattle.rules.specs.Program.{same, general, general_call, strftime_call, timediff_call}
use Rattle.lines.specs.declared.names.Name.{Name}

-- in the order of `fields_call`
unfoldable pub named : List ℕ → Read Name
named f = (do g ← general f; got (Name.General g)) or only_if (same (ascii "strftime") f) Name.Strftime or only_if (same (ascii "timediff") f) Name.Timediff

-- the call of a function's fields
abbrev pub call_of : Name → List (List ℕ) → Read Call
call_of (Name.General g) fs = general_call fs g
call_of Name.Strftime fs = strftime_call fs
call_of Name.Timediff fs = timediff_call fs
