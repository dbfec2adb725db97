-- "Marked examples": one table, and what it says under a setting.
use Rattle.std.specs.Prelude.{ℕ, ◌≡◌, List, [], ◌∷◌, ◌++◌}
use Prim.Native.String as str
use Rattle.rules.specs.Basics.{ascii}
use Rattle.rules.specs.Calls.{bytes, Call, call, strftime, timediff, Outcome, text, refused}
use Rattle.rules.specs.Functions.{answer}
use Rattle.rules.specs.declared.Refusal.{Refusal}
use Rattle.rules.specs.declared.Setting.{Setting}
use Rattle.rules.specs.declared.Function.{Function}

pub record Row : Type 0 where
  pub asked : Call
  pub answered : Outcome

-- a modifier in the buffer, before others
abbrev pub ◌then◌ : str.String → List ℕ → List ℕ
s then m = ascii s ++ (0 ∷ m)

infixr 50 ◌then◌
-- one row: a function of a text and modifiers, of a format, of two texts; a text, or null
abbrev pub of : Function → str.String → List ℕ → Outcome → Row
of f v m o = record { asked = call f (bytes (ascii v)) m; answered = o }

abbrev pub of_format : str.String → str.String → List ℕ → Outcome → Row
of_format f v m o = record { asked = strftime (ascii f) (bytes (ascii v)) m; answered = o }

abbrev pub of_two : str.String → str.String → Outcome → Row
of_two a b o = record { asked = timediff (bytes (ascii a)) (bytes (ascii b)); answered = o }

abbrev pub gives : str.String → Outcome
gives s = text (ascii s)

abbrev pub null : Outcome
null = refused Refusal.Null

unfoldable pub rows : List Row
rows =
    of Function.Datetime "0" [] (gives "-4713-11-24 12:00:00")  -- m1
    ∷ of Function.Date "2023-02-31" [] (gives "2023-03-03")  -- m2
    ∷ of Function.Time "24:00" [] (gives "24:00:00")  -- m3
    ∷ of Function.Date "9999-12-31 24:00" [] null  -- m4
    ∷ of Function.Datetime "1700000000" ("unixepoch" then []) (gives "2023-11-14 22:13:20")  -- m5
    ∷ of Function.Date "2024-01-31" ("+1 month" then "floor" then []) (gives "2024-02-29")  -- m6
    ∷ of Function.Date "2024-01-01" ("weekday 0" then []) (gives "2024-01-07")  -- m7
    ∷ of_two "2023-03-01" "2023-01-31" (gives "+0000-00-29 00:00:00.000")  -- m8
    ∷ of_two "2023-01-31" "2023-03-01" (gives "-0000-01-01 00:00:00.000")  -- m9
    ∷ of Function.Datetime "2024-01-01 00:00:00.999" ("+00:00:01.001" then []) (gives "2024-01-01 00:00:02")  -- m10
    ∷ of_format "%G %V %U %W" "2021-01-03" [] (gives "2020 53 01 00")  -- m11
    ∷ of_format "%F" "9999-12-31" ("+1 day" then []) null  -- m12
    ∷ []

-- every row's answer, under a setting
abbrev pub All : Setting → List Row → Type 0
All set [] = Unit
All set (r ∷ rs) = (answer set r.asked ≡ r.answered) × All set rs
