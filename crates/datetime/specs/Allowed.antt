-- What refuses a call before anything is read, as the code hands it back.
use Rattle.std.specs.Prelude.{◌≡◌, true, false, Result, Ok, Err, ⊤}
use Rattle.rules.specs.Calls.{bad_setting}
use Rattle.rules.specs.declared.Refusal.{Refusal}
use Rattle.rules.specs.declared.Setting.{Setting}
use Rattle.moment.specs.declared.settings.Clock.{Clock}
use Rattle.moment.specs.declared.settings.Offset.{Offset}

-- a setting: its clock and its offset, or refusal 4
abbrev pub SettingAllowed : Setting → Result (Clock × Offset) Refusal → Type 0
SettingAllowed set (Ok r) = (bad_setting set ≡ false) × (r.0.ms ≡ set.clock) × (r.1.seconds ≡ set.offset)
SettingAllowed set (Err x) = (bad_setting set ≡ true) × (x ≡ Refusal.Setting)

-- 2 of either before 3 of either
abbrev pub both_allowed : Result ⊤ Refusal → Result ⊤ Refusal → Result ⊤ Refusal
both_allowed (Ok u) b = b
both_allowed (Err Refusal.Bytes) (Err Refusal.Shape) = Err Refusal.Shape
both_allowed (Err x) b = Err x
