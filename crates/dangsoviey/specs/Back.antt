-- A stamp is read back to its milliseconds. The proof is `reads_back` in proofs/Back.antt.
use Rattle.std.specs.Prelude.{ℕ, false, List, [], ◌≡◌, ℤ, pos, negsuc, length, ◌≤ℤ◌}
use Rattle.rules.specs.Calls.{bytes, text, integer, bad_setting}
use Rattle.rules.specs.declared.Setting.{Setting}
use Rattle.dangsoviey.specs.Milliseconds.{milliseconds, stamp}

-- of z milliseconds from 1970, under a setting: the stamp is 23 bytes, and the milliseconds of these are z
pub record ReadsBack (set : Setting) (z : ℤ) : Type 0 where
  pub stamped : List ℕ
  pub is : stamp z ≡ text stamped
  pub count : length stamped ≡ 23
  pub back : milliseconds set (bytes stamped) [] ≡ integer z

-- for the years 0 to 9999, from 0000-01-01 00:00:00.000 to 9999-12-31 23:59:59.999, under any setting that refusal 4 lets through
abbrev pub Back : Type 0
Back = (set : Setting) → bad_setting set ≡ false → (z : ℤ) → negsuc 62167219199999 ≤ℤ z → z ≤ℤ pos 253402300799999 → ReadsBack set z
