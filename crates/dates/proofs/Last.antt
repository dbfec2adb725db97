-- The last line of a block after its first newline, by the place of that newline. Assumes nothing.
use Prim.Native.Nat.{ℕ, ◌+◌, ◌<◌}
use mathlib.Core.Bool.{true, not}
use mathlib.Core.Path.{◌≡◌, sym, ap, ◌∙◌}
use mathlib.Core.List.{List, ◌∷◌, ◌++◌}
use native.Mathlib.Numerals.{add-one}
use lib.Dec.{eqb}
use lib.ListN.{length, get_or, take, drop, take-append-drop}
use lib.Seq.{drop-cons}
use Rattle.rules.specs.Basics.{every}
use Rattle.dates.specs.Answers.{last_in, last_after}
use Rattle.dates.proofs.Ended.{last_line}

pub last_after_lem : (k block : List ℕ) (end : ℕ) → every (λ b. not (eqb b 10)) (take end block) ≡ true → end < length block → get_or block end 0 ≡ 10 → last_in (drop (end + 1) block) ≡ last_after k block
last_after_lem k block end clear h e =
    let d : drop end block ≡ 10 ∷ drop (end + 1) block = rw (add-one end, drop-cons block end 0 h, e) in
    last_line (record { whole = sym (take-append-drop end block) ∙ ap (λ (l : List ℕ). take end block ++ l) d; clear = clear }) k
