-- `lines::first_line` meets its contract. Assumes nothing.
use mathlib.Core.Path.{refl, sym}
use Rattle.lines.proofs.Numbers.{first_long, first_is, first_three}
use Rattle.lines.proofs.Parts.{cut_fields}
use Rattle.lines.proofs.first_line.Goals as goal

pub returns-then-s-gt-LONGEST : goal.returns-then-s-gt-LONGEST
returns-then-s-gt-LONGEST c = sym (first_long _ c.if-s-gt-LONGEST.true)

pub returns-in_err-rest : goal.returns-in_err-rest
returns-in_err-rest c = rw (c.from_residual.ensures, first_is _ _ _ c.if-s-gt-LONGEST.false c.cut.ensures, c.in_err-rest.was) refl

pub returns-in-None : goal.returns-in-None
returns-in-None c = rw (first_is _ _ _ c.if-s-gt-LONGEST.false c.cut.ensures, c.in_ok-rest.was, cut_fields _ _ _ c.cut-2.ensures, c.in-None.is) c.setting.ensures

pub returns-in-Some : goal.returns-in-Some
returns-in-Some c = rw (first_is _ _ _ c.if-s-gt-LONGEST.false c.cut.ensures, c.in_ok-rest.was, cut_fields _ _ _ c.cut-2.ensures, c.in-Some.is, first_three _ _ _) refl
