-- `lines::clock::setting` meets its contract. Assumes nothing.
use mathlib.Core.Path.{refl}
use mir.Syntax.{w64}
use mir.Val.{SFits}
use mir.ValLaws.{to_z-of_z}
use Rattle.lines.proofs.Numbers.{two_fields_lem}
use borrow.Author.Rules.{rules}
use Rattle.lines.proofs.clock.setting.Goals as goal

pub returns-in_err-number_of : goal.returns-in_err-number_of
returns-in_err-number_of c = rw (c.from_residual.ensures, two_fields_lem c.args.clock.now c.args.offset.now, ← c.number_of.ensures.value, c.in_err-number_of.was) refl

pub returns-in_err-offset_of : goal.returns-in_err-offset_of
returns-in_err-offset_of c = rw (c.from_residual-in_err-offset_of.ensures, two_fields_lem c.args.clock.now c.args.offset.now, ← c.number_of.ensures.value, c.in_ok-number_of.was, ← c.offset_of.ensures, c.in_err-offset_of.was) refl

pub returns : goal.returns
returns c =
    let f : SFits w64 c.in_ok-offset_of.field-0 = search rules in
    rw (two_fields_lem c.args.clock.now c.args.offset.now, ← c.number_of.ensures.value, c.in_ok-number_of.was, ← c.offset_of.ensures, c.in_ok-offset_of.was, to_z-of_z w64 c.in_ok-offset_of.field-0 f) refl
