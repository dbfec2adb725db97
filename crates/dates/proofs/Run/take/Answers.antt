use Rattle.std.proofs.Common.{ap, sym, take, length, ◌∙◌, subst}
use Rattle.std.specs.Prelude.{OnOk}
use Rattle.dates.specs.Answers.{last_after}
use Rattle.dates.specs.Buffers.{Holds}
use Rattle.dates.proofs.Ended.{last_begins, last_goes_on, last_line}
use Rattle.dates.proofs.Run.take.Goals as goal

pub returns : goal.returns
returns c =
    let k = c.args.self.now.kept in
    let n = c.take_lines.new.self.kept in
    subst (λ s. OnOk c.take_lines.result (Holds n.bytes n.used s))
    (last_begins c.args.block.now ∙ ap (λ n. last_after (take n k.bytes) c.args.block.now) (sym c.if-self-eq0.true)) c.take_lines.ensures

pub returns-in_default : goal.returns-in_default
returns-in_default c =
    let k = c.args.self.now.kept in
    c.keep.ensures ∙ ap (take (length c.keep.new.self.bytes)) (last_goes_on (rw c.in_default-2.is at c.cut.ensures) (take k.used k.bytes))

pub returns-2 : goal.returns-2
returns-2 c =
    let k = c.args.self.now.kept in
    let n = c.take_lines-2.new.self.kept in
    subst (λ s. OnOk c.take_lines-2.result (Holds n.bytes n.used s)) (last_line (rw c.in-Some-after.is at c.cut.ensures) (take k.used k.bytes)) c.take_lines-2.ensures
