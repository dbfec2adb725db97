use Rattle.std.proofs.Common.{length, take, sym, ap, ◌∙◌}
use Rattle.dates.proofs.Ended.{answers_none}
use Rattle.dates.proofs.Run.take_lines.Goals as goal

pub returns : goal.returns
returns c =
    c.keep.ensures ∙ ap (take (length c.keep.new.self.bytes))
    (sym (c.loop-self.invariant ∙ answers_none c.answer_lines-left.ensures c.if-left-rest.true c.make_room.ensures.room))
