use Rattle.std.proofs.Common.{◌≡◌, length, ◌∙◌}
use Rattle.rules.specs.Program.{line}
use Rattle.lines.proofs.Short.{line_short}
use Rattle.dates.proofs.Laying.{answer_length, answer_after}
use Rattle.dates.proofs.answer.Goals as goal

pub returns : goal.returns
returns c =
    let a = c.args in
    let n : c.text_length.result ≡ length (line a.set a.s.now) = answer_length a.set a.s.now a.out.now c.requires c.line.ensures.value c.text_length.ensures in
    record {
      size = (n, rw n (line_short a.set a.s.now));
      bytes = c.line.ensures.out_after ∙ rw n (answer_after a.set a.s.now a.out.now c.requires);
    }
