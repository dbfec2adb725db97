-- `datetime::strftime` meets its contract.
use Rattle.datetime.proofs.Answers.{filled}
use Rattle.datetime.proofs.strftime.Goals as goal

pub formatted-requires : goal.formatted-requires
formatted-requires c = (filled c.in_ok-p.ensures.lands c.fill.ensures.is, c.in_ok-p.ensures.short_format)
