-- `text::starts` meets its contract.
use Rattle.std.proofs.Common.{rules, tests, ◌∙◌, eqb}
use Rattle.std.proofs.lemmas.Iterator.{YieldsList-from_zip, YieldsList-from_slice}
use Rattle.std.proofs.lemmas.Iterator.Search.{all_from_yields_List}
use Rattle.rules.specs.Basics.{lower}
use Rattle.text.proofs.Words.{leads_pairs, leads_short}
use Rattle.text.proofs.starts.Goals as goal

pub returns-then-w-s : goal.returns-then-w-s
returns-then-w-s c =
    all_from_yields_List (λ p. eqb p.0 (lower p.1)) c.all.new.self _ c.all.result c.all.ensures.ran (YieldsList-from_zip {s = c.zip.result} (YieldsList-from_slice c.args.w.now (cc)) (YieldsList-from_slice c.args.s.now (cc))) (λ x b q k. search (rules, tests))
    ∙ leads_pairs _ _ c.if-w-s.true

pub returns-else-w-s : goal.returns-else-w-s
returns-else-w-s c = leads_short _ _ c.if-w-s.false
