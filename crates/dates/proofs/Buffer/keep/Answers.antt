use Rattle.std.proofs.Common.{◌-◌, ◌∙◌, ap, take, arith}
use Rattle.std.proofs.lemmas.List.{take_min, length-take}
use Rattle.dates.proofs.Keeping.{kept}
use Rattle.dates.proofs.Buffer.keep.Goals as goal

pub returns : goal.returns
returns g c =
    let a = c.args in
    let k = g.row.N - a.self.now.used in
    kept a.self.now.bytes a.part.now a.self.now.used k (omega arith) (omega (arith, length-take c.min-n.result a.part.now))
    (ap (λ n. take n a.part.now) c.min-n.ensures ∙ take_min k a.part.now) c.put.ensures
