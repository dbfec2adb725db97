use Rattle.std.proofs.Common.{◌≡◌, ◌+◌, [], ◌∷◌, length, take, drop, get_or, sym, ap, ◌∙◌, subst, rules, of_calls, add-one, drop-cons}
use Rattle.std.proofs.Math.ListN.{drop_of_length-le}
use Rattle.std.specs.Io.KnownBytes.{Consumes}
use Rattle.rows.specs.Lines.{CalledAtLine, kept}
use Rattle.rows.proofs.Feeding.{Fed, begins, reads, goes_on, ends, all}
use Rattle.rows.proofs.each_line.Goals as goal
use Rattle.rows.proofs.each_line.Goals.{then-b-eq10, else-b-eq10}

pub loop-init : goal.loop-init
loop-init g c = record { callable = search rules; within = search rules; fed = begins (CalledAtLine g.F.FnMut) c.args.row (g.R.Read.remaining c.args.input.now) (length c.args.room.now) }

pub returns-then-n-eq0 : goal.returns-then-n-eq0
returns-then-n-eq0 g c =
    let none : Consumes (g.R.Read.remaining c.loop.input) (g.R.Read.remaining c.next-n.new.input) [] = rw c.if-n-eq0.true at c.next-n.ensures.bytes in
    all _ _ _ _ (reads _ _ _ _ [] c.loop.invariant.fed none)

pub loop-b-init : goal.loop-b-init
loop-b-init g c = record { callable = search rules; within = search rules; fed = reads _ _ _ _ (take c.next-n.result c.next-n.new.block) c.loop.invariant.fed c.next-n.ensures.bytes }

pub loop-b-preserved : goal.loop-b-preserved
loop-b-preserved g c =
    let n = length c.args.room.now in
    let read = take c.next-n.result c.next-n.new.block in
    let i = c.loop-b.b-index in
    let b = get_or read i 0 in
    let line = take c.loop-b.have c.loop-b.room in
    let now = g.R.Read.remaining c.next-n.new.input in
    let before : Fed (CalledAtLine g.F.FnMut) c.args.row (g.R.Read.remaining c.args.input.now) n c.loop-b.row now line (b ∷ drop (i + 1) read) =
    subst (λ more. Fed (CalledAtLine g.F.FnMut) c.args.row (g.R.Read.remaining c.args.input.now) n c.loop-b.row now line more)
    (drop-cons read i 0 c.loop-b-test.true ∙ ap (λ j. b ∷ drop j read) (sym (add-one i))) c.loop-b.invariant.fed in
    let is : take c.kept-have.result c.kept-have.new.room ≡ kept n line b = rw (c.loop-b.auto.room, c.loop.auto.room) at c.kept-have.ensures.bytes in
    record {
      callable = elim c.if-b-eq10.branch [ then-b-eq10 w ↦ search (rules, of_calls) | else-b-eq10 w ↦ search (rules, of_calls) ];
      within = elim c.if-b-eq10.branch [ then-b-eq10 w ↦ search rules | else-b-eq10 w ↦ search rules ];
      fed = elim c.if-b-eq10.branch [
        | then-b-eq10 w ↦
            let call : CalledAtLine g.F.FnMut c.loop-b.row (kept n line b) w.row.new.self = record { shown = _; shows = is; result = _; left = _; called = w.row.ensures } in
            rw (w.row-is, w.have-is) (ends _ _ _ _ b w.if-b-eq10.true call before)
        | else-b-eq10 w ↦ rw (w.row-is, w.have-is, w.room-is, is) (goes_on _ _ _ _ b w.if-b-eq10.false before)
      ];
    }

pub loop-preserved : goal.loop-preserved
loop-preserved g c =
    let read = take c.next-n.result c.next-n.new.block in
    record {
      callable = search rules;
      within = search rules;
      fed = subst (λ more. Fed (CalledAtLine g.F.FnMut) c.args.row (g.R.Read.remaining c.args.input.now) (length c.args.room.now) c.loop-b.row (g.R.Read.remaining c.next-n.new.input) (take c.loop-b.have c.loop-b.room) more)
          (drop_of_length-le read c.loop-b-test.false) c.loop-b.invariant.fed;
    }

pub returns : goal.returns
returns g c = all _ _ _ _ c.loop.invariant.fed
