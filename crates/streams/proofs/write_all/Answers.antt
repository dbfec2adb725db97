-- Whoever writes the rest after one write has written what that write had to.
use Rattle.std.proofs.Common.{ℕ, ◌+◌, ◌≤◌, List, length, take, drop, sym, subst, arith}
use Rattle.std.proofs.Math.ListN.{take-append-drop, length-drop}
use Rattle.std.proofs.Math.Seq.{take-add}
use Rattle.std.proofs.lemmas.List.{take_rest}
use Rattle.std.proofs.KnownBytes.{Appends-trans}
use Rattle.std.specs.Prelude.{Option, Result, Ok, Err, ⊤}
use Rattle.std.specs.Io.KnownBytes.{Appends}
use Rattle.streams.specs.declared.Unwritten.{Unwritten}
use Rattle.streams.specs.Known.{Writes}
use Rattle.streams.proofs.write_all.Goals as goal

goes_on : (a b c : Option (List ℕ)) (l : List ℕ) (n : ℕ) (r : Result ⊤ Unwritten) → n ≤ length l
    → Appends a b (take n l) → Writes b c (drop n l) r → Writes a c l r
goes_on a b c l n (Ok done) h first rest = subst (Appends a c) (take-append-drop n l) (Appends-trans a b c _ _ first rest)
goes_on a b c l n (Err e) h first (k, within, rest) =
    (n + k, omega (arith, length-drop n l), subst (Appends a c) (sym (take-add n k l)) (Appends-trans a b c _ _ first rest))

pub loop-rest-preserved : goal.loop-rest-preserved
loop-rest-preserved g c after r rest =
    c.loop-rest.invariant after r
    (goes_on _ _ after c.loop-rest.rest.now c.in_ok-n.n r c.in_ok-n.ensures.some.1 c.in_ok-n.ensures.bytes
    (subst (λ l. Writes (g.W.Write.contents c.write.new.out) after l r) (take_rest c.loop-rest.rest.now c.in_ok-n.n) rest))
