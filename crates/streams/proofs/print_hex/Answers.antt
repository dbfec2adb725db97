-- The digits stand at the front of the text.
use Rattle.std.proofs.Common.{◌≡◌, ℕ, ◌+◌, ◌≤◌, List, length, take, drop, subst, arith}
use Rattle.std.proofs.Math.Seq.{take-append_seam}
use Rattle.std.proofs.lemmas.List.Edits.{sets-eq}
use Rattle.rules.specs.Program.{hex}
use Rattle.digits.specs.Writers.{Laid}
use Rattle.digits.proofs.Hex.{length_hex}
use Rattle.streams.specs.Known.{Writes}
use Rattle.streams.proofs.print_hex.Goals as goal

at_front : (n : ℕ) (text old new : List ℕ) (next : ℕ) → length text ≡ n → n ≤ length old → Laid old 0 text new next → take n new ≡ text
at_front n text old new next is fits laid =
    let h : 0 + length text ≤ length old = omega arith in
    rw (laid.bytes, sets-eq text old 0 h, ← is) (take-append_seam text (drop (0 + length text) old))

pub put_hex_digits-requires : goal.put_hex_digits-requires
put_hex_digits-requires g c = record { fits = omega (arith, length_hex c.args.width c.args.n) }

pub returns : goal.returns
returns g c =
    subst (λ t. Writes (g.W.Write.contents c.args.out.now) (g.W.Write.contents c.write_all.new.out) t c.write_all.result)
    (at_front c.args.width (hex c.args.width c.args.n) _ c.put_hex_digits.new.buf c.put_hex_digits.result (length_hex c.args.width c.args.n) (omega arith) c.put_hex_digits.ensures)
    c.write_all.ensures
