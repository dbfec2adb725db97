-- What is kept of a line that goes on in the next block. Assumes nothing.
use Rattle.std.proofs.Common.{◌≡◌, ℕ, ◌+◌, ◌≤◌, List, ◌++◌, length, take, drop, sym, ap, ◌∙◌, subst, arith, length-append}
use Rattle.std.proofs.Math.Seq.{take-append_seam, take-append-add}
use Rattle.std.proofs.lemmas.List.{length-take-le}
use Rattle.std.proofs.lemmas.List.Edits.{sets-eq}
use Rattle.digits.specs.Writers.{Laid}
use Rattle.digits.proofs.Buffer.{laid_length}

-- as much of the part is laid as has room, which is for k bytes more
pub kept : (old part : List ℕ) (used k : ℕ) {new t : List ℕ} {next : ℕ} → length old ≡ used + k → length t ≤ k → t ≡ take k part → Laid old used t new next
    → take next new ≡ take (length new) (take used old ++ part)
kept old part used k {new} {t} {next} long few same laid =
    let front : length (take used old) ≡ used = length-take-le used old (omega arith) in
    let fits : used + length t ≤ length old = omega arith in
    let rest = drop (used + length t) old in
    let size : length (take used old ++ t) ≡ used + length t = length-append (take used old) t ∙ ap (λ n. n + length t) front in
    let to : take next new ≡ take used old ++ t =
    rw (laid.place, laid.bytes, sets-eq t old used fits)
    (subst (λ n. take n ((take used old ++ t) ++ rest) ≡ take used old ++ t) size (take-append_seam (take used old ++ t) rest)) in
    let from : take (length new) (take used old ++ part) ≡ take used old ++ take k part =
    rw (laid_length laid, long)
    (subst (λ n. take (n + k) (take used old ++ part) ≡ take used old ++ take k part) front (take-append-add (take used old) part k)) in
    to ∙ ap (λ s. take used old ++ s) same ∙ sym from
