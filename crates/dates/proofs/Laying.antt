-- Texts laid in the output's buffer. Assumes nothing.
use Prim.Native.Nat.{ℕ, ◌+◌, ◌≤◌}
use mathlib.Core.Bool.{true}
use mathlib.Core.Path.{◌≡◌, refl, sym, ap, ◌∙◌}
use mathlib.Core.List.{List, ◌++◌, append_assoc}
use native.Mathlib.Omega.{arith}
use lib.Dec.{leb}
use lib.ListN.{length, take, drop, length-drop, take-append-drop}
use lib.Seq.{sets, sets-eq, drop-drop, drop-append-le, length-take-le}
use borrow.Rule.Slice.PartMut.{mid_of, put_mid}
use borrow.Author.Tests.{le-leb}
use Rattle.rules.specs.Calls.{text, answered, after}
use Rattle.rules.specs.Program.{line}
use Rattle.std.specs.Prelude.{Result}
use Rattle.rules.specs.declared.Answer.{Answer}
use Rattle.rules.specs.declared.Unanswered.{Unanswered}
use Rattle.rules.specs.declared.Setting.{Setting}
use Rattle.digits.specs.Writers.{Laid}
use Rattle.lines.proofs.Short.{line_short}
use Rattle.dates.specs.Answers.{text_length}

-- ---- a text that fills a part of the buffer that was lent, and is back
pub whole_laid : (out s t : List ℕ) (used k : ℕ) → k ≡ length t → s ≡ t → used + length t ≤ length out → put_mid used k out s ≡ sets out used t
whole_laid out s t used k n e fits = rw (e, n, drop-drop (length t) used out, sets-eq t out used fits, append_assoc) refl

-- ---- a text at the front of a part of the buffer that was lent, and is back
mid_laid : (out t : List ℕ) (used k : ℕ) → length t ≤ k → used + k ≤ length out → put_mid used k out (t ++ drop (length t) (mid_of used k out)) ≡ sets out used t
mid_laid out t used k h f =
    let l = drop used out in
    let few : length t ≤ length (take k l) = rw (length-take-le k l (rw (length-drop used out) (omega arith))) h in
    let rest : drop (length t) (take k l) ++ drop k l ≡ drop (used + length t) out = sym (drop-append-le (length t) (take k l) (drop k l) few) ∙ ap (λ (x : List ℕ). drop (length t) x) (take-append-drop k l) ∙ drop-drop (length t) used out in
    ap (λ (x : List ℕ). take used out ++ x) (append_assoc t (drop (length t) (take k l)) (drop k l) ∙ ap (λ (x : List ℕ). t ++ x) rest) ∙ sym (append_assoc (take used out) t (drop (used + length t) out)) ∙ sym (sets-eq t out used (omega arith))

pub part_laid : {out t ys : List ℕ} {used k n : ℕ} → n ≡ length t → length t ≤ k → used + k ≤ length out → ys ≡ t ++ drop n (mid_of used k out)
    → Laid out used t (put_mid used k out ys) (used + n)
part_laid {out} {t} {ys} {used} {k} {n} is few fits e =
    record { place = ap (λ (m : ℕ). used + m) is; bytes = rw (e, is) (mid_laid out t used k few fits) }

-- ---- a line's answer, which finds room
module _ (set : Setting) (s out : List ℕ) (room : 16384 ≤ length out) where
  fits : leb (length (line set s)) (length out) ≡ true
  fits = let few = line_short set s in le-leb (length (line set s)) (length out) (omega arith)

  pub answer_length : {a : Result Answer Unanswered} {n : ℕ} → a ≡ answered (text (line set s)) (length out) → n ≡ text_length a → n ≡ length (line set s)
  unfolding answered
  answer_length p l = rw (l, p, fits) refl

  pub answer_after : after (text (line set s)) out ≡ line set s ++ drop (length (line set s)) out
  unfolding after
  answer_after = rw fits refl
