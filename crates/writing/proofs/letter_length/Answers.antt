-- `writing::letter_length` meets its contract. Assumes nothing.
use Prim.Native.Nat.{ℕ, ◌≤◌, ◌<◌}
use mathlib.Core.Path.{◌≡◌, sym, ap, ◌∙◌}
use native.Mathlib.Omega.{arith}
use lib.Dec.{lit≤}
use lib.ListN.{length}
use Rattle.std.specs.Prelude.{Option, Some, None, MatchOption}
use Rattle.std.specs.Option.{unwrap_or}
use Rattle.rules.specs.Moments.{Moment}
use Rattle.rules.specs.Writing.{letter, letters, writer, year_short, signed_year}
use Rattle.rules.specs.declared.Ymd.{Ymd}
use Rattle.moment.specs.Held.{held}
use Rattle.digits.proofs.Lengths.{length_year}
use Rattle.moment.specs.Ranges.{Full}
use Rattle.writing.specs.Formats.{text_of}
use Rattle.writing.proofs.Lengths.{length_date}
use Rattle.writing.proofs.Letters.{seventeen, exact_length}
use Rattle.writing.proofs.letter_length.Goals as goal

answer : (p : Moment) → Full p → (c k n : ℕ) → c ≡ k → n ≡ length (text_of (letter k p)) → (n ≡ length (text_of (letter c p))) × (n ≤ 17)
answer p h c k n e i =
    let j : n ≡ length (text_of (letter c p)) = i ∙ ap (λ (b : ℕ). length (text_of (letter b p))) (sym e) in
    (j, omega (arith, j, seventeen p h c))

-- what is no letter writes 0 bytes
unwrap_most : (o : Option ℕ) (most : ℕ) → MatchOption o (most ≡ 0) (λ n. (n ≡ most) × (0 < n) × (n ≤ 17)) → (unwrap_or o 0 ≡ most) × (unwrap_or o 0 ≤ 17)
unwrap_most None most h = (sym h, lit≤ tt)
unwrap_most (Some n) most h = (h.0, h.2)

pub overflow_add-result : goal.overflow_add-result
overflow_add-result c = omega (arith, c.year_length.ensures, length_year 3 c.args.p.year)

pub returns-in-70 : goal.returns-in-70
unfolding letter letters writer
returns-in-70 c = answer (held c.args.p) c.requires _ 70 _ c.in-70.is (omega (arith, c.year_length.ensures, length_date (held c.args.p) 3))

pub returns-in-103 : goal.returns-in-103
unfolding letter letters writer
returns-in-103 c = answer (held c.args.p) c.requires _ 103 _ c.in-103.is (c.short_year_length.ensures ∙ ap (λ (d : Ymd). length (year_short d.year)) c.thursday.ensures.0)

pub returns-in-71 : goal.returns-in-71
unfolding letter letters writer
returns-in-71 c = answer (held c.args.p) c.requires _ 71 _ c.in-71.is (c.year_length-in-71.ensures ∙ ap (λ (d : Ymd). length (signed_year 3 d.year)) c.thursday-in-71.ensures.0)

pub returns-in-74 : goal.returns-in-74
unfolding letter letters writer
returns-in-74 c = answer (held c.args.p) c.requires _ 74 _ c.in-74.is (c.julian_day_length.ensures)

pub returns-in-115 : goal.returns-in-115
unfolding letter letters writer
returns-in-115 c = answer (held c.args.p) c.requires _ 115 _ c.in-115.is (c.unix_length.ensures)

pub returns-in-89 : goal.returns-in-89
unfolding letter letters writer
returns-in-89 c = answer (held c.args.p) c.requires _ 89 _ c.in-89.is (c.year_length-in-89.ensures)

pub returns-in_default : goal.returns-in_default
returns-in_default c =
    let e = unwrap_most _ _ c.letter_most.ensures in
    let exact = exact_length (held c.args.p) c.requires c.args.c c.in_default.in_default-own.rest in
    (c.unwrap_or.ensures ∙ e.0 ∙ sym exact, rw c.unwrap_or.ensures e.1)
