-- What each letter writes, and how many bytes. Assumes nothing.
use Prim.Native.Nat.{ℕ, ◌+◌, ◌-◌, ◌/◌, ◌%◌, ◌≤◌, ◌<◌}
use Rattle.std.specs.Prelude.{if◌then◌else◌}
use Prim.Native.Char.{Char, code}
use mathlib.Core.Bool.{Bool, true, false, ◌&&◌}
use mathlib.Core.Path.{◌≡◌, refl, subst}
use mathlib.Core.List.{List, [], ◌∷◌}
use native.Mathlib.Omega.{arith}
use native.Mathlib.Nat.{le_of_eq, le_trans}
use native.Mathlib.Decide.{dec_lt}
use borrow.Author.Tests.{eqb-true}
use lib.Dec.{T, eqb, ltb, leb, eqb→eq, leb→le, lit<}
use lib.ListN.{length}
use Rattle.rules.specs.Basics.{is, every, Read, got, refuse, ◌>>=◌}
use Rattle.rules.specs.Calendar.{instant, day_of_year, since_monday, since_sunday, thursday, iso_week}
use Rattle.rules.specs.Floats.{whole}
use Rattle.rules.specs.Moments.{Moment}
use Rattle.rules.specs.Writing.{wide, signed_year, julian_letter, letters, writer, letter, dial}
use Rattle.rules.specs.declared.Refusal.{Refusal}
use Rattle.calendar.specs.Ranges.{InRange}
use Rattle.calendar.proofs.Years.{in_year, year_length_lem, leap_le}
use Rattle.calendar.proofs.Weeks.{thursday_date, week_high}
use Rattle.real.proofs.Seconds.{minute_whole}
use Rattle.digits.proofs.Decimal.{length_exact}
use Rattle.digits.proofs.Lengths.{length_spaced, length_year, length_short, length_second, length_julian}
use Rattle.moment.specs.Ranges.{Full}
use Rattle.writing.specs.Formats.{text_of, IsText, mosts, most_in, most}
use Rattle.writing.specs.Texts.{date_of}
use Rattle.writing.proofs.Fields as field
use Rattle.writing.proofs.Cases.{NoneOf, among, missed}
use Rattle.writing.proofs.Texts.{julian_early, julian_late}
use Rattle.writing.proofs.Lengths.{length_two, length_date, length_clock, length_whole, length_half, length_unix}

-- the letters whose texts differ in length: Y s J G g F
abbrev pub varying : List ℕ
varying = 89 ∷ 115 ∷ 74 ∷ 71 ∷ 103 ∷ 70 ∷ []

-- what b writes is a text, unless b is J; it has n bytes at the most, and as many unless b is one of those
pub record Sized (b n : ℕ) (r : Read (List ℕ)) : Type 0 where
  pub short : length (text_of r) ≤ n
  pub exact : NoneOf varying b → length (text_of r) ≡ n
  pub given : (b ≡ 74 → ⊥) → IsText r

always : (b n : ℕ) {s : List ℕ} → length s ≡ n → Sized b n (got s)
always b n e = record { short = le_of_eq e; exact = λ _. e; given = λ _. refl }

sometimes : (b n : ℕ) {s : List ℕ} → T (among b varying) → length s ≤ n → Sized b n (got s)
sometimes b n t h = record { short = h; exact = λ none. absurd (missed varying b b none t refl); given = λ _. refl }

julian : (t : ℕ) → InRange t → Sized 74 17 (julian_letter t)
julian t r = go (dec_lt t (instant 86400000000000))
  where
    go : Dec (t < instant 86400000000000) → Sized 74 17 (julian_letter t)
    go (yes h) = rw (julian_early t h) (record { short = omega arith; exact = λ none. absurd (missed varying 74 74 none tt refl); given = λ n. absurd (n refl) })
    go (no h) = let late : instant 86400000000000 ≤ t = omega (arith, h) in rw (julian_late t late) (sometimes 74 17 tt (length_julian t late r.to))

-- ---- the two tables, row by row
record Fits (p : Moment) (r : Char × (Moment → Read (List ℕ))) (n : Char × ℕ) : Type 0 where
  same : code r.0 ≡ code n.0
  some : 0 < n.1
  sized : Sized (code r.0) n.1 (r.1 p)

infixr 5 ◌then◌
data Aligned (p : Moment) : List (Char × (Moment → Read (List ℕ))) → List (Char × ℕ) → Type 0 where
  end : Aligned p [] []
  ◌then◌ : {r : Char × (Moment → Read (List ℕ))} {n : Char × ℕ} {rs : List (Char × (Moment → Read (List ℕ)))} {ns : List (Char × ℕ)} → Fits p r n → Aligned p rs ns → Aligned p (r ∷ rs) (n ∷ ns)

row : {p : Moment} {r : Char × (Moment → Read (List ℕ))} {n : Char × ℕ} → T (eqb (code r.0) (code n.0)) → T (ltb 0 n.1) → Sized (code r.0) n.1 (r.1 p) → Fits p r n
row {p} {r} {n} t l s = record { same = eqb→eq (code r.0) (code n.0) t; some = lit< l; sized = s }

two : (b v : ℕ) → v < 100 → Sized b 2 (got (wide 2 v))
two b v l = always b 2 (length_two v l)

dial_high : (h : ℕ) → dial h < 100
dial_high h = go (eqb (h % 12) 0)
  where
    go : (b : Bool) → (if b then 12 else h % 12) < 100
    go true = omega arith
    go false = omega arith

module _ (p : Moment) (h : Full p) where
  day_high : day_of_year p.year p.month p.day ≤ 365
  day_high = omega (arith, in_year p.year p.month p.day h.sane.date, year_length_lem p.year, leap_le p.year)

  week_few : (w : ℕ) → (day_of_year p.year p.month p.day + 7 - w) / 7 < 100
  week_few w = omega (arith, day_high)

  iso_few : length (signed_year 3 (thursday p.ms).year) ≤ 5
  iso_few = let d = thursday_date p.ms h.ranged in length_year 3 (thursday p.ms).year (omega arith) (omega (arith, d.low)) d.high

  year_few : length (signed_year 3 p.year) ≤ 5
  year_few = length_year 3 p.year (omega arith) h.years.from h.years.to

  date_few : length (date_of 3 p) ≤ 11
  date_few = omega (arith, year_few, length_date p 3 (field.month p h) (field.day p h))

  aligned : Aligned p letters mosts
  unfolding letters mosts since_monday since_sunday
  aligned =
      let hour = field.hour p h in
      let minute = field.minute p h in
      let day = field.day p h in
      let second = field.second p h in
      row tt tt (two 100 p.day day)
      then row tt tt (always 101 2 (length_spaced p.day day))
      then row tt tt (sometimes 70 11 tt date_few)
      then row tt tt (always 102 6 (length_second p.second second))
      then row tt tt (sometimes 103 3 tt (length_short (thursday p.ms).year))
      then row tt tt (sometimes 71 5 tt iso_few)
      then row tt tt (two 72 p.hour hour)
      then row tt tt (two 73 (dial p.hour) (dial_high p.hour))
      then row tt tt (always 106 3 (length_exact 2 (day_of_year p.year p.month p.day + 1) (omega (arith, day_high))))
      then row tt tt (julian p.ms h.ranged)
      then row tt tt (always 107 2 (length_spaced p.hour hour))
      then row tt tt (always 108 2 (length_spaced (dial p.hour) (dial_high p.hour)))
      then row tt tt (two 109 p.month (field.month p h))
      then row tt tt (two 77 p.minute minute)
      then row tt tt (always 112 2 (length_half (65 ∷ 77 ∷ []) (80 ∷ 77 ∷ []) p.hour refl refl))
      then row tt tt (always 80 2 (length_half (97 ∷ 109 ∷ []) (112 ∷ 109 ∷ []) p.hour refl refl))
      then row tt tt (always 82 5 (length_clock p hour minute))
      then row tt tt (sometimes 115 17 tt (length_unix p h))
      then row tt tt (two 83 (whole p.second) (omega (arith, minute_whole p.second second)))
      then row tt tt (always 84 8 (length_whole p h))
      then row tt tt (always 117 1 (length_exact 0 (since_monday p.ms + 1) (omega arith)))
      then row tt tt (two 85 _ (week_few (since_sunday p.ms)))
      then row tt tt (two 86 (iso_week p.ms) (omega (arith, week_high p.ms h.ranged)))
      then row tt tt (always 119 1 (length_exact 0 (since_sunday p.ms) (omega arith)))
      then row tt tt (two 87 _ (week_few (since_monday p.ms)))
      then row tt tt (sometimes 89 5 tt year_few)
      then row tt tt (always 37 1 refl)
      then end

-- ---- any byte
-- it is no letter, or it is one
pub data Letter (b n : ℕ) (r : Read (List ℕ)) : Type 0 where
  none : n ≡ 0 → r ≡ refuse Refusal.Null → Letter b n r
  some : 0 < n → Sized b n r → Letter b n r

found : (p : Moment) (rs : List (Char × (Moment → Read (List ℕ)))) (ns : List (Char × ℕ)) → Aligned p rs ns → (b : ℕ) → Letter b (most_in ns b) (◌>>=◌ (writer rs b) (λ w. w p))
unfolding most_in writer
found p [] [] end b = none refl refl
found p [] (n ∷ ns) x b = elim x [ ]
found p (r ∷ rs) [] x b = elim x [ ]
found p (r ∷ rs) (n ∷ ns) (f then a) b =
    subst (λ (k : ℕ). Letter b (if eqb k b then n.1 else most_in ns b) (◌>>=◌ (if is r.0 b then got r.1 else writer rs b) (λ w. w p))) f.same (go (eqb (code r.0) b) (eqb-true (code r.0) b) (found p rs ns a b))
  where
    go : (t : Bool) → (t ≡ true → code r.0 ≡ b) → Letter b (most_in ns b) (◌>>=◌ (writer rs b) (λ w. w p)) → Letter b (if t then n.1 else most_in ns b) (◌>>=◌ (if t then got r.1 else writer rs b) (λ w. w p))
    go true e l = some f.some (subst (λ (k : ℕ). Sized k n.1 (r.1 p)) (e refl) f.sized)
    go false e l = l

pub letter_is : (p : Moment) → Full p → (b : ℕ) → Letter b (most b) (letter b p)
unfolding most letter
letter_is p h b = found p letters mosts (aligned p h) b

-- ---- lengths
most_in_lem : (rows : List (Char × ℕ)) → T (every (λ row. leb row.1 17) rows) → (b : ℕ) → most_in rows b ≤ 17
unfolding most_in every
most_in_lem [] t b = omega arith
most_in_lem (row ∷ rows) t b = go (is row.0 b) (leb row.1 17) (leb→le row.1 17) (λ u. most_in_lem rows u b) t
  where
    go : (c d : Bool) → (T d → row.1 ≤ 17) → (T (every (λ row. leb row.1 17) rows) → most_in rows b ≤ 17) → T (d && every (λ row. leb row.1 17) rows) → (if c then row.1 else most_in rows b) ≤ 17
    go true true f g t = f tt
    go false true f g t = g t
    go c false f g t = absurd t

module _ (p : Moment) (h : Full p) (b : ℕ) where
  pub most_length : length (text_of (letter b p)) ≤ most b
  most_length = go (letter_is p h b)
    where
      go : Letter b (most b) (letter b p) → length (text_of (letter b p)) ≤ most b
      go (none z e) = rw e (omega arith)
      go (some l s) = s.short

  pub seventeen : length (text_of (letter b p)) ≤ 17
  unfolding most mosts every
  seventeen = le_trans most_length (most_in_lem mosts tt b)

  pub exact_length : NoneOf varying b → length (text_of (letter b p)) ≡ most b
  exact_length n = go (letter_is p h b)
    where
      go : Letter b (most b) (letter b p) → length (text_of (letter b p)) ≡ most b
      go (none z e) = rw (e, z)
      go (some l s) = s.exact n

  -- a byte that is no letter, and one that is, but for J
  pub no_letter : most b ≡ 0 → letter b p ≡ refuse Refusal.Null
  no_letter z = go (letter_is p h b)
    where
      go : Letter b (most b) (letter b p) → letter b p ≡ refuse Refusal.Null
      go (none z e) = e
      go (some l s) = absurd (omega arith)

  pub a_letter : (most b ≡ 0 → ⊥) → (b ≡ 74 → ⊥) → IsText (letter b p)
  a_letter n j = go (letter_is p h b)
    where
      go : Letter b (most b) (letter b p) → IsText (letter b p)
      go (none z e) = absurd (n z)
      go (some l s) = s.given j
