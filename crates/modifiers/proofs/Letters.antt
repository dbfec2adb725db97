-- What a modifier is, by its first letter: the tables' other words begin with another one. Assumes nothing.
use Rattle.std.proofs.Common.{if◌then◌else◌, ◌≡◌, ℕ, ◌+◌, ◌≤◌, Bool, true, false, ◌&&◌, ◌||◌, eqb, leb, ◌≢◌, List, [], ◌∷◌, length, sym, refl, ◌∙◌, arith, ne_eqb, leb-true}
use borrow.Author.Tests.{lt-leb}
use Rattle.std.specs.Bool.{then_some}
use Rattle.std.specs.Prelude.{Option}
use Rattle.rules.specs.Basics.{read_some, ascii, lower, word, beside, got, other, ◌or◌, only_if}
use Rattle.text.specs.Places.{leads}
use Rattle.text.proofs.Tests.{and_left, and_false}
use Rattle.modifiers.specs.Words.{kind_of, kind_s, kind_u, sign_or_digit, unit_of, unit_m}
use Rattle.modifiers.specs.declared.words.Kind.{Kind}
use Rattle.modifiers.specs.declared.words.Unit.{Unit}

-- what a test picks, as the rules say it
pub chosen : {K : Type 0} (k : K) {r : Option K} {t u : Bool} → r ≡ then_some t k → t ≡ u → read_some (λ k. k) r ≡ only_if u k
chosen k {r} {t} {u} e h = rw (e, h) (go u)
  where
    go : (u : Bool) → read_some (λ k. k) (then_some u k) ≡ only_if u k
    go true = refl
    go false = refl

-- ---- a sign or a digit
-- a letter is none
high_byte : (b : ℕ) → 65 ≤ b → sign_or_digit b ≡ false
high_byte b h = rw (ne_eqb 43 b (omega arith), ne_eqb 45 b (omega arith), lt-leb b 57 (omega arith)) (and_false (leb 48 b))

letter_byte : (b : ℕ) → 97 ≤ lower b → 65 ≤ b
letter_byte b h = go (leb 65 b && leb b 90) refl h
  where
    go : (t : Bool) → (leb 65 b && leb b 90) ≡ t → 97 ≤ (if t then b + 32 else b) → 65 ≤ b
    go true e k = leb-true 65 b (and_left (leb 65 b) (leb b 90) e)
    go false e k = omega arith

no_count : (b : ℕ) → 97 ≤ lower b → sign_or_digit b ≡ false
no_count b h = high_byte b (letter_byte b h)

-- ---- what is left to test: one word, two, three, or the first byte
one : (k : Kind) (t : Bool) → ((if t then got k else other) or other) ≡ only_if t k
one k true = refl
one k false = refl

two : (t u : Bool) → ((if t then got Kind.Unixepoch else (if u then got Kind.Utc else other)) or other) ≡ (if t then got Kind.Unixepoch else only_if u Kind.Utc)
two true u = refl
two false true = refl
two false false = refl

three : (t u v : Bool) → ((if t then got Kind.Subsec else (if u then got Kind.Subsec else other)) or (only_if v Kind.Start or other)) ≡ (if t || u then got Kind.Subsec else only_if v Kind.Start)
three true u v = refl
three false true v = refl
three false false true = refl
three false false false = refl

last_but : (k : Kind) (t : Bool) → (only_if t k or other) ≡ only_if t k
last_but k true = refl
last_but k false = refl

-- ---- by the first letter
pub kind_none : (s : List ℕ) → length s ≡ 0 → kind_of s ≡ other
unfolding kind_of beside word leads
kind_none [] h = refl
kind_none (b ∷ s) h = absurd (omega arith)

module _ (s : List ℕ) (b : ℕ) (t : List ℕ) (h : s ≡ b ∷ t) where
  pub kind_a : lower b ≡ 97 → kind_of s ≡ only_if (word (ascii "auto") s) Kind.Auto
  unfolding kind_of beside word leads
  kind_a e = rw (h, no_count b (omega arith), e) (one Kind.Auto (word (ascii "uto") t))

  pub kind_c : lower b ≡ 99 → kind_of s ≡ only_if (word (ascii "ceiling") s) Kind.Ceiling
  unfolding kind_of beside word leads
  kind_c e = rw (h, no_count b (omega arith), e) (one Kind.Ceiling (word (ascii "eiling") t))

  pub kind_f : lower b ≡ 102 → kind_of s ≡ only_if (word (ascii "floor") s) Kind.Floor
  unfolding kind_of beside word leads
  kind_f e = rw (h, no_count b (omega arith), e) (one Kind.Floor (word (ascii "loor") t))

  pub kind_j : lower b ≡ 106 → kind_of s ≡ only_if (word (ascii "julianday") s) Kind.Julianday
  unfolding kind_of beside word leads
  kind_j e = rw (h, no_count b (omega arith), e) (one Kind.Julianday (word (ascii "ulianday") t))

  pub kind_l : lower b ≡ 108 → kind_of s ≡ only_if (word (ascii "localtime") s) Kind.Localtime
  unfolding kind_of beside word leads
  kind_l e = rw (h, no_count b (omega arith), e) (one Kind.Localtime (word (ascii "ocaltime") t))

  pub kind_s_lem : lower b ≡ 115 → kind_of s ≡ kind_s s
  unfolding kind_of beside word leads
  kind_s_lem e = rw (h, no_count b (omega arith), e) (three (word (ascii "ubsec") t) (word (ascii "ubsecond") t) (leads (ascii "tart of ") t))

  pub kind_u_lem : lower b ≡ 117 → kind_of s ≡ kind_u s
  unfolding kind_of beside word leads
  kind_u_lem e = rw (h, no_count b (omega arith), e) (two (word (ascii "nixepoch") t) (word (ascii "tc") t))

  pub kind_w : lower b ≡ 119 → kind_of s ≡ only_if (leads (ascii "weekday ") s) Kind.Weekday
  unfolding kind_of beside word leads
  kind_w e = rw (h, no_count b (omega arith), e) (last_but Kind.Weekday (leads (ascii "eekday ") t))

  -- another byte
  pub kind_rest : (c : ℕ) → c ≡ lower b → (c ≢ 97) × (c ≢ 99) × (c ≢ 102) × (c ≢ 106) × (c ≢ 108) × (c ≢ 115) × (c ≢ 117) × (c ≢ 119) → kind_of s ≡ only_if (sign_or_digit b) Kind.Count
  unfolding kind_of beside word leads
  kind_rest c e (ea, ec, ef, ej, el, es, eu, ew) =
      let differ : (d : ℕ) → c ≢ d → eqb d (lower b) ≡ false = λ d k. ne_eqb d (lower b) (λ i. k (e ∙ sym i)) in
      rw (h, differ 97 ea, differ 106 ej, differ 117 eu, differ 99 ec, differ 102 ef, differ 108 el, differ 115 es, differ 119 ew)

-- ---- units
pair : (u : Unit) (t v : Bool) → (if t then got u else (if v then got u else other)) ≡ only_if (t || v) u
pair u true v = refl
pair u false true = refl
pair u false false = refl

four : (t u v w : Bool) → (if t then got Unit.Minute else (if u then got Unit.Minute else (if v then got Unit.Month else (if w then got Unit.Month else other)))) ≡ (if t || u then got Unit.Minute else only_if (v || w) Unit.Month)
four true u v w = refl
four false true v w = refl
four false false true w = refl
four false false false true = refl
four false false false false = refl

pub unit_none : (s : List ℕ) → length s ≡ 0 → unit_of s ≡ other
unfolding unit_of beside word
unit_none [] h = refl
unit_none (b ∷ s) h = absurd (omega arith)

module _ (s : List ℕ) (b : ℕ) (t : List ℕ) (h : s ≡ b ∷ t) where
  pub unit_d : lower b ≡ 100 → unit_of s ≡ only_if (word (ascii "day") s || word (ascii "days") s) Unit.Day
  unfolding unit_of beside word
  unit_d e = rw (h, e) (pair Unit.Day (word (ascii "ay") t) (word (ascii "ays") t))

  pub unit_h : lower b ≡ 104 → unit_of s ≡ only_if (word (ascii "hour") s || word (ascii "hours") s) Unit.Hour
  unfolding unit_of beside word
  unit_h e = rw (h, e) (pair Unit.Hour (word (ascii "our") t) (word (ascii "ours") t))

  pub unit_s : lower b ≡ 115 → unit_of s ≡ only_if (word (ascii "second") s || word (ascii "seconds") s) Unit.Second
  unfolding unit_of beside word
  unit_s e = rw (h, e) (pair Unit.Second (word (ascii "econd") t) (word (ascii "econds") t))

  pub unit_y : lower b ≡ 121 → unit_of s ≡ only_if (word (ascii "year") s || word (ascii "years") s) Unit.Year
  unfolding unit_of beside word
  unit_y e = rw (h, e) (pair Unit.Year (word (ascii "ear") t) (word (ascii "ears") t))

  pub unit_m_lem : lower b ≡ 109 → unit_of s ≡ unit_m s
  unfolding unit_of beside word
  unit_m_lem e = rw (h, e) (four (word (ascii "inute") t) (word (ascii "inutes") t) (word (ascii "onth") t) (word (ascii "onths") t))

  pub unit_rest : (c : ℕ) → c ≡ lower b → (c ≢ 100) × (c ≢ 104) × (c ≢ 109) × (c ≢ 115) × (c ≢ 121) → unit_of s ≡ other
  unfolding unit_of beside word
  unit_rest c e (ed, eh, em, es, ey) =
      let differ : (d : ℕ) → c ≢ d → eqb d (lower b) ≡ false = λ d k. ne_eqb d (lower b) (λ i. k (e ∙ sym i)) in
      rw (h, differ 100 ed, differ 104 eh, differ 109 em, differ 115 es, differ 121 ey)
