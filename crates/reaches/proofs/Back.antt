-- From what timediff answers to what the code that puts it back answers. Assumes nothing.
use Prim.Native.Nat.{ℕ, suc, ◌+◌, ◌-◌, ◌≤◌, ◌<◌}
use mathlib.Core.Bool.{Bool, true, false, not, ◌&&◌}
use mathlib.Core.List.{List, [], ◌∷◌, ◌++◌, append_assoc}
use mathlib.Core.Path.{◌≡◌, refl, sym, ap, ◌∙◌, subst}
use native.Mathlib.Omega.{arith}
use borrow.Author.Tests.{leb-true, leb-false, le-leb, lt-leb}
use lib.Dec.{leb}
use lib.Ieee.{Float}
use lib.IntN.{ℤ}
use Rattle.std.specs.Prelude.{Result, Ok, Err}
use lib.ListN.{length, take, drop, set, get_or, length-append, take-append-drop}
use lib.Seq.{length-take-le, drop-append-le, drop-cons, set-append_seam, take-append_seam}
use Rattle.rules.specs.Basics.{Read, got, other, refuse, ◌>>=◌}
use Rattle.rules.specs.Calendar.{instant, last, in_range}
use Rattle.rules.specs.Calls.{Value, bytes, Call, call, strftime, timediff, Outcome, text, integer, real, refused, bad_shape, bad_bytes, bad_setting, answered, after}
use Rattle.rules.specs.Functions.{present, ranged, reading, settle, answer}
use Rattle.rules.specs.Moments.{Moment, count_ms}
use Rattle.rules.specs.Reading.{time_value}
use Rattle.rules.specs.Writing.{difference}
use Rattle.rules.specs.declared.Answer.{Answer}
use Rattle.rules.specs.declared.Function.{Function}
use Rattle.rules.specs.declared.Refusal.{Refusal}
use Rattle.rules.specs.declared.Setting.{Setting}
use Rattle.rules.specs.declared.Unanswered.{Unanswered}
use Rattle.calendar.specs.Ranges.{InRange}
use Rattle.moment.proofs.Branches.{never, either, by_test}
use Rattle.timediff.proofs.Text.{bytes_range}
use Rattle.law_putback.specs.Demand.{Instant, value, alone, shift_by, Kept}
use Rattle.reading.specs.Written.{written}
use Rattle.law_putback.proofs.Demand.{demand_3}
use Rattle.reaches.specs.Back.{ended, span_of, back_of, back_with, out_of, out_with, AsOfA}

-- ---- timediff answers by a text of 24 or 25 bytes, or by a refusal
abbrev pub Said : Outcome → Type 0
Said (text t) = (24 ≤ length t) × (length t ≤ 25)
Said (integer n) = ⊥
Said (real x) = ⊥
Said (refused x) = Unit {0}

abbrev Within : Read Moment → Type 0
Within (got p) = InRange p.ms
Within other = Unit {0}
Within (refuse x) = Unit {0}

both : (x y : Bool) → (x && y) ≡ true → (x ≡ true) × (y ≡ true)
both true y h = (refl, h)
both false y h = never (sym h)

in_it : (x : Bool) (t : ℕ) → (x && in_range t) ≡ true → InRange t
in_it x t h =
    let r = both (leb (instant 0) t) (leb t last) (both x (in_range t) h).1 in
    record { from = leb-true (instant 0) t r.0; to = leb-true t last r.1 }

within : (p : Moment) → Within (ranged p)
unfolding ranged
within p = by_test Within (not (count_ms p).failed && in_range (count_ms p).ms) (got (count_ms p)) (refuse Refusal.Null) (λ h. in_it (not (count_ms p).failed) (count_ms p).ms h) (λ _. tt)

both_said : (r s : Read Moment) → Within r → Within s → Said (settle (◌>>=◌ r (λ (p : Moment). ◌>>=◌ s (λ (q : Moment). got (text (difference p.ms q.ms))))))
both_said (got p) (got q) A B = bytes_range p.ms q.ms A B
both_said (got p) other A B = tt
both_said (got p) (refuse x) A B = tt
both_said other s A B = tt
both_said (refuse x) s A B = tt

read_said : (r s : Read Moment) → Said (settle (◌>>=◌ r (λ (p : Moment). ◌>>=◌ s (λ (q : Moment). ◌>>=◌ (ranged p) (λ (p : Moment). ◌>>=◌ (ranged q) (λ (q : Moment). got (text (difference p.ms q.ms))))))))
read_said (got p) (got q) = both_said (ranged p) (ranged q) (within p) (within q)
read_said (got p) other = tt
read_said (got p) (refuse x) = tt
read_said other s = tt
read_said (refuse x) s = tt

pub said : (set : Setting) (a b : Value) → Said (answer set (timediff a b))
unfolding answer reading
said set a b =
    either (λ r. Said (settle r)) (bad_shape (timediff a b)) _ _ tt
    (either (λ r. Said (settle r)) (bad_bytes (timediff a b)) _ _ tt
    (either (λ r. Said (settle r)) (bad_setting set) _ _ tt
    (read_said (time_value set.clock (present a)) (time_value set.clock (present b)))))

-- ---- what an answer tells of the outcome
-- a text of n bytes that fits, and one that does not
pub record Fits (o : Outcome) (room n : ℕ) : Type 0 where
  pub bytes : List ℕ
  pub is : o ≡ text bytes
  pub count : n ≡ length bytes
  pub low : length bytes ≤ room

pub record Lacks (o : Outcome) (room n : ℕ) : Type 0 where
  pub bytes : List ℕ
  pub is : o ≡ text bytes
  pub count : n ≡ length bytes
  pub high : room < length bytes

abbrev Tells : Outcome → ℕ → Result Answer Unanswered → Type 0
Tells o room (Ok (Answer.Text n)) = Fits o room n
Tells o room (Ok (Answer.Integer z)) = o ≡ integer z
Tells o room (Ok (Answer.Real x)) = o ≡ real x
Tells o room (Err (Unanswered.NoRoom n)) = Lacks o room n
Tells o room (Err (Unanswered.Refused r)) = o ≡ refused r

tells : (o : Outcome) (room : ℕ) → Tells o room (answered o room)
unfolding answered
tells (text t) room = by_test (Tells (text t) room) (leb (length t) room) (Ok (Answer.Text (length t))) (Err (Unanswered.NoRoom (length t))) (λ h. record { bytes = t; is = refl; count = refl; low = leb-true (length t) room h }) (λ h. record { bytes = t; is = refl; count = refl; high = leb-false (length t) room h })
tells (integer z) room = refl
tells (real x) room = refl
tells (refused r) room = refl

pub told : (o : Outcome) (room : ℕ) (x : Result Answer Unanswered) → answered o room ≡ x → Tells o room x
told o room x e = subst (λ (y : Result Answer Unanswered). Tells o room y) e (tells o room)

-- ---- a text and its zero byte
alone_length : (t : List ℕ) → length (alone t) ≡ length t + 1
alone_length t = length-append t (0 ∷ [])

-- written beside the last byte, then ended
laid : (t s : List ℕ) (k : ℕ) → length t ≤ k → k < length s → set ((t ++ drop (length t) (take k s)) ++ drop k s) (length t) 0 ≡ alone t ++ drop (length (alone t)) s
laid t s k h l =
    let p : length t ≤ length (take k s) = omega (arith, length-take-le k s (omega arith)) in
    let n : length (alone t) ≡ suc (length t) = omega (arith, alone_length t) in
    let e : drop (length t) (take k s) ++ drop k s ≡ get_or s (length t) 0 ∷ drop (suc (length t)) s = sym (drop-append-le (length t) (take k s) (drop k s) p) ∙ ap (drop (length t)) (take-append-drop k s) ∙ drop-cons s (length t) 0 (omega arith) in
    ap (λ (x : List ℕ). set x (length t) 0) (append_assoc t (drop (length t) (take k s)) (drop k s) ∙ ap (λ (x : List ℕ). t ++ x) e)
    ∙ set-append_seam t (get_or s (length t) 0) (drop (suc (length t)) s) 0
    ∙ sym (append_assoc t (0 ∷ []) (drop (suc (length t)) s))
    ∙ ap (λ (x : ℕ). alone t ++ drop x s) (sym n)

-- o, asked for in all but one byte of `span`
module _ (o : Outcome) (span : List ℕ) (k : ℕ) (r : Result Answer Unanswered) (held : List ℕ) (s : Said o) (k-is : k ≡ length span - 1) (is : r ≡ answered o (length (take k span))) (holds : held ≡ after o (take k span)) where
  part : length (take k span) ≡ k
  part = length-take-le k span (omega arith)

  known : (x : Result Answer Unanswered) → r ≡ x → Tells o k x
  known x e = told o k x (sym (is ∙ ap (answered o) part) ∙ e)

  -- a text
  module _ (n : ℕ) (e : r ≡ Ok (Answer.Text n)) where
    fit : Fits o k n
    fit = known (Ok (Answer.Text n)) e

    size : (24 ≤ length fit.bytes) × (length fit.bytes ≤ 25)
    size = subst (λ (x : Outcome). Said x) fit.is s

    within_span : k < length span
    within_span = omega (arith, fit.low, size.0)

    held_is : held ≡ fit.bytes ++ drop (length fit.bytes) (take k span)
    unfolding after
    held_is = holds ∙ ap (λ (x : Outcome). after x (take k span)) fit.is ∙ rw (part, le-leb (length fit.bytes) k fit.low)

    pub text_index : n < length (held ++ drop k span)
    text_index = omega (arith, length-append held (drop k span), ap length held_is, length-append fit.bytes (drop (length fit.bytes) (take k span)), length_drop_end, fit.count)
      where
        length_drop_end : 1 ≤ length (drop k span)
        length_drop_end = rw (drop-cons span k 0 within_span) (omega arith)

    pub text_small : n ≤ 25
    text_small = omega (arith, fit.count, size.1)

    pub text_put : (answered (ended o) (length span) ≡ Ok (Answer.Text (n + 1))) × (set (held ++ drop k span) n 0 ≡ after (ended o) span)
    unfolding answered after
    text_put =
        let t = fit.bytes in
        let h : length (alone t) ≤ length span = omega (arith, alone_length t, fit.low, within_span) in
        let c : length (alone t) ≡ n + 1 = omega (arith, alone_length t, fit.count) in
        rw (fit.is, le-leb (length (alone t)) (length span) h) (ap (λ (m : ℕ). Ok (Answer.Text m)) c, ap (λ (x : List ℕ). set (x ++ drop k span) n 0) held_is ∙ ap (λ (m : ℕ). set ((t ++ drop (length t) (take k span)) ++ drop k span) m 0) fit.count ∙ laid t span k fit.low within_span)

  -- a text that lacks room
  module _ (n : ℕ) (e : r ≡ Err (Unanswered.NoRoom n)) where
    lack : Lacks o k n
    lack = known (Err (Unanswered.NoRoom n)) e

    pub short_small : n ≤ 25
    short_small = let z : (24 ≤ length lack.bytes) × (length lack.bytes ≤ 25) = subst (λ (x : Outcome). Said x) lack.is s in omega (arith, lack.count, z.1)

    pub short_put : (answered (ended o) (length span) ≡ Err (Unanswered.NoRoom (n + 1))) × (held ++ drop k span ≡ after (ended o) span)
    unfolding answered after
    short_put =
        let t = lack.bytes in
        let h : length span < length (alone t) = omega (arith, alone_length t, lack.high) in
        let c : length (alone t) ≡ n + 1 = omega (arith, alone_length t, lack.count) in
        let same : held ≡ take k span = holds ∙ ap (λ (x : Outcome). after x (take k span)) lack.is ∙ rw (part, lt-leb (length t) k lack.high) in
        rw (lack.is, lt-leb (length (alone t)) (length span) h) (ap (λ (m : ℕ). Err (Unanswered.NoRoom m)) c, ap (λ (x : List ℕ). x ++ drop k span) same ∙ take-append-drop k span)

  pub refused_put : (x : Refusal) → r ≡ Err (Unanswered.Refused x) → (answered (ended o) (length span) ≡ Err (Unanswered.Refused x)) × (held ++ drop k span ≡ after (ended o) span)
  unfolding answered after
  refused_put x e =
      let i : o ≡ refused x = known (Err (Unanswered.Refused x)) e in
      rw i (refl, ap (λ (x : List ℕ). x ++ drop k span) (holds ∙ ap (λ (y : Outcome). after y (take k span)) i) ∙ take-append-drop k span)

  -- timediff gives no number
  pub no_integer : (z : ℤ) → r ≡ Ok (Answer.Integer z) → ⊥
  no_integer z e = subst (λ (x : Outcome). Said x) (known (Ok (Answer.Integer z)) e) s

  pub no_real : (x : Float) → r ≡ Ok (Answer.Real x) → ⊥
  no_real x e = subst (λ (y : Outcome). Said y) (known (Ok (Answer.Real x)) e) s

-- what is refused, or finds no room, is not called again
stops : (again : List ℕ → Outcome) (o : Outcome) (span : ℕ) (out : List ℕ) (u : Unanswered) → Tells o span (Err u) → (Err u ≡ back_of again o span (length out)) × (out ≡ out_of again o span out)
stops again o span out (Unanswered.NoRoom n) h = rw (h.is, lt-leb (length h.bytes) span h.high) (ap (λ (m : ℕ). Err (Unanswered.NoRoom m)) h.count, refl)
stops again o span out (Unanswered.Refused x) h = rw h (refl, refl)

-- ---- the second call, with a span that then holds `held`
module _ (set : Setting) (f : Value → List ℕ → Call) (a b : List ℕ) (span : List ℕ) (out : List ℕ) where
  -- with room for the modifier
  module _ (n : ℕ) (e : answered (span_of set a b) (length span) ≡ Ok (Answer.Text n)) (held : List ℕ) (holds : held ≡ after (span_of set a b) span) where
    span_fits : Fits (span_of set a b) (length span) n
    span_fits = told (span_of set a b) (length span) (Ok (Answer.Text n)) e

    held_span : held ≡ span_fits.bytes ++ drop (length span_fits.bytes) span
    unfolding after
    held_span = holds ∙ ap (λ (x : Outcome). after x span) span_fits.is ∙ rw (le-leb (length span_fits.bytes) (length span) span_fits.low)

    pub back_room : n ≤ length held
    back_room = omega (arith, span_fits.count, ap length held_span, length-append span_fits.bytes (drop (length span_fits.bytes) span))

    -- what is lent of it is the modifier
    lent : take n held ≡ span_fits.bytes
    lent = ap (λ (m : ℕ). take m held) span_fits.count ∙ ap (take (length span_fits.bytes)) held_span ∙ take-append_seam span_fits.bytes (drop (length span_fits.bytes) span)

    pub back_text : {x : Result Answer Unanswered} → x ≡ answered (answer set (f (bytes b) (take n held))) (length out) → x ≡ back_with set f a b (length span) (length out)
    unfolding back_with
    back_text h = h ∙ ap (λ (m : List ℕ). answered (answer set (f (bytes b) m)) (length out)) lent ∙ rw (span_fits.is, le-leb (length span_fits.bytes) (length span) span_fits.low)

    pub out_text : {new : List ℕ} → new ≡ after (answer set (f (bytes b) (take n held))) out → new ≡ out_with set f a b (length span) out
    unfolding out_with
    out_text h = h ∙ ap (λ (m : List ℕ). after (answer set (f (bytes b) m)) out) lent ∙ rw (span_fits.is, le-leb (length span_fits.bytes) (length span) span_fits.low)

  -- with less, or after a refusal
  module _ (u : Unanswered) (e : answered (span_of set a b) (length span) ≡ Err u) where
    pub back_stops : Err u ≡ back_with set f a b (length span) (length out)
    unfolding back_with
    back_stops = (stops (λ m. answer set (f (bytes b) m)) (span_of set a b) (length span) out u (told (span_of set a b) (length span) (Err u) e)).0

    pub out_stops : out ≡ out_with set f a b (length span) out
    unfolding out_with
    out_stops = (stops (λ m. answer set (f (bytes b) m)) (span_of set a b) (length span) out u (told (span_of set a b) (length span) (Err u) e)).1

-- ---- demand 3
abbrev length_of : Outcome → ℕ
length_of (text t) = length t
length_of (integer n) = 0
length_of (real x) = 0
length_of (refused x) = 0

-- a text that comes back from 24 bytes
short : {o : Outcome} (t : List ℕ) → o ≡ text t → answered o 24 ≡ Ok (Answer.Text 24) → length t ≤ 24
short {o} t e c =
    let f : Fits o 24 24 = told o 24 (Ok (Answer.Text 24)) c in
    subst (λ (x : Outcome). length_of x ≤ 24) (sym f.is ∙ e) f.low

-- what both functions promise, by a call f that answers B with timediff's text as it answers A
module _ (set : Setting) (f : Value → List ℕ → Call) (same : (a b : Instant) (k : Kept set a b) → answer set (f (value b) (alone (shift_by k.plus k.months k.rest))) ≡ answer set (f (value a) [])) (a b span out : List ℕ) {r : Result Answer Unanswered} {new : List ℕ} where
  as_of : r ≡ back_with set f a b (length span) (length out) → new ≡ out_with set f a b (length span) out → AsOfA set f a b (length span) out new r
  unfolding AsOfA back_with out_with
  as_of is holds A B ea eb ok room =
      let K = demand_3 set ok A B in
      let t = shift_by K.plus K.months K.rest in
      let e : span_of set a b ≡ text (alone t) = ap (λ (s : List ℕ). span_of set s b) ea ∙ ap (λ (s : List ℕ). span_of set (written A.stamp) s) eb ∙ ap ended K.answers in
      let h : length (alone t) ≤ length span = omega (arith, alone_length t, short t K.answers K.comes_back) in
      let back : answer set (f (bytes b) (alone t)) ≡ answer set (f (value A) []) = ap (λ (s : List ℕ). answer set (f (bytes s) (alone t))) eb ∙ same A B K in (
        is ∙ ap (λ (o : Outcome). back_of (λ m. answer set (f (bytes b) m)) o (length span) (length out)) e ∙ rw (le-leb (length (alone t)) (length span) h) (ap (λ (o : Outcome). answered o (length out)) back),
        holds ∙ ap (λ (o : Outcome). out_of (λ m. answer set (f (bytes b) m)) o (length span) out) e ∙ rw (le-leb (length (alone t)) (length span) h) (ap (λ (o : Outcome). after o out) back),
      )

module _ (set : Setting) (a b span out : List ℕ) {r : Result Answer Unanswered} {new : List ℕ} where
  pub datetime_as_of : r ≡ back_with set (call Function.Datetime) a b (length span) (length out) → new ≡ out_with set (call Function.Datetime) a b (length span) out → AsOfA set (call Function.Datetime) a b (length span) out new r
  datetime_as_of = as_of set (call Function.Datetime) (λ A B k. k.answers_as_A Function.Datetime) a b span out

  pub format_as_of : (g : List ℕ) → r ≡ back_with set (strftime g) a b (length span) (length out) → new ≡ out_with set (strftime g) a b (length span) out → AsOfA set (strftime g) a b (length span) out new r
  format_as_of g = as_of set (strftime g) (λ A B k. k.formats_as_A g) a b span out
