-- The buffer, byte by byte: what refuses it. Assumes nothing.
use Rattle.std.proofs.Common.{if◌then◌else◌, ◌≡◌, ℕ, suc, ◌+◌, ◌<◌, ◌≤◌, Bool, true, false, not, ◌&&◌, ◌||◌, eqb, ltb, ◌≢◌, List, [], ◌∷◌, length, get_or, drop, refl, zero-add, add-one, arith, drop_of_length-le, drop-cons, le-ltb, lt-ltb, ne_eqb, le-leb}
use borrow.Author.Tests.{lt-leb}
use Rattle.rules.specs.Basics.{every, on_first}
use Rattle.rules.specs.Calls.{modifiers, last_ended, over, modifiers_bad, high}
use Rattle.std.specs.Prelude.{Result, Ok, Err}
use Rattle.rules.specs.declared.Refusal.{Refusal}
use Rattle.modifiers.specs.Buffer.{allowed_by, allowed}

-- ---- tests

or_true : (t : Bool) → t || true ≡ true
or_true true = refl
or_true false = refl

-- ---- what refuses it

abbrev fits : List ℕ → Bool
fits m = not (over 255 m)

-- whether a modifier is too long, where the first has k bytes before it
abbrev too_long : ℕ → List (List ℕ) → Bool
too_long k [] = false
too_long k (m ∷ ms) = ltb 255 (k + length m) || not (every fits ms)

-- whether s is bad, where n modifiers are ended before it, and k bytes of one that is not
abbrev bad_from : ℕ → ℕ → List ℕ → Bool
bad_from n k [] = ltb 0 k
bad_from n k (b ∷ s) = not (last_ended (b ∷ s)) || (ltb 16 (n + length (modifiers (b ∷ s))) || too_long k (modifiers (b ∷ s)))

none_before : (ms : List (List ℕ)) → too_long 0 ms ≡ not (every fits ms)
unfolding every
none_before [] = refl
none_before (m ∷ ms) = rw (zero-add (length m)) (go (ltb 255 (length m)) (every fits ms))
  where
    go : (t u : Bool) → t || not u ≡ not (not t && u)
    go true u = refl
    go false u = refl

bad_start : (s : List ℕ) → bad_from 0 0 s ≡ modifiers_bad s
unfolding modifiers_bad last_ended modifiers every
bad_start [] = refl
bad_start (b ∷ s) = rw (none_before (modifiers (b ∷ s)), zero-add (length (modifiers (b ∷ s))))

-- a zero byte ends a modifier
bad_zero : (n k : ℕ) (s : List ℕ) → n < 16 → k ≤ 255 → bad_from n k (0 ∷ s) ≡ bad_from (n + 1) 0 s
unfolding modifiers last_ended every
bad_zero n k [] h l = rw (le-ltb 16 (n + 1) (omega arith), le-ltb 255 (k + 0) (omega arith))
bad_zero n k (c ∷ s) h l =
    let e : n + suc (length (modifiers (c ∷ s))) ≡ n + 1 + length (modifiers (c ∷ s)) = omega arith in
    rw (le-ltb 255 (k + 0) (omega arith), e, none_before (modifiers (c ∷ s)))

bad_many : (n k : ℕ) (s : List ℕ) → n ≡ 16 → bad_from n k (0 ∷ s) ≡ true
unfolding modifiers
bad_many n k s h = rw (lt-ltb 16 (n + suc (length (modifiers s))) (omega arith)) (or_true (not (last_ended (0 ∷ s))))

-- any other byte goes on with one
first_length : (b : ℕ) (ms : List (List ℕ)) → 0 < length (on_first b ms)
first_length b [] = omega arith
first_length b (m ∷ ms) = omega arith

some : (b : ℕ) (s : List ℕ) → 0 < length (modifiers (b ∷ s))
unfolding modifiers
some b s = go (eqb b 0)
  where
    go : (t : Bool) → 0 < length (if t then [] ∷ modifiers s else on_first b (modifiers s))
    go true = omega arith
    go false = first_length b (modifiers s)

longer : (n k b : ℕ) (ms : List (List ℕ)) → 0 < length ms → (ltb 16 (n + length (on_first b ms)) || too_long k (on_first b ms)) ≡ (ltb 16 (n + length ms) || too_long (k + 1) ms)
longer n k b [] h = absurd (omega arith)
longer n k b (m ∷ ms) h = let e : k + suc (length m) ≡ k + 1 + length m = omega arith in rw e

too_long_lem : (n k b : ℕ) (ms : List (List ℕ)) → k ≡ 255 → (ltb 16 (n + length (on_first b ms)) || too_long k (on_first b ms)) ≡ true
too_long_lem n k b [] h = rw (lt-ltb 255 (k + 1) (omega arith)) (or_true (ltb 16 (n + 1)))
too_long_lem n k b (m ∷ ms) h = rw (lt-ltb 255 (k + suc (length m)) (omega arith)) (or_true (ltb 16 (n + suc (length ms))))

modifiers_on : (b : ℕ) (s : List ℕ) → b ≢ 0 → modifiers (b ∷ s) ≡ on_first b (modifiers s)
unfolding modifiers
modifiers_on b s h = rw (ne_eqb b 0 h)

bad_byte : (n k b : ℕ) (s : List ℕ) → b ≢ 0 → bad_from n k (b ∷ s) ≡ bad_from n (k + 1) s
unfolding last_ended
bad_byte n k b [] h = rw (ne_eqb b 0 h, lt-ltb 0 (k + 1) (omega arith))
bad_byte n k b (c ∷ s) h = rw (modifiers_on b (c ∷ s) h, longer n k b (modifiers (c ∷ s)) (some c s))

bad_long : (n k b : ℕ) (s : List ℕ) → b ≢ 0 → k ≡ 255 → bad_from n k (b ∷ s) ≡ true
bad_long n k b s h e = rw (modifiers_on b s h, too_long_lem n k b (modifiers s) e) (or_true (not (last_ended (b ∷ s))))

-- the refusal, from here on; h says whether a byte above 127 stands before it
unfoldable pub allowed_from : Bool → ℕ → ℕ → List ℕ → Result (Unit {0}) Refusal
allowed_from h n k s = allowed_by (bad_from n k s) (h || high s)

pub allowed_start : (s : List ℕ) → allowed s ≡ allowed_from false 0 0 s
unfolding allowed_from
allowed_start s = rw (bad_start s)

high_on : (b : ℕ) (s : List ℕ) → b ≤ 127 → high (b ∷ s) ≡ high s
unfolding high every
high_on b s h = rw (le-leb b 127 h)

high_here : (b : ℕ) (s : List ℕ) → 127 < b → high (b ∷ s) ≡ true
unfolding high every
high_here b s h = rw (lt-leb b 127 h)

module _ (h : Bool) (n k : ℕ) (s : List ℕ) (i : ℕ) where
  module _ (inside : i < length s) (z : get_or s i 0 ≡ 0) where
    here_zero : drop i s ≡ 0 ∷ drop (i + 1) s
    here_zero = rw (add-one, drop-cons s i 0 inside, z)

    pub zero_on : n < 16 → k ≤ 255 → allowed_from h n k (drop i s) ≡ allowed_from h (n + 1) 0 (drop (i + 1) s)
    unfolding allowed_from
    zero_on m l = rw (here_zero, bad_zero n k (drop (i + 1) s) m l, high_on 0 (drop (i + 1) s) (omega arith))

    pub too_many : n ≡ 16 → allowed_from h n k (drop i s) ≡ Err Refusal.Shape
    unfolding allowed_from
    too_many e = rw (here_zero, bad_many n k (drop (i + 1) s) e)

  module _ (inside : i < length s) (b : get_or s i 0 ≢ 0) where
    here_byte : drop i s ≡ get_or s i 0 ∷ drop (i + 1) s
    here_byte = rw (add-one, drop-cons s i 0 inside)

    pub byte_on : get_or s i 0 ≤ 127 → allowed_from h n k (drop i s) ≡ allowed_from h n (k + 1) (drop (i + 1) s)
    unfolding allowed_from
    byte_on l = rw (here_byte, bad_byte n k (get_or s i 0) (drop (i + 1) s) b, high_on (get_or s i 0) (drop (i + 1) s) l)

    pub high_byte : 127 < get_or s i 0 → allowed_from h n k (drop i s) ≡ allowed_from true n (k + 1) (drop (i + 1) s)
    unfolding allowed_from
    high_byte l = rw (here_byte, bad_byte n k (get_or s i 0) (drop (i + 1) s) b, high_here (get_or s i 0) (drop (i + 1) s) l, or_true h)

    pub too_long_byte : k ≡ 255 → allowed_from h n k (drop i s) ≡ Err Refusal.Shape
    unfolding allowed_from
    too_long_byte e = rw (here_byte, bad_long n k (get_or s i 0) (drop (i + 1) s) b e)

  module _ (past : length s ≤ i) where
    pub not_ended : 0 < k → allowed_from h n k (drop i s) ≡ Err Refusal.Shape
    unfolding allowed_from
    not_ended l = rw (drop_of_length-le s past, lt-ltb 0 k l)

    pub all_ended : k ≤ 0 → allowed_from h n k (drop i s) ≡ (if h then Err Refusal.Bytes else Ok tt)
    unfolding allowed_from high every
    all_ended l = rw (drop_of_length-le s past, le-ltb 0 k l, or_false h)
      where
        or_false : (t : Bool) → t || false ≡ t
        or_false true = refl
        or_false false = refl
