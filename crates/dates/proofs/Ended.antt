-- The answers of the lines that end in a block, one line after another. Assumes nothing.
use Rattle.std.proofs.Common.{◌≡◌, ℕ, Bool, true, false, List, [], ◌∷◌, ◌++◌, length, refl, sym, ap, ◌∙◌, append_assoc, arith, length-append}
use Rattle.std.specs.Prelude.{Some, None, if◌then◌else◌}
use Rattle.rules.specs.Basics.{parts, on_first}
use Rattle.rules.specs.Program.{line}
use Rattle.rules.specs.declared.Setting.{Setting}
use Rattle.text.specs.Places.{IsCut}
use Rattle.text.proofs.Cuts.{parts_cut}
use Rattle.digits.specs.Writers.{Laid}
use Rattle.digits.proofs.Buffer.{laid_then}
use Rattle.dates.specs.Answers.{is_newline, line_text, ended, ended_in, last_of, last_in, onto, last_after, Answered, Answers}
use Rattle.dates.specs.Buffers.{HasRoom}

-- ---- there is a first line
data Begun (l : List (List ℕ)) : Type 0 where
  begun : (s : List ℕ) (ss : List (List ℕ)) → l ≡ s ∷ ss → Begun l

lines_begin : (s : List ℕ) → Begun (parts is_newline s)
unfolding parts
lines_begin [] = begun [] [] refl
lines_begin (b ∷ s) = go (is_newline b) (lines_begin s)
  where
    go : (t : Bool) → Begun (parts is_newline s) → Begun (if t then [] ∷ parts is_newline s else on_first b (parts is_newline s))
    go true e = begun [] (parts is_newline s) refl
    go false (begun x xs e) = begun (b ∷ x) xs (rw e refl)

-- the first of a block, whose first line began earlier with k
module _ {s front : List ℕ} (p : IsCut 10 s front None) where
  -- no line ends
  pub ended_none : (set : Setting) → ended_in set s ≡ []
  unfolding ended
  ended_none set = ap (ended set) (parts_cut 10 s front None p)

  pub last_goes_on : (k : List ℕ) → k ++ front ≡ last_after k s
  unfolding last_of
  last_goes_on k = sym (ap (λ (l : List (List ℕ)). last_of (onto k l)) (parts_cut 10 s front None p))

module _ {s front rest : List ℕ} (p : IsCut 10 s front (Some rest)) where
  -- a line ends
  pub ended_line : (set : Setting) → ended_in set s ≡ line_text set front ++ ended_in set rest
  unfolding ended
  ended_line set = ap (ended set) (parts_cut 10 s front (Some rest) p) ∙ go (lines_begin rest)
    where
      go : Begun (parts is_newline rest) → ended set (front ∷ parts is_newline rest) ≡ line_text set front ++ ended_in set rest
      go (begun x xs e) = rw e refl

  -- and the last line is as it was
  pub last_line : (k : List ℕ) → last_in rest ≡ last_after k s
  unfolding last_of
  last_line k = sym (ap (λ (l : List (List ℕ)). last_of (onto k l)) (parts_cut 10 s front (Some rest) p) ∙ go (lines_begin rest))
    where
      go : Begun (parts is_newline rest) → last_of ((k ++ front) ∷ parts is_newline rest) ≡ last_in rest
      go (begun x xs e) = rw e refl

pub last_begins : (s : List ℕ) → last_in s ≡ last_after [] s
last_begins s = go (lines_begin s)
  where
    go : Begun (parts is_newline s) → last_in s ≡ last_after [] s
    go (begun x xs e) = rw e refl

-- ---- the lines that are answered
module _ {set : Setting} {block old : List ℕ} {used : ℕ} where
  pub answers_start : Answered set block old used old used block
  answers_start = record {
    past = [];
    done = [];
    whole = refl;
    laid = record { place = omega arith; bytes = refl };
    left = refl;
    last = refl;
  }

  pub answers_on : {mid new rest front after : List ℕ} {at next : ℕ} → Answered set block old used mid at rest → IsCut 10 rest front (Some after)
      → Laid mid at (line_text set front) new next → Answered set block old used new next after
  answers_on {rest = rest} {front = front} {after = after} a p l = record {
    past = a.past ++ (front ++ (10 ∷ []));
    done = a.done ++ line_text set front;
    whole = a.whole ∙ ap (λ (x : List ℕ). a.past ++ x) p.whole ∙ sym (simp append_assoc);
    laid = laid_then a.laid l;
    left = a.left ∙ ap (λ (x : List ℕ). a.done ++ x) (ended_line p set) ∙ sym (append_assoc a.done (line_text set front) (ended_in set after));
    last = a.last ∙ last_begins rest ∙ sym (last_line p []);
  }

  -- why they stop: no line ends in what is left
  pub answers_all : {new rest front : List ℕ} {next : ℕ} → Answered set block old used new next rest → IsCut 10 rest front None
      → Answers set block old used new next rest
  answers_all a p = record { answered = a; stops = λ room. ended_none p set }

-- ---- where no line ends, all that is left is the last line
alone : (l s : List ℕ) → parts is_newline l ≡ s ∷ [] → l ≡ s
unfolding parts
alone [] s e = cc
alone (b ∷ l) s e = go (is_newline b) (lines_begin l) (alone l) e
  where
    go : (t : Bool) → Begun (parts is_newline l) → ((x : List ℕ) → parts is_newline l ≡ x ∷ [] → l ≡ x) → (if t then [] ∷ parts is_newline l else on_first b (parts is_newline l)) ≡ s ∷ [] → b ∷ l ≡ s
    go true (begun x xs is) same e = absurd (cc)
    go false (begun x xs is) same e =
        let h : (b ∷ x) ∷ xs ≡ s ∷ [] = rw is at e in
        let t : l ≡ x = same x (cc (is, h)) in
        cc (h, t)

not_empty : (set : Setting) (s t : List ℕ) → line_text set s ++ t ≡ [] → ⊥
not_empty set s t e = omega (arith, ap length e, length-append (line_text set s) t, length-append (line set s) (10 ∷ []))

pub last_all : (set : Setting) (l : List ℕ) → ended_in set l ≡ [] → last_in l ≡ l
unfolding ended last_of
last_all set l = go (parts is_newline l) refl (lines_begin l)
  where
    go : (ss : List (List ℕ)) → parts is_newline l ≡ ss → Begun (parts is_newline l) → ended set ss ≡ [] → last_of ss ≡ l
    go [] is (begun x xs e) h = absurd (cc)
    go (s ∷ []) is b h = sym (alone l s is)
    go (s ∷ t ∷ ss) is b h = absurd (not_empty set s (ended set (t ∷ ss)) h)

-- where they stop at once though there is room, no line ends
nothing_past : (s t : List ℕ) → length t ≡ length (s ++ t) → s ++ t ≡ t
nothing_past [] t e = refl
nothing_past (b ∷ s) t e = absurd (omega (arith, length-append s t))

pub answers_none : {set : Setting} {block old new rest : List ℕ} {used next : ℕ} → Answers set block old used new next rest → length rest ≡ length block → HasRoom used → last_in block ≡ block
answers_none {set = set} {block = block} {rest = rest} {used = used} {next = next} a e room =
    let d = a.answered.done in
    let same : block ≡ rest = a.answered.whole ∙ nothing_past a.answered.past rest (e ∙ ap length a.answered.whole) in
    let n : length d ≡ 0 = omega (arith, ap length a.answered.left, ap (λ (s : List ℕ). length (ended_in set s)) same, length-append d (ended_in set rest)) in
    last_all set block (ap (ended_in set) same ∙ a.stops (omega (arith, a.answered.laid.place)))
