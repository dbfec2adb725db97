-- From the fields of a line to what comes of its call. Assumes nothing.
use Prim.Native.Nat.{ℕ, ◌+◌, ◌≤◌}
use mathlib.Core.Bool.{true, false}
use mathlib.Core.Path.{◌≡◌, refl, ap, ◌∙◌}
use mathlib.Core.List.{List, [], ◌∷◌, ◌++◌}
use native.Mathlib.Nat.{zero-add}
use native.Mathlib.Omega.{arith}
use lib.ListN.{length, take, drop}
use lib.Seq.{sets, sets-eq, length-sets, take_at}
use Rattle.std.specs.Prelude.{Option, Some, None, Result, Err}
use Rattle.rules.specs.Basics.{Read, other, ◌>>=◌}
use Rattle.rules.specs.Calls.{Call, bytes, call, strftime, timediff, answered, after}
use Rattle.rules.specs.Functions.{answer}
use Rattle.rules.specs.Program.{buffered, general_call, strftime_call, timediff_call, fields_call, line_call}
use Rattle.rules.specs.declared.Answer.{Answer}
use Rattle.rules.specs.declared.Function.{Function}
use Rattle.rules.specs.declared.Refusal.{Refusal}
use Rattle.rules.specs.declared.Setting.{Setting}
use Rattle.rules.specs.declared.Unanswered.{Unanswered}
use Rattle.text.specs.Places.{IsCut}
use Rattle.digits.specs.Writers.{Laid}
use Rattle.datetime.specs.Given.{Gives}
use Rattle.lines.specs.Fields.{fields_of, following, plain, laid_out, outcome}
use Rattle.lines.specs.Names.{named, call_of}
use Rattle.lines.specs.declared.names.Name.{Name}
use Rattle.lines.proofs.Parts.{cut_fields, parts_some, length_buffered}
use Rattle.lines.proofs.Naming.{named_call}

-- ---- the modifiers that were laid out
few : (rest : Option (List ℕ)) → length (buffered (fields_of rest)) ≤ following rest
unfolding buffered
few None = omega arith
few (Some s) = omega (arith, length_buffered s)

module _ (rest : Option (List ℕ)) {room new : List ℕ} {n : ℕ} (fits : following rest ≤ length room) (l : Laid room 0 (buffered (fields_of rest)) new n) where
  is_length : n ≡ length (buffered (fields_of rest))
  is_length = l.place ∙ zero-add _

  pub laid_inside : n ≤ length new
  laid_inside = rw (l.bytes, length-sets room 0 (buffered (fields_of rest))) (omega (arith, is_length, few rest))

  pub laid_are : take n new ≡ buffered (fields_of rest)
  laid_are =
      let m = buffered (fields_of rest) in
      let e : sets room 0 m ≡ m ++ drop (0 + length m) room = sets-eq m room 0 (omega (arith, few rest)) in
      rw (l.bytes, e, is_length) (take_at m (drop (0 + length m) room) (length m) refl)

-- ---- what comes of a call, or of none
pub none_gives : (set : Setting) {old : List ℕ} {c : Read Call} → c ≡ other → Gives (outcome set c) old old (Err (Unanswered.Refused Refusal.Shape))
unfolding outcome answered after
none_gives set e = rw e (record { is = refl; bytes = refl })

-- where a field is missing: k is the call of fields, and x the refusal that `next_field` hands back
pub missing_gives : (set : Setting) {old : List ℕ} {r : Result Answer Unanswered} (k : List (List ℕ) → Read Call) {fs : List (List ℕ)} {x : Refusal} → k [] ≡ other → (x ≡ Refusal.Shape) × (fs ≡ []) → r ≡ Err (Unanswered.Refused x) → Gives (outcome set (k fs)) old old r
missing_gives set k e (h, f) is = rw (is, h, f) (none_gives set e)

module _ (set : Setting) {old new : List ℕ} {r : Result Answer Unanswered} where
  pub general_gives : (f : Function) {fs : List (List ℕ)} (v m : List ℕ) (ms : List (List ℕ)) → fs ≡ v ∷ ms → m ≡ buffered ms → Gives (answer set (call f (bytes v) m)) old new r → Gives (outcome set (general_call fs f)) old new r
  unfolding outcome
  general_gives f v m ms e k g = rw e (rw k at g)

  pub strftime_gives : {fs : List (List ℕ)} (f v m : List ℕ) (ms : List (List ℕ)) → fs ≡ f ∷ v ∷ ms → m ≡ buffered ms → Gives (answer set (strftime f (bytes v) m)) old new r → Gives (outcome set (strftime_call fs)) old new r
  unfolding outcome
  strftime_gives f v m ms e k g = rw e (rw k at g)

  pub timediff_gives : {fs : List (List ℕ)} (a b : List ℕ) → fs ≡ a ∷ b ∷ [] → Gives (answer set (timediff (bytes a) (bytes b))) old new r → Gives (outcome set (timediff_call fs)) old new r
  unfolding outcome
  timediff_gives a b e g = rw e g

pub timediff_more : (a b l : List ℕ) → timediff_call (a ∷ b ∷ fields_of (Some l)) ≡ other
timediff_more a b l = rw (parts_some l).is refl

pub timediff_lays : (fs : List (List ℕ)) (room : List ℕ) → room ≡ laid_out (timediff_call fs) room
timediff_lays [] room = refl
timediff_lays (a ∷ []) room = refl
timediff_lays (a ∷ b ∷ []) room = refl
timediff_lays (a ∷ b ∷ c ∷ fs) room = refl

-- ---- the line's call
pub line_none : (s : List ℕ) → plain s ≡ false → line_call s ≡ other
unfolding line_call
line_none s h = rw h

-- by the name in its first field
pub line_named : (s front : List ℕ) (rest : Option (List ℕ)) {q : Read Name} → plain s ≡ true → IsCut 9 s front rest → q ≡ named front → line_call s ≡ ◌>>=◌ q (λ n. call_of n (fields_of rest))
unfolding line_call
line_named s front rest h p e = rw (h, e) (ap fields_call (cut_fields s front rest p) ∙ named_call front (fields_of rest))
