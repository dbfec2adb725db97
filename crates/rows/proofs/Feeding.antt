-- A walk over an input, as far as it has come: `line` is kept of a line, and the bytes `more` are read and not gone through. Assumes nothing.
use Rattle.std.proofs.Common.{◌≡◌, ◌≢◌, ℕ, List, [], ◌∷◌, ◌++◌, refl, subst, append_assoc, append-nil}
use Rattle.std.specs.Prelude.{Option}
use Rattle.std.specs.List.{FoldsTo}
use Rattle.std.specs.Io.KnownBytes.{Consumes}
use Rattle.std.proofs.KnownBytes.{Consumes-nil, Consumes-trans}
use borrow.Author.Tests.{eq-eqb, ne_eqb}
use Rattle.rows.specs.Lines.{kept, ended_lines}

module _ {F : Type 0} (Calls : F → List ℕ → F → Type 0) (f₀ : F) (old : Option (List ℕ)) (room : ℕ) where
  -- where f is called at the lines of what is to come, f₀ was called at all lines
  pub record Fed (f : F) (now : Option (List ℕ)) (line more : List ℕ) : Type 0 where
    pub taken : List ℕ
    pub consumed : Consumes old now taken
    pub leads : (after : List ℕ) (last : F) → FoldsTo Calls f (ended_lines room line (more ++ after)) last → FoldsTo Calls f₀ (ended_lines room [] (taken ++ after)) last

  pub begins : Fed f₀ old [] []
  begins = record { taken = []; consumed = Consumes-nil old; leads = λ after last calls. calls }

  pub reads : {f : F} {now new : Option (List ℕ)} {line : List ℕ} (s : List ℕ) → Fed f now line [] → Consumes now new s → Fed f new line s
  reads {f} {now} {new} {line} s a c = record {
    taken = a.taken ++ s;
    consumed = Consumes-trans old now new a.taken s a.consumed c;
    leads = λ after last calls. rw append_assoc (a.leads (s ++ after) last calls);
  }

  pub goes_on : {f : F} {now : Option (List ℕ)} {line s : List ℕ} (b : ℕ) → b ≢ 10 → Fed f now line (b ∷ s) → Fed f now (kept room line b) s
  unfolding ended_lines
  goes_on {f} {now} {line} {s} b other a = record {
    taken = a.taken;
    consumed = a.consumed;
    leads = λ after last calls. a.leads after last (rw (ne_eqb b 10 other) calls);
  }

  pub ends : {f f' : F} {now : Option (List ℕ)} {line s : List ℕ} (b : ℕ) → b ≡ 10 → Calls f (kept room line b) f' → Fed f now line (b ∷ s) → Fed f' now [] s
  unfolding ended_lines
  ends {f} {f'} {now} {line} {s} b newline call a = record {
    taken = a.taken;
    consumed = a.consumed;
    leads = λ after last calls. a.leads after last (rw (eq-eqb b 10 newline) (f', call, calls));
  }

  pub all : {f : F} {now : Option (List ℕ)} {line : List ℕ} → Fed f now line [] → (taken : List ℕ) × (last : F) × Consumes old now taken × FoldsTo Calls f₀ (ended_lines room [] taken) last
  unfolding ended_lines
  all {f} {now} {line} a =
      (a.taken, f, a.consumed, subst (λ s. FoldsTo Calls f₀ (ended_lines room [] s) f) (append-nil a.taken) (a.leads [] f refl))
