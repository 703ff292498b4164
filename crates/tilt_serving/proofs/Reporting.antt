-- What a run reports, one after another.
use Rattle.std.proofs.Common.{◌≡◌, ◌≤◌, ℕ, List, [], ◌++◌, true, Result, Ok, Err, refl, sym, ◌∙◌, append_assoc, arith, inl, inr}
use Rattle.std.proofs.Math.Nat.{eq-or-lt_of_le}
use Rattle.std.proofs.lemmas.List.{append-nil}
use Rattle.tilt_outside.proofs.Puts.{rose_from}
use Rattle.tilt_outside.specs.Faults.{Rose}
use Rattle.tilt_outside.specs.Written.{Puts}
use Rattle.tilt_outside.specs.declared.failed.Failed.{Failed}
use Rattle.tilt_serving.specs.Reported.{Reported, ReportedFront, Reports}
use Rattle.tilt_serving.specs.Stops.{is_lost}
use Rattle.tilt_serving.specs.declared.stop.Stop.{Stop}

-- a count that rose first has risen
pub rose_first : (old mid new : ℕ) → old ≤ mid → mid ≤ new → Rose old mid → Rose old new
rose_first old mid new first then (inl more) = inl (omega arith)
rose_first old mid new first then (inr full) =
    elim (eq-or-lt_of_le then) [
      | inl same ↦ inr (omega (arith, same, full))
      | inr more ↦ inl (omega (arith, more))
    ]

module _ {K : Type 0} (tells : Type 0) (written : K → List ℕ) (faults : K → ℕ) where
  -- nothing was reported
  pub reported-none : (sink : K) → Reported tells written faults sink sink []
  reported-none sink = record { kept = omega arith; told = λ _ _. sym (append-nil (written sink)) }

  -- one text after another
  pub reported-then : (old mid new : K) (first then : List ℕ) → Reported tells written faults old mid first → Reported tells written faults mid new then
      → Reported tells written faults old new (first ++ then)
  reported-then old mid new first then a b = record {
    kept = omega (arith, a.kept, b.kept);
    told = λ told none.
        b.told told (λ rose. none (rose_from (faults old) (faults mid) (faults new) a.kept rose))
        ∙ rw (a.told told (λ rose. none (rose_first (faults old) (faults mid) (faults new) a.kept b.kept rose))) (append_assoc (written old) first then);
  }

  -- what was written, whether a fault came or not
  pub reported-put : (takes : K → ℕ → Type 0) (old new : K) (text : List ℕ) (result : Result (Unit {0}) Failed) → Puts tells written faults takes old new text result
      → Reported tells written faults old new text
  reported-put takes old new text (Ok u) put = record { kept = put.cause.kept; told = λ told _. put.whole told }
  reported-put takes old new text (Err e) put = record { kept = put.cause.kept; told = λ _ none. absurd (none put.cause.rose) }

  -- the whole text is a prefix of more
  pub front-whole : (old new : K) (text more : List ℕ) → Reported tells written faults old new text → ReportedFront tells written faults old new (text ++ more)
  front-whole old new text more whole = record { front = text; rest = more; parts = refl; reported = whole }

  pub front-more : (old new : K) (text more : List ℕ) → ReportedFront tells written faults old new text → ReportedFront tells written faults old new (text ++ more)
  front-more old new text more cut = record {
    front = cut.front;
    rest = cut.rest ++ more;
    parts = rw cut.parts (append_assoc cut.front cut.rest more);
    reported = cut.reported;
  }

  pub front-behind : (old mid new : K) (done text : List ℕ) → Reported tells written faults old mid done → ReportedFront tells written faults mid new text
      → ReportedFront tells written faults old new (done ++ text)
  front-behind old mid new done text first cut = record {
    front = done ++ cut.front;
    rest = cut.rest;
    parts = rw cut.parts (sym (append_assoc done cut.front cut.rest));
    reported = reported-then old mid new done cut.front first cut.reported;
  }

  -- nothing was reported
  pub reports-none : {T : Type 0} (sink : K) (x : T) → Reports tells written faults sink sink [] (Ok x)
  reports-none sink x = record { whole = λ _. reported-none sink; front = λ e. absurd (cc e) }

  -- a text was reported, whatever happened then
  pub reports-whole : {T : Type 0} (old new : K) (text : List ℕ) (result : Result T Stop) → Reported tells written faults old new text
      → Reports tells written faults old new text result
  reports-whole old new text result told = record {
    whole = λ _. told;
    front = λ _. rw (← append-nil text) (front-whole old new text [] told);
  }

  -- the run was lost before it
  pub reports-lost : {T : Type 0} (sink : K) (text : List ℕ) (result : Result T Stop) → is_lost result ≡ true → Reports tells written faults sink sink text result
  reports-lost sink text result lost = record {
    whole = λ e. absurd (cc (sym lost ∙ e));
    front = λ _. front-whole sink sink [] text (reported-none sink);
  }

  -- more of it
  pub reports-then : {T : Type 0} (old mid new : K) (done text : List ℕ) (result : Result T Stop) → Reported tells written faults old mid done
      → Reports tells written faults mid new text result → Reports tells written faults old new (done ++ text) result
  reports-then old mid new done text result first then = record {
    whole = λ e. reported-then old mid new done text first (then.whole e);
    front = λ e. front-behind old mid new done text first (then.front e);
  }

  -- the run was lost before more of it
  pub reports-short : {T : Type 0} (old new : K) (text more : List ℕ) (result : Result T Stop) → is_lost result ≡ true → ReportedFront tells written faults old new text
      → Reports tells written faults old new (text ++ more) result
  reports-short old new text more result lost cut = record {
    whole = λ e. absurd (cc (sym lost ∙ e));
    front = λ _. front-more old new text more cut;
  }
