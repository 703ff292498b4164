-- What a run reports, one after another.
use Rattle.std.proofs.Common.{◌≡◌, ℕ, List, [], ◌++◌, Result, Ok, Err}
use Rattle.std.proofs.lemmas.List.{append-nil}
use Rattle.tilt_live_run.specs.Reported.{Reports}
use Rattle.tilt_live_run.specs.declared.stop.Stop.{Stop}
use Rattle.tilt_live_run.specs.declared.stop.Stop.TheVariants.{BadLine}
use Rattle.tilt_serving.proofs.Reporting.{front-behind, front-more, front-whole, reported-none, reported-then}
use Rattle.tilt_serving.specs.Reported.{Reported}

module _ {K : Type 0} (tells : Type 0) (written : K → List ℕ) (faults : K → ℕ) where
  -- nothing was reported
  pub reports-none : {T : Type 0} (sink : K) (x : T) → Reports tells written faults sink sink [] (Ok x)
  reports-none sink x = record { whole = reported-none tells written faults sink; stopped = tt; front = tt }

  -- a text was reported, and the run goes on or stops
  pub reports-whole : {T : Type 0} (old new : K) (text : List ℕ) (result : Result T Stop) → Reported tells written faults old new text
      → Reports tells written faults old new text result
  reports-whole old new text (Ok x) whole = record { whole = whole; stopped = tt; front = tt }
  reports-whole old new text (Err e) whole = record { whole = tt; stopped = λ _. whole; front = rw (← append-nil text) (front-whole tells written faults old new text [] whole) }

  -- the run stopped, not by a bad line, before the text was reported
  pub reports-stopped : {T : Type 0} (sink : K) (text : List ℕ) (why : Stop) (result : Result T Stop) → result ≡ Err why → (why ≡ BadLine → ⊥)
      → Reports tells written faults sink sink text result
  reports-stopped sink text why result is other = rw is record {
    whole = tt;
    stopped = λ bad. absurd (other bad);
    front = front-whole tells written faults sink sink [] text (reported-none tells written faults sink);
  }

  -- more of it
  pub reports-then : {T U : Type 0} (old mid new : K) (done text : List ℕ) (x : U) (result : Result T Stop) → Reports tells written faults old mid done (Ok x)
      → Reports tells written faults mid new text result → Reports tells written faults old new (done ++ text) result
  reports-then old mid new done text x (Ok y) first then = record { whole = reported-then tells written faults old mid new done text first.whole then.whole; stopped = tt; front = tt }
  reports-then old mid new done text x (Err e) first then = record {
    whole = tt;
    stopped = λ bad. reported-then tells written faults old mid new done text first.whole (then.stopped bad);
    front = front-behind tells written faults old mid new done text first.whole then.front;
  }

  -- the run stopped before more of it, not by a bad line
  pub reports-short : {T U : Type 0} (old new : K) (text more : List ℕ) (why : Stop) (result : Result T Stop) → result ≡ Err why → (why ≡ BadLine → ⊥)
      → Reports tells written faults {T = U} old new text (Err why) → Reports tells written faults old new (text ++ more) result
  reports-short old new text more why result is other cut = rw is record {
    whole = tt;
    stopped = λ bad. absurd (other bad);
    front = front-more tells written faults old new text more cut.front;
  }
