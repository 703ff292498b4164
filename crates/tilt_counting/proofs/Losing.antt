-- A run that is lost after it took a piece.
use Rattle.std.proofs.Common.{ℕ, List, [], Ok, Err, refl, sym}
use Rattle.std.proofs.lemmas.List.{append-nil}
use Rattle.tilt_port.specs.Transcript.{Transcript}
use Rattle.tilt_serving.proofs.Reporting.{front-whole}
use Rattle.tilt_serving.specs.Adds.{Adds}
use Rattle.tilt_serving.specs.Reported.{Reports}
use Rattle.tilt_serving.specs.declared.stop.Stop.TheVariants.{OutOfMemory}

-- all of the piece was written
pub adds-lost : (tells : Type 0) (old new : Transcript) (bytes : List ℕ) → Adds tells old new bytes (Ok (tt {0}))
    → Adds {T = Unit {0}} tells old new bytes (Err OutOfMemory)
adds-lost tells old new bytes adds = record {
  whole = λ _ e. absurd (cc e);
  front = λ told _. record { front = bytes; rest = []; parts = sym (append-nil bytes); appended = adds.whole told refl };
  reads_nothing = adds.reads_nothing;
  kept = adds.kept;
  rose = λ e. absurd (cc e);
  reads = adds.reads;
}

-- and reported
pub reports-lost : {K : Type 0} (tells : Type 0) (written : K → List ℕ) (faults : K → ℕ) (old new : K) (text : List ℕ)
    → Reports tells written faults old new text (Ok (tt {0})) → Reports tells written faults {T = Unit {0}} old new text (Err OutOfMemory)
reports-lost tells written faults old new text reports = record {
  whole = λ e. absurd (cc e);
  front = λ _. rw (← append-nil text) (front-whole tells written faults old new text [] (reports.whole refl));
}
