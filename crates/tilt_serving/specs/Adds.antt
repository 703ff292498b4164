-- What a run that goes on, or stops, has written to its port.
use Rattle.std.specs.Prelude.{◌≡◌, ◌≤◌, ℕ, true, false, List, ◌++◌, Result, IfErr}
use Rattle.tilt_outside.specs.Faults.{Rose}
use Rattle.tilt_outside.specs.Written.{AppendsFront}
use Rattle.tilt_port.specs.Transcript.{ReadsNothing, Transcript}
use Rattle.tilt_serving.specs.Stops.{is_lost}
use Rattle.tilt_serving.specs.declared.stop.Stop.{Stop}
use Rattle.tilt_serving.specs.declared.stop.Stop.TheVariants.{WriteFault}

-- bytes were written, and nothing was read: all of the bytes if the run goes on or if a line stopped it, and otherwise a prefix of them. A
-- write fault is reported only if the count of them rose
pub record Adds {T : Type 0} (tells : Type 0) (old new : Transcript) (bytes : List ℕ) (result : Result T Stop) : Type 0 where
  pub whole : tells → is_lost result ≡ false → new.written ≡ old.written ++ bytes
  pub front : tells → is_lost result ≡ true → AppendsFront old.written new.written bytes
  pub reads_nothing : tells → ReadsNothing old new
  pub kept : old.write_faults ≤ new.write_faults
  pub rose : IfErr result (λ stop. stop ≡ WriteFault → Rose old.write_faults new.write_faults)
  pub reads : new.read_faults ≡ old.read_faults
