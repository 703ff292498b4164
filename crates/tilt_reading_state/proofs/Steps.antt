-- If a step of many gives nothing, all of them give nothing.
use Rattle.std.proofs.Common.{◌≡◌, ℕ, ◌-◌, ◌<◌, Option, Some, refl, sym, ◌∙◌}
use Rattle.std.proofs.lemmas.Option.{none-some}
use Rattle.tilt_checkpoint.specs.Reading.{times}
use Rattle.tilt_checkpoint.proofs.Steps.{times_refused}
use Rattle.tilt_reading_state.specs.Reading.{IsBad}
use Rattle.tilt_reading_state.specs.declared.fault.KeptFault.{KeptFault}
use Rattle.tilt_reading_state.specs.declared.fault.KeptFault.TheVariants.{NotKept, OutOfMemory}

pub times_bad : {A : Type 0} (step : A → Option A) (count done : ℕ) (x start : A) (fault : KeptFault) → done < count
    → times step (count - done) x ≡ times step count start → IsBad (step x) fault → IsBad (times step count start) fault
times_bad step count done x start NotKept more same h = sym same ∙ times_refused step count done x more h
times_bad step count done x start OutOfMemory more same h = tt

-- a fault if something is read is out of memory
pub only_memory : {A : Type 0} (fault : KeptFault) (read : Option A) (x : A) → IsBad read fault → read ≡ Some x → fault ≡ OutOfMemory
only_memory NotKept read x none some = absurd (none-some x (sym none ∙ some))
only_memory OutOfMemory read x none some = refl
