-- A step taken many times.
use Rattle.std.proofs.Common.{◌≡◌, ℕ, suc, ◌+◌, ◌-◌, ◌<◌, Option, Some, None, sym, ap, ◌∙◌, arith}
use Rattle.tilt_text.specs.Step.{◌>>=◌}
use Rattle.tilt_checkpoint.specs.Reading.{IsBad, times}
use Rattle.tilt_checkpoint.specs.declared.fault.CheckpointFault.{CheckpointFault}
use Rattle.tilt_checkpoint.specs.declared.fault.CheckpointFault.TheVariants.{BadCheckpoint, OutOfMemory}

-- what is left to do begins with a step
times_first : {A : Type 0} (step : A → Option A) (count done : ℕ) (x : A) → done < count
    → times step (count - done) x ≡ (step x >>= times step (count - (done + 1)))
times_first step count done x more =
    let is : count - done ≡ suc (count - (done + 1)) = omega arith in
    ap (λ (n : ℕ). times step n x) is

pub times_taken : {A : Type 0} (step : A → Option A) (count done : ℕ) (x y : A) → done < count → step x ≡ Some y
    → times step (count - done) x ≡ times step (count - (done + 1)) y
times_taken step count done x y more e =
    times_first step count done x more ∙ ap (λ o. o >>= times step (count - (done + 1))) e

pub times_refused : {A : Type 0} (step : A → Option A) (count done : ℕ) (x : A) → done < count → step x ≡ None
    → times step (count - done) x ≡ None
times_refused step count done x more e =
    times_first step count done x more ∙ ap (λ o. o >>= times step (count - (done + 1))) e

-- if a part is bad, so is the whole
pub bad : {A B : Type 0} (fault : CheckpointFault) (part : Option A) (whole : Option B) → IsBad part fault
    → (part ≡ None → whole ≡ None) → IsBad whole fault
bad BadCheckpoint part whole h none = none h
bad OutOfMemory part whole h none = tt

-- if a step is bad, so are all
pub times_bad : {A : Type 0} (step : A → Option A) (count done : ℕ) (x start : A) (fault : CheckpointFault) → done < count
    → times step (count - done) x ≡ times step count start → IsBad (step x) fault → IsBad (times step count start) fault
times_bad step count done x start fault more same h =
    bad fault (step x) (times step count start) h (λ none. sym same ∙ times_refused step count done x more none)
