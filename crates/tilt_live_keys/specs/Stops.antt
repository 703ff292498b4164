-- Why the run of a feed with keys stops.
use Rattle.std.specs.Prelude.{◌≡◌, ◌⊎◌, Bool, false, true, Result, MatchResult}
use Rattle.tilt_keyed_run.specs.declared.halt.Halt.{Halt}
use Rattle.tilt_keyed_run.specs.declared.halt.Halt.TheVariants as halts
use Rattle.tilt_serving.specs.declared.stop.Stop.{Stop}
use Rattle.tilt_serving.specs.declared.stop.Stop.TheVariants as stops

-- why it stops if the runs of the keys do
abbrev pub stop_of_halt : Halt → Stop
stop_of_halt halts.TooManyKeys = stops.TooManyKeys
stop_of_halt halts.OutOfMemory = stops.OutOfMemory

-- a line is passed on only if its key isn't one too many. If it isn't passed on, its key is, or there was no memory
abbrev pub StopsIfFull : {T : Type 0} → Result T Stop → Bool → Type 0
StopsIfFull result exceeds =
    MatchResult result (λ _. exceeds ≡ false) (λ stop. ((stop ≡ stops.TooManyKeys) × (exceeds ≡ true)) ⊎ (stop ≡ stops.OutOfMemory))
