-- Why all runs of a feed stop.
use Rattle.std.specs.Prelude.{◌≡◌, Bool, false, true, Result, MatchResult}
use Rattle.tilt_keyed_run.specs.declared.halt.Halt.{Halt}
use Rattle.tilt_keyed_run.specs.declared.halt.Halt.TheVariants.{TooManyKeys}

-- a line is taken only if its key isn't one too many. The runs stop because of too many keys only if it is, and then this holds
abbrev pub FullBy : {T : Type 0} → Result T Halt → Bool → Type 0 → Type 0
FullBy result exceeds stays = MatchResult result (λ _. exceeds ≡ false) (λ halt. halt ≡ TooManyKeys → (exceeds ≡ true) × stays)
