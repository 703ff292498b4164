use Rattle.std.proofs.Common.{◌≡◌, true, subst, sym}
use Rattle.std.specs.Option.{ForSome}
use Rattle.tilt_conventions.proofs.Resuming.{fit-times}
use Rattle.tilt_conventions.specs.Steps.{Kept, is_reading_time}
use Rattle.tilt_conventions.proofs.converter.Converter.resume.Goals as goal

pub invariant_of-result : goal.invariant_of-result
invariant_of-result c = record {
  times = subst (λ (k : Kept). ForSome k.latest (λ reading. is_reading_time reading.tick ≡ true)) (sym c.kept.view_is)
      (fit-times c.args.kept.now.latest c.requires.fit);
}
