use Rattle.tilt_conventions.proofs.Resuming.{times-fit}
use Rattle.tilt_conventions.proofs.converter.Converter.kept.Goals as goal

pub returns-clause-fit : goal.returns-clause-fit
returns-clause-fit c = times-fit c.args.self.now.latest c.args.self.now.times
