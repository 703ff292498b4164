use Rattle.tilt_watermarks.proofs.watermarks.Watermarks.kept.Goals as goal

pub returns-clause-fit : goal.returns-clause-fit
returns-clause-fit c = c.in_ok-inputs.ensures.fit c.args.self.now.options.lateness c.args.self.now.none
