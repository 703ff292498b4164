use Rattle.tilt_tests_app.proofs.sure.sure.Goals as goal

pub tilt-requires-clause-saves : goal.tilt-requires-clause-saves
tilt-requires-clause-saves g c = λ text save outcome. c.requires.saves text save (outcome tt)
