use Rattle.std.proofs.Common.{refl}
use Rattle.std.specs.Prelude.{string_bytes}
use Rattle.tilt_cli.specs.Binding.{bindings_of}
use Rattle.tilt_tests_app.proofs.sure.runs.Goals as goal

pub returns-in-Run : goal.returns-in-Run
returns-in-Run c = λ _. (string_bytes c.in-Run.query, bindings_of c.in-Run.binds.items, c.in-Run.plain, c.in-Run.cuts.items, rw c.in-Run.is refl)
