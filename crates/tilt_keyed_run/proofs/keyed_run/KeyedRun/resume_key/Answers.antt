use Rattle.std.proofs.Common.{sym}
use Rattle.std.specs.Str.{bytes_eq}
use Rattle.tilt_keyed_run.proofs.Resumings.{found_any}
use Rattle.tilt_keyed_run.proofs.keyed_run.KeyedRun.resume_key.Goals as goal

pub returns-then-is_some-clause-rejected : goal.returns-then-is_some-clause-rejected
returns-then-is_some-clause-rejected g c =
    rw (← c.one.view_is) (found_any (bytes_eq c.one.inside.key.now) c.args.self.now.places c.place_of.result c.place_of.ensures (sym c.if-is_some.ensures))
