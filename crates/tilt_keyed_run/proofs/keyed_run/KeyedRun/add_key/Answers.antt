use Rattle.std.proofs.Common.{rules, ◌≡◌, ◌++◌, ◌∷◌, []}
use Rattle.tilt_keyed_run.proofs.keyed_run.KeyedRun.add_key.Goals as goal

pub returns-clause-is : goal.returns-clause-is
returns-clause-is g c =
    let pushed : c.push_key.new.keys.items ≡ c.args.self.now.keys.items ++ c.in_ok-one.one ∷ [] = search rules in
    (c.in_ok-one.one, pushed, c.in_ok-one.ensures.is)
