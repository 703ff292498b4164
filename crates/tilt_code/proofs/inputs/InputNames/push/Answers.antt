use Rattle.std.proofs.Common.{◌≡◌, refl, rules}
use Rattle.tilt_code.proofs.Known.{knows_more}
use Rattle.tilt_code.proofs.inputs.InputNames.push.Goals as goal

pub invariant_of-self-in-Ok : goal.invariant_of-self-in-Ok
invariant_of-self-in-Ok c =
    let same : c.in_ok-bytes.bytes.items ≡ c.args.name = search rules in
    knows_more (λ key. key.items) _ (λ j k. refl) c.self.inside.known c.insert.new.self c.in_ok-bytes.bytes c.self.inside.list.items
    c.push.new.self.items c.args.name same c.in_ok-push.ensures.items c.in-Ok.ensures.keys c.self.invariant
