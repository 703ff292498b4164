use Rattle.std.proofs.Common.{◌∙◌, ◌++◌, ◌∷◌, [], List, ℕ, length, map, ap, sym, arith}
use Rattle.std.proofs.lemmas.List.{take_all, length-map}
use Rattle.tilt_commands.proofs.Divided.{more_sizes}
use Rattle.tilt_parts.specs.Part.{PartValue}
use Rattle.tilt_commands.proofs.parts_command.part_sizes.Goals as goal

pub loop-part-preserved : goal.loop-part-preserved
loop-part-preserved c =
    let within = c.loop-part-test.true in
    c.in_ok-push.ensures.items ∙ ap (λ (l : List ℕ). l ++ c.given.result ∷ []) c.loop-part.invariant
    ∙ sym (more_sizes c.args.parts.now c.loop-part.part c.given.result (omega arith) c.given.ensures.value)

pub returns : goal.returns
returns c =
    let past = c.loop-part-test.false in
    c.loop-part.invariant ∙ take_all c.loop-part.part (map (λ (p : PartValue). length p.taken) c.args.parts.now)
    (let same = length-map c.args.parts.now (λ (p : PartValue). length p.taken) in omega arith)
