use Rattle.std.proofs.Common.{◌∙◌, [], ◌∷◌, ◌+◌, ◌++◌, append_assoc, sym, ap, length, drop, List}
use Rattle.std.proofs.lemmas.List.{drop_all}
use Rattle.tilt_base.proofs.Lists.{drop-at}
use Rattle.tilt_code.proofs.Runs.{last_or-pushed}
use Rattle.tilt_code.specs.Body.{last_or}
use Rattle.tilt_code.specs.Code.{LoopParts}
use Rattle.tilt_code.specs.Run.{with_buffers}
use Rattle.tilt_stream.specs.Snap.{Snapshot}
use Rattle.tilt_turn.proofs.Readies.{loop-ready}
use Rattle.tilt_machine.proofs.run.run_code.Goals as goal

pub turns-requires : goal.turns-requires
turns-requires c =
    let i = c.loop-each.invariant in
    let all = c.args.inputs.now ++ c.loop-each.made.items in
    let rest = drop (c.loop-each.each-index + 1) c.loops-each-items.result.now in
    let first = drop-at c.loops-each-items.result.now c.each-item.result c.loop-each.each-index c.loop-each-test.true c.each-item.is in
    let loops = rw first at i.loops in
    let references = rw first at i.references in
    record { ready = rw c.deref.ensures.value (loop-ready (length all) c.each-item.result rest loops.0 references) }

pub returns : goal.returns
returns c =
    let inputs = c.args.inputs.now in
    let all = c.loop-each.made.items in
    let popped = c.pop.new.self.items in
    let none = drop_all c.loop-each.each-index c.loops-each-items.result.now c.loop-each-test.false in
    let last = rw c.unwrap.ensures at c.pop.ensures.items in
    record {
      run = sym (last_or-pushed [] (inputs ++ popped) c.unwrap.result)
          ∙ ap (last_or []) (append_assoc inputs popped (c.unwrap.result ∷ []))
          ∙ ap (λ (made : List (List Snapshot)). last_or [] (inputs ++ made)) (sym last)
          ∙ ap (λ (ls : List LoopParts). last_or [] (with_buffers (inputs ++ all) ls)) (sym none)
          ∙ c.loop-each.invariant.made;
    }
