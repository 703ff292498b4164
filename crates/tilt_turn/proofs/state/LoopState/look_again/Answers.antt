use Rattle.std.proofs.Common.{◌≡◌, ◌∙◌, ◌<◌, refl, ap, map, length}
use Rattle.std.proofs.lemmas.List.{append-nil, drop_all, length-map, take_all, with_items_is}
use Rattle.std.proofs.lemmas.List.Edits.{map_over_more}
use Rattle.std.specs.Vec.{with_items}
use Rattle.tilt_turn.proofs.Elsewhere.{fit-again}
use Rattle.tilt_turn.specs.Again.{placed_again}
use Rattle.tilt_turn.proofs.state.LoopState.look_again.Goals as goal

pub loop-leaf-preserved : goal.loop-leaf-preserved
loop-leaf-preserved c =
    let old = c.deref_mut-leaf-items.result.now in
    let index = c.loop-leaf.leaf-index in
    let within : index < length old = c.loop-leaf-test.true in
    rw (c.look_again.ensures, ← c.leaf-item.is)
    (map_over_more placed_again old c.loop-leaf.leaf-items index c.leaf-item.result within c.loop-leaf.invariant c.leaf-item.is)

pub returns : goal.returns
returns c = λ a b l point low fit alike.
    let leaves = c.args.self.now.leaves in
    let old = c.deref_mut-leaf-items.result.now in
    let index = c.loop-leaf.leaf-index in
    let made : c.loop-leaf.leaf-items ≡ map placed_again old =
    c.loop-leaf.invariant
    ∙ rw (take_all index old c.loop-leaf-test.false, drop_all index old c.loop-leaf-test.false, append-nil (map placed_again old)) refl in
    let count = ap length made ∙ length-map old placed_again ∙ c.deref_mut-leaf-items.ensures.len in
    let is = with_items_is leaves c.loop-leaf.leaf-items count in
    fit-again a b l point c.args.self.now (with_items leaves c.loop-leaf.leaf-items) low alike
    (is ∙ made ∙ ap (map placed_again) c.deref_mut-leaf-items.ensures.value) fit
