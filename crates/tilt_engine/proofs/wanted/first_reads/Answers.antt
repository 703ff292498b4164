use Rattle.std.proofs.Common.{◌≡◌, ◌<◌, ◌+◌, ◌∙◌, ℕ, List, length, get_or, slice_get, Some, refl, sym, ap, subst, arith}
use Rattle.std.proofs.lemmas.Option.{slice_get_read}
use Rattle.tilt_base.proofs.Lists.{all-slice_get}
use Rattle.tilt_engine.proofs.Readied.{loops-ready}
use Rattle.tilt_turn.specs.Ready.{IsReady}
use Rattle.tilt_engine.proofs.wanted.first_reads.Goals as goal

-- what was read there of a list that is the same
read-at : {X : Type 0} (xs all : List X) (place : ℕ) (x : X) → xs ≡ all → place < length all → x ≡ get_or xs place x
    → slice_get all place ≡ Some x
read-at {X = X} xs all place x same within is =
    slice_get_read all (length all) place x refl within (is ∙ ap (λ (ys : List X). get_or ys place x) same)

pub add_loop-requires-clause-ready : goal.add_loop-requires-clause-ready
add_loop-requires-clause-ready c =
    let code = c.args.code.now in
    let below = c.loop-place-test.true in
    let each = c.index-loops-place.result in
    let count : length code.inputs + length code.loops ≡ length c.deref_mut.result.now =
    sym (ap length c.deref_mut.ensures.value ∙ c.loop-place.invariant.count) in
    subst (λ (buffers : ℕ). IsReady buffers each) count
    (all-slice_get (IsReady (length code.inputs + length code.loops)) code.loops c.loop-place.place each (loops-ready code c.loops.ensures.code)
    (read-at c.loops-in-loop-place.result.now code.loops c.loop-place.place each c.loops-in-loop-place.ensures.loops
    (omega (arith, ap length c.loops-place-end.ensures.loops)) c.index-loops-place.is))

pub add_loop-requires-clause-low : goal.add_loop-requires-clause-low
add_loop-requires-clause-low c =
    let below = c.loop-place-test.true in
    let same = ap length c.loops-place-end.ensures.loops in
    c.requires.low c.loop-place.place c.index-loops-place.result c.index-loops-place-in-loop-place.result
    (read-at c.loops-in-loop-place.result.now c.args.code.now.loops _ _ c.loops-in-loop-place.ensures.loops (omega (arith, same)) c.index-loops-place.is)
    (read-at c.args.loops.now c.args.loops.now _ _ refl (omega (arith, same, c.requires.many)) c.index-loops-place-in-loop-place.is)

pub add_loop-requires-clause-high : goal.add_loop-requires-clause-high
add_loop-requires-clause-high c =
    let below = c.loop-place-test.true in
    let same = ap length c.loops-place-end.ensures.loops in
    c.requires.high c.loop-place.place c.index-loops-place.result c.index-loops-place-in-loop-place.result
    (read-at c.loops-in-loop-place.result.now c.args.code.now.loops _ _ c.loops-in-loop-place.ensures.loops (omega (arith, same)) c.index-loops-place.is)
    (read-at c.args.loops.now c.args.loops.now _ _ refl (omega (arith, same, c.requires.many)) c.index-loops-place-in-loop-place.is)
