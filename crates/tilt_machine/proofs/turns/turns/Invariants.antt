use Rattle.std.proofs.Common.{◌≡◌, ◌++◌, ℤ, pos, ◌+ℤ◌, ◌≤ℤ◌, map}
use Rattle.std.specs.Int.{int_gap}
use Rattle.std.specs.Option.{ForSome}
use Rattle.tilt_base.specs.Grid.{ceil}
use Rattle.tilt_code.specs.Body.{body_of}
use Rattle.tilt_code.specs.Turn.{turns_until, turns}
use Rattle.tilt_machine.specs.Lists.{lists_of}
use Rattle.tilt_stream.specs.Snap.{last_end}
use Rattle.tilt_stream.specs.Stream.{stream_of}
use Rattle.tilt_turn.specs.Held.{IsFit}
use Rattle.tilt_machine.proofs.turns.turns.Given as goal

abbrev pub invariant-loop-start : goal.invariant-loop-start
invariant-loop-start l =
    let lists = lists_of l.buffers in
    let xs = map stream_of lists in
    let each = l.each in
    record {
      made : l.list ++ turns_until (body_of xs each) each.grid each.hi l.start ≡ turns xs each;
      touches : ForSome (last_end l.list) (λ end. end ≡ l.start);
      low : each.lo ≤ℤ l.start;
      high : l.start ≤ℤ each.hi;
      fit : (before : ℤ) × (before ≤ℤ ceil each.grid (l.start +ℤ pos 1)) × IsFit lists each before l.state;
    }

abbrev pub decreases-loop-start : goal.decreases-loop-start
decreases-loop-start l = int_gap l.start l.each.hi
