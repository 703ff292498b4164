use Rattle.std.proofs.Common.{map, take, IfSome}
use Rattle.std.specs.List.{AllByRecursion}
use Rattle.tilt_code.specs.Body.{body_of, leaf_of}
use Rattle.tilt_stream.specs.Marks.{NamesNextMark}
use Rattle.tilt_stream.specs.Stream.{stream_of}
use Rattle.tilt_turn.proofs.NextMarks.{first_of}
use Rattle.tilt_turn.proofs.Repeats.{AreRight}
use Rattle.tilt_turn.specs.Held.{places_of}
use Rattle.tilt_turn.specs.Ready.{IsMarkTick}
use Rattle.tilt_turn.specs.Stepped.{StepsTo}
use Rattle.tilt_turn.proofs.state.leaves_next.Given as goal

abbrev pub invariant-loop-number : goal.invariant-loop-number
invariant-loop-number g l =
    let lists = g.S.Buffers.lists l.reading.buffers.now in
    let each = l.reading.each.now in
    let point = l.reading.point in
    let xs = map stream_of lists in
    let places = map places_of l.fn.leaves in
    record {
      stepped : StepsTo lists each point l.fn.leaves l.leaves l.registers;
      read : AllByRecursion (AreRight (λ leaf. (leaf_of xs each.maps leaf).cell point) each.body l.registers) (take l.number places);
      next : NamesNextMark (body_of xs (record each { body = take l.number (map (first_of each.body) places) })) point l.next;
      bounds : IfSome l.next IsMarkTick;
    }
