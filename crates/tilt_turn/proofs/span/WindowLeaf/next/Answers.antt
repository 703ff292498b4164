use Rattle.std.proofs.Common.{◌≡◌, ◌≤ℤ◌, ◌+ℤ◌, pos, [], sym, map, get_or, w64, to_z, of_z, arith}
use Rattle.std.proofs.lemmas.Int.{ints, clamps}
use Rattle.std.proofs.lemmas.Option.{IfSome_then}
use Rattle.tilt_code.specs.Body.{mapped}
use Rattle.tilt_stream.specs.Pointwise.{shifted}
use Rattle.tilt_stream.specs.Stream.{stream_of}
use Rattle.tilt_stream.specs.Marks.{NamesNextMark}
use Rattle.tilt_turn.proofs.MarkBounds.{read-bounds}
use Rattle.tilt_turn.proofs.NextMarks.{window-next}
use Rattle.tilt_turn.proofs.Numbered.{read-stream}
use Rattle.tilt_turn.proofs.TurnTicks.{offset-fits}
use Rattle.tilt_turn.specs.Held.{known_next}
use Rattle.tilt_turn.specs.Kinds.{kind_reducer}
use Rattle.tilt_turn.proofs.span.WindowLeaf.next.Goals as goal

pub earlier-requires : goal.earlier-requires
earlier-requires c =
    let w = c.args.self.now in
    let r = c.requires.at.4.at.readable in
    let knows = c.requires.at.4.knows in
    rw (c.next_behind.ensures, offset-fits w.to r.high) (read-bounds (known_next w.window.next) w.to r.high knows.low knows.high)

pub earlier-requires-2 : goal.earlier-requires-2
earlier-requires-2 c =
    let w = c.args.self.now in
    let lists = c.requires.at.0 in
    let maps = c.requires.at.1 in
    let point = c.requires.at.2 in
    let near = c.requires.at.3 in
    let at = c.requires.at.4.at in
    let least = near.low in
    let greatest = near.high in
    let r = at.readable in
    let from_low = r.low.0 in
    let from_high = r.low.1 in
    let to_high = r.high.1 in
    let ticks = r.some_ticks in
    let stands = c.requires.at.4.last in
    let some : (point +ℤ w.from +ℤ pos 1) ≤ℤ w.window.back.tick = rw stands (omega (arith, ints)) in
    let from : to_z w64 (of_z w64 (to_z w64 (of_z w64 w.from) +ℤ pos 1)) ≡ w.from +ℤ pos 1 = omega (arith, ints) in
    let bounds = c.next_within.ensures.bounds (get_or lists w.buffer []) (mapped maps w.map) (point +ℤ w.from +ℤ pos 1) some at.begins.held
    c.requires.at.4.knows in
    rw from (IfSome_then c.next_within.result bounds
    (λ next within.
    let above = within.0 in
    let below = rw stands at within.1 in
    record { low = omega (arith, ints); high = omega (arith, ints, clamps) }))

pub returns-clause-next : goal.returns-clause-next
returns-clause-next c =
    let w = c.args.self.now in
    λ lists maps point is.
    let at = is.at in
    let r = at.readable in
    let from_low = r.low.0 in
    let from_high = r.low.1 in
    let ticks = r.some_ticks in
    let stands = is.last in
    let stream_is = read-stream lists w.buffer in
    let list = get_or lists w.buffer [] in
    let x = stream_of list in
    let some : (point +ℤ w.from +ℤ pos 1) ≤ℤ w.window.back.tick = rw stands (omega (arith, ints)) in
    let knows = is.knows in
    let from : to_z w64 (of_z w64 (to_z w64 (of_z w64 w.from) +ℤ pos 1)) ≡ w.from +ℤ pos 1 = omega (arith, ints) in
    let first : point +ℤ w.from +ℤ pos 1 ≡ point +ℤ (w.from +ℤ pos 1) = omega (arith, ints) in
    let last_names : NamesNextMark x (point +ℤ w.to) c.next_behind.result = rw c.next_behind.ensures (rw stands at knows.next) in
    let first_names = rw first at (c.next_within.ensures.next list (mapped maps w.map) (point +ℤ w.from +ℤ pos 1) some at.begins.held knows) in
    let by_last = (rw (offset-fits w.to r.high) at c.earlier.ensures.next) x point last_names in
    let by_first = (rw from at c.earlier-2.ensures.next) x point first_names in
    window-next (map stream_of lists) maps (kind_reducer w.window.kind) w.buffer w.from w.to w.map x point c.lesser.result (sym stream_is)
    (c.lesser.ensures.next (shifted x w.to) (shifted x (w.from +ℤ pos 1)) point by_last by_first)
