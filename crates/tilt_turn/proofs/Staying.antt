-- What stays as it is where a window's last tick moves on below the next mark.
use Rattle.std.proofs.Common.{◌≡◌, ℤ, pos, ◌+ℤ◌, ◌<ℤ◌, ◌≤ℤ◌, true, false, ◌||◌, int_lt, List, [], ◌∷◌, map, get_or, Option, Some, None, IfSome, refl, sym, ◌∙◌, arith}
use Rattle.std.specs.Ordering.{int_eq}
use Rattle.std.proofs.lemmas.Bool.{or_parts}
use Rattle.std.proofs.lemmas.Int.{ints, by_lt_z}
use Rattle.tilt_code.specs.Body.{leaf_of, mapped}
use Rattle.tilt_code.specs.Code.{Block}
use Rattle.tilt_stream.proofs.Constancy.{shifted-changes, stream_of-changes}
use Rattle.tilt_stream.proofs.Mapped.{windowed_by-changes}
use Rattle.tilt_stream.proofs.MarkedTicks.{cell-kept}
use Rattle.tilt_stream.specs.Agreement.{ChangesOnlyAtMarks}
use Rattle.tilt_stream.specs.Marks.{NamesNextMark}
use Rattle.tilt_stream.specs.Snap.{Snapshot, ended_below}
use Rattle.tilt_stream.specs.Stream.{Stream, mark_at, stream_of}
use Rattle.tilt_stream.specs.declared.seen.Seen.{Seen}
use Rattle.tilt_turn.proofs.Numbered.{read-stream}
use Rattle.tilt_turn.specs.Held.{Knows, known_next, origin}
use Rattle.tilt_turn.specs.Kinds.{kind_reducer}
use Rattle.tilt_turn.specs.Sight.{Sees}
use Rattle.tilt_turn.specs.declared.leaf.Leaf.{Leaf}
use Rattle.tilt_turn.specs.declared.leaf.Leaf.TheVariants as leaf
use Rattle.tilt_turn.specs.declared.moving.Moving.{Moving}

-- a snapshot ends below both of two ticks or below neither, where it doesn't end from the first on and below the second
ended-alike : (s : Snapshot) (tick later : ℤ) → tick ≤ℤ later → ((other : ℤ) → tick <ℤ other → other ≤ℤ later → int_eq other (s.end +ℤ pos 1) ≡ false)
    → int_lt s.end tick ≡ int_lt s.end later
ended-alike s tick later onwards none =
    by_lt_z s.end tick
    (λ ended.
    let before : int_lt s.end tick ≡ true = grind (arith, ints) in
    let after : int_lt s.end later ≡ true = grind (arith, ints) in
    before ∙ sym after)
    (λ ongoing.
    let before : int_lt s.end tick ≡ false = grind (arith, ints) in
    by_lt_z s.end later
    (λ ends.
    let no = none (s.end +ℤ pos 1) (omega (arith, ints)) (omega (arith, ints)) in
    let yes : int_eq (s.end +ℤ pos 1) (s.end +ℤ pos 1) ≡ true = grind (arith, ints) in
    absurd (cc (sym yes ∙ no)))
    (λ stays.
    let after : int_lt s.end later ≡ false = grind (arith, ints) in
    before ∙ sym after))

-- as many end below a later tick, if there is no mark up to it
pub ended-stays : (list : List Snapshot) (tick later : ℤ) → tick ≤ℤ later
    → ((other : ℤ) → tick <ℤ other → other ≤ℤ later → mark_at list other ≡ false) → ended_below tick list ≡ ended_below later list
ended-stays [] tick later onwards none = refl
ended-stays (s ∷ ss) tick later onwards none =
    let parts = λ (other : ℤ) (low : tick <ℤ other) (high : other ≤ℤ later).
    or_parts (int_eq other (s.start +ℤ pos 1) || int_eq other (s.end +ℤ pos 1)) (mark_at ss other) (none other low high) in
    let ends = λ (other : ℤ) (low : tick <ℤ other) (high : other ≤ℤ later).
    or_parts (int_eq other (s.start +ℤ pos 1)) (int_eq other (s.end +ℤ pos 1)) (parts other low high).0 in
    rw (
      ended-alike s tick later onwards (λ other low high. (ends other low high).1),
      ended-stays ss tick later onwards (λ other low high. (parts other low high).1),
    ) refl

-- and the next mark is the same one
pub names-later : (x : Stream) (tick later : ℤ) (answer : Option ℤ) → tick ≤ℤ later
    → ((other : ℤ) → tick <ℤ other → other ≤ℤ later → x.mark other ≡ false) → NamesNextMark x tick answer → NamesNextMark x later answer
names-later x tick later None onwards none names = λ other above. names other (omega (arith, ints))
names-later x tick later (Some next) onwards none names =
    let low = names.above in
    by_lt_z later next
    (λ above. record { above = above; marked = names.marked; least = λ other from to. names.least other (omega (arith, ints)) to })
    (λ within. absurd (cc (sym names.marked ∙ none next names.above within)))

-- so a window knows as much at a later tick
pub knows-later : (list : List Snapshot) (later : ℤ) (w moved : Moving) → Knows list w → w.back.tick ≤ℤ later
    → ((other : ℤ) → w.back.tick <ℤ other → other ≤ℤ later → mark_at list other ≡ false)
    → moved.back ≡ record { tick = later; place = w.back.place } → moved.next ≡ w.next → Knows list moved
knows-later list later w moved knows onwards none is same = record {
  place = rw is (knows.place ∙ ended-stays list w.back.tick later onwards none);
  next = rw (is, same) (names-later (stream_of list) w.back.tick later (known_next w.next) onwards none knows.next);
  low = rw same knows.low;
  high = rw same knows.high;
}

-- what a window knows it knows however its cells change
pub knows-too : (list : List Snapshot) (w moved : Moving) → Knows list w → moved.back ≡ w.back → moved.next ≡ w.next → Knows list moved
knows-too list w moved knows is same = record {
  place = rw is knows.place;
  next = rw (is, same) knows.next;
  low = rw same knows.low;
  high = rw same knows.high;
}

-- there is no mark up to a tick that stays below the next mark
pub clear-below : (x : Stream) (tick later : ℤ) (answer : Option ℤ) → NamesNextMark x tick answer → IfSome answer (λ next. later <ℤ next)
    → (other : ℤ) → tick <ℤ other → other ≤ℤ later → x.mark other ≡ false
clear-below x tick later None names stays other above within = names other above
clear-below x tick later (Some next) names stays other above within = names.least other above (omega (arith, ints))

-- and an earlier tick stays below it too
pub stays-before : (before later : ℤ) (answer : Option ℤ) → before ≤ℤ later → IfSome answer (λ next. later <ℤ next)
    → IfSome answer (λ next. before <ℤ next)
stays-before before later None onwards stays = tt
stays-before before later (Some next) onwards stays = omega (arith, ints)

-- the stream of a leaf changes only at marks
leaf-changes : (lists : List (List Snapshot)) (maps : List Block) (own : Leaf) → ChangesOnlyAtMarks (leaf_of (map stream_of lists) maps (origin own))
leaf-changes lists maps (leaf.Port p) =
    let list = get_or lists p.buffer [] in
    rw (read-stream lists p.buffer) (shifted-changes (stream_of list) p.offset (stream_of-changes list))
leaf-changes lists maps (leaf.Window w) =
    let list = get_or lists w.buffer [] in
    rw (read-stream lists w.buffer)
    (windowed_by-changes (mapped maps w.map) (kind_reducer w.window.kind) w.from w.to (stream_of list) (stream_of-changes list))

-- so below its next mark the same is seen of it
pub leaf-stays : (lists : List (List Snapshot)) (maps : List Block) (at point : ℤ) (own : Leaf) (seen : Seen) → at ≤ℤ point
    → IfSome seen.next (λ next. point <ℤ next) → Sees (leaf_of (map stream_of lists) maps (origin own)) at seen
    → Sees (leaf_of (map stream_of lists) maps (origin own)) point seen
leaf-stays lists maps at point own seen onwards stays sees =
    let x = leaf_of (map stream_of lists) maps (origin own) in
    let clear = clear-below x at point seen.next sees.next stays in
    record {
      cell = sees.cell ∙ sym (cell-kept x at point (leaf-changes lists maps own) onwards clear);
      next = names-later x at point seen.next onwards clear sees.next;
      bounds = sees.bounds;
    }
