use Rattle.std.proofs.Common.{◌≡◌, ◌<◌, ◌≤◌, ◌-◌, length, take}
use Rattle.tilt_outside.specs.Counts.{added_count}
use Rattle.tilt_outside.specs.Reads.{OnlyReads}
use Rattle.tilt_outside.proofs.whole_file.take_up_to.Given as goal

abbrev pub invariant-loop-bytes : goal.invariant-loop-bytes
invariant-loop-bytes g l = record {
  bound : length l.bytes.items ≤ l.most;
  front : g.S.Shelf.tells → l.bytes.items ≡ take (length l.bytes.items) (g.S.Shelf.files l.initial.shelf l.name);
  fresh : length l.bytes.items ≡ 0 → g.S.Shelf.given l.shelf ≡ g.S.Shelf.given l.initial.shelf;
  taken : 0 < length l.bytes.items → g.S.Shelf.given l.shelf ≡ added_count (g.S.Shelf.given l.initial.shelf) (length l.bytes.items);
  rest : OnlyReads g.S.Shelf.files g.S.Shelf.read_faults g.S.Shelf.save_faults g.S.Shelf.takes l.initial.shelf l.shelf;
}

abbrev pub decreases-loop-bytes : goal.decreases-loop-bytes
decreases-loop-bytes g l = l.most - length l.bytes.items
