use Rattle.std.proofs.Common.{◌≡◌, ◌≤◌, length, take, Ok}
use Rattle.tilt_outside.specs.Counts.{added_count, last_count}
use Rattle.tilt_outside.specs.Reads.{OnlyReads}
use Rattle.tilt_load.specs.Inputs.{bytes_of_inputs}
use Rattle.tilt_load.specs.SeriesFiles.{AreWithin, bounds_in, inputs_read}
use Rattle.tilt_cli.specs.Binding.{bindings_of}
use Rattle.tilt_load.proofs.inputs.read_inputs.Given as goal

abbrev pub invariant-loop-input : goal.invariant-loop-input
invariant-loop-input g l = record {
  read : g.S.Shelf.tells → inputs_read (g.S.Shelf.files l.initial.shelf) (bindings_of l.binds) (bounds_in l.bounds) (take l.input-index l.inputs) ≡ Ok l.all.items;
  within : AreWithin (bounds_in l.bounds) l.all.items;
  many : length l.all.items ≡ l.input-index;
  given : g.S.Shelf.tells → g.S.Shelf.given l.initial.shelf ≤ last_count → g.S.Shelf.given l.shelf
      ≡ added_count (g.S.Shelf.given l.initial.shelf) (bytes_of_inputs (g.S.Shelf.files l.initial.shelf) (bindings_of l.binds) (take l.input-index l.inputs));
  rest : OnlyReads g.S.Shelf.files g.S.Shelf.read_faults g.S.Shelf.save_faults g.S.Shelf.takes l.initial.shelf l.shelf;
}
