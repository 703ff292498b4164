-- The readers are checked one after the other.
use Rattle.tilt_pipe.specs.Sources.{IsReaderOf}
use Rattle.std.proofs.Common.{◌<◌, ◌≤◌, length, Some, refl, arith, rules, FitsSigned, w64, pos, ◌+ℤ◌}
use Rattle.std.proofs.lemmas.Int.{to_z-of_z}
use Rattle.std.proofs.lemmas.Option.{slice_get_read, slice_get_within}
use Rattle.tilt_pipe.proofs.Covered.{at-contains, each-more}
use Rattle.tilt_pipe.proofs.Turning.{own-readers, reader-at}
use Rattle.tilt_pipe.proofs.Wanting.{gone-less, reader-near, wanted-low}
use Rattle.tilt_pipe.specs.Trimmed.{reads_next}
use Rattle.tilt_pipe.proofs.chain.Chain.reader_up_to.Goals as goal
use Rattle.tilt_pipe.proofs.chain.Chain.reader_up_to.Goals.{After-index-reader}

own : (c : After-index-reader) → IsReaderOf (length c.args.self.now.rings.inputs) c.args.self.now.rings.code.loops c.args.place c.index-reader.result.now
own c =
    let within : c.loop-number.number < length c.index.result.now.readers.items = search rules in
    reader-at c.args.self.now.rings c.args.self.now.turns.items c.args.place c.index.result.now c.loop-number.number c.index-reader.result.now
    c.requires.may.turns c.requires.there c.index.ensures within c.index-reader.ensures

pub reads_up_to-requires-clause-reader : goal.reads_up_to-requires-clause-reader
reads_up_to-requires-clause-reader c =
    reader-near c.args.self.now.rings c.args.place c.index-reader.result.now c.loops.ensures.code c.loops.ensures.rings
    (own (goal.at.reads_up_to-requires-clause-reader c).After-index-reader)

pub loop-number-preserved : goal.loop-number-preserved
loop-number-preserved c =
    let items = c.index.result.now.readers.items in
    let within : c.loop-number.number < length items = search rules in
    let at = slice_get_read items (length items) c.loop-number.number c.index-reader.result.now refl within c.index-reader.ensures in
    each-more items c.loop-number.number c.index-reader.result.now _ c.loop-number.invariant at (c.reads_up_to.ensures.late c.if-reads_up_to.false)

pub returns-then-reads_up_to : goal.returns-then-reads_up_to
returns-then-reads_up_to c =
    let d = c.args.self.now in
    let fits : FitsSigned w64 c.args.end = search rules in
    record {
      own = own (goal.at.returns-then-reads_up_to c).After-index-reader;
      holds = gone-less d.rings c.args.place (reads_next d.rings c.index-reader.result.now) (Some c.args.end)
          (rw (to_z-of_z w64 c.args.end fits) at (c.reads_up_to.ensures.early c.if-reads_up_to.true)) c.requires.end;
    }

pub returns : goal.returns
returns c =
    let p = c.args.self.now.rings in
    let items = c.index.result.now.readers.items in
    let past : length items ≤ c.loop-number.number = search rules in
    let fits : FitsSigned w64 c.args.end = search rules in
    let late = rw (to_z-of_z w64 c.args.end fits) at c.loop-number.invariant in
    wanted-low p c.args.place items (Some (c.args.end +ℤ pos 1)) c.loops.ensures.code c.loops.ensures.rings
    (own-readers p c.args.self.now.turns.items c.args.place c.index.result.now c.requires.may.turns c.requires.there c.index.ensures)
    (λ x among. let it = at-contains items x among in late it.0 x (omega (arith, past, slice_get_within items it.0 x it.1)) it.1)
