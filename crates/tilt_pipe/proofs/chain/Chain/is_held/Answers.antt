-- A reader that reads up to where the first snapshot ends holds the ring.
use Rattle.tilt_pipe.proofs.Settled.{IsHolding, found-holder, held-settled}
use Rattle.std.proofs.Common.{FitsSigned, w64, Some, rules}
use Rattle.std.proofs.lemmas.Int.{to_z-of_z}
use Rattle.tilt_pipe.proofs.Wanting.{gone-less, reader-near}
use Rattle.tilt_pipe.specs.Trimmed.{reads_next}
use Rattle.tilt_pipe.proofs.chain.Chain.is_held.Goals as goal
use Rattle.tilt_pipe.proofs.chain.Chain.is_held.Goals.{In-Some}

found : (c : In-Some) → IsHolding c.args.self.now c.args.place c.in-Some.reader
found c = found-holder c.args.self.now c.args.place c.index.result.now c.in-Some.reader c.requires.may c.requires.there c.index.ensures c.in-Some.is

pub reads_up_to-requires-clause-reader : goal.reads_up_to-requires-clause-reader
reads_up_to-requires-clause-reader c =
    reader-near c.args.self.now.rings c.args.place c.in-Some.reader c.loops.ensures.code c.loops.ensures.rings
    (found (goal.at.reads_up_to-requires-clause-reader c).In-Some).own

pub returns-in-Some : goal.returns-in-Some
returns-in-Some c = λ on.
    let d = c.args.self.now in
    let reader = c.in-Some.reader in
    let fits : FitsSigned w64 c.args.end = search rules in
    let early = rw (to_z-of_z w64 c.args.end fits) at (c.reads_up_to.ensures.early on) in
    held-settled d c.args.place (Some reader) (found (goal.at.returns-in-Some c).In-Some).is
    (gone-less d.rings c.args.place (reads_next d.rings reader) (Some c.args.end) early c.requires.end)
