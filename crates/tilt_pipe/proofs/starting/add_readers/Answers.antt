use Rattle.std.proofs.Common.{◌∙◌, ◌++◌, ◌∷◌, [], pos, suc, ap, get_or, arith, add-one}
use Rattle.std.proofs.lemmas.Option.{slice_get-get_or}
use Rattle.tilt_pipe.proofs.Starts.{added-push, source-there}
use Rattle.tilt_pipe.specs.declared.chain.Reader.{Reader}
use Rattle.tilt_pipe.specs.declared.sources.Source.{Source}
use Rattle.tilt_pipe.proofs.Works.{work-there}
use Rattle.tilt_pipe.proofs.starting.add_readers.Goals as goal

pub is_used-requires-clause-begun : goal.is_used-requires-clause-begun
is_used-requires-clause-begun c =
    let turns = c.args.turns.now in
    let d = c.index-turns-place.result in
    let there = c.requires.there in (
      suc c.args.place,
      omega arith,
      λ w of. c.requires.begun.each c.args.place w (get_or turns c.args.place d) of
          (slice_get-get_or turns c.args.place d (omega arith)),
    )

pub returns-then-not-is_used : goal.returns-then-not-is_used
returns-then-not-is_used c = record {
  many = c.requires.begun.many;
  each = λ k w t of at.
      record { begun = c.requires.begun.each k w t of at; found = λ v is mark. absurd (let same = c.is_used.ensures v is in cc c.if-not-is_used.true) };
}

pub loop-source-init : goal.loop-source-init
loop-source-init c = record {
  many = c.requires.begun.many;
  each = λ k w t of at. record { begun = c.requires.begun.each k w t of at; found = λ v is mark i s below. absurd (omega arith) };
}

pub bounds-turns-source : goal.bounds-turns-source
bounds-turns-source c =
    let sources = c.args.sources.now in
    let i = c.loop-source.source-index in
    let none : Source = record { place = 0; first = pos 0; last = pos 0 } in
    let there = source-there c.args.rings.now c.args.place sources i (get_or sources i none) c.loops.ensures.code c.loops.ensures.rings
    c.requires.there c.requires.reads (slice_get-get_or sources i none c.loop-source-test.true) in
    omega arith

pub offset_bounds-turns-source : goal.offset_bounds-turns-source
offset_bounds-turns-source c = let below = bounds-turns-source c in omega arith

pub loop-source-preserved : goal.loop-source-preserved
loop-source-preserved c =
    let p = c.args.rings.now in
    let place = c.args.place in
    let turns = c.loop-source.turns in
    let sources = c.args.sources.now in
    let i = c.loop-source.source-index in
    let none : Source = record { place = 0; first = pos 0; last = pos 0 } in
    let s = get_or sources i none in
    let d = c.index-turns-source.result in
    let own = get_or turns s.place d in
    let there = c.requires.there in
    let w = work-there p place there in
    let known = c.requires.reads w.0 w.1 in
    let at = slice_get-get_or sources i none c.loop-source-test.true in
    let earlier = source-there p place sources i s c.loops.ensures.code c.loops.ensures.rings there c.requires.reads at in
    rw add-one (added-push p place i w.0 sources turns s own c.push.new.self c.loops.ensures.code c.loops.ensures.rings w.1
    (c.is_used.ensures w.0 w.1 ∙ c.if-not-is_used.false) known at (slice_get-get_or turns s.place d (omega arith))
    (c.in_ok-push.ensures.items ∙ ap (λ (reader : Reader). own.readers.items ++ reader ∷ []) c.reader_of.ensures) c.loop-source.invariant)
