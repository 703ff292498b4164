use Rattle.std.proofs.Common.{get_or, arith}
use Rattle.std.proofs.lemmas.Option.{slice_get-get_or}
use Rattle.tilt_pipe.proofs.Starts.{all-down}
use Rattle.tilt_pipe.proofs.Works.{work-there}
use Rattle.tilt_pipe.proofs.starting.find_own.Goals as goal

pub add_readers-requires-clause-reads : goal.add_readers-requires-clause-reads
add_readers-requires-clause-reads c = λ w is. rw c.deref.ensures.value (c.in_ok-sources.ensures w is)

pub returns : goal.returns
returns c =
    let p = c.args.rings.now in
    let all = c.add_readers.new.turns in
    let d = c.index-turns-place.result in
    let w = work-there p c.args.place c.requires.there in
    let are = rw c.deref.ensures.value at c.in_ok-add_readers.ensures in
    all-down p c.args.place w.0 c.in_ok-sources.sources all (get_or all c.args.place d) w.1 (c.in_ok-sources.ensures w.0 w.1)
    (slice_get-get_or all c.args.place d (omega arith)) are
