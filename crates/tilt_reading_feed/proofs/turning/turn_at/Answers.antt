use Rattle.std.proofs.Common.{append-nil, arith, get_or, sym}
use Rattle.std.proofs.lemmas.List.{length-map}
use Rattle.std.proofs.lemmas.Option.{slice_get-get_or}
use Rattle.tilt_reading_feed.proofs.Turns.{handed-of, handed-past, turned-past, turned-set}
use Rattle.tilt_reading_feed.specs.Machine.{input_of, inputs_of}
use Rattle.tilt_reading_feed.proofs.turning.turn_at.Goals as goal

pub returns-then-place-converters-clause-inputs : goal.returns-then-place-converters-clause-inputs
returns-then-place-converters-clause-inputs c =
    let converters = c.args.converters.now in
    let old = get_or converters c.args.number c.index-converters-place.result in
    let at = slice_get-get_or converters c.args.number c.index-converters-place.result c.if-place-converters.true in
    turned-set converters c.args.number old c.turn_one.new.converter c.args.turn at c.turn_one.ensures.input

pub returns-then-place-converters-clause-events : goal.returns-then-place-converters-clause-events
returns-then-place-converters-clause-events c =
    let converters = c.args.converters.now in
    let old = get_or converters c.args.number c.index-converters-place.result in
    let at = slice_get-get_or converters c.args.number c.index-converters-place.result c.if-place-converters.true in
    rw (handed-of converters c.args.number old c.args.turn at) c.turn_one.ensures.events

pub returns-else-place-converters-clause-inputs : goal.returns-else-place-converters-clause-inputs
returns-else-place-converters-clause-inputs c =
    let converters = c.args.converters.now in
    let many = length-map converters input_of in
    sym (turned-past (inputs_of converters) c.args.number c.args.turn (omega (arith, many, c.if-place-converters.false)))

pub returns-else-place-converters-clause-events : goal.returns-else-place-converters-clause-events
returns-else-place-converters-clause-events c =
    let converters = c.args.converters.now in
    let many = length-map converters input_of in
    rw (handed-past (inputs_of converters) c.args.number c.args.turn (omega (arith, many, c.if-place-converters.false)))
    (sym (append-nil c.args.events.now.items))
