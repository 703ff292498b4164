use Rattle.std.proofs.lemmas.List.Elements.{All-from_recursion}
use Rattle.std.proofs.lemmas.Result.{err_from_is_err_and}
use Rattle.tilt_syntax.proofs.Parsing.{sound-kinds}
use Rattle.tilt_unit_text.proofs.Answers.{noted_fault, parsed_fault, placed, placed_same, query_answer}
use Rattle.tilt_unit_text.proofs.Numbered.{noted_written}
use Rattle.tilt_unit_text.specs.Numbers.{IsWritten}
use Rattle.tilt_unit_text.specs.Units.{parts_of}
use Rattle.tilt_unit_text.proofs.reading.answer.Goals as goal

pub returns-in_err-numbers : goal.returns-in_err-numbers
returns-in_err-numbers c =
    let p = err_from_is_err_and c.from_residual.result c.from_residual.ensures.1 in
    let known = rw c.deref.ensures.value at c.in_err-numbers.ensures in
    rw (p.1, p.2) (noted_fault c.args.scales.now c.args.points.now c.args.tokens.items _ known)

pub returns-in_err-query : goal.returns-in_err-query
returns-in_err-query c =
    let p = err_from_is_err_and c.from_residual-in_err-query.result c.from_residual-in_err-query.ensures.1 in
    let noted = rw c.deref.ensures.value at c.in_ok-numbers.ensures in
    let known = rw c.deref-2.ensures.value at c.in_err-query.ensures.faulty in
    rw (p.1, p.2) (parsed_fault c.args.scales.now c.args.points.now c.args.tokens.items c.in_ok-numbers.numbers.items _ noted known)

pub places_of-requires-clause-is_query : goal.places_of-requires-clause-is_query
places_of-requires-clause-is_query c =
    let noted = rw c.deref.ensures.value at c.in_ok-numbers.ensures in
    let parsed = rw c.deref-2.ensures.value at c.in_ok-query.ensures.query in
    let b = placed c.args.points.now c.args.tokens.items c.in_ok-numbers.numbers.items c.in_ok-query.query noted parsed in
    (b.places, b.is)

pub query_in_units-requires-clause-written : goal.query_in_units-requires-clause-written
query_in_units-requires-clause-written c =
    let noted = rw c.deref.ensures.value at c.in_ok-numbers.ensures in
    let all = noted_written c.args.points.now c.args.tokens.items c.in_ok-numbers.numbers.items (sound-kinds c.args.tokens.items c.requires.sound) noted in
    rw c.deref-3.ensures.value (All-from_recursion IsWritten c.in_ok-numbers.numbers.items all)

pub query_in_units-requires-clause-placed : goal.query_in_units-requires-clause-placed
query_in_units-requires-clause-placed c =
    let noted = rw c.deref.ensures.value at c.in_ok-numbers.ensures in
    let parsed = rw c.deref-2.ensures.value at c.in_ok-query.ensures.query in
    rw c.deref-3.ensures.value (placed_same c.args.points.now c.args.tokens.items c.in_ok-numbers.numbers.items c.in_ok-query.query c.in_ok-places.places
    noted parsed c.in_ok-places.ensures)

pub returns : goal.returns
returns c =
    let noted = rw c.deref.ensures.value at c.in_ok-numbers.ensures in
    let parsed = rw c.deref-2.ensures.value at c.in_ok-query.ensures.query in
    let given = rw c.deref-3.ensures.value at c.query_in_units.ensures in
    query_answer c.args.scales.now c.args.points.now c.args.tokens.items parts_of c.in_ok-numbers.numbers.items c.in_ok-query.query c.in_ok-places.places
    c.query_in_units.result noted parsed c.in_ok-places.ensures given
