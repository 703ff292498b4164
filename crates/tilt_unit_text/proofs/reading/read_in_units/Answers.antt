use Rattle.std.proofs.Common.{◌∙◌, Err, arith}
use Rattle.tilt_unit_text.proofs.Answers.{gives_only, lexed_fault, reading_of}
use Rattle.tilt_unit_text.proofs.Bounds.{small_fault, small_tokens}
use Rattle.tilt_unit_text.specs.Points.{fault_in_text, points_of}
use Rattle.tilt_unit_text.specs.Units.{UnitParts, parts_of}
use Rattle.tilt_unit_text.proofs.reading.read_in_units.Goals as goal

pub fault_in_text-requires : goal.fault_in_text-requires
fault_in_text-requires c =
    let small = c.in_ok-plain.plain.small in
    small_fault c.in_ok-plain.plain.items c.in-Err.fault (omega arith) (rw c.deref.ensures.value at c.in-Err.ensures.faulty)

pub returns-in-Err-clause-reads : goal.returns-in-Err-clause-reads
returns-in-Err-clause-reads c =
    let plain = c.deref.ensures.value ∙ c.in_ok-plain.ensures in
    let points = c.deref-in-Err.ensures.value ∙ c.in_ok-points.ensures.points in
    let known = rw plain at c.in-Err.ensures.faulty in
    rw (c.fault_in_text.ensures, points) (lexed_fault c.args.scales.now c.args.text.now c.in-Err.fault known)

pub returns-in-Err-clause-only : goal.returns-in-Err-clause-only
returns-in-Err-clause-only c =
    let plain = c.deref.ensures.value ∙ c.in_ok-plain.ensures in
    let points = c.deref-in-Err.ensures.value ∙ c.in_ok-points.ensures.points in
    let known = rw plain at c.in-Err.ensures.faulty in
    rw (c.fault_in_text.ensures, points) (gives_only {A = UnitParts} (λ x. x) c.args.scales.now c.args.text.now
    (Err (fault_in_text (points_of c.args.text.now) c.in-Err.fault)) (lexed_fault c.args.scales.now c.args.text.now c.in-Err.fault known))

pub answer-requires-clause-small : goal.answer-requires-clause-small
answer-requires-clause-small c =
    let small = c.in_ok-plain.plain.small in
    small_tokens c.in_ok-plain.plain.items c.in-Ok.tokens.items (omega arith) (rw c.deref.ensures.value at c.in-Ok.ensures.tokens)

pub returns-clause-reads : goal.returns-clause-reads
returns-clause-reads c =
    let plain = c.deref.ensures.value ∙ c.in_ok-plain.ensures in
    let points = c.deref-in-Ok.ensures.value ∙ c.in_ok-points.ensures.points in
    let tokens = rw plain at c.in-Ok.ensures.tokens in
    let given = rw points at c.answer.ensures in
    reading_of parts_of c.args.scales.now c.args.text.now c.in-Ok.tokens.items c.answer.result tokens given

pub returns-clause-only : goal.returns-clause-only
returns-clause-only c =
    let plain = c.deref.ensures.value ∙ c.in_ok-plain.ensures in
    let points = c.deref-in-Ok.ensures.value ∙ c.in_ok-points.ensures.points in
    let tokens = rw plain at c.in-Ok.ensures.tokens in
    let given = rw points at c.answer.ensures in
    gives_only parts_of c.args.scales.now c.args.text.now c.answer.result
    (reading_of parts_of c.args.scales.now c.args.text.now c.in-Ok.tokens.items c.answer.result tokens given)
