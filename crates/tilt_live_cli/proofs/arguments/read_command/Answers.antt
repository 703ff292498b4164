use Rattle.std.proofs.Common.{◌≡◌, ◌==◌, rules, length, refl, sym, ◌∙◌}
use Rattle.std.proofs.lemmas.Result.{err_from_is_err_and}
use Rattle.tilt_cli.specs.Arguments.{arguments_of}
use Rattle.tilt_cli.specs.Command.{texts}
use Rattle.tilt_live_cli.proofs.OneCommand.{front_texts, only_said, some_binds, with_binds, with_unbounded, with_unfit, with_unknown, with_unsaid, with_unscaled}
use Rattle.tilt_live_cli.proofs.arguments.read_command.Goals as goal

pub returns-then-not-is_empty-clause-is : goal.returns-then-not-is_empty-clause-is
returns-then-not-is_empty-clause-is c =
    let query = c.as_str-query.result.now in
    let front = front_texts c.args.words.now c.in-Some.first.now c.in-Some.rest.now query c.in-Some.ensures.cases.0 c.as_str-query.ensures.value in
    let binds = c.in_ok-given.given.binds.items in
    let empty : c.is_empty.result ≡ (length binds == 0) = search rules in
    λ usage. with_binds _ query (texts c.in-Some.rest.now) front (arguments_of c.in_ok-given.given) c.in_ok-given.ensures
    (some_binds binds (sym empty ∙ c.if-not-is_empty.true))

pub returns-then-not-options_fit-clause-is : goal.returns-then-not-options_fit-clause-is
returns-then-not-options_fit-clause-is c =
    let query = c.as_str-query.result.now in
    let front = front_texts c.args.words.now c.in-Some.first.now c.in-Some.rest.now query c.in-Some.ensures.cases.0 c.as_str-query.ensures.value in
    λ usage. with_unfit _ query (texts c.in-Some.rest.now) front (arguments_of c.in_ok-given.given) c.in_ok-given.ensures
    (sym c.options_fit.ensures ∙ c.if-not-options_fit.true)

pub returns-in_err-units-clause-is : goal.returns-in_err-units-clause-is
returns-in_err-units-clause-is c =
    let query = c.as_str-query.result.now in
    let front = front_texts c.args.words.now c.in-Some.first.now c.in-Some.rest.now query c.in-Some.ensures.cases.0 c.as_str-query.ensures.value in
    let p = err_from_is_err_and c.from_residual-in_err-units.result c.from_residual-in_err-units.ensures.1 in
    let text = c.scale_in.ensures ∙ c.take_texts-texts.ensures.scale in
    rw (p.1, p.2) (λ usage. with_unscaled _ query (texts c.in-Some.rest.now) front (arguments_of c.in_ok-given.given) c.in_ok-given.ensures
    (rw (c.has-in_units.ensures, text) at (c.in_err-units.ensures usage)))

pub returns-in_err-bounds-clause-is : goal.returns-in_err-bounds-clause-is
returns-in_err-bounds-clause-is c =
    let query = c.as_str-query.result.now in
    let front = front_texts c.args.words.now c.in-Some.first.now c.in-Some.rest.now query c.in-Some.ensures.cases.0 c.as_str-query.ensures.value in
    let p = err_from_is_err_and c.from_residual-in_err-bounds.result c.from_residual-in_err-bounds.ensures.1 in
    let units = rw (c.has-in_units.ensures, c.scale_in.ensures ∙ c.take_texts-texts.ensures.scale) at c.in_ok-units.ensures in
    rw (p.1, p.2) (λ usage. with_unknown _ query (texts c.in-Some.rest.now) front (arguments_of c.in_ok-given.given) c.in_ok-given.ensures _ units
    (rw (c.has-in_units.ensures, c.take_texts-texts.ensures.bounds) at (c.in_err-bounds.ensures usage)))

pub returns-in_err-check-clause-is : goal.returns-in_err-check-clause-is
returns-in_err-check-clause-is c =
    let query = c.as_str-query.result.now in
    let front = front_texts c.args.words.now c.in-Some.first.now c.in-Some.rest.now query c.in-Some.ensures.cases.0 c.as_str-query.ensures.value in
    let p = err_from_is_err_and c.from_residual-in_err-check.result c.from_residual-in_err-check.ensures.1 in
    let units = rw (c.has-in_units.ensures, c.scale_in.ensures ∙ c.take_texts-texts.ensures.scale) at c.in_ok-units.ensures in
    rw (p.1, p.2) (λ usage. with_unbounded _ query (texts c.in-Some.rest.now) front (arguments_of c.in_ok-given.given) c.in_ok-given.ensures _ units
    (rw (c.has-checks.ensures, c.take_texts-texts.ensures.bounds) at (c.in_err-check.ensures usage)))

pub returns-clause-only : goal.returns-clause-only
returns-clause-only c =
    let query = c.as_str-query.result.now in
    let front = front_texts c.args.words.now c.in-Some.first.now c.in-Some.rest.now query c.in-Some.ensures.cases.0 c.as_str-query.ensures.value in
    only_said _ query (texts c.in-Some.rest.now) front (arguments_of c.in_ok-given.given) c.in_ok-given.ensures _ refl c.has-plain.ensures c.has-dated.ensures
    c.asked_options-asked.ensures (rw c.take_texts-texts.ensures.readings at c.in_ok-readings.ensures)
    (rw (c.has-in_units.ensures, c.scale_in.ensures ∙ c.take_texts-texts.ensures.scale) at c.in_ok-units.ensures)
    (rw (c.has-in_units.ensures, c.take_texts-texts.ensures.bounds) at c.in_ok-bounds.ensures)
    (rw (c.has-checks.ensures, c.take_texts-texts.ensures.bounds) at c.in_ok-check.ensures) c.take_texts-texts.ensures.resume
    c.take_texts-texts.ensures.save (rw (c.task_asked-task.ensures, c.take_texts-texts.ensures.folder) at c.choose.ensures)

pub returns-in_err-readings-clause-is : goal.returns-in_err-readings-clause-is
returns-in_err-readings-clause-is c =
    let query = c.as_str-query.result.now in
    let front = front_texts c.args.words.now c.in-Some.first.now c.in-Some.rest.now query c.in-Some.ensures.cases.0 c.as_str-query.ensures.value in
    let p = err_from_is_err_and c.from_residual-in_err-readings.result c.from_residual-in_err-readings.ensures.1 in
    rw (p.1, p.2) (λ usage. with_unsaid _ query (texts c.in-Some.rest.now) front (arguments_of c.in_ok-given.given) c.in_ok-given.ensures
    (rw c.take_texts-texts.ensures.readings at (c.in_err-readings.ensures usage)))
