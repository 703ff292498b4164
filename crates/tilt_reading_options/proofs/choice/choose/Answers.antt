use Rattle.std.proofs.Common.{rules, FitsSigned}
use Rattle.std.proofs.lemmas.Int.{to_z-of_z}
use Rattle.std.proofs.lemmas.Result.{err_from_is_err_and}
use Rattle.std.specs.Int.{w128}
use Rattle.tilt_reading_options.proofs.Choosing.{all_said, bad_conventions, bad_marks, bad_rules, bad_scales, bad_times, bad_zone}
use Rattle.tilt_reading_options.proofs.choice.choose.Goals as goal

pub returns-in_err-times : goal.returns-in_err-times
returns-in_err-times c =
    let p = err_from_is_err_and c.from_residual-in_err-times.result c.from_residual-in_err-times.ensures.1 in
    rw (p.1, p.2) (bad_times c.args.texts.now _ c.in_ok-titles.ensures _ c.in_err-times.ensures.value)

pub returns-in_err-scales : goal.returns-in_err-scales
returns-in_err-scales c =
    let p = err_from_is_err_and c.from_residual-in_err-scales.result c.from_residual-in_err-scales.ensures.1 in
    rw (p.1, p.2) (bad_scales c.args.texts.now _ c.in_ok-titles.ensures _ c.in_ok-times.ensures.value _ c.in_err-scales.ensures)

pub returns-in_err-conventions : goal.returns-in_err-conventions
returns-in_err-conventions c =
    let p = err_from_is_err_and c.from_residual-in_err-conventions.result c.from_residual-in_err-conventions.ensures.1 in
    rw (p.1, p.2) (bad_conventions c.args.texts.now _ c.in_ok-titles.ensures _ c.in_ok-times.ensures.value _ c.in_ok-scales.ensures _ c.in_err-conventions.ensures)

pub returns-in_err-rules : goal.returns-in_err-rules
returns-in_err-rules c =
    let p = err_from_is_err_and c.from_residual-in_err-rules.result c.from_residual-in_err-rules.ensures.1 in
    rw (p.1, p.2) (bad_rules c.args.texts.now _ c.in_ok-titles.ensures _ c.in_ok-times.ensures.value _ c.in_ok-scales.ensures
    _ c.in_ok-conventions.ensures _ c.in_err-rules.ensures)

pub returns-in_err-marks : goal.returns-in_err-marks
returns-in_err-marks c =
    let p = err_from_is_err_and c.from_residual-in_err-marks.result c.from_residual-in_err-marks.ensures.1 in
    rw (p.1, p.2) (bad_marks c.args.texts.now _ c.in_ok-titles.ensures _ c.in_ok-times.ensures.value _ c.in_ok-scales.ensures
    _ c.in_ok-conventions.ensures _ c.in_ok-rules.ensures _ c.in_err-marks.ensures)

pub returns-in_err-zone : goal.returns-in_err-zone
returns-in_err-zone c =
    let p = err_from_is_err_and c.from_residual-in_err-zone.result c.from_residual-in_err-zone.ensures.1 in
    rw (p.1, p.2) (bad_zone c.args.texts.now _ c.in_ok-titles.ensures _ c.in_ok-times.ensures.value _ c.in_ok-scales.ensures
    _ c.in_ok-conventions.ensures _ c.in_ok-rules.ensures _ c.in_ok-marks.ensures _ c.in_err-zone.ensures)

pub returns : goal.returns
returns c =
    let said = all_said c.args.texts.now _ c.in_ok-titles.ensures _ c.in_ok-times.ensures.value _ c.in_ok-scales.ensures
    _ c.in_ok-conventions.ensures _ c.in_ok-rules.ensures _ c.in_ok-marks.ensures _ c.in_ok-zone.ensures in
    let fits : FitsSigned w128 c.in_ok-times.times.origin = search rules in
    rw (to_z-of_z w128 c.in_ok-times.times.origin fits, c.in_ok-nulls.ensures, c.skips_empty.ensures) said
