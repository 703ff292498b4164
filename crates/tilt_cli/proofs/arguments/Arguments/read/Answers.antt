use Rattle.std.proofs.Common.{◌-◌, ◌<◌, ◌≤◌, length, take, drop, ap, arith, string_bytes}
use Rattle.std.proofs.lemmas.List.{length-map}
use Rattle.std.proofs.lemmas.Result.{err_from_is_err_and}
use Rattle.tilt_cli.specs.Command.{texts}
use Rattle.tilt_cli.specs.Tables.{option_entries}
use Rattle.tilt_cli.proofs.ArgumentsRead.{texts_behind, before_next, all_read, only_read, refused}
use Rattle.tilt_cli.proofs.arguments.Arguments.read.Goals as goal

pub returns-in_err-at-clause-is : goal.returns-in_err-at-clause-is
returns-in_err-at-clause-is c =
    let words = c.args.words.now in
    let table = option_entries c.args.options.now in
    let some : c.loop-at.at < length (texts words) = omega (arith, length-map words (λ w. string_bytes w)) in
    let p = err_from_is_err_and c.from_residual.result c.from_residual.ensures.1 in
    rw (p.1, p.2) (λ usage. refused table (texts words) c.loop-at.at _ c.loop-at.invariant some (rw (texts_behind words c.loop-at.at) at (c.in_err-at.ensures usage)))

pub loop-at-preserved : goal.loop-at-preserved
loop-at-preserved c =
    let words = c.args.words.now in
    let table = option_entries c.args.options.now in
    let taken = c.in_ok-at.ensures in
    let same = texts_behind words c.loop-at.at in
    let fits : c.in_ok-at.field-0 ≤ length (drop c.loop-at.at (texts words)) =
    omega (arith, taken.1, ap length same, length-map (take (length words - c.loop-at.at) (drop c.loop-at.at words)) (λ w. string_bytes w)) in
    before_next table (texts words) c.loop-at.at _ c.loop-at.invariant c.in_ok-at.field-0 _ fits (rw same at taken.2)

pub returns-clause-is : goal.returns-clause-is
returns-clause-is c =
    let words = c.args.words.now in
    let table = option_entries c.args.options.now in
    all_read table (texts words) c.loop-at.at _ c.loop-at.invariant (omega (arith, c.loop-at-test.false, length-map words (λ w. string_bytes w)))

pub returns-clause-only : goal.returns-clause-only
returns-clause-only c =
    let words = c.args.words.now in
    let table = option_entries c.args.options.now in
    only_read table (texts words) c.loop-at.at _ c.loop-at.invariant (omega (arith, c.loop-at-test.false, length-map words (λ w. string_bytes w)))
