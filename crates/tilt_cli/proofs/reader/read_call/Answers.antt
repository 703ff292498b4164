use Rattle.std.proofs.Common.{◌≡◌, None, Some, sym, ap, ◌∙◌}
use Rattle.std.specs.Prelude.{option_map}
use Rattle.std.proofs.lemmas.Result.{err_from_is_err_and}
use Rattle.tilt_cli.specs.Arguments.{arguments_of}
use Rattle.tilt_cli.specs.Command.{texts}
use Rattle.tilt_cli.specs.Tables.{command_entry}
use Rattle.tilt_cli.proofs.Answered.{called, not_called}
use Rattle.tilt_cli.proofs.reader.read_call.Goals as goal

pub returns-in_err-row : goal.returns-in_err-row
returns-in_err-row c =
    let found : c.find_command.result ≡ None = c.in_err-row.ensures.ok_part in
    let none = sym c.find_command.ensures ∙ ap (option_map command_entry) found in
    let p = err_from_is_err_and c.from_residual-in_err-row.result c.from_residual-in_err-row.ensures.1 in
    rw p.1 (λ usage command is. not_called c.args.name.now c.args.file.now (texts c.args.rest.now) (arguments_of c.in_ok-arguments.arguments)
    c.in_ok-arguments.ensures none command is)

pub returns : goal.returns
returns c =
    let is = c.is_file.ensures.0 c.if-not-is_file.false in
    let found : c.find_command.result ≡ Some c.in_ok-row.row = c.in_ok-row.ensures.ok_part in
    let named = sym c.find_command.ensures ∙ ap (option_map command_entry) found in
    let made = rw c.in_ok-file.ensures.ok at c.new.ensures in
    rw c.ok_or-2.ensures.value (called c.args.name.now c.args.file.now (texts c.args.rest.now) (arguments_of c.in_ok-arguments.arguments)
    (command_entry c.in_ok-row.row) c.new.result is c.in_ok-arguments.ensures named made)
