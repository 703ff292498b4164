-- Which arguments a command can have after its file (our own rule).
use Rattle.std.specs.Prelude.{ℕ, ◌==◌, Bool, ◌&&◌, ◌||◌, List, Option, find, length}
use Rattle.std.specs.List.{list_all, list_any}
use Rattle.std.specs.Str.{bytes_eq}
use Rattle.tilt_cli.specs.Arguments.{ArgumentsValue}
use Rattle.tilt_cli.specs.Options.{is_set}
use Rattle.tilt_cli.specs.Tables.{CommandEntry, command_entry, commands}
use Rattle.tilt_cli.specs.declared.command_table.CommandRow.{CommandRow}

-- whether the word is one of these
abbrev pub is_listed : List (List ℕ) → List ℕ → Bool
is_listed words word = list_any (λ other. bytes_eq other word) words

-- whether the command can have these arguments: the options that it must have are set, and all other options that are set are ones that
-- it can have. There are binds only if it takes some
abbrev pub is_legal : CommandEntry → ArgumentsValue → Bool
is_legal command arguments =
    list_all (λ option. is_set option arguments.settings) command.required
    && list_all (λ setting. is_listed command.required setting.option || is_listed command.allowed setting.option) arguments.settings
    && (command.takes_binds || length arguments.binds == 0)

-- the first command that has this word and can have these arguments
unfoldable pub command_of_table : List ℕ → ArgumentsValue → Option CommandEntry
command_of_table word arguments = find (λ command. bytes_eq command.word word && is_legal command arguments) commands

-- the same in rows of the program
unfoldable pub command_found : List CommandRow → List ℕ → ArgumentsValue → Option CommandRow
command_found rows word arguments = find (λ row. bytes_eq row.word.now word && is_legal (command_entry row) arguments) rows
