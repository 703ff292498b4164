use Rattle.std.proofs.Common.{◌≡◌, None, drop, sym, ap, ◌∙◌, arith}
use Rattle.std.specs.Prelude.{option_map}
use Rattle.std.proofs.lemmas.Result.{err_from_is_err_and}
use Rattle.tilt_cli.specs.Arguments as argument
use Rattle.tilt_cli.specs.Arguments.{arguments_of}
use Rattle.tilt_cli.specs.Command.{texts}
use Rattle.tilt_cli.specs.Options.{value_of}
use Rattle.tilt_cli.specs.Tables.{option_entries, option_entry, option_of}
use Rattle.tilt_cli.proofs.Determined.{after_bind}
use Rattle.tilt_cli.proofs.Fronts.{first_text, moved, set_before, sets_flag, sets_value}
use Rattle.tilt_cli.proofs.arguments.Arguments.take.Goals as goal

pub returns-in_err-take_bind : goal.returns-in_err-take_bind
returns-in_err-take_bind c =
    let words = c.args.words.now in
    let word = c.as_str-word.result.now in
    let first = first_text words c.index-words-0.result word c.requires c.index-words-0.is c.as_str-word.ensures.value in
    let none : option_of (option_entries c.args.options.now) word ≡ None = sym c.find_option.ensures ∙ ap (option_map option_entry) c.in_default.is in
    let p = err_from_is_err_and c.from_residual.result c.from_residual.ensures.1 in
    rw (p.1, p.2) (λ usage new rest begins. c.in_err-take_bind.ensures usage (after_bind begins word (drop 1 (texts words)) first none).0)

pub returns-in_default : goal.returns-in_default
returns-in_default c =
    let words = c.args.words.now in
    let word = c.as_str-word.result.now in
    let first = first_text words c.index-words-0.result word c.requires c.index-words-0.is c.as_str-word.ensures.value in
    let none : option_of (option_entries c.args.options.now) word ≡ None = sym c.find_option.ensures ∙ ap (option_map option_entry) c.in_default.is in
    let gives = c.in_ok-take_bind.ensures in
    (omega arith, omega arith, moved (argument.bind none gives.0) first gives.1)

pub returns-then-has : goal.returns-then-has
returns-then-has c =
    let words = c.args.words.now in
    let word = c.as_str-word.result.now in
    let first = first_text words c.index-words-0.result word c.requires c.index-words-0.is c.as_str-word.ensures.value in
    λ usage. set_before (option_entries c.args.options.now) (arguments_of c.args.self.now) (texts words) word (drop 1 (texts words)) (option_entry c.in-Some.row) first (sym c.in-Some.ensures)
    (sym c.has.ensures ∙ c.if-has.true)

pub returns-in_ok-set-in-Flag : goal.returns-in_ok-set-in-Flag
returns-in_ok-set-in-Flag c =
    let words = c.args.words.now in
    let word = c.as_str-word.result.now in
    let first = first_text words c.index-words-0.result word c.requires c.index-words-0.is c.as_str-word.ensures.value in (
      omega arith,
      omega arith,
      sets_flag (option_entries c.args.options.now) (arguments_of c.args.self.now) (texts words) word (drop 1 (texts words)) (option_entry c.in-Some.row) first
          (sym c.in-Some.ensures) _ (sym c.has.ensures ∙ c.if-has.false) c.in-Flag.is c.in_ok-set-in-Flag.ensures,
    )

pub returns-in_ok-set-in_default-shape : goal.returns-in_ok-set-in_default-shape
returns-in_ok-set-in_default-shape c =
    let words = c.args.words.now in
    let word = c.as_str-word.result.now in
    let first = first_text words c.index-words-0.result word c.requires c.index-words-0.is c.as_str-word.ensures.value in
    let spelled = c.in_ok-spelled-in_default-shape.ensures in (
      omega arith,
      spelled.0,
      sets_value (option_entries c.args.options.now) (arguments_of c.args.self.now) (texts words) word (drop 1 (texts words)) (option_entry c.in-Some.row) first
          (sym c.in-Some.ensures) _ c.in_ok-spelled-in_default-shape.spelled.now (drop 2 (texts words)) (value_of c.in_ok-value-in_default-shape.value) spelled.1 (sym c.has.ensures ∙ c.if-has.false)
          c.in_ok-value-in_default-shape.ensures c.in_ok-set-in_default-shape.ensures,
    )
