use Rattle.std.proofs.Common.{◌≡◌, ◌||◌, ◌==◌, Bool, length, rules, sym, ap, ◌∙◌}
use Rattle.tilt_cli.proofs.Settings.{not_complete, not_own, by_binds}
use Rattle.tilt_cli.proofs.command_table.CommandRow.allows.Goals as goal

pub returns-then-not-has_required : goal.returns-then-not-has_required
returns-then-not-has_required c = not_complete c.args.self.now c.args.arguments.now (sym c.has_required.ensures ∙ c.if-not-has_required.true)

pub returns-then-not-takes_options : goal.returns-then-not-takes_options
returns-then-not-takes_options c =
    not_own c.args.self.now c.args.arguments.now (sym c.has_required.ensures ∙ c.if-not-has_required.false) (sym c.takes_options.ensures ∙ c.if-not-takes_options.true)

pub returns-then-self : goal.returns-then-self
returns-then-self c =
    let none = length c.args.arguments.now.binds.items == 0 in
    by_binds c.args.self.now c.args.arguments.now (sym c.has_required.ensures ∙ c.if-not-has_required.false) (sym c.takes_options.ensures ∙ c.if-not-takes_options.false) _
    (c.if-self.true ∙ sym (ap (λ (b : Bool). b || none) c.if-self.true))

pub returns-else-self : goal.returns-else-self
returns-else-self c =
    let none = length c.args.arguments.now.binds.items == 0 in
    let empty : c.is_empty.result ≡ none = search rules in
    by_binds c.args.self.now c.args.arguments.now (sym c.has_required.ensures ∙ c.if-not-has_required.false) (sym c.takes_options.ensures ∙ c.if-not-takes_options.false) _
    (empty ∙ sym (ap (λ (b : Bool). b || none) c.if-self.false))
