use Rattle.std.proofs.Common.{◌≡◌, ◌||◌, Bool, true, false, List, ℕ, sym, ap, ◌∙◌}
use Rattle.std.specs.Borrow.{Bor}
use Rattle.std.specs.Str.{bytes_eq}
use Rattle.tilt_cli.specs.Legal.{is_listed}
use Rattle.tilt_cli.specs.Tables.{command_entry}
use Rattle.tilt_cli.proofs.Settings.{any_seen}
use Rattle.tilt_cli.proofs.command_table.CommandRow.takes_option.Goals as goal

pub returns-then-is_listed : goal.returns-then-is_listed
returns-then-is_listed c =
    let word = c.args.word.now in
    let row = command_entry c.args.self.now in
    let seen = any_seen (λ (o : Bor (List ℕ)). o.now) (λ w. bytes_eq w word) c.args.self.now.required.now in
    let here : is_listed row.required word ≡ true = seen ∙ sym c.is_listed.ensures ∙ c.if-is_listed.true in
    c.if-is_listed.true ∙ sym (ap (λ (b : Bool). b || is_listed row.allowed word) here)

pub returns-else-is_listed : goal.returns-else-is_listed
returns-else-is_listed c =
    let word = c.args.word.now in
    let row = command_entry c.args.self.now in
    let seen = any_seen (λ (o : Bor (List ℕ)). o.now) (λ w. bytes_eq w word) c.args.self.now.required.now in
    let away : is_listed row.required word ≡ false = seen ∙ sym c.is_listed.ensures ∙ c.if-is_listed.false in
    let other = any_seen (λ (o : Bor (List ℕ)). o.now) (λ w. bytes_eq w word) c.args.self.now.allowed.now in
    c.is_listed-else-is_listed.ensures ∙ sym other ∙ sym (ap (λ (b : Bool). b || is_listed row.allowed word) away)
