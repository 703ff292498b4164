use Rattle.std.proofs.Common.{rules, ◌≡◌, false, [], ◌∙◌}
use Rattle.std.specs.Str.{bytes_eq}
use Rattle.tilt_reading_lines.proofs.Nulls.{any_of_items}
use Rattle.tilt_reading_lines.proofs.value.is_null.Goals as goal

pub returns-else-is_empty : goal.returns-else-is_empty
returns-else-is_empty c =
    let some : bytes_eq c.args.text.now [] ≡ false = search rules in
    rw some (c.is_listed.ensures ∙ any_of_items (bytes_eq c.args.text.now) c.args.nulls.now)
