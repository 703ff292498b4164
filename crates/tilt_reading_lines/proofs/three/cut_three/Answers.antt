use Rattle.std.proofs.Common.{◌≡◌, false, sym, ◌∙◌}
use Rattle.std.specs.List.{list_any}
use Rattle.tilt_reading_lines.specs.Plain.{ends_field, is_special, starts_with_mark}
use Rattle.tilt_reading_lines.proofs.ThreeWords.{three_fields}
use Rattle.tilt_reading_lines.proofs.three.cut_three.Goals as goal

pub returns : goal.returns
returns c =
    let delimiter = c.args.delimiter in
    let part = c.without_return-part.result.now in
    let third = c.in_ok-second.third.now in
    let other : is_special delimiter ≡ false = sym c.is_special.ensures ∙ c.if-is_special.false in
    let start : starts_with_mark part ≡ false = sym c.starts_with_mark.ensures ∙ c.if-starts_with_mark.false in
    let last : list_any (ends_field delimiter) third ≡ false = sym c.has_end.ensures ∙ c.if-has_end.false in
    three_fields delimiter c.args.line.now part c.in_ok-first.first.now c.in_ok-first.rest.now c.in_ok-second.second.now third _ _ _ other
    c.without_return-part.ensures start c.in_ok-first.ensures c.in_ok-second.ensures last c.trim.ensures c.trim-2.ensures c.trim-3.ensures
