use Rattle.std.proofs.Common.{◌≡◌, get_or, rules, sym}
use Rattle.tilt_reading_lines.proofs.ThreeWords.{clean_found}
use Rattle.tilt_reading_lines.proofs.three.clean_before.Goals as goal

pub returns : goal.returns
returns c =
    let bytes = c.args.bytes.now in
    let at = c.in_ok-at.at in
    let here : get_or bytes at 0 ≡ c.args.delimiter = search rules in
    clean_found c.args.delimiter bytes at (sym c.in_ok-at.ensures) here
