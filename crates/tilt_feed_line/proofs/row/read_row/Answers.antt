use Rattle.std.proofs.Common.{◌≡◌, length, arith}
use Rattle.csv.specs.Records.{fields_of}
use Rattle.tilt_feed_line.proofs.Places.{four_fields}
use Rattle.tilt_feed_line.proofs.row.read_row.Goals as goal

pub returns : goal.returns
returns c =
    let four : length (fields_of c.args.row.now) ≡ 4 = grind arith in
    rw (four_fields (fields_of c.args.row.now) _ _ _ _ four c.field-name.ensures c.field-start.ensures c.field-end.ensures
    c.field-value.ensures) c.read_line.ensures
