use Rattle.std.proofs.Common.{◌≡◌, length, arith}
use Rattle.csv.specs.Records.{fields_of}
use Rattle.tilt_feed_line.proofs.Places.{five_fields}
use Rattle.tilt_feed_line.proofs.row.read_keyed_row.Goals as goal

pub returns : goal.returns
returns c =
    let five : length (fields_of c.args.row.now) ≡ 5 = grind arith in
    rw (five_fields (fields_of c.args.row.now) _ _ _ _ _ five c.field-key.ensures c.field-name.ensures c.field-start.ensures
    c.field-end.ensures c.field-value.ensures) c.read_keyed_line.ensures
