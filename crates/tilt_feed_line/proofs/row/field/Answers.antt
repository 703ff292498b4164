use Rattle.std.proofs.Common.{rules}
use Rattle.csv.specs.Records.{fields_of}
use Rattle.tilt_feed_line.proofs.Places.{field_there}
use Rattle.tilt_feed_line.proofs.row.field.Goals as goal

pub unreachable-requires : goal.unreachable-requires
unreachable-requires c = field_there (fields_of c.args.row.now) c.args.place c.requires (search rules)
