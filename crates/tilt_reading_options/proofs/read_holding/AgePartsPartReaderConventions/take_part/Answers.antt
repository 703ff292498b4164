use Rattle.tilt_reading_options.proofs.read_holding.AgePartsPartReaderConventions.take_part.Goals as goal

pub add_convention-requires : goal.add_convention-requires
add_convention-requires c = c.in_ok-one.ensures.age c.in-Some.one c.in-Some.is
