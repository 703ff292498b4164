use Rattle.std.proofs.Common.{refl}
use Rattle.tilt_magnitudes.specs.Law.{everywhere}
use Rattle.tilt_units.specs.Exact.{rows_of}
use Rattle.tilt_unit_check.proofs.law.checked_queries_are_exact.Goals as goal

pub returns : goal.returns
returns c =
    λ bytes scales bounds found said inputs is none in_units same have bounded marked tick.
    c.loaded_queries_keep_meaning.ensures.cells everywhere bytes scales is.query is.core is.decimals said inputs is.loaded in_units same have
    (is.safe none (rows_of inputs) bounded marked) tick refl
