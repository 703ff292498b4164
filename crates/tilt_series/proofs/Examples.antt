-- Small series, by the definition.
use Rattle.std.proofs.Common.{◌≡◌, pos, [], ◌∷◌, None, Some, Ok, Err, refl}
use Rattle.std.specs.Prelude.{codes}
use Rattle.csv.specs.Machine.{next_record}
use Rattle.csv.specs.Reading.{records_from, strip_bom}
use Rattle.tilt_series.specs.declared.fault.SeriesFault.TheVariants.{EmptyInterval}
use Rattle.tilt_series.specs.Series.{series_of}

-- an empty value is null
a_row_and_a_null_row : series_of (record { last_end = None; from = None; upto = None }) (codes "start,end,value\n0,5,7\n5,6,\n")
    ≡ Ok (record { start = pos 0; end = pos 5; value = Some (pos 7) } ∷ record { start = pos 5; end = pos 6; value = None } ∷ [])
unfolding next_record records_from strip_bom
a_row_and_a_null_row = refl

-- empty lines aren't counted
an_empty_second_row : series_of (record { last_end = None; from = None; upto = None }) (codes "start,end,value\n0,5,7\n\n6,6,1\n") ≡ Err (EmptyInterval 2)
unfolding next_record records_from strip_bom
an_empty_second_row = refl
