use Rattle.std.proofs.Common.{◌≡◌, length, arith}
use Rattle.csv.specs.Records.{fields_of}
use Rattle.tilt_series.proofs.Three.{field_there, three_fields_of}
use Rattle.tilt_series.proofs.row.three_fields.Goals as goal

pub returns-in_err-get : goal.returns-in_err-get
returns-in_err-get c =
    let three : length (fields_of c.args.fields.now) ≡ 3 = grind arith in
    absurd (field_there (fields_of c.args.fields.now) 0 (omega arith) (grind arith))

pub returns-in_err-get-2 : goal.returns-in_err-get-2
returns-in_err-get-2 c =
    let three : length (fields_of c.args.fields.now) ≡ 3 = grind arith in
    absurd (field_there (fields_of c.args.fields.now) 1 (omega arith) (grind arith))

pub returns-in_err-get-3 : goal.returns-in_err-get-3
returns-in_err-get-3 c =
    let three : length (fields_of c.args.fields.now) ≡ 3 = grind arith in
    absurd (field_there (fields_of c.args.fields.now) 2 (omega arith) (grind arith))

pub returns : goal.returns
returns c =
    let three : length (fields_of c.args.fields.now) ≡ 3 = grind arith in
    three_fields_of (fields_of c.args.fields.now) _ _ _ three c.in_ok-get.ensures.value c.in_ok-get-2.ensures.value c.in_ok-get-3.ensures.value
