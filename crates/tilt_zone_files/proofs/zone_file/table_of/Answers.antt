use Rattle.std.proofs.Common.{refl}
use Rattle.tilt_zone_files.specs.ZoneFile.{disordered, unread}
use Rattle.tilt_zone_files.proofs.zone_file.table_of.Goals as goal

pub returns-in-Err-NotZone-clause-no_table : goal.returns-in-Err-NotZone-clause-no_table
returns-in-Err-NotZone-clause-no_table c = λ _.
    let found = (rw c.in-Err-NotZone.field-0-is at c.in-Err-NotZone.ensures.not_zone) refl in
    unread found.0 c.requires found.1 found.2

pub returns-in-Err-Disordered-clause-no_table : goal.returns-in-Err-Disordered-clause-no_table
returns-in-Err-Disordered-clause-no_table c = λ _.
    let found = (rw c.in-Err-Disordered.field-0-is at c.in-Err-Disordered.ensures.disordered) refl in
    disordered found.0 c.requires found.1 found.2
