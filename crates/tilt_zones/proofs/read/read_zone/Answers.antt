use Rattle.tilt_zones.proofs.TableLemmas.{disorder_read, zone_read}
use Rattle.tilt_zones.proofs.read.read_zone.Goals as goal

pub returns-in-Ok-clause-zone : goal.returns-in-Ok-clause-zone
returns-in-Ok-clause-zone c = zone_read c.zone_of.result c.args.bytes.now c.in-Ok.table c.in-Ok.ensures.value c.zone_of.ensures

pub returns-in-Ok-clause-disordered : goal.returns-in-Ok-clause-disordered
returns-in-Ok-clause-disordered c = disorder_read c.zone_of.result c.args.bytes.now c.in-Ok.table c.in-Ok.ensures.value c.zone_of.ensures
