use Rattle.tilt_overflows.proofs.Nearer.{near}
use Rattle.tilt_core.specs.Meaning.{body_of}
use Rattle.tilt_overflows.proofs.Cells.{expression_decided, stays_reads}
use Rattle.tilt_overflows.proofs.Decided.{leaves_is, stays_is}
use Rattle.tilt_overflows.proofs.Sees.{covers, emits, spans, stays}
use Rattle.tilt_overflows.proofs.law.watching_queries_see_overflows.Goals as goal
use Rattle.tilt_overflows.specs.Leaves.{leaves}
use Rattle.tilt_units.specs.Law.{StaysWithin}

pub returns : goal.returns
returns c = record {
  stays = λ chosen xs tick e reads. stays_is ((body_of xs (leaves e)).cell tick) (StaysWithin chosen xs tick e) (expression_decided xs tick chosen e reads);
  leaves = λ chosen xs tick e reads. leaves_is ((body_of xs (leaves e)).cell tick) (StaysWithin chosen xs tick e) (expression_decided xs tick chosen e reads);
  reads = λ chosen xs tick e stays. stays_reads xs tick chosen e stays;
  emits = λ core rows span tick is many domain low high. emits core rows is many span domain tick low high;
  query = λ core rows span lo hi is many domain spans nothing. stays core rows is many span domain lo hi spans nothing;
  covers = covers;
  spans = spans;
  near = near;
}
