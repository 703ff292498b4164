use Rattle.std.proofs.Common.{◌≡◌, ◌<ℤ◌, true, ◌∷◌, arith, rules, ap, sym, subst, ◌∙◌, to_z, of_z, w64}
use Rattle.csv.specs.Records.{fields_of}
use Rattle.tilt_stream.specs.Snap.{Snapshot, last_end}
use Rattle.tilt_series.specs.Records.{records_left}
use Rattle.tilt_series.proofs.Loop.{for_last_end, whole_of, whole_of-row}
use Rattle.tilt_series.proofs.Stretch.{FitsBounds-row}
use Rattle.tilt_series.proofs.series.read_after_header.Goals as goal

pub push-requires-clause-behind : goal.push-requires-clause-behind
push-requires-clause-behind c = for_last_end _ (last_end c.loop-rows.rows) c.args.bounds.last_end c.in_ok-read.ensures.after

pub loop-rows-preserved : goal.loop-rows-preserved
loop-rows-preserved c =
    let found : c.in_ok-next_record.field-0 ≡ true = grind arith in
    let fields = fields_of c.next_record.new.fields in
    let left = records_left c.next_record.new.reader in
    let taken : records_left c.loop-rows.reader ≡ fields ∷ left = rw found at c.in_ok-next_record.ensures.taken in
    let end : to_z w64 (of_z w64 c.read.inside.end) ≡ c.read.inside.end = search rules in
    record {
      between = rw found at c.in_ok-next_record.ensures.between;
      fits = rw (c.in_ok-push.ensures.ok, end, ap (λ (s : Snapshot). s.end) c.read.view_is) (FitsBounds-row c.args.bounds c.loop-rows.rows c.in_ok-read.read
          c.loop-rows.free.low c.loop-rows.free.high c.loop-rows.invariant.fits c.in_ok-read.ensures.low
          (subst (λ (s : Snapshot). s.start <ℤ s.end) c.read.view_is c.read.invariant) c.in_ok-read.ensures.cut);
      read = rw c.in_ok-push.ensures.ok (sym (whole_of-row c.args.bounds c.loop-rows.rows fields left c.in_ok-read.read c.in_ok-read.ensures.read)
          ∙ ap (whole_of c.args.bounds c.loop-rows.rows) (sym taken) ∙ c.loop-rows.invariant.read);
    }
