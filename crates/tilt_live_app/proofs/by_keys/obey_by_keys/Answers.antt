use Rattle.std.proofs.Common.{refl}
use Rattle.tilt_live_app.specs.ByKeys.{halted, unbegun, whole}
use Rattle.tilt_live_app.proofs.by_keys.obey_by_keys.Goals as goal

pub returns-in-Err-clause-is : goal.returns-in-Err-clause-is
returns-in-Err-clause-is g c = rw c.report_unbegun.ensures.status (unbegun c.in-Err.ensures.fault refl c.report_unbegun.ensures.line)

pub returns-in-Ok-serve_by_keys-clause-is : goal.returns-in-Ok-serve_by_keys-clause-is
returns-in-Ok-serve_by_keys-clause-is g c =
    let job = c.in-Ok.job in
    whole (record {
      begun = record {
        query = job.query;
        core = job.accepted.core;
        decimals = job.decimals;
        taken = c.in-Ok.ensures.taken;
        named = c.in-Ok.ensures.named;
        table = job.table;
        zone = c.in-Ok.ensures.zone;
        options = job.options;
        asked = c.in-Ok.ensures.asked;
        counting = job.counting;
        counts = c.in-Ok.ensures.counts;
        from = job.from;
        goes_on = c.in-Ok.ensures.goes_on;
      };
      accepted = job.accepted;
      same = refl;
      noted = c.report_uncounted.new.err;
      note = c.report_uncounted.ensures.note;
      served = rw c.recipe_for-recipe.ensures at c.in-Ok-serve_by_keys.ensures.served;
      handed_on = c.in-Ok-serve_by_keys.ensures.handed_on;
    })

pub returns-in-Err-serve_by_keys-clause-is : goal.returns-in-Err-serve_by_keys-clause-is
returns-in-Err-serve_by_keys-clause-is g c =
    let job = c.in-Ok.job in
    rw c.report_halt.ensures.status (halted c.in-Err-serve_by_keys.halt c.serve_by_keys.new.err (record {
      begun = record {
        query = job.query;
        core = job.accepted.core;
        decimals = job.decimals;
        taken = c.in-Ok.ensures.taken;
        named = c.in-Ok.ensures.named;
        table = job.table;
        zone = c.in-Ok.ensures.zone;
        options = job.options;
        asked = c.in-Ok.ensures.asked;
        counting = job.counting;
        counts = c.in-Ok.ensures.counts;
        from = job.from;
        goes_on = c.in-Ok.ensures.goes_on;
      };
      accepted = job.accepted;
      same = refl;
      noted = c.report_uncounted.new.err;
      note = c.report_uncounted.ensures.note;
      served = rw c.recipe_for-recipe.ensures at c.in-Err-serve_by_keys.ensures.served;
      handed_on = c.in-Err-serve_by_keys.ensures.handed_on;
    }) c.report_halt.ensures.line)
