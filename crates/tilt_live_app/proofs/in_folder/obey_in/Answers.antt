use Rattle.std.proofs.Common.{◌∙◌, Err, ap, refl}
use Rattle.tilt_live_app.proofs.Choosing.{feed-of}
use Rattle.tilt_live_app.specs.FolderReport.{status_of_end}
use Rattle.tilt_live_app.specs.InFolder.{in_feed, in_position, unbegun, unentered}
use Rattle.tilt_live_app.proofs.in_folder.obey_in.Goals as goal

pub returns-in-Err-clause-is : goal.returns-in-Err-clause-is
returns-in-Err-clause-is g c =
    rw (c.without_folder.ensures.status ∙ c.report_unbegun.ensures.status, c.without_folder.ensures.folder)
    (unbegun c.in-Err.ensures.fault refl c.report_unbegun.ensures.line)

pub returns-in-Err-enter-clause-is : goal.returns-in-Err-enter-clause-is
returns-in-Err-enter-clause-is g c =
    let job = c.in-Ok.job in
    let end = rw c.as_str-name.ensures.value at c.end_of_entering.ensures in
    rw (c.without_folder-in-Err-enter.ensures.status ∙ (c.report_end.ensures.status ∙ ap status_of_end end), c.without_folder-in-Err-enter.ensures.folder)
    (unentered c.in-Err-enter.error
    (record {
      query = job.query;
      core = job.accepted.core;
      decimals = job.decimals;
      taken = c.in-Ok.ensures.taken;
      named = c.in-Ok.ensures.named;
      table = job.table;
      zone = c.in-Ok.ensures.zone;
      options = job.options;
      asked = c.in-Ok.ensures.asked;
      counting = job.counting;
      counts = c.in-Ok.ensures.counts;
      from = job.from;
      goes_on = c.in-Ok.ensures.goes_on;
    })
    refl
    (λ same. c.in-Err-enter.ensures.failed (ap Err same)) (rw (c.as_str-name.ensures.value, end) at c.report_end.ensures.line))

pub returns-in-Position-clause-is : goal.returns-in-Position-clause-is
returns-in-Position-clause-is g c =
    let job = c.in-Ok.job in
    in_position
    (record {
      query = job.query;
      core = job.accepted.core;
      decimals = job.decimals;
      taken = c.in-Ok.ensures.taken;
      named = c.in-Ok.ensures.named;
      table = job.table;
      zone = c.in-Ok.ensures.zone;
      options = job.options;
      asked = c.in-Ok.ensures.asked;
      counting = job.counting;
      counts = c.in-Ok.ensures.counts;
      from = job.from;
      goes_on = c.in-Ok.ensures.goes_on;
    })
    c.new-recipe.result c.in-Ok-enter.folder (feed-of _ _ _ job.accepted _ refl c.new-recipe.ensures)
    (rw c.as_str-name.ensures.value at c.in-Ok-enter.ensures.gives) c.in-Position.is (rw c.as_str-name.ensures.value at c.print_position.ensures.counted)

pub returns-clause-is : goal.returns-clause-is
returns-clause-is g c =
    let job = c.in-Ok.job in
    in_feed
    (record {
      query = job.query;
      core = job.accepted.core;
      decimals = job.decimals;
      taken = c.in-Ok.ensures.taken;
      named = c.in-Ok.ensures.named;
      table = job.table;
      zone = c.in-Ok.ensures.zone;
      options = job.options;
      asked = c.in-Ok.ensures.asked;
      counting = job.counting;
      counts = c.in-Ok.ensures.counts;
      from = job.from;
      goes_on = c.in-Ok.ensures.goes_on;
    })
    c.new-recipe.result c.in-Ok-enter.folder c.in-Serve.plan c.report_uncounted.new.err (feed-of _ _ _ job.accepted _ refl c.new-recipe.ensures)
    (rw c.as_str-name.ensures.value at c.in-Ok-enter.ensures.gives) c.in-Serve.is c.report_uncounted.ensures.note (rw c.as_str-name.ensures.value at c.serve_in.ensures.served)
