use Rattle.std.proofs.Common.{◌∙◌, ap, refl}
use Rattle.tilt_live_app.specs.FolderReport.{status_of_end}
use Rattle.tilt_live_app.specs.InFolder.{counted, uncounted}
use Rattle.tilt_live_app.proofs.in_folder.print_position.Goals as goal

pub returns-in-Err : goal.returns-in-Err
returns-in-Err g c =
    let why = c.in-Err.ensures in
    record {
      counted = rw (c.report_end.ensures.status ∙ ap status_of_end c.end_of-end.ensures) (uncounted c.in-Err.error
          (record { kept = why.kept; passing = why.taken; cause = why.cause; failed = why.failed }) refl
          (rw c.end_of-end.ensures at c.report_end.ensures.line));
    }

pub returns : goal.returns
returns g c = record {
  counted = counted c.in-Ok.found.0 (record { count_is = c.in-Ok.ensures.count; any_moment = c.in-Ok.ensures.any_moment }) c.print_count.ensures.printed;
}
