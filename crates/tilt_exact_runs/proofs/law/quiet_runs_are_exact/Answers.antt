use Rattle.std.proofs.Common.{◌≡◌, ℕ, ◌^◌, false, List, [], ◌++◌, length, Result, Ok, Err, is_err, refl, sym, ◌∙◌, subst}
use Rattle.std.proofs.lemmas.List.{append-nil, append_cancel_left}
use Rattle.tilt_core.proofs.Constancy.{definitions-AreGrids}
use Rattle.tilt_core.specs.Core.{emitted_number}
use Rattle.tilt_core.specs.Meaning.{meaning}
use Rattle.tilt_counting.specs.Count.{count_report, row_count}
use Rattle.tilt_exact_runs.proofs.Cells.{output-cell, output-domain, output-many}
use Rattle.tilt_exact_runs.proofs.Counted.{null-cell, report-none, rows-none}
use Rattle.tilt_exact_runs.proofs.Finished.{whole-output}
use Rattle.tilt_exact_runs.proofs.law.quiet_runs_are_exact.Goals as goal
use Rattle.tilt_exact_runs.specs.Exact.{feed_after}
use Rattle.tilt_feed.specs.Printed.{printed}
use Rattle.tilt_feed_form.specs.Said.{events_of, first_state, taken_from}
use Rattle.tilt_feed_text.specs.Split.{whole_lines}
use Rattle.tilt_fractions.specs.Exact.{CellStandsFor}
use Rattle.tilt_live_app.specs.Counting.{watch_options}
use Rattle.tilt_live_run.specs.Feeds.{live_meaning}
use Rattle.tilt_live_run.specs.Output.{first_news, output}
use Rattle.tilt_magnitudes.specs.Interval.{Interval}
use Rattle.tilt_magnitudes.specs.Law.{everywhere}
use Rattle.tilt_magnitudes.specs.declared.overflow.Overflow.{Overflow}
use Rattle.tilt_overflows.specs.Law.{EmitsNothing, asked_for}
use Rattle.tilt_overflows.specs.Watching.{watching_core}
use Rattle.tilt_stream.specs.Stream.{cell_at}
use Rattle.tilt_unit_load.specs.UnitFile.{exact_output}
use Rattle.tilt_unit_report.specs.Bound.{rates_for, values_for}
use Rattle.tilt_unit_report.specs.IllScaled.{magnitudes_of}
use Rattle.tilt_units.specs.Exact.{rows_of}

-- the bounds that there are if no number can leave 64 bits
bounds_found : (found : Result (List Interval) Overflow) → is_err found ≡ false → (all : List Interval) × (found ≡ Ok all)
bounds_found (Ok all) is = (all, refl)
bounds_found (Err overflow) is = cc

pub returns : goal.returns
returns c = record {
  counted = λ file core decimals said inputs options bytes domain of_query feed_is domain_is quiet reach_is tick after before.
      let lines = whole_lines bytes in
      let watching = watching_core core in
      let asked = watch_options options in
      let feed = feed_after core options bytes in
      let rows = rows_of inputs in
      let is = of_query.core_is in
      let events = events_of options.form core.inputs
      (taken_from options.strict options.form core.inputs 0 (first_state options.form (length core.inputs)) lines) in
      -- the whole output is printed, of the query and of the one that watches it
      let all = whole-output core feed rows feed_is.finished feed_is.rows_are (c.all_is_printed.ensures core events is) in
      let watch_all = whole-output watching feed rows feed_is.finished feed_is.rows_are (c.all_is_printed.ensures watching events quiet.accepted) in
      -- no row of the one that watches was counted
      let alone = (live_meaning core options).end_report bytes in
      let count = row_count (first_news asked.display watching ++ (live_meaning watching asked).added [] bytes) in
      let none : count_report count ≡ [] = append_cancel_left alone (count_report count) [] (quiet.none ∙ sym (append-nil alone)) in
      let uncounted : row_count (output asked watching lines) ≡ 0 = report-none count none in
      let nulls = rows-none asked.display.style (printed watching feed)
      (subst (λ (text : List ℕ). row_count text ≡ 0) (c.output_is_printed.ensures.styled asked watching lines quiet.accepted refl) uncounted) in
      let span = output-domain watching rows (printed watching feed) watch_all in
      let changes = c.changes_only_at_marks.ensures.core watching rows (emitted_number watching) quiet.accepted in
      let nothing : EmitsNothing core rows span.0 = λ t low high.
      sym (output-cell watching rows (printed watching feed) span.0 t changes watch_all span.1 low high) ∙ null-cell (printed watching feed) t nulls in
      -- so no node leaves 64 bits
      let many = output-many core rows (printed core feed) all in
      let spans = c.watching_queries_see_overflows.ensures.spans core domain span.0 domain_is span.1 reach_is.start reach_is.end in
      let stays = c.watching_queries_see_overflows.ensures.query core rows span.0 domain.start domain.end is many span.1 spans nothing in
      let covers = c.watching_queries_see_overflows.ensures.covers core domain.start domain.end tick is after before in
      let exact = c.loaded_queries_keep_meaning.ensures.cells (asked_for core domain.start domain.end) file of_query.scales of_query.query core decimals said inputs
      of_query.loaded of_query.said_is of_query.scales_are of_query.positive stays tick covers in
      let written : cell_at (printed core feed) tick ≡ (meaning rows core.defs (emitted_number core)).cell tick =
      output-cell core rows (printed core feed) domain tick (c.changes_only_at_marks.ensures.core core rows (emitted_number core) is) all domain_is after before in
      subst (λ cell. CellStandsFor (10 ^ decimals) cell ((exact_output core inputs said).cell tick)) (sym written) exact;
  bounded = λ file core decimals said inputs options bytes domain of_query feed_is domain_is bounds safe tick after before.
      let feed = feed_after core options bytes in
      let rows = rows_of inputs in
      let is = of_query.core_is in
      let events = events_of options.form core.inputs
      (taken_from options.strict options.form core.inputs 0 (first_state options.form (length core.inputs)) (whole_lines bytes)) in
      let all = whole-output core feed rows feed_is.finished feed_is.rows_are (c.all_is_printed.ensures core events is) in
      let found = bounds_found (magnitudes_of core bounds) safe.within in
      let stays = c.values_stay_within_bounds.ensures.no_overflow (values_for bounds core.inputs) found.0 (rates_for bounds core.inputs) rows core.defs
      safe.values safe.rates (definitions-AreGrids (length core.inputs) core.defs is.definitions) found.1 in
      let exact = c.loaded_queries_keep_meaning.ensures.cells everywhere file of_query.scales of_query.query core decimals said inputs
      of_query.loaded of_query.said_is of_query.scales_are of_query.positive stays tick refl in
      let written : cell_at (printed core feed) tick ≡ (meaning rows core.defs (emitted_number core)).cell tick =
      output-cell core rows (printed core feed) domain tick (c.changes_only_at_marks.ensures.core core rows (emitted_number core) is) all domain_is after before in
      subst (λ cell. CellStandsFor (10 ^ decimals) cell ((exact_output core inputs said).cell tick)) (sym written) exact;
}
