-- Edits of the rows of a query's inputs, one after another, and what the query gives then.
use Rattle.std.specs.Prelude.{◌≡◌, ◌++◌, List, [], ◌∷◌, map, length, true, Option, Some, Result, Ok, Err}
use Rattle.std.specs.List.{AllByRecursion}
use Rattle.tilt_base.specs.declared.span.Span.{Span}
use Rattle.tilt_bounds.specs.Margins.{MarginsParts}
use Rattle.tilt_compiler.specs.Accepted.{AcceptedParts}
use Rattle.tilt_core.specs.Core.{CoreParts}
use Rattle.tilt_core.specs.Meaning.{output_of}
use Rattle.tilt_edits.specs.Edited.{IsEditOf, after_edit}
use Rattle.tilt_fix.specs.Live.{LiveParts}
use Rattle.tilt_fix.specs.Reached.{reached}
use Rattle.tilt_edits.specs.declared.edit.Edit.{Edit}
use Rattle.tilt_edits.specs.declared.fault.FixFault.{FixFault}
use Rattle.tilt_printed.specs.Reached.{corrected_text}
use Rattle.tilt_report.specs.Report.{Reason, Outcome, printed, refused, refusal, report_of_fix}
use Rattle.tilt_stream.specs.Snap.{Snapshot}

-- the rows after one edit more, unless an earlier one was rejected
abbrev pub and_edit : Result (List (List Snapshot)) FixFault → Edit → Result (List (List Snapshot)) FixFault
and_edit (Ok rows) edit = after_edit rows edit
and_edit (Err fault) edit = Err fault

-- the rows after edits one after another, or why the first one that is rejected is
abbrev pub after_edits : Result (List (List Snapshot)) FixFault → List Edit → Result (List (List Snapshot)) FixFault
after_edits rows [] = rows
after_edits rows (edit ∷ edits) = after_edits (and_edit rows edit) edits

-- the ticks of the output that an edit reaches, by how far the query looks: fusion doesn't matter
abbrev pub reached_by : CoreParts → MarginsParts → Edit → Option Span
reached_by core margins edit = reached (record { core = core; margins = margins; fuse = true }) edit

-- The outcome of a query with edits of its rows: the first edit that is rejected ends it. If none is, it is the text of what the query
-- means on the rows after all edits, and then a line for each edit.
pub data IsCorrected (core : CoreParts) (margins : MarginsParts) (rows : List (List Snapshot)) (edits : List Edit) : Outcome → Type 0 where
  not_applied : {why : Reason} (fault : FixFault) → after_edits (Ok rows) edits ≡ Err fault → report_of_fix fault ≡ refusal why
      → IsCorrected core margins rows edits (refused (refusal why))
  applied : (after : List (List Snapshot)) (list : List Snapshot) → after_edits (Ok rows) edits ≡ Ok after
      → output_of core after ≡ Some list
      → IsCorrected core margins rows edits (printed (corrected_text list (map (reached_by core margins) edits)))

-- of edits of rows these are left to be applied, and what the earlier ones reached is known
pub record HasApplied (query : AcceptedParts) (rows : List (List Snapshot)) (edits : List Edit) (live : LiveParts)
    (known : List (Option Span)) (left : List Edit) : Type 0 where
  pub same_query : live.query ≡ query
  pub on_rows : after_edits (Ok rows) edits ≡ after_edits (Ok live.rows) left
  pub so_far : map (reached query) edits ≡ known ++ map (reached query) left
  pub each : AllByRecursion (IsEditOf (length live.rows)) left
