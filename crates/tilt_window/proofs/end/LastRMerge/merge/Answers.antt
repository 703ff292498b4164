use Rattle.std.proofs.Common.{◌∙◌, sym}
use Rattle.tilt_window.proofs.Joins.{last_append}
use Rattle.tilt_window.proofs.end.LastRMerge.merge.Goals as goal

pub returns : goal.returns
returns c = λ ms ns few first second. c.or.ensures ∙ rw (first, second) (sym (last_append ms ns))
