-- What is known of a line that is taken.
use Rattle.std.proofs.Common.{◌≡◌, ◌≤ℤ◌, Bool, true, false, Option, Some, None, refl}
use Rattle.tilt_base.specs.declared.limits.TheConstants.{T}
use Rattle.tilt_feed.proofs.Updates.{allowed-of, step-of}
use Rattle.tilt_feed.specs.Events.{in_range, update_fault, watermark_after}
use Rattle.tilt_feed.specs.declared.edge.Edge.{Edge}
use Rattle.tilt_feed.specs.declared.fault.EventFault.{EventFault}
use Rattle.tilt_feed.specs.declared.update.Update.{Update}
use Rattle.tilt_feed_line.specs.declared.line.Line.{Line}
use Rattle.tilt_feed_line.specs.declared.line.Line.TheVariants as line
use Rattle.tilt_watermarks.specs.Machine.{HasTimes}
use Rattle.tilt_watermarks.specs.Steps.{Kept, fault_by, input_at, is_ahead, is_overlap, judged_by, line_fault, rule_broken}
use Rattle.tilt_watermarks.specs.declared.options.Options.{Options}

-- it breaks no rule, and it doesn't overlap what is held
no-fault : (rule : Option EventFault) (overlap far : Bool) → fault_by rule overlap far ≡ None → (rule ≡ None) × (overlap ≡ false)
no-fault None false far is = (refl, refl)
no-fault None true far is = absurd (cc is)
no-fault (Some rule) overlap far is = absurd (cc is)

pub no-rule : (options : Options) (kept : Kept) (line : Line) → line_fault options kept line ≡ None
    → (rule_broken options.lateness kept.finished kept.inputs line ≡ None) × (is_overlap options.lateness kept.inputs line ≡ false)
no-rule options kept line is =
    no-fault (rule_broken options.lateness kept.finished kept.inputs line) (is_overlap options.lateness kept.inputs line) (is_ahead options.ahead kept.latest line) is

-- an update that breaks no rule at an edge
pub rule-range : (finished : Bool) (edge : Edge) (update : Update) → update_fault finished edge update ≡ None → in_range update ≡ true
rule-range finished edge update is = (allowed-of finished edge update is).1.range

pub rule-high : (finished : Bool) (edge : Edge) (update : Update) → update_fault finished edge update ≡ None → watermark_after update ≤ℤ T
rule-high finished edge update is = (step-of edge update (allowed-of finished edge update is).1).high

pub rule-open : (finished : Bool) (edge : Edge) (update : Update) → update_fault finished edge update ≡ None → finished ≡ false
rule-open finished edge update is = (allowed-of finished edge update is).0

-- its times are in range
pub has-times : (options : Options) (kept : Kept) (line : Line) → line_fault options kept line ≡ None → HasTimes line
has-times options kept (line.Update number update) is =
    rule-range kept.finished (judged_by options.lateness (input_at kept.inputs number).edge) update (no-rule options kept (line.Update number update) is).0
has-times options kept (line.AllKnownUpTo tick) is = tt
has-times options kept line.Finish is = tt
