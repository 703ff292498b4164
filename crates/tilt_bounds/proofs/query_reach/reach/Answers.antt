use Rattle.std.proofs.Common.{◌≡◌, ◌∙◌, ◌*◌, ◌^◌, pos, length, map, sym, ap}
use Rattle.tilt_base.specs.declared.limits.TheConstants.{REACH}
use Rattle.tilt_core.proofs.Constancy.{meaning-changes, definitions-AreGrids}
use Rattle.tilt_core.specs.Needs.{needs}
use Rattle.tilt_bounds.specs.Margins.{MarginsParts, evenly, need_of}
use Rattle.tilt_bounds.proofs.Laws.{core-IsLocal, core-IsCausal}
use Rattle.tilt_bounds.proofs.Reached.{items-needs, items-within, widest-within, widest-Err, widest-Ok, all_within-limit}
use Rattle.tilt_bounds.proofs.Steps.{length-needs}
use Rattle.tilt_bounds.proofs.query_reach.reach.Goals as goal

pub widest_of-widest-requires-clause-many : goal.widest_of-widest-requires-clause-many
widest_of-widest-requires-clause-many c =
    ap length (c.deref.ensures.value ∙ c.in_ok-needs.ensures.needs) ∙ length-needs (length c.inputs-inputs.result.now) c.defs-defs.result.now

pub returns-then-is_too_far-clause-margins : goal.returns-then-is_too_far-clause-margins
returns-then-is_too_far-clause-margins c =
    rw c.too_far.ensures (widest-Err c.args.core.now c.inputs-inputs.result.now c.defs-defs.result.now c.in_ok-needs.needs.items
    c.deref.result.now c.widest_of-widest.result c.inputs-inputs.ensures.names c.defs-defs.ensures.defs
    c.in_ok-needs.ensures.needs c.deref.ensures.value c.widest_of-widest.ensures
    (sym c.is_too_far.ensures ∙ c.if-is_too_far.true))

pub narrow-requires : goal.narrow-requires
narrow-requires c =
    let within = widest-within c.args.core.now c.inputs-inputs.result.now c.defs-defs.result.now c.in_ok-needs.needs.items
    c.deref.result.now c.widest_of-widest.result c.inputs-inputs.ensures.names c.defs-defs.ensures.defs
    c.in_ok-needs.ensures.needs c.deref.ensures.value c.widest_of-widest.ensures
    (sym c.is_too_far.ensures ∙ c.if-is_too_far.false) in
    rw c.deref-2.ensures.value (all_within-limit (evenly REACH) c.widest_of-widest.result c.in_ok-needs.needs.items (within.1, within.3)
    (items-within c.args.core.now c.inputs-inputs.result.now c.defs-defs.result.now c.in_ok-needs.needs.items c.deref.result.now
    c.widest_of-widest.result c.inputs-inputs.ensures.names c.defs-defs.ensures.defs
    c.in_ok-needs.ensures.needs c.deref.ensures.value c.widest_of-widest.ensures
    (evenly (pos (2 ^ 65 * length c.defs-defs.result.now))) c.defs-defs.ensures.accepted c.in_ok-needs.ensures.bounded))

pub margins_within-requires-clause-near : goal.margins_within-requires-clause-near
margins_within-requires-clause-near c =
    widest-within c.args.core.now c.inputs-inputs.result.now c.defs-defs.result.now c.in_ok-needs.needs.items c.deref.result.now
    c.widest_of-widest.result c.inputs-inputs.ensures.names c.defs-defs.ensures.defs
    c.in_ok-needs.ensures.needs c.deref.ensures.value c.widest_of-widest.ensures
    (sym c.is_too_far.ensures ∙ c.if-is_too_far.false)

pub margins_within-requires-clause-needs : goal.margins_within-requires-clause-needs
margins_within-requires-clause-needs c =
    rw (c.in_ok-needs-2.ensures, c.deref-2.ensures.value)
    (items-within c.args.core.now c.inputs-inputs.result.now c.defs-defs.result.now c.in_ok-needs.needs.items c.deref.result.now
    c.widest_of-widest.result c.inputs-inputs.ensures.names c.defs-defs.ensures.defs
    c.in_ok-needs.ensures.needs c.deref.ensures.value c.widest_of-widest.ensures
    (evenly (pos (2 ^ 65 * length c.defs-defs.result.now))) c.defs-defs.ensures.accepted c.in_ok-needs.ensures.bounded)

pub returns-clause-margins : goal.returns-clause-margins
returns-clause-margins c =
    rw c.margins_within.ensures (widest-Ok c.args.core.now c.inputs-inputs.result.now c.defs-defs.result.now c.in_ok-needs.needs.items
    c.deref.result.now c.widest_of-widest.result c.inputs-inputs.ensures.names c.defs-defs.ensures.defs
    c.in_ok-needs.ensures.needs c.deref.ensures.value c.widest_of-widest.ensures
    (sym c.is_too_far.ensures ∙ c.if-is_too_far.false) (map need_of c.in_ok-needs-2.needs.items) (c.in_ok-needs-2.ensures ∙ c.deref-2.ensures.value))

pub returns-clause-changes : goal.returns-clause-changes
returns-clause-changes c = record {
  each = λ rows source.
      let core = c.args.core.now in
      meaning-changes rows core.defs (definitions-AreGrids (length core.inputs) core.defs c.defs-defs.ensures.accepted.definitions) source;
}

-- the needs of the margins are those of the core
needs_are : (c : goal.After-drop-needs-2) → c.margins_within.result.needs ≡ needs (length c.args.core.now.inputs) c.args.core.now.defs
needs_are c =
    ap (λ (m : MarginsParts). m.needs) c.margins_within.ensures ∙ c.in_ok-needs-2.ensures ∙ c.deref-2.ensures.value
    ∙ items-needs c.args.core.now c.inputs-inputs.result.now c.defs-defs.result.now c.in_ok-needs.needs.items c.deref.result.now
    c.widest_of-widest.result c.inputs-inputs.ensures.names c.defs-defs.ensures.defs
    c.in_ok-needs.ensures.needs c.deref.ensures.value c.widest_of-widest.ensures

pub returns-clause-local : goal.returns-clause-local
returns-clause-local c = core-IsLocal c.args.core.now c.margins_within.result c.defs-defs.ensures.accepted (needs_are c)

pub returns-clause-causal : goal.returns-clause-causal
returns-clause-causal c =
    core-IsCausal c.args.core.now c.margins_within.result (core-IsLocal c.args.core.now c.margins_within.result c.defs-defs.ensures.accepted (needs_are c))
    (rw (c.margins_within.ensures, c.in_ok-needs-2.ensures, c.deref-2.ensures.value)
    (items-within c.args.core.now c.inputs-inputs.result.now c.defs-defs.result.now c.in_ok-needs.needs.items c.deref.result.now
    c.widest_of-widest.result c.inputs-inputs.ensures.names c.defs-defs.ensures.defs
    c.in_ok-needs.ensures.needs c.deref.ensures.value c.widest_of-widest.ensures
    (evenly (pos (2 ^ 65 * length c.defs-defs.result.now))) c.defs-defs.ensures.accepted c.in_ok-needs.ensures.bounded))
