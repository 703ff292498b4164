use Rattle.std.proofs.Common.{◌∙◌, map}
use Rattle.tilt_load.specs.InputCuts.{cut_named}
use Rattle.tilt_load.proofs.GivenCuts.{all_in_range, are_with_least, some_cuts}
use Rattle.tilt_cli.specs.Upto.{cut_bindings_of}
use Rattle.tilt_load.proofs.cuts.cuts_by.Goals as goal

pub of-requires-clause-some : goal.of-requires-clause-some
of-requires-clause-some c =
    let within = rw c.in-Each.is at c.requires in
    let cuts = cut_bindings_of c.in-Each.binds.items in
    let each = rw c.deref-in-Each.ensures.value at c.in_ok-each-in-Each.ensures in
    let named = rw c.deref.ensures.value at c.in_ok-check_names-in-Each.ensures in
    rw each (some_cuts c.args.inputs.now cuts within.0 named)

pub of-requires-clause-range : goal.of-requires-clause-range
of-requires-clause-range c =
    let within = rw c.in-Each.is at c.requires in
    let each = rw c.deref-in-Each.ensures.value at c.in_ok-each-in-Each.ensures in
    rw each (all_in_range (cut_bindings_of c.in-Each.binds.items) c.args.inputs.now within.1)

pub returns-in_ok-each-in-Each-clause-cuts : goal.returns-in_ok-each-in-Each-clause-cuts
returns-in_ok-each-in-Each-clause-cuts c =
    let within = rw c.in-Each.is at c.requires in
    let cuts = cut_bindings_of c.in-Each.binds.items in
    let each = rw c.deref-in-Each.ensures.value at c.in_ok-each-in-Each.ensures in
    let named = rw c.deref.ensures.value at c.in_ok-check_names-in-Each.ensures in
    rw c.in-Each.is (are_with_least c.of.result (map (cut_named cuts) c.args.inputs.now) (some_cuts c.args.inputs.now cuts within.0 named) (c.of.ensures.each ∙ each) c.of.ensures.cuts)
