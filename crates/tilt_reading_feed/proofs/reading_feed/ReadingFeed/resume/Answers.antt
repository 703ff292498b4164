use Rattle.std.proofs.Common.{◌≡◌, ◌∙◌, List, ap, arith, length, rules, subst, sym, true}
use Rattle.std.proofs.lemmas.List.{length-map}
use Rattle.std.specs.List.{AllByRecursion}
use Rattle.tilt_conventions.specs.Resumable.{fits}
use Rattle.tilt_conventions.specs.Steps.{Kept}
use Rattle.tilt_reading_feed.proofs.Resuming.{length-with}
use Rattle.tilt_reading_feed.specs.Kept.{BareKept, inputs_with}
use Rattle.tilt_reading_feed.specs.Machine.{input_of}
use Rattle.tilt_reading_feed.specs.Steps.{InputKept}
use Rattle.tilt_reading_feed.proofs.reading_feed.ReadingFeed.resume.Goals as goal

pub resume_converters-requires-clause-each : goal.resume_converters-requires-clause-each
resume_converters-requires-clause-each c =
    let same = c.deref.ensures.value ∙ ap (λ (k : BareKept). k.inputs) c.kept.view_is in
    ap (λ (list : List Kept). length list) same ∙ c.requires.each

pub resume_converters-requires-clause-fit : goal.resume_converters-requires-clause-fit
resume_converters-requires-clause-fit c =
    let same = c.deref.ensures.value ∙ ap (λ (k : BareKept). k.inputs) c.kept.view_is in
    subst (λ (inputs : List Kept). AllByRecursion (λ kept. fits kept ≡ true) inputs) (sym same) c.requires.fit

pub invariant_of-result : goal.invariant_of-result
invariant_of-result c =
    let same = c.deref.ensures.value ∙ ap (λ (k : BareKept). k.inputs) c.kept.view_is in
    let inputs = c.in_ok-converters.ensures ∙ ap (inputs_with c.args.options.now) same in
    let many = ap (λ (list : List InputKept). length list) inputs in
    let each = length-map c.in_ok-converters.converters.items input_of in
    let with = length-with c.args.options.now c.args.kept.now.inputs c.requires.each in
    record { few = omega (arith, many, each, with, c.requires.few); spare = search rules }

pub returns : goal.returns
returns c =
    let same = c.deref.ensures.value ∙ ap (λ (k : BareKept). k.inputs) c.kept.view_is in
    λ i. record {
      inputs = (c.in_ok-converters.ensures ∙ ap (inputs_with c.args.options.now) same) i;
      finished = ap (λ (k : BareKept). k.finished) c.kept.view_is i;
    }
