use Rattle.std.proofs.Common.{◌∙◌, List, ap, length, map, sym}
use Rattle.std.proofs.lemmas.List.{length-map}
use Rattle.tilt_conventions.specs.Machine.{kept_by}
use Rattle.tilt_conventions.specs.Steps.{Kept}
use Rattle.tilt_conventions.specs.declared.converter.Converter.{Converter}
use Rattle.tilt_reading_feed.proofs.Resuming.{bare-of, inputs-same}
use Rattle.tilt_reading_feed.specs.Kept.{inputs_with}
use Rattle.tilt_reading_feed.specs.Machine.{input_of, inputs_of}
use Rattle.tilt_reading_feed.proofs.reading_feed.ReadingFeed.kept.Goals as goal

pub returns-clause-kept : goal.returns-clause-kept
returns-clause-kept c =
    let self = c.args.self.now in
    let inputs = c.in_ok-inputs.ensures.inputs ∙ ap (λ (list : List Converter). map kept_by list) c.deref.ensures.value ∙ bare-of self.converters.items in
    λ i. record { inputs = inputs i; finished = self.finished }

pub returns-clause-same : goal.returns-clause-same
returns-clause-same c =
    let self = c.args.self.now in
    let inputs = c.in_ok-inputs.ensures.inputs ∙ ap (λ (list : List Converter). map kept_by list) c.deref.ensures.value ∙ bare-of self.converters.items in
    let same = ap (inputs_with (map (λ input. input.options) (inputs_of self.converters.items))) inputs ∙ inputs-same (inputs_of self.converters.items) in
    λ i. record { inputs = same i; finished = self.finished }

pub returns-clause-each : goal.returns-clause-each
returns-clause-each c =
    let self = c.args.self.now in
    let inputs = c.in_ok-inputs.ensures.inputs ∙ ap (λ (list : List Converter). map kept_by list) c.deref.ensures.value in
    let many = ap (λ (list : List Kept). length list) inputs in
    many ∙ length-map self.converters.items kept_by ∙ sym (length-map self.converters.items input_of)
