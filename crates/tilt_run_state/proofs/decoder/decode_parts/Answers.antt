use Rattle.std.proofs.Common.{◌-◌, drop, length, take, ◌∙◌}
use Rattle.std.proofs.lemmas.List.{take_rest}
use Rattle.tilt_run_state.proofs.Parts.{parts-none, parts-of, parts-only, parts-valid}
use Rattle.tilt_run_state.proofs.decoder.decode_parts.Goals as goal

pub returns-in-Ok-clause-valid : goal.returns-in-Ok-clause-valid
returns-in-Ok-clause-valid c =
    let live = c.decode_live.ensures in
    parts-valid c.args.setup.now c.in-Ok.kept c.decode_live.result live.kept live.valid live.fit

pub returns-in-Ok-clause-only : goal.returns-in-Ok-clause-only
returns-in-Ok-clause-only c =
    λ s is range e.
    let text = c.args.text.now in
    let count = c.in-Ok.count in
    let behind = take (length text - count) (drop count text) in
    parts-only c.args.setup.now c.in-Ok.kept behind c.decode_live.result c.decode_live.ensures.only s is range
    (parts-of c.args.setup.now c.in-Ok.kept text behind
    (λ other rest fits fit same. let p = c.in-Ok.ensures.only other rest fits fit same in (p.0, take_rest text count ∙ p.1))
    s.state s.kept is.kept range.kept e)

pub returns-in-Ok-clause-none : goal.returns-in-Ok-clause-none
returns-in-Ok-clause-none c =
    let text = c.args.text.now in
    let count = c.in-Ok.count in
    let behind = take (length text - count) (drop count text) in
    parts-none c.args.setup.now c.in-Ok.kept text behind c.decode_live.result
    (λ s is range e.
    parts-of c.args.setup.now c.in-Ok.kept text behind
    (λ other rest fits fit same. let p = c.in-Ok.ensures.only other rest fits fit same in (p.0, take_rest text count ∙ p.1))
    s.state s.kept is.kept range.kept e)
    c.decode_live.ensures.none
