use Rattle.std.proofs.Common.{rules, ◌≡◌, ◌++◌, List, ℕ, None, Some, ap, sym, ◌∙◌}
use Rattle.std.proofs.lemmas.Bool.Decides.{Decides-eqb}
use Rattle.std.proofs.lemmas.Slice.Eq.{strip_prefix_is}
use Rattle.tilt_feed_form.specs.declared.feed_form.FeedForm.TheVariants.{Readings}
use Rattle.tilt_live_state.specs.Spelling as live
use Rattle.tilt_run_state.specs.Spelling.{kept_lines, opening}
use Rattle.tilt_run_state.proofs.Parts.{opened-behind, opened-none, opened-spells}
use Rattle.tilt_run_state.proofs.decoder.decode_readings.Goals as goal

pub returns-in-Some-clause-spelled : goal.returns-in-Some-clause-spelled
returns-in-Some-clause-spelled c =
    let form = Readings c.args.setup.now in
    let text = c.args.text.now in
    let rest = c.in-Some.rest.now in
    let front = c.as_slice.result.now in
    let same : front ≡ opening form = search rules in
    let cut : text ≡ front ++ rest = strip_prefix_is Decides-eqb text front (Some c.in-Some.rest) c.in-Some.ensures.cases in
    opened-spells form text rest c.decode_parts.result (cut ∙ ap (λ (f : List ℕ). f ++ rest) same) c.decode_parts.ensures.valid
    c.decode_parts.ensures.spelled

pub returns-in-Some-clause-only : goal.returns-in-Some-clause-only
returns-in-Some-clause-only c = λ s is range e.
    let form = Readings c.args.setup.now in
    let text = c.args.text.now in
    let rest = c.in-Some.rest.now in
    let front = c.as_slice.result.now in
    let same : front ≡ opening form = search rules in
    let cut : text ≡ front ++ rest = strip_prefix_is Decides-eqb text front (Some c.in-Some.rest) c.in-Some.ensures.cases in
    c.decode_parts.ensures.only s is range (opened-behind form text rest s (cut ∙ ap (λ (f : List ℕ). f ++ rest) same) e)

pub returns-in-Some-clause-none : goal.returns-in-Some-clause-none
returns-in-Some-clause-none c =
    let form = Readings c.args.setup.now in
    let text = c.args.text.now in
    let rest = c.in-Some.rest.now in
    let front = c.as_slice.result.now in
    let same : front ≡ opening form = search rules in
    let cut : text ≡ front ++ rest = strip_prefix_is Decides-eqb text front (Some c.in-Some.rest) c.in-Some.ensures.cases in
    opened-none form text rest c.decode_parts.result (cut ∙ ap (λ (f : List ℕ). f ++ rest) same) c.decode_parts.ensures.none

pub returns-clause-none : goal.returns-clause-none
returns-clause-none c = λ s is range e.
    let form = Readings c.args.setup.now in
    let text = c.args.text.now in
    let front = c.as_slice.result.now in
    let same : front ≡ opening form = search rules in
    let behind = kept_lines s.kept ++ live.spelled s.state in
    strip_prefix_is Decides-eqb text front None c.in-None.ensures.cases behind (e ∙ ap (λ (f : List ℕ). f ++ behind) (sym same))
