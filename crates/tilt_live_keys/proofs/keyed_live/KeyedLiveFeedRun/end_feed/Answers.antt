use Rattle.std.proofs.Common.{◌≡◌, ◌∙◌, sym, ap, length, vec_len, rules, refl}
use Rattle.std.proofs.Math.Bool.{and-false}
use Rattle.tilt_feed_text.specs.Split.{unfinished}
use Rattle.tilt_live_keys.specs.declared.key_recipe.KeyRecipe.{KeyRecipe}
use Rattle.tilt_serving.proofs.Reporting.{reported-none}
use Rattle.tilt_live_run.proofs.Running.{none-kept, some-kept}
use Rattle.tilt_live_keys.proofs.keyed_live.KeyedLiveFeedRun.end_feed.Goals as goal

pub returns-then-is_empty-clause-reports : goal.returns-then-is_empty-clause-reports
returns-then-is_empty-clause-reports g c = λ recipe bytes is.
    let stored : vec_len c.args.self.now.pending ≡ length c.args.self.now.pending.items = search rules in
    let none = rw stored at (sym c.is_empty.ensures ∙ c.if-is_empty.true) in
    rw (none-kept (unfinished bytes) c.args.self.now.pending.items is.pending none) (reported-none _ _ _ _)

pub returns-then-is_empty-clause-stops : goal.returns-then-is_empty-clause-stops
returns-then-is_empty-clause-stops g c = λ recipe bytes is.
    let stored : vec_len c.args.self.now.pending ≡ length c.args.self.now.pending.items = search rules in
    let none = rw stored at (sym c.is_empty.ensures ∙ c.if-is_empty.true) in
    rw (none-kept (unfinished bytes) c.args.self.now.pending.items is.pending none, and-false recipe.strict) refl

pub returns-then-self-clause-reports : goal.returns-then-self-clause-reports
returns-then-self-clause-reports g c = λ recipe bytes is.
    let stored : vec_len c.args.self.now.pending ≡ length c.args.self.now.pending.items = search rules in
    let some = rw stored at (sym c.is_empty.ensures ∙ c.if-is_empty.false) in
    rw (some-kept (unfinished bytes) c.args.self.now.pending.items is.pending some) (rw is.lines_are.number_is at c.report.ensures.reported)

pub returns-then-self-clause-stops : goal.returns-then-self-clause-stops
returns-then-self-clause-stops g c = λ recipe bytes is.
    let stored : vec_len c.args.self.now.pending ≡ length c.args.self.now.pending.items = search rules in
    let some = rw stored at (sym c.is_empty.ensures ∙ c.if-is_empty.false) in
    let strict = sym (ap (λ (r : KeyRecipe). r.strict) is.lines_are.recipe_is) ∙ c.if-self.true in
    rw (strict, some-kept (unfinished bytes) c.args.self.now.pending.items is.pending some) refl

pub returns-clause-reports : goal.returns-clause-reports
returns-clause-reports g c = λ recipe bytes is.
    let stored : vec_len c.args.self.now.pending ≡ length c.args.self.now.pending.items = search rules in
    let some = rw stored at (sym c.is_empty.ensures ∙ c.if-is_empty.false) in
    rw (some-kept (unfinished bytes) c.args.self.now.pending.items is.pending some) (rw is.lines_are.number_is at c.report.ensures.reported)

pub returns-clause-stops : goal.returns-clause-stops
returns-clause-stops g c = λ recipe bytes is.
    let strict = sym (ap (λ (r : KeyRecipe). r.strict) is.lines_are.recipe_is) ∙ c.if-self.false in
    rw strict refl
