use Rattle.std.proofs.Common.{◌≡◌, ◌∙◌, ◌++◌, [], List, ap, append-nil, arith, false, if◌then◌else◌, is_ok, rules, sym}
use Rattle.tilt_conventions.specs.Machine.{kept_by, options_of}
use Rattle.tilt_conventions.specs.Steps.{taken}
use Rattle.tilt_feed.specs.declared.update.Update.{Update}
use Rattle.tilt_reading_feed.proofs.Turns.{steps, steps-input}
use Rattle.tilt_reading_feed.specs.Steps.{events_at}
use Rattle.tilt_reading_feed.proofs.turning.turn_one.Goals as goal

pub returns-then-is_ok-clause-input : goal.returns-then-is_ok-clause-input
returns-then-is_ok-clause-input c =
    let old = c.args.converter.now in
    let turn = c.args.turn in
    let more = (taken (options_of old) turn (kept_by old)).updates in
    let updates = c.take.ensures.updates ∙ ap (λ (list : List Update). if is_ok c.take.result then list ++ more else list) c.clear.ensures.items in
    let is = steps (options_of old) turn (kept_by old) (kept_by c.take.new.self) c.take.new.updates.items c.take.result c.take.ensures.result
    (c.take.ensures.memory (omega (arith, c.clear.ensures.len, c.clear.ensures.capacity, c.requires.spare))) c.take.ensures.kept updates in
    steps-input turn old c.take.new.self c.take.new.updates.items c.take.ensures.options is

pub returns-then-is_ok-clause-events : goal.returns-then-is_ok-clause-events
returns-then-is_ok-clause-events c =
    let old = c.args.converter.now in
    let turn = c.args.turn in
    let more = (taken (options_of old) turn (kept_by old)).updates in
    let updates = c.take.ensures.updates ∙ ap (λ (list : List Update). if is_ok c.take.result then list ++ more else list) c.clear.ensures.items in
    let is = steps (options_of old) turn (kept_by old) (kept_by c.take.new.self) c.take.new.updates.items c.take.result c.take.ensures.result
    (c.take.ensures.memory (omega (arith, c.clear.ensures.len, c.clear.ensures.capacity, c.requires.spare))) c.take.ensures.kept updates in
    c.append_events.ensures.events
    ∙ ap (λ (list : List Update). c.args.events.now.items ++ events_at c.args.number list) (c.deref.ensures.value ∙ is.updates)

pub returns-else-is_ok-clause-input : goal.returns-else-is_ok-clause-input
returns-else-is_ok-clause-input c =
    let old = c.args.converter.now in
    let turn = c.args.turn in
    let more = (taken (options_of old) turn (kept_by old)).updates in
    let updates = c.take.ensures.updates ∙ ap (λ (list : List Update). if is_ok c.take.result then list ++ more else list) c.clear.ensures.items in
    let is = steps (options_of old) turn (kept_by old) (kept_by c.take.new.self) c.take.new.updates.items c.take.result c.take.ensures.result
    (c.take.ensures.memory (omega (arith, c.clear.ensures.len, c.clear.ensures.capacity, c.requires.spare))) c.take.ensures.kept updates in
    steps-input turn old c.take.new.self c.take.new.updates.items c.take.ensures.options is

pub returns-else-is_ok-clause-events : goal.returns-else-is_ok-clause-events
returns-else-is_ok-clause-events c =
    let old = c.args.converter.now in
    let turn = c.args.turn in
    let more = (taken (options_of old) turn (kept_by old)).updates in
    let updates = c.take.ensures.updates ∙ ap (λ (list : List Update). if is_ok c.take.result then list ++ more else list) c.clear.ensures.items in
    let is = steps (options_of old) turn (kept_by old) (kept_by c.take.new.self) c.take.new.updates.items c.take.result c.take.ensures.result
    (c.take.ensures.memory (omega (arith, c.clear.ensures.len, c.clear.ensures.capacity, c.requires.spare))) c.take.ensures.kept updates in
    let failed : is_ok c.take.result ≡ false = search rules in
    let none = sym (updates ∙ ap (λ b. if b then [] ++ more else []) failed) ∙ is.updates in
    sym (append-nil c.args.events.now.items) ∙ ap (λ (list : List Update). c.args.events.now.items ++ events_at c.args.number list) none
