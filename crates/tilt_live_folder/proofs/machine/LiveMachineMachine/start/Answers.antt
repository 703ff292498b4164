use Rattle.std.proofs.Common.{◌≡◌, [], refl, subst}
use Rattle.tilt_live_folder.specs.Feeds.{LiveFeed}
use Rattle.tilt_live_folder.specs.Machines.{IsRunning}
use Rattle.tilt_live_folder.proofs.machine.LiveMachineMachine.start.Goals as goal

pub returns-in-Ok-start-clause-is : goal.returns-in-Ok-start-clause-is
returns-in-Ok-start-clause-is c =
    let feed : LiveFeed = record { query = c.recipe.inside.query; accepted = c.recipe.inside.accepted; options = c.recipe.inside.options } in
    let view : feed ≡ c.args.recipe = c.recipe.view_is in
    subst (λ (f : LiveFeed). IsRunning (record { run = c.in-Ok-start.run'; query = c.recipe.inside.query; opening = c.in-Ok.opening; tail = c.new.result; taken = 0 }) f []) view (record {
      is = c.in-Ok-start.ensures.is;
      placed = c.in-Ok-start.ensures.placed;
      no_stop = refl;
      opening = c.in-Ok.ensures;
      tail = c.new.ensures.items;
      taken = refl;
      query = refl;
      accepted = c.recipe.invariant.0;
      core = c.recipe.invariant.1;
    })
