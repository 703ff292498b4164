use Rattle.std.proofs.Common.{false, refl, subst}
use Rattle.tilt_code.specs.References.{IsCode}
use Rattle.tilt_engine.proofs.Beginning.{engine-new}
use Rattle.tilt_engine.proofs.Rooms.{first-room}
use Rattle.tilt_engine.specs.declared.engine.Engine.{Engine}
use Rattle.tilt_engine.specs.declared.status.Status.TheVariants.{Behind}
use Rattle.tilt_engine.proofs.engine.Engine.new.Goals as goal

pub returns-clause-engine : goal.returns-clause-engine
returns-clause-engine c =
    let e : Engine = record {
      code = c.args.code;
      stock = c.in_ok-stock.stock;
      states = c.in_ok-states.states;
      horizons = c.new.result;
      status = Behind;
      finished = false;
      given = 0;
      limit = 1024;
      alloc = c.args.alloc;
    } in
    record {
      at = engine-new e (subst IsCode c.code.view_is c.code.invariant) c.requires refl refl refl c.in_ok-stock.ensures.inputs c.in_ok-stock.ensures.loops
          c.in_ok-states.ensures.many c.in_ok-states.ensures.fresh;
      few = λ now. absurd (cc now);
      room = first-room c.args.code;
    }
