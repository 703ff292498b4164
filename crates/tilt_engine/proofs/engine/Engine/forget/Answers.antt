-- An engine whose loops have made all that is known may let go what isn't needed any more, and is one of the same feed.
use Rattle.std.proofs.Common.{refl, ap, min, ◌*◌, ◌^◌, ◌-◌, ◌∙◌}
use Rattle.tilt_engine.proofs.Forgot.{engine-forgot, forgotten-needed, inputs-count, room-few, stock-of}
use Rattle.tilt_engine.specs.AtRest.{horizons_of}
use Rattle.tilt_feed.specs.Resting.{all_resting}
use Rattle.tilt_engine.proofs.engine.Engine.forget.Goals as goal

pub forget-requires : goal.forget-requires
forget-requires c =
    let e = c.requires.engine in
    record {
      loops = (all_resting e.1, e.3.gone, horizons_of e.1, stock-of c.args.self.now e.0 e.1 e.2 e.3 c.requires.current c.loops.ensures.code);
      many = inputs-count c.args.self.now e.0 e.1 e.2 e.3;
    }

pub returns-clause-engine : goal.returns-clause-engine
returns-clause-engine c = λ code feed given of.
    let has = c.in_ok-gone.ensures.forgotten in
    engine-forgot c.args.self.now _ code feed given has.0 c.in_ok-gone.gone of c.requires.current c.loops.ensures.code has.1 c.in_ok-gone.ensures.few
    refl refl refl refl

pub returns-clause-forgotten : goal.returns-clause-forgotten
returns-clause-forgotten c = λ code feed given of.
    let has = c.in_ok-gone.ensures.forgotten in
    let fits = forgotten-needed c.args.self.now code feed given of c.requires.current c.loops.ensures.code _ _ _ has.0 c.in_ok-gone.gone has.1 in
    record { at_most = fits.0; exactly = fits.1; room_is = room-few _ _ _ _ (c.saturating_mul.ensures ∙ ap (λ n. min (n * 2) (2 ^ 128 - 1)) c.held.ensures) c.max-self.ensures }
