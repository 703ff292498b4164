-- What the last loop has made is what is known of the run.
use Rattle.std.proofs.Common.{◌≡◌, ◌<◌, ◌-◌, inl, inr, ℕ, List, length, get_or, subst, ap, rules}
use Rattle.tilt_code.specs.Code.{LoopParts}
use Rattle.tilt_engine.proofs.Engined.{last-there, peeked}
use Rattle.tilt_engine.specs.Engines.{IsEngine}
use Rattle.tilt_engine.proofs.engine.Engine.peek.Goals as goal
use Rattle.tilt_engine.proofs.engine.Engine.peek.Goals.{After-loops}

-- the place of the last loop
place : (c : After-loops) → length c.loops.result.now - 1 ≡ length c.advance.new.self.code.loops - 1
place c = ap (λ (l : List LoopParts). length l - 1) c.loops.ensures.loops

there : (c : After-loops) → IsEngine c.args.self.now → length c.loops.result.now - 1 < length c.advance.new.self.stock.loops.items
there c (inl refused) = absurd (cc (c.in_ok-advance.ensures.for_good refused))
there c (inr of) =
    let new = c.in_ok-advance.ensures.engine of.0 of.1 of.2 of.3 in
    rw (place c) (last-there c.advance.new.self of.0 of.1 of.2 new.at c.in_ok-advance.ensures.current c.loops.ensures.code)

pub index-requires : goal.index-requires
index-requires c = let within = there (goal.at.index-requires c).After-loops c.requires in search rules

pub returns : goal.returns
returns c =
    let b = (goal.at.returns c).After-loops in
    record {
      next = λ code feed given of.
          let new = c.in_ok-advance.ensures.engine code feed given of in
          let m = c.index.result.now in
          let at = subst (λ (n : ℕ). m ≡ get_or c.advance.new.self.stock.loops.items n m) (place b) c.index.ensures in
          (peeked c.advance.new.self code feed given new.at c.in_ok-advance.ensures.current c.loops.ensures.code m at c.piece.result c.piece.ensures, new);
      bounded = c.in_ok-advance.ensures.bounded;
      refused = tt;
      for_good = c.in_ok-advance.ensures.for_good;
    }
