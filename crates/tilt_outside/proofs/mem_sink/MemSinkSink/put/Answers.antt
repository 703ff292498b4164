use Rattle.std.proofs.Common.{rules, inl, inr}
use Rattle.tilt_outside.specs.MemSink.{PutFails}
use Rattle.tilt_outside.proofs.Fronts.{AppendsFront-take}
use Rattle.tilt_outside.proofs.mem_sink.MemSinkSink.put.Goals as goal
use Rattle.tilt_outside.proofs.mem_sink.MemSinkSink.put.Goals.{then-piece-self-via-then-piece-self, then-piece-self-via-else-piece-self+then-contains}

pub returns-then-piece-self-clause-puts : goal.returns-then-piece-self-clause-puts
returns-then-piece-self-clause-puts c = record {
  whole = λ _. tt;
  front = λ _. rw (c.append.ensures.appended, ← c.self.view_is) (AppendsFront-take _ _ _);
  cause = search rules;
  room = λ _ _. tt;
}

pub returns-then-piece-self-clause-fails : goal.returns-then-piece-self-clause-fails
returns-then-piece-self-clause-fails c =
    let fails : PutFails c.args.self.now c.args.piece.now =
    elim c.then-piece-self.branch [
      | then-piece-self-via-then-piece-self w ↦ rw (← c.self.view_is) (inl w.if-piece-self.true)
      | then-piece-self-via-else-piece-self+then-contains w ↦ rw (← c.self.view_is) (inr (search rules))
    ] in
    (λ _. fails, λ _. search rules)
