use Rattle.std.proofs.Common.{rules, inl, inr, refl}
use Rattle.tilt_outside.specs.MemShelf.{SaveFails}
use Rattle.tilt_outside.proofs.mem_shelf.MemShelfShelf.save.Goals as goal
use Rattle.tilt_outside.proofs.mem_shelf.MemShelfShelf.save.Goals.{else-not-is_listed-via-then-not-is_listed+else-replace_bytes, else-not-is_listed-via-else-not-is_listed}

pub returns-clause-fails : goal.returns-clause-fails
returns-clause-fails c =
    let fails : SaveFails c.args.self.now c.args.name.now c.args.bytes.now =
    elim c.else-not-is_listed.branch [
      | else-not-is_listed-via-then-not-is_listed+else-replace_bytes w ↦ rw (← c.self.view_is) (inl (w.replace_bytes.ensures.refused.0 w.if-replace_bytes.false))
      | else-not-is_listed-via-else-not-is_listed w ↦ rw (← c.self.view_is) (inr (search rules))
    ] in
    (λ _. fails, λ _. refl)
