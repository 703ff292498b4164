use Rattle.std.proofs.Common.{rules, inl, inr, refl, sym}
use Rattle.tilt_outside.specs.MemShelf.{ReadFails}
use Rattle.tilt_outside.proofs.mem_shelf.MemShelfShelf.read_at.Goals as goal
use Rattle.tilt_outside.proofs.mem_shelf.MemShelfShelf.read_at.Goals.{in_default-via-in-Some+else-not-is_listed, in_default-via-in_default}

pub returns-in_default-clause-fails : goal.returns-in_default-clause-fails
returns-in_default-clause-fails c =
    let fails : ReadFails c.args.self.now c.args.name.now =
    elim c.in_default.branch [
      | in_default-via-in-Some+else-not-is_listed w ↦ rw (← c.self.view_is) (inr (search rules))
      | in_default-via-in_default w ↦ rw (← c.self.view_is) (rw (← c.deref-2.ensures.value) (inl (sym w.in_default.ensures)))
    ] in
    (λ _. fails, λ _. refl)
