-- Reads, one after another.
use Rattle.std.proofs.Common.{ℕ, List, ◌∙◌, arith}
use Rattle.tilt_outside.specs.Reads.{OnlyReads}

-- reads and then others
pub reads-then : {S : Type 0} {files : S → List ℕ → List ℕ} {read_faults save_faults : S → ℕ} {takes : S → List ℕ → ℕ → Type 0} {old mid new : S}
    → OnlyReads files read_faults save_faults takes old mid → OnlyReads files read_faults save_faults takes mid new
    → OnlyReads files read_faults save_faults takes old new
reads-then first then = record {
  same_files = then.same_files ∙ first.same_files;
  no_fewer_read_faults = omega (arith, first.no_fewer_read_faults, then.no_fewer_read_faults);
  same_save_faults = then.same_save_faults ∙ first.same_save_faults;
  same_takes = λ name n.
      let before = first.same_takes name n in
      let after = then.same_takes name n in
      (λ t. after.0 (before.0 t), λ t. before.1 (after.1 t));
}
