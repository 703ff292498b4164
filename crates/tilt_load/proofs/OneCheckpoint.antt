-- A checkpoint file gives one checkpoint, or one reason why it is none.
use Rattle.std.proofs.Common.{◌≡◌, ◌<◌, ◌≤◌, ◌^◌, ◌⊎◌, List, ℕ, length, inl, inr, refl, arith}
use Rattle.std.proofs.lemmas.Bool.{cases_lt}
use Rattle.tilt_base.specs.declared.limits.TheConstants.{FILE}
use Rattle.tilt_checkpoint.proofs.Spelled.{spelled_once}
use Rattle.tilt_checkpoint.proofs.Whole.{SpellOrNot, spelled_or_not}
use Rattle.tilt_checkpoint.specs.Checkpoint.{CheckpointParts}
use Rattle.tilt_load.specs.CheckpointFile.{TakesCheckpoint, RefusesCheckpoint, long, of_none}
use Rattle.tilt_load.specs.Load.{IsTooLong}
use Rattle.tilt_report.specs.Report.{Reason, file_too_long, bad_checkpoint}

module _ (name bytes : List ℕ) where
  -- a checkpoint file that is taken has one checkpoint
  pub checkpoint_once : (c d : CheckpointParts) → TakesCheckpoint bytes c → TakesCheckpoint bytes d → c ≡ d
  checkpoint_once c d taken taken' =
      let small : length bytes < 2 ^ 63 = omega (arith, taken.short) in
      spelled_once c d bytes taken.valid taken'.valid small taken.spelled taken'.spelled

  -- it is rejected for one reason
  pub checkpoint_refused_once : (r s : Reason) → RefusesCheckpoint name bytes r → RefusesCheckpoint name bytes s → r ≡ s
  checkpoint_refused_once r s (long over) (long over') = refl
  checkpoint_refused_once r s (long over) (of_none short none) = absurd (omega (arith, over, short))
  checkpoint_refused_once r s (of_none short none) (long over) = absurd (omega (arith, over, short))
  checkpoint_refused_once r s (of_none short none) (of_none short' none') = refl

  -- it is taken, or rejected
  pub checkpoint_refused_or_taken : (r : Reason) (c : CheckpointParts) → RefusesCheckpoint name bytes r → TakesCheckpoint bytes c → ⊥
  checkpoint_refused_or_taken r c (long over) taken = absurd (omega (arith, over, taken.short))
  checkpoint_refused_or_taken r c (of_none short none) taken = none c taken.valid taken.spelled

  -- a file that is too long is no checkpoint
  pub checkpoint_too_long : (why : Reason) → IsTooLong name bytes why → RefusesCheckpoint name bytes why
  checkpoint_too_long why is = rw is.0 (long is.1)

  -- one of the two always
  abbrev IsEither : Type 0
  IsEither = ((c : CheckpointParts) × TakesCheckpoint bytes c) ⊎ ((r : Reason) × RefusesCheckpoint name bytes r)

  by_spelling : length bytes ≤ FILE → SpellOrNot bytes → IsEither
  by_spelling short (inl (c, valid, spelled)) = inl (c, record { short = short; valid = valid; spelled = spelled })
  by_spelling short (inr none) = inr (bad_checkpoint, of_none short none)

  by_length : (FILE < length bytes) ⊎ (length bytes ≤ FILE) → IsEither
  by_length (inl over) = inr (file_too_long name, long over)
  by_length (inr short) =
      let small : length bytes < 2 ^ 63 = omega (arith, short) in
      by_spelling short (spelled_or_not bytes small)

  pub checkpoint_taken_or_refused : ((c : CheckpointParts) × TakesCheckpoint bytes c) ⊎ ((r : Reason) × RefusesCheckpoint name bytes r)
  checkpoint_taken_or_refused = by_length (cases_lt FILE (length bytes))
