-- When calls of a folder and of a ledger fail.
use Rattle.std.specs.Prelude.{◌≡◌, ◌⊎◌, ℕ, ◌≤◌, Option, Result, Err, IsErrOf}
use Rattle.tilt_outside.specs.Faults.{Rose}
use Rattle.tilt_store.specs.Commit.{Commit}
use Rattle.tilt_store.specs.declared.folder_error.FolderError.{FolderError}
use Rattle.tilt_store.specs.declared.folder_error.FolderError.TheVariants as folder
use Rattle.tilt_store.specs.declared.open_error.OpenError.{OpenError}
use Rattle.tilt_store.specs.declared.open_error.OpenError.TheVariants.{OutOfMemory, Failed}

-- a count of faults never falls, and a call reports `Failed` only if it rose
pub record HasCause {T : Type 0} (before after : ℕ) (result : Result T FolderError) : Type 0 where
  pub kept : before ≤ after
  pub rose : IsErrOf result folder.Failed → Rose before after

-- the error of opening that a folder's error gives
abbrev pub of_folder : FolderError → OpenError
of_folder folder.OutOfMemory = OutOfMemory
of_folder folder.Failed = Failed

-- why opening fails: memory ran out, a call of the folder failed, or it is the fault of what the folder held
abbrev pub OpensNot : Result (Option Commit) OpenError → OpenError → Type 0
OpensNot held error = (error ≡ OutOfMemory) ⊎ (error ≡ Failed) ⊎ (held ≡ Err error)
