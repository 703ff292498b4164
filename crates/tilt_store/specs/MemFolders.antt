-- A folder in memory that is given once.
use Rattle.std.specs.Prelude.{Option}
use Rattle.tilt_store.specs.declared.mem_folder.MemFolder.{MemFolder}

-- the folder, if it wasn't given yet
pub record FoldersState : Type 0 where
  pub folder : Option MemFolder
