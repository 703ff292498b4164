-- What stops of a machine and errors of a folder are to a feed that is served.
use Rattle.tilt_exactly_once.specs.declared.halt.Halt.{Halt}
use Rattle.tilt_exactly_once.specs.declared.halt.Halt.TheVariants as halt
use Rattle.tilt_exactly_once.specs.declared.halt.Stop.{Stop}
use Rattle.tilt_exactly_once.specs.declared.halt.Stop.TheVariants as stop
use Rattle.tilt_store.specs.declared.folder_error.FolderError.{FolderError}
use Rattle.tilt_store.specs.declared.folder_error.FolderError.TheVariants as folder

abbrev pub of_stop : Stop → Halt
of_stop stop.BadLine = halt.BadLine
of_stop stop.TooLong = halt.TooLong
of_stop stop.OutOfMemory = halt.OutOfMemory

abbrev pub of_folder : FolderError → Halt
of_folder folder.OutOfMemory = halt.OutOfMemory
of_folder folder.Failed = halt.Failed
