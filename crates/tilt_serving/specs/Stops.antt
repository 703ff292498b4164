-- Why a run stops, and why a feed isn't served to its end.
use Rattle.std.specs.Prelude.{Bool, false, true, Option, None, Some, Result, Ok, Err}
use Rattle.tilt_serving.specs.declared.halt.Halt.{Halt}
use Rattle.tilt_serving.specs.declared.halt.Halt.TheVariants as halts
use Rattle.tilt_serving.specs.declared.stop.Stop.{Stop}
use Rattle.tilt_serving.specs.declared.stop.Stop.TheVariants as stops

-- whether a run that stops is lost: it stops, and not because of a line
abbrev pub is_loss : Stop → Bool
is_loss stops.BadLine = false
is_loss stops.TooManyKeys = false
is_loss stops.WriteFault = true
is_loss stops.OutOfMemory = true

abbrev pub is_lost : {T : Type 0} → Result T Stop → Bool
is_lost (Ok value) = false
is_lost (Err stop) = is_loss stop

-- why it stopped, if it did
abbrev pub stop_of : {T : Type 0} → Result T Stop → Option Stop
stop_of (Ok value) = None
stop_of (Err stop) = Some stop

-- what a stop of the run is for its feed
abbrev pub halt_of : Stop → Halt
halt_of stops.BadLine = halts.BadLine
halt_of stops.TooManyKeys = halts.TooManyKeys
halt_of stops.WriteFault = halts.WriteFault
halt_of stops.OutOfMemory = halts.OutOfMemory

-- whether all that was read of a feed was taken, up to its end or to the line that stopped the run
abbrev pub is_whole : {T : Type 0} → Result T Halt → Bool
is_whole (Ok value) = true
is_whole (Err halts.BadLine) = true
is_whole (Err halts.TooManyKeys) = true
is_whole (Err halts.ReadFault) = false
is_whole (Err halts.WriteFault) = false
is_whole (Err halts.OutOfMemory) = false

-- whether its output may have been cut off
abbrev pub is_cut : {T : Type 0} → Result T Halt → Bool
is_cut (Ok value) = false
is_cut (Err halts.BadLine) = false
is_cut (Err halts.TooManyKeys) = false
is_cut (Err halts.ReadFault) = false
is_cut (Err halts.WriteFault) = true
is_cut (Err halts.OutOfMemory) = true

-- the stop of a run by a line with which its feed ended, if one did
abbrev pub line_stop_of : {T : Type 0} → Result T Halt → Option Stop
line_stop_of (Ok value) = None
line_stop_of (Err halts.BadLine) = Some stops.BadLine
line_stop_of (Err halts.TooManyKeys) = Some stops.TooManyKeys
line_stop_of (Err halts.ReadFault) = None
line_stop_of (Err halts.WriteFault) = None
line_stop_of (Err halts.OutOfMemory) = None
