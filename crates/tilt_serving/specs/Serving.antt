-- One step of serving a feed.
use Rattle.std.specs.Prelude.{ℕ, List, ◌++◌, Result, Ok, Err}
use Rattle.tilt_outside.specs.declared.failed.Failed.{Failed}
use Rattle.tilt_port.specs.Transcript.{Moment, Transcript}
use Rattle.tilt_serving.specs.Meaning.{FeedMeaning}
use Rattle.tilt_serving.specs.Served.{HasEnded, IsServing, Start}
use Rattle.tilt_serving.specs.declared.halt.Halt.{Halt}
use Rattle.tilt_serving.specs.declared.halt.Halt.TheVariants as halt
use Rattle.tilt_serving.specs.declared.feed.Progress.{Progress}
use Rattle.tilt_serving.specs.declared.feed.Progress.TheVariants.{Ended, More}

-- how a feed ends, if the last flush ended so: a fault of it counts unless a fault or refused memory halted the feed
abbrev pub end_with : Result (Unit {0}) Halt → Result (Unit {0}) Failed → Result (Unit {0}) Halt
end_with (Ok u) (Ok v) = Ok u
end_with (Ok u) (Err e) = Err halt.WriteFault
end_with (Err halt.BadLine) (Ok v) = Err halt.BadLine
end_with (Err halt.BadLine) (Err e) = Err halt.WriteFault
end_with (Err halt.TooManyKeys) (Ok v) = Err halt.TooManyKeys
end_with (Err halt.TooManyKeys) (Err e) = Err halt.WriteFault
end_with (Err halt.ReadFault) flushed = Err halt.ReadFault
end_with (Err halt.WriteFault) flushed = Err halt.WriteFault
end_with (Err halt.OutOfMemory) flushed = Err halt.OutOfMemory

-- What the run makes of its feed, and of which bytes it is the run. The port and the sink of reports, before the feed was served and now.
module _ {K : Type 0} (means : FeedMeaning) (Is : List ℕ → Type 0) (start : Start) (tells : Type 0) (old new : Transcript) (err_tells : Type 0)
    (err_written : K → List ℕ) (err_faults : K → ℕ) (err err_then : K) where
  -- bytes of the feed were served
  pub record GoesOn : Type 0 where
    pub bytes : List ℕ
    pub moments : List Moment
    pub is : Is (start.before ++ bytes)
    pub serving : IsServing means start tells old new err_tells err_written err_faults err err_then bytes moments

  -- it was served, and if it ended, the run is that of all its bytes
  abbrev pub WasServed : Result (Unit {0}) Halt → Type 0
  WasServed result = HasEnded means start tells old new err_tells err_written err_faults err err_then Is result

  abbrev pub HasStepped : Result Progress Halt → Type 0
  HasStepped (Ok More) = GoesOn
  HasStepped (Ok Ended) = WasServed (Ok tt)
  HasStepped (Err why) = WasServed (Err why)
