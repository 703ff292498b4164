-- Which checkpoints are valid (our own rule).
use Rattle.std.specs.Prelude.{◌≡◌, ℤ, neg_ℤ, ◌≤ℤ◌, ◌<ℤ◌, List, length, Option, Some, None, Ok, FitsSigned, ⊤}
use Rattle.std.specs.Int.{w64}
use Rattle.std.specs.List.{AllByRecursion}
use Rattle.tilt_base.specs.declared.limits.TheConstants.{T}
use Rattle.tilt_stream.specs.Snap.{Snapshot, AreRows, last_end}
use Rattle.tilt_syntax.specs.Query.{IsQuery}
use Rattle.tilt_syntax.specs.Tree.{StatementTree}
use Rattle.tilt_types.specs.Checked.{checked, core_of}
use Rattle.tilt_bounds.specs.Margins.{MarginsParts, margins_of}
use Rattle.tilt_checkpoint.specs.Checkpoint.{KeptParts, CheckpointParts, cuts_kept}
use Rattle.tilt_checkpoint.specs.Cuts.{IsCut, IsLeast}
use Rattle.tilt_checkpoint.specs.Decided.{frame_of, decided, first_kept}
use Rattle.tilt_checkpoint.specs.declared.frame.Frame.{Frame}

-- some text reads as the query, it is well formed, and its look-back and look-ahead are within the bounds
pub record IsAccepted (query : List StatementTree) : Type 0 where
  pub parsed : IsQuery query
  pub well_formed : checked query ≡ Ok (core_of query)
  pub margins : MarginsParts
  pub near : margins_of (core_of query) ≡ Ok margins

-- some of the output is decided, and not all
abbrev pub IsAmid : Frame → ℤ → Type 0
IsAmid frame done = (frame.start <ℤ done) × (done <ℤ frame.end)

-- if the output is decided up to a tick, a snapshot is open there exactly if some of the output is decided and not all
abbrev pub IsOpen : Frame → ℤ → Option ℤ → Type 0
IsOpen frame done None = ¬ (IsAmid frame done)
IsOpen frame done (Some start) = IsAmid frame done × (frame.start ≤ℤ start) × (start <ℤ done)

-- a number, if there is one, is a 64-bit number
abbrev pub IsCell : Option ℤ → Type 0
IsCell None = ⊤
IsCell (Some value) = FitsSigned w64 value

-- a row that is kept reaches to the first tick that is kept, or farther, and starts before its input's cut
pub record IsKept (first cut : ℤ) (row : Snapshot) : Type 0 where
  pub reaches : first ≤ℤ row.end
  pub before : row.start <ℤ cut
  pub cell : IsCell row.value

-- the last end is the end of the last row that is kept. If none is, there was no row, or one that ended before the first kept tick
abbrev pub IsLastEnd : ℤ → ℤ → Option ℤ → Option ℤ → Type 0
IsLastEnd first cut (Some end) last = last ≡ Some end
IsLastEnd first cut None None = ⊤
IsLastEnd first cut None (Some last) = (neg_ℤ T <ℤ last) × (last ≤ℤ T) × (last <ℤ first) × (neg_ℤ T <ℤ cut)

-- what is kept of an input
pub record IsSeries (first : ℤ) (kept : KeptParts) : Type 0 where
  pub cut : IsCut kept.cut
  pub in_order : AreRows kept.rows
  pub rows : AllByRecursion (IsKept first kept.cut) kept.rows
  pub last : IsLastEnd first kept.cut (last_end kept.rows) kept.last_end

-- a checkpoint is valid
pub record IsCheckpoint (c : CheckpointParts) : Type 0 where
  pub query : IsAccepted c.query
  pub cut : IsCut c.cut
  pub opened : let frame = frame_of (core_of c.query) in IsOpen frame (decided frame c.cut) c.open_start
  pub counted : length c.series ≡ length (core_of c.query).inputs
  pub series : AllByRecursion (IsSeries (first_kept (frame_of (core_of c.query)) c.cut)) c.series
  pub least : IsLeast c.cut (cuts_kept c.series)
