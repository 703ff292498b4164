-- A checkpoint as plain data: what a session hands on to the next one (our own rule).
use Rattle.std.specs.Prelude.{ℤ, List, Option, map}
use Rattle.tilt_checkpoint.specs.Cuts.{CutsParts}
use Rattle.tilt_stream.specs.Snap.{Snapshot}
use Rattle.tilt_syntax.specs.Tree.{StatementTree}

-- of an input, the cut up to which its rows were seen, the end of its last row so far, and the rows that are kept
pub record KeptParts : Type 0 where
  pub cut : ℤ
  pub last_end : Option ℤ
  pub rows : List Snapshot

-- the least of the cuts up to which a session has seen rows, the start of the snapshot that isn't finished, and what is kept of each input
pub record BodyParts : Type 0 where
  pub cut : ℤ
  pub open_start : Option ℤ
  pub series : List KeptParts

-- the query, the least of the cuts up to which rows were seen, the start of the unfinished snapshot, and what is kept of each input
pub record CheckpointParts : Type 0 where
  pub query : List StatementTree
  pub cut : ℤ
  pub open_start : Option ℤ
  pub series : List KeptParts

-- the checkpoint of a query and what follows it
abbrev pub with_query : List StatementTree → BodyParts → CheckpointParts
with_query query body = record { query = query; cut = body.cut; open_start = body.open_start; series = body.series }

-- the cut of each input
abbrev pub cuts_kept : List KeptParts → List ℤ
cuts_kept series = map (λ kept. kept.cut) series

-- the cuts of a checkpoint
abbrev pub cuts_of : CheckpointParts → CutsParts
cuts_of c = record { least = c.cut; each = cuts_kept c.series }
