use Rattle.std.proofs.Common.{inr}
use Rattle.tilt_store.proofs.Changing.{noted_elapses, noted_follows}
use Rattle.tilt_store.proofs.mem_folder.MemFolderFolder.sync.Goals as goal

pub returns-clause-durable : goal.returns-clause-durable
returns-clause-durable c _ k left = (noted_follows _ _ _ _ c.in_ok-note_sync.ensures.noted k left).2

pub returns-clause-crash : goal.returns-clause-crash
returns-clause-crash c _ k left = inr (noted_follows _ _ _ _ c.in_ok-note_sync.ensures.noted k left).2

pub returns-clause-time : goal.returns-clause-time
returns-clause-time c _ = noted_elapses _ _ _ _ c.in_ok-note_sync.ensures.noted
