use Rattle.tilt_store.proofs.Changing.{noted_elapses, noted_follows}
use Rattle.tilt_store.proofs.mem_folder.MemFolderFolder.replace_state.Goals as goal

pub returns-in_err-replace_bytes-clause-crash : goal.returns-in_err-replace_bytes-clause-crash
returns-in_err-replace_bytes-clause-crash c _ = noted_follows _ _ _ _ c.in_ok-note_replace.ensures.noted

pub returns-in_err-replace_bytes-clause-time : goal.returns-in_err-replace_bytes-clause-time
returns-in_err-replace_bytes-clause-time c _ = noted_elapses _ _ _ _ c.in_ok-note_replace.ensures.noted

pub returns-clause-crash : goal.returns-clause-crash
returns-clause-crash c _ = noted_follows _ _ _ _ c.in_ok-note_replace.ensures.noted

pub returns-clause-time : goal.returns-clause-time
returns-clause-time c _ = noted_elapses _ _ _ _ c.in_ok-note_replace.ensures.noted
