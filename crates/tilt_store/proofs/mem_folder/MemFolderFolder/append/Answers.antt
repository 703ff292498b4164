use Rattle.std.proofs.Common.{rules, ◌≡◌, length, subst}
use Rattle.tilt_store.specs.Crash.{Follows}
use Rattle.tilt_store.specs.Kept.{Torn}
use Rattle.tilt_store.specs.MemFolder.{after_all, at_first}
use Rattle.tilt_store.proofs.Changing.{noted_elapses, noted_follows}
use Rattle.tilt_store.proofs.mem_folder.MemFolderFolder.append.Goals as goal

pub returns-in_err-extend_from_slice-clause-crash : goal.returns-in_err-extend_from_slice-clause-crash
returns-in_err-extend_from_slice-clause-crash c _ =
    let place : c.len.result ≡ length c.args.self.now.current.output.items = search rules in
    let leaves = after_all (at_first c.args.self.now.first) in
    subst (λ n. Follows (Torn n (length c.args.bytes.now)) (leaves c.args.self.now.changes.items) (leaves c.note_append.new.changes.items)) place
    (noted_follows _ _ _ _ c.in_ok-note_append.ensures.noted)

pub returns-in_err-extend_from_slice-clause-time : goal.returns-in_err-extend_from_slice-clause-time
returns-in_err-extend_from_slice-clause-time c _ = noted_elapses _ _ _ _ c.in_ok-note_append.ensures.noted

pub returns-clause-crash : goal.returns-clause-crash
returns-clause-crash c _ =
    let place : c.len.result ≡ length c.args.self.now.current.output.items = search rules in
    let leaves = after_all (at_first c.args.self.now.first) in
    subst (λ n. Follows (Torn n (length c.args.bytes.now)) (leaves c.args.self.now.changes.items) (leaves c.note_append.new.changes.items)) place
    (noted_follows _ _ _ _ c.in_ok-note_append.ensures.noted)

pub returns-clause-time : goal.returns-clause-time
returns-clause-time c _ = noted_elapses _ _ _ _ c.in_ok-note_append.ensures.noted
