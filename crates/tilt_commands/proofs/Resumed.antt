-- What a session after a checkpoint does, where its checkpoint and its inputs are taken.
use Rattle.std.proofs.Common.{◌≡◌, ◌∙◌, ◌≤◌, ℕ, suc, ℤ, List, [], ◌∷◌, Option, Some, None, is_some, length, refl, sym, ap, subst}
use Rattle.tilt_checkpoint.specs.Checkpoint.{CheckpointParts, KeptParts, cuts_kept, cuts_of}
use Rattle.tilt_checkpoint.specs.Cuts.{CutsParts}
use Rattle.tilt_session.specs.Cuts.{IsOnward, NoneFalls, first_fall}
use Rattle.tilt_session.specs.Later.{newly, next_by}
use Rattle.tilt_session.specs.declared.cut.Cut.{Cut}
use Rattle.tilt_session.specs.declared.cut.Cut.TheVariants.{Upto, End}
use Rattle.tilt_load.proofs.FileCommands.{both_read, inputs_undone, turn_of_input}
use Rattle.tilt_load.proofs.GivenCuts.{by_counted}
use Rattle.tilt_load.specs.CheckpointFile.{TakesCheckpoint}
use Rattle.tilt_load.specs.Does.{IsRead, IsUndone, Reading}
use Rattle.tilt_load.specs.FileCommand.{HasFileTurn}
use Rattle.tilt_load.specs.InputCuts.{cuts_by}
use Rattle.tilt_load.specs.Inputs.{bytes_of_inputs}
use Rattle.tilt_load.specs.Load.{IsLoadFault, HasSessionTurn}
use Rattle.tilt_load.specs.SeriesFiles.{RefusesSession, TakesSession}
use Rattle.tilt_outside.specs.Counts.{added_count, last_count}
use Rattle.std.specs.Prelude.{IsSome, ◌↔◌}
use Rattle.tilt_printed.specs.Answer.{save_of}
use Rattle.tilt_printed.specs.declared.save.Save.{Save}
use Rattle.tilt_printed.specs.Saving.{SaveValue, outcome_of}
use Rattle.tilt_report.specs.Report.{Reason, Report, cut_back}
use Rattle.tilt_series.specs.Series.{Bounds}
use Rattle.tilt_commands.specs.Resume.{GoesOn, RefusesToGoOn, back, end_after, inputs_of, later_bounds, no_cuts, resume_row, resumed, saved_of}
use Rattle.tilt_commands.specs.SavedCut.{RefusesEnd, SavedCutValue, cut_of, faulty_end}
use Rattle.tilt_stream.specs.Snap.{Snapshot}
use Rattle.tilt_stream.specs.Text.{lines_of}
use Rattle.tilt_cli.specs.Binding.{Binding}

-- a cut would fall
pub is_back : (name bytes : List ℕ) (ending : Option SavedCutValue) (c : CheckpointParts) (names : List (List ℕ)) (cut : Cut) (cuts : CutsParts)
    (old new told_old told_new : ℤ) → TakesCheckpoint bytes c → names ≡ inputs_of c → faulty_end ending names ≡ None → cut ≡ cut_of ending names → cut ≡ Upto cuts
    → first_fall (cuts_of c) cuts ≡ Some (old, new) → told_old ≡ old → told_new ≡ new → RefusesToGoOn name ending bytes (cut_back told_old told_new)
is_back name bytes ending c names cut cuts old new told_old told_new taken same named by is fall same_old same_new =
    rw (same_old, same_new) (back c cuts old new taken (rw same at named) (ap (cut_of ending) (sym same) ∙ sym by ∙ is) fall)

-- its cuts are refused
pub end_refused : (name bytes : List ℕ) (ending : Option SavedCutValue) (c : CheckpointParts) (names : List (List ℕ)) (why : Reason) → TakesCheckpoint bytes c
    → names ≡ inputs_of c → RefusesEnd ending names why → RefusesToGoOn name ending bytes why
end_refused name bytes ending c names why taken same is = no_cuts c taken (subst (λ (ns : List (List ℕ)). RefusesEnd ending ns why) same is)

-- there are as many cuts as inputs
pub given_counted : (ending : Option SavedCutValue) (names : List (List ℕ)) (cuts : CutsParts) → cut_of ending names ≡ Upto cuts → length cuts.each ≡ length names
given_counted None names cuts is = absurd (cc is)
given_counted (Some cut) names cuts is =
    let same : cuts_by cut.upto names ≡ cuts = cc is in
    ap (λ (k : CutsParts). length k.each) (sym same) ∙ by_counted cut.upto names

-- where none falls there are as many new cuts as inputs
as_many : (olds : List KeptParts) (news : List ℤ) → NoneFalls (cuts_kept olds) news → length news ≡ length olds
as_many [] [] h = refl
as_many [] (new ∷ news) h = absurd h
as_many (k ∷ olds) [] h = absurd h
as_many (k ∷ olds) (new ∷ news) h = ap suc (as_many olds news h.1)

pub onward_counted : (c : CheckpointParts) (cut : Cut) → IsOnward (cuts_of c) cut → (cuts : CutsParts) → cut ≡ Upto cuts
    → length cuts.each ≡ length c.series
onward_counted c (Upto new) on cuts is =
    let same : new ≡ cuts = cc is in
    ap (λ (k : CutsParts). length k.each) (sym same) ∙ as_many c.series new.each on.1
onward_counted c End on cuts is = absurd (cc is)

-- what is printed newly and saved is the outcome of the session
pub is_resumed : (ending : Option SavedCutValue) (c : CheckpointParts) (rows : List (List Snapshot)) (list : List Snapshot) (next : Option CheckpointParts)
    (save : Option SaveValue) → list ≡ newly c rows (end_after ending c) → next ≡ next_by c rows (end_after ending c) → save ≡ saved_of ending next
    → outcome_of (lines_of list) save ≡ resumed ending c rows
is_resumed None c rows list next save printed left saved = λ i. outcome_of (lines_of (printed i)) (saved i)
is_resumed (Some cut) c rows list next save printed left saved =
    let named = saved ∙ ap (saved_of (Some cut)) left in
    λ i. outcome_of (lines_of (printed i)) (named i)

-- something is saved exactly where it ends by a cut
some_saved : (save : Option Save) → is_some (save_of save) ≡ is_some save
some_saved None = refl
some_saved (Some save) = refl

some_left : (ending : Option SavedCutValue) (c : CheckpointParts) (rows : List (List Snapshot)) → is_some (saved_of ending (next_by c rows (end_after ending c))) ≡ is_some ending
some_left None c rows = refl
some_left (Some cut) c rows = refl

pub fits_saved : (ending : Option SavedCutValue) (c : CheckpointParts) (rows : List (List Snapshot)) (next : Option CheckpointParts) (save : Option Save)
    → next ≡ next_by c rows (end_after ending c) → save_of save ≡ saved_of ending next → IsSome save ↔ IsSome ending
fits_saved ending c rows next save left saved =
    let same : is_some save ≡ is_some ending =
    sym (some_saved save) ∙ ap is_some (saved ∙ ap (saved_of ending) left) ∙ some_left ending c rows in
    (λ some. sym same ∙ some, λ some. same ∙ some)

-- Of a checkpoint: the bounds of the session, and the names of its inputs, as they were passed on.
module _ (ending : Option SavedCutValue) (c : CheckpointParts) (now : List ℕ → List ℕ) (checkpoint : List ℕ) (binds : List Binding) (bounds : ℕ → Bounds)
    (names : List (List ℕ)) (shelf : Reading) (same_files : now ≡ shelf.files) (bounded : bounds ≡ later_bounds (end_after ending c) c)
    (same_names : names ≡ inputs_of c) where
  -- the rows are those of its inputs
  pub resume_read : (rows : List (List Snapshot)) → TakesSession now binds bounds names rows
      → TakesSession shelf.files binds (later_bounds (end_after ending c) c) (inputs_of c) rows
  resume_read rows read = rw (same_files, bounded, same_names) at read

  module _ (taken : shelf.tells → GoesOn ending (shelf.files checkpoint) c) where
    -- it is the turn of one of its inputs
    pub resume_turn : (name : List ℕ) → HasSessionTurn shelf.tells now binds bounds names name
        → HasFileTurn (resume_row ending checkpoint) shelf.tells shelf.files checkpoint binds name
    resume_turn name turn =
        turn_of_input (resume_row ending checkpoint) shelf.tells shelf.files checkpoint binds c taken name (rw (same_files, bounded, same_names) at turn)

    -- one of its inputs isn't taken
    pub resume_undone : (mid : ℕ) → shelf.faults_before ≤ mid → (report : Report)
        → IsLoadFault shelf.tells (RefusesSession now binds bounds names) (HasSessionTurn shelf.tells now binds bounds names) mid shelf.faults_after report
        → IsUndone (resume_row ending checkpoint) checkpoint binds shelf report
    resume_undone mid low report fault =
        inputs_undone (resume_row ending checkpoint) checkpoint binds shelf c mid taken low report (rw (same_files, bounded, same_names) at fault)

    -- its files were read
    pub resume_bytes : shelf.tells → (mid : ℕ) → mid ≡ added_count shelf.given_before (length (shelf.files checkpoint))
        → (mid ≤ last_count → shelf.given_after ≡ added_count mid (bytes_of_inputs now binds names)) → IsRead (resume_row ending checkpoint) checkpoint binds shelf
    resume_bytes told mid first then =
        both_read (resume_row ending checkpoint) checkpoint binds shelf c mid (taken told) first (λ low. rw (same_files, same_names) at (then low))
