-- What a first session does, where its query and its inputs are taken.
use Rattle.std.proofs.Common.{◌≡◌, ◌∙◌, ◌≤◌, ℕ, ℤ, List, None, Ok, length, sym, ap, subst}
use Rattle.tilt_bounds.specs.Margins.{margins_of}
use Rattle.tilt_checkpoint.specs.Cuts.{CutsParts}
use Rattle.tilt_checkpoint.specs.Spelling.{spelling}
use Rattle.tilt_types.proofs.CheckedCore.{checked-core}
use Rattle.tilt_session.specs.Emitted.{emitted}
use Rattle.tilt_session.specs.Kept.{checkpoint_at}
use Rattle.tilt_session.specs.declared.cut.Cut.TheVariants.{Upto}
use Rattle.tilt_core.specs.Core.{CoreParts}
use Rattle.tilt_load.proofs.FileCommands.{both_read, inputs_undone, turn_of_input}
use Rattle.tilt_load.specs.Does.{IsRead, IsUndone, Reading}
use Rattle.tilt_load.specs.FileCommand.{HasFileTurn}
use Rattle.tilt_load.specs.InputCuts.{RefusesCuts, cuts_by, faulty_cut}
use Rattle.tilt_load.specs.Inputs.{bytes_of_inputs}
use Rattle.tilt_load.specs.Load.{IsLoadFault, HasSessionTurn}
use Rattle.tilt_load.specs.QueryFile.{HasQuery, TakesQuery}
use Rattle.tilt_load.specs.SeriesFiles.{RefusesSession, TakesSession}
use Rattle.tilt_outside.specs.Counts.{added_count, last_count}
use Rattle.tilt_report.specs.Report.{Reason, Report, printed_and_saved}
use Rattle.tilt_series.specs.Series.{Bounds}
use Rattle.tilt_commands.specs.SavedCut.{SavedCutValue}
use Rattle.tilt_commands.specs.Start.{RefusesToStart, StartsBy, StartsFrom, cuts_at, first_bounds, no_start, start_row, started}
use Rattle.tilt_stream.specs.Snap.{Snapshot}
use Rattle.tilt_stream.specs.Text.{text_of}
use Rattle.tilt_syntax.specs.Tree.{StatementTree}
use Rattle.tilt_types.specs.Checked.{checked, core_of}
use Rattle.tilt_cli.specs.Binding.{Binding}
use Rattle.tilt_cli.specs.Upto.{UptoValue}

-- Of a query, with its core: the names of its inputs, and the cut of the session, as they were passed on.
module _ (q : List StatementTree) (core : CoreParts) (accepted : checked q ≡ Ok core) where
  pub starts_from : (bytes : List ℕ) → HasQuery bytes q core → TakesQuery bytes core → StartsFrom bytes q
  starts_from bytes has taken =
      let same = checked-core q core accepted in
      record {
        says = subst (λ (c : CoreParts). HasQuery bytes q c) (sym same) has;
        margins = taken.margins;
        near = ap margins_of same ∙ taken.reach;
      }

  -- what is printed and saved is the outcome of the session
  pub is_started : (cut : SavedCutValue) (cuts : CutsParts) (rows : List (List Snapshot)) (list : List Snapshot) (save bytes : List ℕ) → save ≡ cut.save
      → cuts ≡ cuts_at cut q → list ≡ emitted core rows (Upto cuts) → bytes ≡ spelling (checkpoint_at q rows cuts)
      → printed_and_saved (text_of list) save bytes ≡ started cut q rows
  is_started cut cuts rows list save bytes named at printed saved =
      let same = checked-core q core accepted in
      let text : list ≡ emitted (core_of q) rows (Upto (cuts_at cut q)) = printed ∙ (λ i. emitted (sym same i) rows (Upto (at i))) in
      let left : bytes ≡ spelling (checkpoint_at q rows (cuts_at cut q)) = saved ∙ ap (λ (k : CutsParts). spelling (checkpoint_at q rows k)) at in
      λ i. printed_and_saved (text_of (text i)) (named i) (left i)

  -- the cuts are those of the query's inputs
  pub cuts_given : (cut : SavedCutValue) (cuts : CutsParts) (names : List (List ℕ)) → names ≡ core.inputs → cuts ≡ cuts_by cut.upto names → cuts ≡ cuts_at cut q
  cuts_given cut cuts names same_names is =
      let same = checked-core q core accepted in
      is ∙ ap (cuts_by cut.upto) (same_names ∙ ap (λ (c : CoreParts). c.inputs) (sym same))

  pub starts_by : (upto : UptoValue) (bytes : List ℕ) (names : List (List ℕ)) → names ≡ core.inputs → StartsFrom bytes q → faulty_cut names upto ≡ None
      → StartsBy upto bytes q
  starts_by upto bytes names same_names starts none =
      let same = checked-core q core accepted in
      record { starts = starts; named = ap (λ (ns : List (List ℕ)). faulty_cut ns upto) (ap (λ (c : CoreParts). c.inputs) same ∙ sym same_names) ∙ none }

  pub cuts_refused : (upto : UptoValue) (name bytes : List ℕ) (names : List (List ℕ)) (why : Reason) → names ≡ core.inputs → StartsFrom bytes q
      → RefusesCuts names upto why → RefusesToStart name upto bytes why
  cuts_refused upto name bytes names why same_names starts is =
      let same = checked-core q core accepted in
      no_start q starts (subst (λ (ns : List (List ℕ)). RefusesCuts ns upto why) (same_names ∙ ap (λ (c : CoreParts). c.inputs) (sym same)) is)

  module _ (cut : SavedCutValue) (now : List ℕ → List ℕ) (query : List ℕ) (binds : List Binding) (bounds : ℕ → Bounds) (names : List (List ℕ)) (shelf : Reading)
      (same_files : now ≡ shelf.files) (bounded : bounds ≡ first_bounds (cuts_at cut q).each) (same_names : names ≡ core.inputs) where
    -- the rows are those of its inputs
    pub start_read : (rows : List (List Snapshot)) → TakesSession now binds bounds names rows
        → TakesSession shelf.files binds (first_bounds (cuts_at cut q).each) (core_of q).inputs rows
    start_read rows read =
        let same = checked-core q core accepted in
        rw (same_files, bounded, same_names, ← same) at read

    module _ (starts : shelf.tells → StartsBy cut.upto (shelf.files query) q) where
      -- it is the turn of one of its inputs
      pub start_turn : (name : List ℕ) → HasSessionTurn shelf.tells now binds bounds names name
          → HasFileTurn (start_row cut query) shelf.tells shelf.files query binds name
      start_turn name turn =
          let same = checked-core q core accepted in
          turn_of_input (start_row cut query) shelf.tells shelf.files query binds q starts name (rw (same_files, bounded, same_names, ← same) at turn)

      -- one of its inputs isn't taken
      pub start_undone : (mid : ℕ) → shelf.faults_before ≤ mid → (report : Report)
          → IsLoadFault shelf.tells (RefusesSession now binds bounds names) (HasSessionTurn shelf.tells now binds bounds names)
          mid shelf.faults_after report
          → IsUndone (start_row cut query) query binds shelf report
      start_undone mid low report fault =
          let same = checked-core q core accepted in
          inputs_undone (start_row cut query) query binds shelf q mid starts low report (rw (same_files, bounded, same_names, ← same) at fault)

      -- its files were read
      pub start_bytes : shelf.tells → (mid : ℕ) → mid ≡ added_count shelf.given_before (length (shelf.files query))
          → (mid ≤ last_count → shelf.given_after ≡ added_count mid (bytes_of_inputs now binds names)) → IsRead (start_row cut query) query binds shelf
      start_bytes told mid first then =
          let same = checked-core q core accepted in
          both_read (start_row cut query) query binds shelf q mid (starts told) first (λ low. rw (same_files, same_names, ← same) at (then low))
