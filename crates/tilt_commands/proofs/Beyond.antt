-- What sessions hand on from one to the next: what is saved is the checkpoint of all rows, and the next session goes on beyond them.
use Rattle.std.proofs.Common.{◌≡◌, ◌≢◌, ◌∙◌, ◌++◌, ℕ, ℤ, ◌<ℤ◌, ◌≤ℤ◌, Bool, true, false, if◌then◌else◌, List, [], ◌∷◌, Err, Option, None, Some, refl, inl, sym, ap, subst, arith}
use Rattle.std.proofs.lemmas.Int.{ints}
use Rattle.std.specs.List.{AllByRecursion}
use Rattle.std.specs.Option.{ForSome}
use Rattle.std.specs.Prelude.{int_le, neg_ℤ}
use Rattle.tilt_base.proofs.Lists.{all-append}
use Rattle.tilt_base.specs.declared.limits.TheConstants.{T}
use Rattle.tilt_checkpoint.proofs.Framed.{accepted_frame}
use Rattle.tilt_checkpoint.specs.Checkpoint.{CheckpointParts, cuts_of}
use Rattle.tilt_checkpoint.specs.Cuts.{AreCuts, CutsParts}
use Rattle.tilt_checkpoint.specs.Decided.{first_kept, frame_of}
use Rattle.tilt_checkpoint.specs.Spelling.{spelling}
use Rattle.tilt_checkpoint.specs.Valid.{IsAccepted, IsCell, IsCheckpoint}
use Rattle.tilt_session.proofs.Lists.{early-counted, length-added, length-kept_each, new-counted}
use Rattle.tilt_session.proofs.Sessions.{cuts-left, first-valid}
use Rattle.tilt_session.specs.Cuts.{IsInRange, IsOnward, NoneFalls}
use Rattle.tilt_session.specs.Emitted.{emitted}
use Rattle.tilt_session.specs.Kept.{checkpoint_at, kept_each}
use Rattle.tilt_session.specs.Later.{newly, next}
use Rattle.tilt_session.specs.Law.{IsCheckpointOf, IsOneCut}
use Rattle.tilt_session.specs.NewRows.{AreEarly, AreFirstRows, AreLate, AreNewRows, IsLate, StartBefore, added}
use Rattle.tilt_session.specs.declared.cut.Cut.{Cut}
use Rattle.tilt_session.specs.declared.cut.Cut.TheVariants.{Upto, End}
use Rattle.tilt_load.proofs.GivenCuts.{by_counted}
use Rattle.tilt_load.proofs.InputRows.{read_many}
use Rattle.tilt_load.proofs.OneCheckpoint.{checkpoint_once}
use Rattle.tilt_load.proofs.ReadRows.{AreNumbers, inputs_good, inputs_no_checkpoint}
use Rattle.tilt_load.specs.CheckpointFile.{TakesCheckpoint, long, of_none}
use Rattle.tilt_load.specs.Does.{IsUndone, Reading}
use Rattle.tilt_load.specs.FileCommand.{IsFileOutcome, no_file, no_inputs, done}
use Rattle.tilt_load.specs.InputCuts as cuts
use Rattle.tilt_load.specs.SeriesFiles.{RefusesSession, TakesSession, by_names, by_series}
use Rattle.tilt_report.specs.Report.{Outcome, Reason, Report, bad_checkpoint, printed_and_saved, refused, refusal, usage, read_fault, write_fault, save_fault, out_of_memory}
use Rattle.tilt_commands.proofs.Handed.{AreCounted, first_handed, later_handed}
use Rattle.tilt_commands.proofs.Resumed.{given_counted}
use Rattle.tilt_commands.specs.HandsOn.{AreHanded, HandsOn, IsBegun, IsBeyond, IsHandedOn, beyond_outcome, end_of}
use Rattle.tilt_commands.specs.Resume.{GoesOn, RefusesToGoOn, no_checkpoint, no_cuts, back, end_after, inputs_of, later_bounds, resume_row, resumed}
use Rattle.tilt_commands.specs.SavedCut.{RefusesEnd, SavedCutValue, faulty_end}
use Rattle.tilt_commands.specs.Start.{StartsBy, StartsFrom, cuts_at, first_bounds, started}
use Rattle.tilt_stream.proofs.Order.{InOrder-after}
use Rattle.tilt_stream.specs.Pieces.{kept}
use Rattle.tilt_stream.specs.Snap.{Snapshot, AreRows, last_end}
use Rattle.tilt_stream.specs.Text.{lines_of}
use Rattle.tilt_syntax.specs.Tree.{StatementTree}
use Rattle.tilt_types.specs.Checked.{core_of}
use Rattle.tilt_cli.specs.Binding.{Binding}

-- rows that are kept have numbers of 64 bits
kept_numbers : (first : ℤ) (rows : List Snapshot) → AreNumbers rows → AreNumbers (kept first rows)
kept_numbers first [] h = tt
kept_numbers first (row ∷ rows) h = by (int_le first row.end) (kept_numbers first rows h.1)
  where
    by : (b : Bool) → AreNumbers (kept first rows) → AreNumbers (if b then row ∷ kept first rows else kept first rows)
    by true more = (h.0, more)
    by false more = more

all_kept : (first : ℤ) (cuts : List ℤ) (rows : List (List Snapshot)) → AllByRecursion AreNumbers rows
    → AllByRecursion (λ k. AreNumbers k.rows) (kept_each first cuts rows)
all_kept first [] rows h = tt
all_kept first (cut ∷ cuts) [] h = tt
all_kept first (cut ∷ cuts) (r ∷ rows) h = (kept_numbers first r h.0, all_kept first cuts rows h.1)

-- the checkpoint of rows is valid
pub handed_valid : (q : List StatementTree) (rows : List (List Snapshot)) (cuts : CutsParts) → AreHanded q rows (Upto cuts) → IsCheckpoint (checkpoint_at q rows cuts)
handed_valid q rows cuts handed =
    first-valid q rows cuts handed.accepted handed.range (accepted_frame q handed.accepted) handed.first handed.in_order
    (all_kept (first_kept (frame_of (core_of q)) cuts.least) cuts.each rows handed.cells)

-- and its text hands them on
hands_all_on : (q : List StatementTree) (rows : List (List Snapshot)) (cuts : CutsParts) → AreHanded q rows (Upto cuts)
    → HandsOn (spelling (checkpoint_at q rows cuts)) q rows cuts
hands_all_on q rows cuts handed = record { handed = handed; valid = handed_valid q rows cuts handed; text = inl refl }

hands_on_after : (ending : Option SavedCutValue) (q : List StatementTree) (all : List (List Snapshot)) → AreHanded q all (end_of ending q)
    → IsHandedOn ending q all
hands_on_after None q all handed = tt
hands_on_after (Some cut) q all handed = hands_all_on q all (cuts_at cut q) handed

-- a query file that is taken has an accepted query
starts_accepted : (bytes : List ℕ) (q : List StatementTree) → StartsFrom bytes q → IsAccepted q
starts_accepted bytes q starts =
    record { parsed = starts.says.valid; well_formed = starts.says.accepted; margins = starts.margins; near = starts.near }

-- what a first session saves hands its rows on
pub first_hands_on : (files : List ℕ → List ℕ) (file : List ℕ) (binds : List Binding) (cut : SavedCutValue) (q : List StatementTree)
    (rows : List (List Snapshot)) (outcome : Outcome) → AreCuts (cuts_at cut q) → StartsBy cut.upto (files file) q
    → TakesSession files binds (first_bounds (cuts_at cut q).each) (core_of q).inputs rows → outcome ≡ started cut q rows
    → IsBegun files file binds cut outcome
first_hands_on files file binds cut q rows outcome range starts read is =
    let bounds = first_bounds (cuts_at cut q).each in
    let good = inputs_good files binds bounds (core_of q).inputs rows read.read in
    let many = read_many files binds bounds (core_of q).inputs rows read.read in
    let handed : AreHanded q rows (Upto (cuts_at cut q)) = record {
      accepted = starts_accepted (files file) q starts.starts;
      range = range;
      in_order = good.in_order;
      cells = good.cells;
      first = first_handed (core_of q) (cuts_at cut q) rows many (by_counted cut.upto (core_of q).inputs ∙ sym many) good.within;
    } in
    record {
      query = q;
      rows = rows;
      says = starts;
      read = read;
      hands_on = hands_all_on q rows (cuts_at cut q) handed;
      is = is;
    }

-- new rows start where others have ended, or after that
new_after : (old : ℤ) (last : Option ℤ) (new : List Snapshot) → AllByRecursion (IsLate old last) new
    → ForSome last (λ end. AllByRecursion (λ row. end ≤ℤ row.start) new)
new_after old last [] are = λ end is. tt
new_after old last (n ∷ new) are = λ end is. (are.0.behind end is, new_after old last new are.1 end is)

-- rows that start before a cut start before one that isn't below it
early_on : (old new : ℤ) (rows : List Snapshot) → old ≤ℤ new → AllByRecursion (λ (row : Snapshot). row.start <ℤ old) rows
    → AllByRecursion (λ (row : Snapshot). row.start <ℤ new) rows
early_on old new [] on early = tt
early_on old new (r ∷ rows) on early =
    let before = early.0 in
    (omega (arith, ints), early_on old new rows on early.1)

-- Rows of a session, and those of sessions before it.
added_order : (first : ℤ) (cuts : List ℤ) (rows new : List (List Snapshot)) → AllByRecursion AreRows rows → AllByRecursion AreRows new
    → AreLate (kept_each first cuts rows) new → AllByRecursion AreRows (added rows new)
added_order first cuts [] new order order' are = tt
added_order first cuts (r ∷ rows) [] order order' are = tt
added_order first [] (r ∷ rows) (n ∷ new) order order' are = absurd are
added_order first (cut ∷ cuts) (r ∷ rows) (n ∷ new) order order' are =
    (InOrder-after (neg_ℤ T) T r n order.0 order'.0 (new_after cut (last_end r) n are.0), added_order first cuts rows new order.1 order'.1 are.1)

added_numbers : (rows new : List (List Snapshot)) → AllByRecursion AreNumbers rows → AllByRecursion AreNumbers new → AllByRecursion AreNumbers (added rows new)
added_numbers [] new cells cells' = tt
added_numbers (r ∷ rows) [] cells cells' = tt
added_numbers (r ∷ rows) (n ∷ new) cells cells' =
    (all-append (λ (row : Snapshot). IsCell row.value) r n cells.0 cells'.0, added_numbers rows new cells.1 cells'.1)

before_added : (olds news : List ℤ) (rows new : List (List Snapshot)) → NoneFalls olds news → StartBefore olds rows → StartBefore news new
    → StartBefore news (added rows new)
before_added [] [] [] new on early early' = tt
before_added [] [] (r ∷ rows) new on early early' = absurd early
before_added [] (cut ∷ news) rows new on early early' = absurd on
before_added (old ∷ olds) [] rows new on early early' = absurd on
before_added (old ∷ olds) (cut ∷ news) [] new on early early' = absurd early
before_added (old ∷ olds) (cut ∷ news) (r ∷ rows) [] on early early' = absurd early'
before_added (old ∷ olds) (cut ∷ news) (r ∷ rows) (n ∷ new) on early early' =
    (all-append (λ (row : Snapshot). row.start <ℤ cut) r n (early_on old cut r on.0 early.0) early'.0, before_added olds news rows new on.1 early.1 early'.1)

added_early : (old : CutsParts) (cut : Cut) (rows new : List (List Snapshot)) → IsOnward old cut → StartBefore old.each rows → AreEarly cut new
    → AreEarly cut (added rows new)
added_early old (Upto cuts) rows new on early early' = before_added old.each cuts.each rows new on.1 early early'
added_early old End rows new on early early' = tt

-- all rows together may be handed to one session
all_handed : (q : List StatementTree) (rows new : List (List Snapshot)) (old : CutsParts) (cut : Cut) → AreHanded q rows (Upto old) → IsInRange cut → IsOnward old cut
    → AreNewRows cut (checkpoint_at q rows old).series new → AllByRecursion AreRows new → AllByRecursion AreNumbers new
    → AreHanded q (added rows new) cut
all_handed q rows new old cut handed range on are order cells =
    let first = first_kept (frame_of (core_of q)) old.least in
    let many = new-counted cut (kept_each first old.each rows) new are ∙ length-kept_each first old.each rows (early-counted old.each rows handed.first.early) in
    record {
      accepted = handed.accepted;
      range = range;
      in_order = added_order first old.each rows new handed.in_order order are.late;
      cells = added_numbers rows new handed.cells cells;
      first = record {
        counted = length-added rows new many ∙ handed.first.counted;
        early = added_early old cut rows new on handed.first.early are.early;
      };
    }

-- the outcome of a session after the checkpoint of rows
beyond_is : (ending : Option SavedCutValue) (q : List StatementTree) (rows new : List (List Snapshot)) (old : CutsParts)
    → ((upto : CutsParts) → end_of ending q ≡ Upto upto → checkpoint_at q (added rows new) upto ≡ next (checkpoint_at q rows old) new upto)
    → resumed ending (checkpoint_at q rows old) new ≡ beyond_outcome ending q (added rows new) (newly (checkpoint_at q rows old) new (end_of ending q))
beyond_is None q rows new old left = refl
beyond_is (Some cut) q rows new old left =
    let same = sym (left (cuts_at cut q) refl) in
    λ i. printed_and_saved (lines_of (newly (checkpoint_at q rows old) new (Upto (cuts_at cut q)))) cut.save (spelling (same i))

module _ (files : List ℕ → List ℕ) (checkpoint : List ℕ) (binds : List Binding) (ending : Option SavedCutValue) (q : List StatementTree)
    (rows : List (List Snapshot)) (old : CutsParts) (hands : HandsOn (files checkpoint) q rows old) where
  abbrev is_of : CheckpointParts
  is_of = checkpoint_at q rows old

  -- its cuts are those
  cuts_are : cuts_of is_of ≡ old
  cuts_are = cuts-left q rows old hands.handed.first

  is_that_of : IsCheckpointOf is_of rows
  is_that_of = record {
    in_order = hands.handed.in_order;
    first = subst (λ (k : CutsParts). AreFirstRows (core_of q) (Upto k) rows) (sym cuts_are) hands.handed.first;
    is = ap (checkpoint_at q rows) (sym cuts_are);
  }

  -- the checkpoint that is read is that of the rows
  one_read : (c : CheckpointParts) → TakesCheckpoint (files checkpoint) c → c ≡ checkpoint_at q rows old
  one_read c taken =
      checkpoint_once checkpoint (files checkpoint) c is_of taken
      (record { short = taken.short; valid = hands.valid; spelled = hands.text })

  beyond_of : (new : List (List Snapshot)) (outcome : Outcome) → IsInRange (end_of ending q) → faulty_end ending (core_of q).inputs ≡ None
      → IsOnward old (end_of ending q) → TakesSession files binds (later_bounds (end_of ending q) is_of) (core_of q).inputs new
      → IsOneCut is_of new (end_of ending q) → outcome ≡ resumed ending is_of new → IsBeyond files binds q rows old ending outcome
  beyond_of new outcome range named on read law is =
      let good = inputs_good files binds (later_bounds (end_of ending q) is_of) (core_of q).inputs new read.read in
      let many = read_many files binds (later_bounds (end_of ending q) is_of) (core_of q).inputs new read.read in
      let paired = early-counted old.each rows hands.handed.first.early in
      let counted = many ∙ sym hands.handed.first.counted ∙ sym (length-kept_each (first_kept (frame_of (core_of q)) old.least) old.each rows paired) in
      let for_each : AreCounted (end_of ending q) new = λ cuts same. given_counted ending (core_of q).inputs cuts same ∙ sym many in
      let are = later_handed (end_of ending q) is_of.series new counted for_each good.within in
      let all = all_handed q rows new old (end_of ending q) hands.handed range on are good.in_order good.cells in
      record {
        more = new;
        beyond = newly is_of new (end_of ending q);
        named = named;
        onward = on;
        read = read;
        handed = all;
        hands_on = hands_on_after ending q (added rows new) all;
        adds = law.printed rows is_that_of ∙ ap (λ (k : CutsParts). emitted (core_of q) rows (Upto k) ++ newly is_of new (end_of ending q)) cuts_are;
        is = is ∙ beyond_is ending q rows new old (λ upto same. law.left rows upto is_that_of same);
      }

  -- a session after it goes on beyond the rows
  pub goes_beyond : (c : CheckpointParts) (new : List (List Snapshot)) (outcome : Outcome) → IsInRange (end_after ending c) → GoesOn ending (files checkpoint) c
      → TakesSession files binds (later_bounds (end_after ending c) c) (inputs_of c) new → IsOneCut c new (end_after ending c)
      → outcome ≡ resumed ending c new → IsBeyond files binds q rows old ending outcome
  goes_beyond c new outcome range goes read law is =
      let same = one_read c goes.taken in
      beyond_of new outcome (subst (λ (d : CheckpointParts). IsInRange (end_after ending d)) same range)
      (subst (λ (d : CheckpointParts). faulty_end ending (inputs_of d) ≡ None) same goes.named)
      (subst (λ (k : CutsParts). IsOnward k (end_of ending q)) cuts_are (subst (λ (d : CheckpointParts). IsOnward (cuts_of d) (end_after ending d)) same goes.onward))
      (subst (λ (d : CheckpointParts). TakesSession files binds (later_bounds (end_after ending d) d) (inputs_of d) new) same read)
      (subst (λ (d : CheckpointParts). IsOneCut d new (end_after ending d)) same law)
      (is ∙ ap (λ (d : CheckpointParts). resumed ending d new) same)

  -- and isn't refused for its checkpoint
  no_bad_cuts : (inputs : List (List ℕ)) (why : Reason) (end : Option SavedCutValue) → RefusesEnd end inputs why → why ≡ bad_checkpoint → ⊥
  no_bad_cuts inputs why None is same = is
  no_bad_cuts inputs why (Some cut) (cuts.by_names name is) same = cc same

  never_bad : (why : Reason) → RefusesToGoOn checkpoint ending (files checkpoint) why → why ≡ bad_checkpoint → ⊥
  never_bad why (no_checkpoint (long over)) same = cc same
  never_bad why (no_checkpoint (of_none short none)) same = none is_of hands.valid hands.text
  never_bad why (no_cuts c taken is) same = no_bad_cuts (inputs_of c) why ending is same
  never_bad why (back c cuts before after taken none ends below) same = cc same

  never_bad_inputs : (c : CheckpointParts) (why : Reason) → RefusesSession files binds (later_bounds (end_after ending c) c) (inputs_of c) why
      → why ≡ bad_checkpoint → ⊥
  never_bad_inputs c why (by_names name is) same = cc same
  never_bad_inputs c why (by_series reason names is) same =
      inputs_no_checkpoint files binds (later_bounds (end_after ending c) c) (inputs_of c) (is ∙ ap Err same)

  refused_why : (outcome : Outcome) (why : Reason) → IsFileOutcome (resume_row ending checkpoint) files checkpoint binds outcome → outcome ≡ refused (refusal why)
      → why ≡ bad_checkpoint → ⊥
  refused_why outcome why (no_file reason is) same bad =
      let e : reason ≡ why = cc same in
      never_bad reason is (e ∙ bad)
  refused_why outcome why (no_inputs c reason taken is) same bad =
      let e : reason ≡ why = cc same in
      never_bad_inputs c reason is (e ∙ bad)
  refused_why outcome why (done c new taken read is) same bad = not_refused ending c new (sym is ∙ same)
    where
      not_refused : (end : Option SavedCutValue) (d : CheckpointParts) (more : List (List Snapshot)) → resumed end d more ≡ refused (refusal why) → ⊥
      not_refused None d more e = cc e
      not_refused (Some cut) d more e = cc e

  pub never_refused : (why : Reason) → IsFileOutcome (resume_row ending checkpoint) files checkpoint binds (refused (refusal why)) → why ≢ bad_checkpoint
  never_refused why is bad = refused_why (refused (refusal why)) why is refl bad

  -- whatever is reported
  pub never_bad_report : (shelf : Reading) → shelf.files ≡ files → shelf.tells → (report : Report) → IsUndone (resume_row ending checkpoint) checkpoint binds shelf report
      → report ≡ refusal bad_checkpoint → ⊥
  never_bad_report shelf same told usage undone is = cc is
  never_bad_report shelf same told (refusal why) undone is =
      let bad : why ≡ bad_checkpoint = cc is in
      never_refused why (subst (λ (held : List ℕ → List ℕ). IsFileOutcome (resume_row ending checkpoint) held checkpoint binds (refused (refusal why))) same (undone told)) bad
  never_bad_report shelf same told (read_fault name) undone is = cc is
  never_bad_report shelf same told write_fault undone is = cc is
  never_bad_report shelf same told (save_fault name) undone is = cc is
  never_bad_report shelf same told out_of_memory undone is = cc is
