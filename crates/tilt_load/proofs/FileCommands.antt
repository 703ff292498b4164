-- A command that is given a file and binds has one outcome, and what makes the clauses of a function that does it.
use Rattle.std.proofs.Common.{◌≡◌, ◌+◌, ◌⊎◌, ◌≤◌, ℕ, List, [], length, Err, refl, inl, inr, ap, sym, subst, ◌∙◌, arith}
use Rattle.tilt_load.proofs.InputRows.{read_many}
use Rattle.tilt_load.proofs.Loads.{load_fault_weaker}
use Rattle.tilt_load.proofs.OneSeries.{inputs_once, inputs_refused_once, inputs_refused_or_taken, inputs_taken_or_refused}
use Rattle.tilt_load.specs.Does.{Does, IsRead, IsUndone, Reading}
use Rattle.tilt_load.specs.FileCommand.{FileCommand, IsFileOutcome, no_file, no_inputs, done, HasFileTurn, own_turn, input_turn}
use Rattle.tilt_load.specs.Inputs.{bytes_of_inputs}
use Rattle.tilt_load.specs.Load.{IsLoadFault, HasSessionTurn}
use Rattle.tilt_load.specs.SeriesFiles.{TakesSession, RefusesSession}
use Rattle.tilt_outside.proofs.Counts.{added-twice}
use Rattle.tilt_outside.proofs.Puts.{rose_from}
use Rattle.tilt_outside.specs.Counts.{added_count, last_count}
use Rattle.tilt_report.specs.Report.{Reason, Outcome, refused, Report, refusal, usage, report_of}
use Rattle.tilt_report.specs.declared.fault.Fault.{Fault}
use Rattle.tilt_stream.specs.Snap.{Snapshot}
use Rattle.tilt_cli.specs.Binding.{Binding}

-- What makes a command have one outcome. Each file says one thing or is rejected for one reason, and always one of the two. On rows that are read the command has one outcome, which isn't usage.
pub record IsLawful (command : FileCommand) : Type 0 where
  pub one : (bytes : List ℕ) (a b : command.Says) → command.takes bytes a → command.takes bytes b → a ≡ b
  pub once : (bytes : List ℕ) (r s : Reason) → command.refuses bytes r → command.refuses bytes s → r ≡ s
  pub either : (bytes : List ℕ) (r : Reason) (a : command.Says) → command.refuses bytes r → command.takes bytes a → ⊥
  pub some : (bytes : List ℕ) → ((a : command.Says) × command.takes bytes a) ⊎ ((r : Reason) × command.refuses bytes r)
  pub given_once : (a : command.Says) (rows : List (List Snapshot)) (o p : Outcome) → command.gives a rows o → command.gives a rows p → o ≡ p
  pub given_some : (bytes : List ℕ) (a : command.Says) (rows : List (List Snapshot)) → command.takes bytes a → length rows ≡ length (command.inputs a)
      → (o : Outcome) × command.gives a rows o
  pub no_usage : (a : command.Says) (rows : List (List Snapshot)) → command.gives a rows (refused usage) → ⊥

module _ (command : FileCommand) (lawful : IsLawful command) (files : List ℕ → List ℕ) (file : List ℕ) (binds : List Binding) where
  -- its inputs have one list of rows each
  abbrev Takes : command.Says → List (List Snapshot) → Type 0
  Takes a rows = TakesSession files binds (command.within a) (command.inputs a) rows

  -- or are rejected
  abbrev Refuses : command.Says → Reason → Type 0
  Refuses a why = RefusesSession files binds (command.within a) (command.inputs a) why

  abbrev Is : Outcome → Type 0
  Is o = IsFileOutcome command files file binds o

  same_refused : (a b : command.Says) → a ≡ b → (r s : Reason) → Refuses a r → Refuses b s → r ≡ s
  same_refused a b same r s is is' =
      inputs_refused_once files binds (command.inputs a) r s is (subst (λ (x : command.Says). Refuses x s) (sym same) is')

  not_both : (a b : command.Says) → a ≡ b → (r : Reason) (rows : List (List Snapshot)) → Refuses a r → Takes b rows → ⊥
  not_both a b same r rows is read =
      inputs_refused_or_taken files binds (command.inputs a) r rows is (subst (λ (x : command.Says). Takes x rows) (sym same) read)

  same_outcome : (o p : Outcome) (a b : command.Says) → a ≡ b → (rows rows' : List (List Snapshot)) → Takes a rows → Takes b rows'
      → command.gives a rows o → command.gives b rows' p → o ≡ p
  same_outcome o p a b same rows rows' read read' gives gives' =
      let back = subst (λ (x : command.Says). Takes x rows') (sym same) read' in
      let both = inputs_once files binds (command.inputs a) rows rows' read back in
      let there = subst (λ (x : command.Says). command.gives x rows' p) (sym same) gives' in
      lawful.given_once a rows o p gives (subst (λ (rs : List (List Snapshot)). command.gives a rs p) (sym both) there)

  abbrev why_refused : Reason → Outcome
  why_refused why = refused (refusal why)

  -- files have one outcome for the command
  pub file_once : (o p : Outcome) → Is o → Is p → o ≡ p
  file_once o p (no_file r is) (no_file s is') = ap why_refused (lawful.once (files file) r s is is')
  file_once o p (no_file r is) (no_inputs a s taken is') = absurd (lawful.either (files file) r a is taken)
  file_once o p (no_file r is) (done a rows taken read gives) = absurd (lawful.either (files file) r a is taken)
  file_once o p (no_inputs a r taken is) (no_file s is') = absurd (lawful.either (files file) s a is' taken)
  file_once o p (no_inputs a r taken is) (no_inputs b s taken' is') =
      ap why_refused (same_refused a b (lawful.one (files file) a b taken taken') r s is is')
  file_once o p (no_inputs a r taken is) (done b rows taken' read gives) =
      absurd (not_both a b (lawful.one (files file) a b taken taken') r rows is read)
  file_once o p (done a rows taken read gives) (no_file s is') = absurd (lawful.either (files file) s a is' taken)
  file_once o p (done a rows taken read gives) (no_inputs b s taken' is') =
      absurd (not_both b a (lawful.one (files file) b a taken' taken) s rows is' read)
  file_once o p (done a rows taken read gives) (done b rows' taken' read' gives') =
      same_outcome o p a b (lawful.one (files file) a b taken taken') rows rows' read read' gives gives'

  -- and always one
  inputs_some : (a : command.Says) → command.takes (files file) a → ((rows : List (List Snapshot)) × Takes a rows) ⊎ ((r : Reason) × Refuses a r)
      → (o : Outcome) × Is o
  inputs_some a taken (inl (rows, read)) =
      let given = lawful.given_some (files file) a rows taken (read_many files binds (command.within a) (command.inputs a) rows read.read) in
      (given.0, done a rows taken read given.1)
  inputs_some a taken (inr (r, is)) = (why_refused r, no_inputs a r taken is)

  file_or_none : ((a : command.Says) × command.takes (files file) a) ⊎ ((r : Reason) × command.refuses (files file) r) → (o : Outcome) × Is o
  file_or_none (inl (a, taken)) = inputs_some a taken (inputs_taken_or_refused files binds (command.within a) (command.inputs a))
  file_or_none (inr (r, is)) = (why_refused r, no_file r is)

  pub file_some : (o : Outcome) × Is o
  file_some = file_or_none (lawful.some (files file))

  -- it isn't usage
  pub no_file_usage : (o : Outcome) → Is o → o ≡ refused usage → ⊥
  no_file_usage o (no_file why is) same = cc
  no_file_usage o (no_inputs a why taken is) same = cc
  no_file_usage o (done a rows taken read gives) same = lawful.no_usage a rows (subst (command.gives a rows) same gives)

-- the turn of an input is a file's turn
pub turn_of_input : (command : FileCommand) (tells : Type 0) (files : List ℕ → List ℕ) (file : List ℕ) (binds : List Binding) (says : command.Says)
    → (tells → command.takes (files file) says) → (name : List ℕ)
    → HasSessionTurn tells files binds (command.within says) (command.inputs says) name → HasFileTurn command tells files file binds name
turn_of_input command tells files file binds says taken name turn =
    rw (← turn.is) (input_turn turn.bind turn.among (λ t. record { says = says; taken = taken t; input = turn.next t }))

-- why a command isn't done, on a shelf that was read
module _ (command : FileCommand) (file : List ℕ) (binds : List Binding) (shelf : Reading) where
  abbrev IsRefused : Reason → Type 0
  IsRefused why = IsFileOutcome command shelf.files file binds (refused (refusal why))

  abbrev IsTurn : List ℕ → Type 0
  IsTurn name = HasFileTurn command shelf.tells shelf.files file binds name

  -- its file isn't taken
  pub file_undone : (report : Report)
      → IsLoadFault shelf.tells (command.refuses (shelf.files file)) (λ which. which ≡ file) shelf.faults_before shelf.faults_after report
      → IsUndone command file binds shelf report
  file_undone report fault =
      load_fault_weaker shelf.tells shelf.tells (command.refuses (shelf.files file)) IsRefused (λ which. which ≡ file) IsTurn
      shelf.faults_before shelf.faults_after shelf.faults_before shelf.faults_after (λ t. t) (λ why t r. no_file why r)
      (λ name rose same. (rose, rw same own_turn)) report fault

  -- an input isn't taken
  pub inputs_undone : (says : command.Says) (mid : ℕ) → (shelf.tells → command.takes (shelf.files file) says) → shelf.faults_before ≤ mid → (report : Report)
      → IsLoadFault shelf.tells (RefusesSession shelf.files binds (command.within says) (command.inputs says))
      (HasSessionTurn shelf.tells shelf.files binds (command.within says) (command.inputs says)) mid shelf.faults_after report
      → IsUndone command file binds shelf report
  inputs_undone says mid taken low report fault =
      load_fault_weaker shelf.tells shelf.tells (RefusesSession shelf.files binds (command.within says) (command.inputs says)) IsRefused
      (HasSessionTurn shelf.tells shelf.files binds (command.within says) (command.inputs says)) IsTurn
      mid shelf.faults_after shelf.faults_before shelf.faults_after (λ t. t) (λ why t r. no_inputs says why (taken t) r)
      (λ name rose turn. (
        rose_from shelf.faults_before mid shelf.faults_after low rose,
        turn_of_input command shelf.tells shelf.files file binds says taken name turn,
      )) report fault

  -- the file and its inputs were read
  pub both_read : (says : command.Says) (mid : ℕ) → command.takes (shelf.files file) says
      → mid ≡ added_count shelf.given_before (length (shelf.files file))
      → (mid ≤ last_count → shelf.given_after ≡ added_count mid (bytes_of_inputs shelf.files binds (command.inputs says)))
      → IsRead command file binds shelf
  both_read says mid taken first then =
      let all = bytes_of_inputs shelf.files binds (command.inputs says) in
      let low : mid ≤ last_count = omega arith in
      record {
        count = length (shelf.files file) + all;
        bytes = record { says = says; taken = taken; is = refl };
        given = then low ∙ ap (λ (m : ℕ). added_count m all) first ∙ added-twice shelf.given_before (length (shelf.files file)) all;
      }

  -- the file was read, which has no inputs
  pub one_read : (says : command.Says) → command.takes (shelf.files file) says → command.inputs says ≡ []
      → shelf.given_after ≡ added_count shelf.given_before (length (shelf.files file)) → IsRead command file binds shelf
  one_read says taken none first =
      let is : length (shelf.files file) ≡ length (shelf.files file) + bytes_of_inputs shelf.files binds (command.inputs says) = rw none (omega arith) in
      record { count = length (shelf.files file); bytes = record { says = says; taken = taken; is = is }; given = first }

-- a command that isn't done
pub not_done : {T W : Type 0} {command : W → FileCommand} {comes : W → T → Outcome} {keeps : T → Type 0} {file : List ℕ} {binds : List Binding} {shelf : Reading}
    (fault : Fault) → ((beside : W) → IsUndone (command beside) file binds shelf (report_of fault)) → shelf.rest
    → Does command comes keeps file binds shelf (Err fault)
not_done fault undone rest = record { made = λ told. tt; kept = tt; fault = undone; read = λ told. tt; rest = rest }
