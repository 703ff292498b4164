-- What makes the clause of `fix`, and that its row is lawful.
use Rattle.std.proofs.Common.{◌≡◌, ◌≤◌, ◌⊎◌, ◌∙◌, ◌<◌, ◌^◌, ℕ, List, length, Result, Ok, inl, inr, refl, sym, ap, subst, arith}
use Rattle.std.specs.Prelude.{⊤}
use Rattle.tilt_bounds.specs.Margins.{MarginsParts, margins_of}
use Rattle.tilt_commands.proofs.Corrections.{corrected-once, corrected-some, corrected-no_usage}
use Rattle.tilt_commands.proofs.Doing.{turn_any, undone_any}
use Rattle.tilt_commands.proofs.Taken.{taken_gives}
use Rattle.tilt_commands.specs.Corrections.{IsCorrected, after_edits}
use Rattle.tilt_commands.specs.Fixed.{IsFixed, no_edits, with_edits, fix_row}
use Rattle.tilt_commands.specs.LastFile.{HasLastTurn, earlier, last_turn, IsLastOutcome, IsLastRead}
use Rattle.tilt_commands.specs.Loaded.{refusing_row}
use Rattle.tilt_core.specs.Core.{CoreParts, IsCore}
use Rattle.tilt_core.specs.Needs.{Need}
use Rattle.tilt_edits.specs.declared.edit.Edit.{Edit}
use Rattle.tilt_load.proofs.Loads.{load_fault_weaker}
use Rattle.tilt_load.proofs.OneEdits.{edits_once, edits_refused_once, edits_refused_or_taken, edits_taken_or_refused}
use Rattle.tilt_load.specs.Does.{IsRead, IsUndone, Reading}
use Rattle.tilt_load.specs.EditsFile.{TakesEdits, RefusesEdits}
use Rattle.tilt_load.specs.FileCommand.{HasBytes, HasFileTurn, done}
use Rattle.tilt_load.specs.Load.{IsLoadFault}
use Rattle.tilt_load.specs.QueryFile.{TakesQuery}
use Rattle.tilt_load.specs.SeriesFiles.{TakesInputs}
use Rattle.tilt_outside.proofs.Counts.{added-twice}
use Rattle.tilt_outside.proofs.Puts.{rose_from}
use Rattle.tilt_outside.specs.Counts.{added_count}
use Rattle.tilt_report.specs.Report.{Reason, Outcome, refused, refusal, usage, Report}
use Rattle.tilt_stream.specs.Snap.{Snapshot}
use Rattle.tilt_cli.specs.Binding.{Binding}

-- the inputs of a query that is accepted aren't many
pub inputs_few : (core : CoreParts) → IsCore core → length core.inputs < 2 ^ 32
inputs_few core is = let few = is.few in omega (arith, few)

-- of the query and the edits file of these names, on a shelf that was read
module _ (query name : List ℕ) (binds : List Binding) (shelf : Reading) where
  -- it is the turn of the query file, or of an input
  pub fix_turn : (which : List ℕ) → HasFileTurn (refusing_row query) shelf.tells shelf.files query binds which
      → HasLastTurn (fix_row query name) shelf.files query binds name shelf.tells which
  fix_turn which turn = earlier (turn_any query (IsFixed name (shelf.files name)) shelf.tells shelf.files query binds which turn)

  abbrev IsRefused : Reason → Type 0
  IsRefused why = IsLastOutcome (fix_row query name) shelf.files query binds name (refused (refusal why))

  abbrev IsTurn : List ℕ → Type 0
  IsTurn which = HasLastTurn (fix_row query name) shelf.files query binds name shelf.tells which

  abbrev pub IsNotFixed : Report → Type 0
  IsNotFixed report = IsLoadFault shelf.tells IsRefused IsTurn shelf.faults_before shelf.faults_after report

  -- the query or the rows weren't loaded
  pub loads_undone : (report : Report) → IsUndone (refusing_row query) query binds shelf report → IsNotFixed report
  loads_undone report fault =
      load_fault_weaker shelf.tells shelf.tells _ IsRefused _ IsTurn shelf.faults_before shelf.faults_after shelf.faults_before shelf.faults_after
      (λ t. t) (λ why t is. is) (λ which rose turn. (rose, earlier turn)) report
      (undone_any query (IsFixed name (shelf.files name)) query binds shelf report fault)

  -- of the query and the rows that were loaded
  module _ (core : CoreParts) (rows : List (List Snapshot)) (taken : shelf.tells → TakesQuery (shelf.files query) core)
      (read : shelf.tells → TakesInputs shelf.files binds core.inputs rows) where
    abbrev Gives : Outcome → Type 0
    Gives outcome = IsFixed name (shelf.files name) core rows outcome

    pub fixed : shelf.tells → (outcome : Outcome) → Gives outcome → IsLastOutcome (fix_row query name) shelf.files query binds name outcome
    fixed told outcome gives = done core rows (taken told) (read told) gives

    -- the edits weren't
    pub edits_undone : (mid : ℕ) → shelf.faults_before ≤ mid → (report : Report)
        → IsLoadFault shelf.tells (RefusesEdits core.inputs name (shelf.files name)) (λ which. which ≡ name) mid shelf.faults_after report
        → IsNotFixed report
    edits_undone mid low report fault =
        load_fault_weaker shelf.tells shelf.tells _ IsRefused _ IsTurn mid shelf.faults_after shelf.faults_before shelf.faults_after (λ t. t)
        (λ why t is. fixed t (refused (refusal why)) (no_edits why is))
        (λ which rose same. (
          rose_from shelf.faults_before mid shelf.faults_after low rose,
          rw same (last_turn (λ t. record { says = core; taken = taken t; rows = rows; read = read t })),
        )) report fault

    -- an edit was refused
    pub correction_undone : (edits : List Edit) (margins : MarginsParts) → (shelf.tells → TakesEdits core.inputs (shelf.files name) edits)
        → margins_of core ≡ Ok margins → (report : Report)
        → IsLoadFault ⊤ (λ why. IsCorrected core margins rows edits (refused (refusal why))) (λ _. ⊥) 0 0 report → IsNotFixed report
    correction_undone edits margins says near report fault =
        load_fault_weaker ⊤ shelf.tells _ IsRefused _ IsTurn 0 0 shelf.faults_before shelf.faults_after (λ t. tt)
        (λ why t is. fixed t (refused (refusal why)) (with_edits edits margins (says t) near is)) (λ which rose never. absurd never) report fault

  -- all files were read
  pub all_read : (mid : ℕ) (first : Reading) → first.files ≡ shelf.files → first.given_before ≡ shelf.given_before → first.given_after ≡ mid
      → IsRead (refusing_row query) query binds first → shelf.given_after ≡ added_count mid (length (shelf.files name))
      → IsLastRead (fix_row query name) shelf.files query binds name shelf.given_before shelf.given_after
  all_read mid first same before after read then =
      let all = length (shelf.files name) in
      let given : mid ≡ added_count shelf.given_before read.count =
      sym after ∙ read.given ∙ ap (λ (n : ℕ). added_count n read.count) before in
      record {
        count = read.count;
        bytes = subst (λ (files : List ℕ → List ℕ). HasBytes (fix_row query name (shelf.files name)) files query binds read.count) same
            (record { says = read.bytes.says; taken = read.bytes.taken; is = read.bytes.is });
        given = then ∙ ap (λ (n : ℕ). added_count n all) given ∙ added-twice shelf.given_before read.count all;
      }

-- the query with its edits has one outcome
module _ (name bytes : List ℕ) (core : CoreParts) (rows : List (List Snapshot)) where
  same_edits : (edits others : List Edit) (margins more : MarginsParts) (o p : Outcome) → edits ≡ others → margins ≡ more
      → IsCorrected core margins rows edits o → IsCorrected core more rows others p → o ≡ p
  same_edits edits others margins more o p same near is also =
      corrected-once core margins rows edits o p is
      (subst (λ (m : MarginsParts). IsCorrected core m rows edits p) (sym near) (subst (λ (es : List Edit). IsCorrected core more rows es p) (sym same) also))

  same_margins : (m n : MarginsParts) → margins_of core ≡ Ok m → margins_of core ≡ Ok n → m ≡ n
  same_margins m n is also = same_ok (sym is ∙ also) where
    same_ok : (let x : Result MarginsParts Need = Ok m in x ≡ Ok n) → m ≡ n
    same_ok e = cc e

  pub fixed-once : (o p : Outcome) → IsFixed name bytes core rows o → IsFixed name bytes core rows p → o ≡ p
  fixed-once o p (no_edits r is) (no_edits s also) = ap (λ (why : Reason). refused (refusal why)) (edits_refused_once core.inputs name bytes r s is also)
  fixed-once o p (no_edits r is) (with_edits edits margins takes near comes) = absurd (edits_refused_or_taken core.inputs name bytes r edits is takes)
  fixed-once o p (with_edits edits margins takes near comes) (no_edits r is) = absurd (edits_refused_or_taken core.inputs name bytes r edits is takes)
  fixed-once o p (with_edits edits margins takes near comes) (with_edits others more also far goes) =
      same_edits edits others margins more o p (edits_once core.inputs bytes edits others takes also) (same_margins margins more near far) comes goes

  -- and always to one
  by_edits : (query : List ℕ) → TakesQuery query core → length rows ≡ length core.inputs
      → ((edits : List Edit) × TakesEdits core.inputs bytes edits) ⊎ ((r : Reason) × RefusesEdits core.inputs name bytes r)
      → (o : Outcome) × IsFixed name bytes core rows o
  by_edits query taken many (inl (edits, takes)) =
      let given = corrected-some core taken.margins rows edits (λ after same. taken_gives query core taken after (same ∙ many))
      (after_edits (Ok rows) edits) refl in
      (given.0, with_edits edits taken.margins takes taken.reach given.1)
  by_edits query taken many (inr (r, is)) = (refused (refusal r), no_edits r is)

  pub fixed-some : (query : List ℕ) → TakesQuery query core → length rows ≡ length core.inputs → (o : Outcome) × IsFixed name bytes core rows o
  fixed-some query taken many = by_edits query taken many (edits_taken_or_refused core.inputs name bytes)

  -- it isn't usage
  pub fixed-no_usage : IsFixed name bytes core rows (refused usage) → ⊥
  fixed-no_usage is = none (refused usage) is refl where
    none : (o : Outcome) → IsFixed name bytes core rows o → o ≡ refused usage → ⊥
    none o (no_edits r is) same = cc same
    none o (with_edits edits margins takes near comes) same = corrected-no_usage core margins rows edits o comes same
