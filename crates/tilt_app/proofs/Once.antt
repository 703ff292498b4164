-- Arguments and files have one outcome, and always have one.
use Rattle.std.proofs.Common.{◌≡◌, ◌⊎◌, inl, inr, List, ℕ, refl, subst, sym}
use Rattle.tilt_app.proofs.Rows.{row_once, row_some, row_no_usage}
use Rattle.tilt_app.specs.Outcome.{IsOutcome, IsRowOutcome, no_command, does}
use Rattle.tilt_commands.proofs.Lawful.{rows_lawful}
use Rattle.tilt_commands.specs.Table.{row_of}
use Rattle.tilt_report.specs.Report.{Outcome, refused, usage}
use Rattle.tilt_watch.specs.Watch.{Watch}
use Rattle.tilt_cli.proofs.Decided.{command_or_none}
use Rattle.tilt_cli.proofs.OneCommand.{one_command}
use Rattle.tilt_cli.proofs.Within.{within}
use Rattle.tilt_cli.specs.Command.{CommandValue, IsCommand}

-- a command has one outcome
command_once : (words : List (List ℕ)) (files : List ℕ → List ℕ) (watchers : List Watch) (c : CommandValue) → IsCommand words c → (o p : Outcome)
    → IsRowOutcome files watchers (row_of c) o → IsRowOutcome files watchers (row_of c) p → o ≡ p
command_once words files watchers c is o p = row_once files watchers (row_of c) (rows_lawful c (within words c is)) o p

-- arguments and files have one outcome, since arguments are one command at most
pub outcome_once : (words : List (List ℕ)) (files : List ℕ → List ℕ) (watchers : List Watch) (o p : Outcome)
    → IsOutcome words files watchers o → IsOutcome words files watchers p → o ≡ p
outcome_once words files watchers o p (no_command none) (no_command none') = refl
outcome_once words files watchers o p (no_command none) (does c is outcome) = absurd (none c is)
outcome_once words files watchers o p (does c is outcome) (no_command none) = absurd (none c is)
outcome_once words files watchers o p (does c is outcome) (does d is' outcome') =
    command_once words files watchers c is o p outcome (subst (λ (e : CommandValue). IsRowOutcome files watchers (row_of e) p) (sym (one_command words c d is is')) outcome')

-- a command has another outcome than arguments that are none
pub no_usage : (words : List (List ℕ)) (files : List ℕ → List ℕ) (watchers : List Watch) (c : CommandValue) → IsCommand words c
    → IsRowOutcome files watchers (row_of c) (refused usage) → ⊥
no_usage words files watchers c is outcome = row_no_usage files watchers (row_of c) (rows_lawful c (within words c is)) outcome

some_outcome : (words : List (List ℕ)) (files : List ℕ → List ℕ) (watchers : List Watch)
    → (((command : CommandValue) × IsCommand words command) ⊎ ((command : CommandValue) → ¬ (IsCommand words command))) → (o : Outcome) × IsOutcome words files watchers o
some_outcome words files watchers (inl (c, is)) =
    let some = row_some files watchers (row_of c) (rows_lawful c (within words c is)) in
    (some.0, does c is some.1)
some_outcome words files watchers (inr none) = (refused usage, no_command none)

-- arguments and files always have an outcome
pub outcome_some : (words : List (List ℕ)) (files : List ℕ → List ℕ) (watchers : List Watch) → (o : Outcome) × IsOutcome words files watchers o
outcome_some words files watchers = some_outcome words files watchers (command_or_none words)
