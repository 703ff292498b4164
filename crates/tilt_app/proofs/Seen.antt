-- How the watchers are after the call.
use Rattle.std.proofs.Common.{◌≡◌, ◌⊎◌, inl, inr, List, ℕ, Bool, Option, None, Some, refl, subst}
use Rattle.tilt_app.specs.Cause.{IsUnanswered}
use Rattle.tilt_app.specs.Change.{ShelfChange}
use Rattle.tilt_app.specs.Show.{IsShow, IsUntouched, SeeOfFault, WatchesRun}
use Rattle.tilt_printed.specs.Left.{Left}
use Rattle.tilt_printed.specs.Show.{HaveSeen, HaveSeenInPart, SeeAll, SeePart, shown_of}
use Rattle.tilt_printed.specs.declared.printed.Printed.{Printed}
use Rattle.tilt_printed.specs.declared.unput.Unput.{Unput}
use Rattle.tilt_printed.specs.declared.unput.Unput.TheVariants.{Failed, OutOfMemory}
use Rattle.tilt_printed.specs.Unput.{report_of_unput}
use Rattle.tilt_report.specs.Report.{Outcome, Report, usage, refusal, read_fault, write_fault, save_fault, out_of_memory}
use Rattle.tilt_stream.specs.Snap.{Snapshot}
use Rattle.tilt_cli.specs.Binding.{Binding}
use Rattle.tilt_cli.specs.Command.{CommandValue, watch}

-- what `watch` shows is what `run` prints
run_shown : (tells : Type 0) (files : List ℕ → List ℕ) (command : CommandValue) (query : List ℕ) (binds : List Binding) (plain : Bool) (shown : Option (List Snapshot))
    → command ≡ watch query binds plain → IsShow tells files command shown → (list : List Snapshot) × (shown ≡ Some list) × WatchesRun tells files query binds list
run_shown tells files command query binds plain shown same is = subst (λ (c : CommandValue). IsShow tells files c shown) same is

-- if there was no result, the watchers are as they were
pub unanswered_seen : (is_outcome : Outcome → Type 0) (has_turn : List ℕ → Type 0) (shelf : ShelfChange) (left : Left)
    (is_show : Option (List Snapshot) → Type 0) (report : Report) → IsUntouched left → IsUnanswered is_outcome has_turn shelf report → SeeOfFault left is_show report
unanswered_seen is_outcome has_turn shelf left is_show usage same fault = same.kept
unanswered_seen is_outcome has_turn shelf left is_show (refusal why) same fault = same.kept
unanswered_seen is_outcome has_turn shelf left is_show (read_fault name) same fault = same.kept
unanswered_seen is_outcome has_turn shelf left is_show write_fault same fault = absurd fault
unanswered_seen is_outcome has_turn shelf left is_show (save_fault name) same fault = absurd fault
unanswered_seen is_outcome has_turn shelf left is_show out_of_memory same fault = inl same

-- what was shown if all was written
pub all_shown : (tells : Type 0) (files : List ℕ → List ℕ) (left : Left) (command : CommandValue) (query : List ℕ) (binds : List Binding) (plain : Bool)
    → command ≡ watch query binds plain → (shown : Option (List Snapshot)) × IsShow tells files command shown × SeeAll left shown
    → (list : List Snapshot) × WatchesRun tells files query binds list × HaveSeen left list
all_shown tells files left command query binds plain same (shown, is, all) =
    let run = run_shown tells files command query binds plain shown same is in
    (run.0, run.2, subst (λ (o : Option (List Snapshot)). SeeAll left o) run.1 all)

-- what was shown if not all was written, for this reason
part_of_run : (tells : Type 0) (files : List ℕ → List ℕ) (left : Left) (command : CommandValue) (query : List ℕ) (binds : List Binding) (plain : Bool) (why : Unput)
    → command ≡ watch query binds plain → (shown : Option (List Snapshot)) × IsShow tells files command shown × SeePart why left shown
    → (list : List Snapshot) × WatchesRun tells files query binds list × HaveSeenInPart why left list
part_of_run tells files left command query binds plain why same (shown, is, part) =
    let run = run_shown tells files command query binds plain shown same is in
    (run.0, run.2, subst (λ (o : Option (List Snapshot)). SeePart why left o) run.1 part)

-- if a write or the flush failed
pub part_shown : (tells : Type 0) (files : List ℕ → List ℕ) (left : Left) (command : CommandValue) (query : List ℕ) (binds : List Binding) (plain : Bool) (report : Report)
    → command ≡ watch query binds plain → report ≡ write_fault → SeeOfFault left (IsShow tells files command) report
    → (list : List Snapshot) × WatchesRun tells files query binds list × HaveSeenInPart Failed left list
part_shown tells files left command query binds plain report same fault seen =
    part_of_run tells files left command query binds plain Failed same (subst (λ (r : Report). SeeOfFault left (IsShow tells files command) r) fault seen)

-- and if there was no memory
pub shown_before_want : (tells : Type 0) (files : List ℕ → List ℕ) (left : Left) (command : CommandValue) (query : List ℕ) (binds : List Binding) (plain : Bool) (report : Report)
    → command ≡ watch query binds plain → report ≡ out_of_memory → SeeOfFault left (IsShow tells files command) report
    → IsUntouched left ⊎ ((list : List Snapshot) × WatchesRun tells files query binds list × HaveSeenInPart OutOfMemory left list)
shown_before_want tells files left command query binds plain report same fault seen =
    elim (subst (λ (r : Report). SeeOfFault left (IsShow tells files command) r) fault seen) [
      | inl none ↦ inl none
      | inr part ↦ inr (part_of_run tells files left command query binds plain OutOfMemory same part)
    ]

-- what the watchers were shown if a text wasn't written whole
pub unput_seen : (left : Left) (is_show : Option (List Snapshot) → Type 0) (text : Printed) (unput : Unput) (report : Report) → report ≡ report_of_unput unput
    → is_show (shown_of text) → SeePart unput left (shown_of text) → SeeOfFault left is_show report
unput_seen left is_show text Failed report is show part = rw is (shown_of text, show, part)
unput_seen left is_show text OutOfMemory report is show part = rw is (inr (shown_of text, show, part))

-- nobody sees what isn't shown
shown_to_nobody : (why : Unput) (left : Left) (shown : Option (List Snapshot)) → shown ≡ None → SeePart why left shown → left.kept
shown_to_nobody why left shown none part = subst (λ (o : Option (List Snapshot)). SeePart why left o) none part

seen_by_nobody : (left : Left) (is_show : Option (List Snapshot) → Type 0) → ((shown : Option (List Snapshot)) → is_show shown → shown ≡ None) → (report : Report)
    → SeeOfFault left is_show report → left.kept
seen_by_nobody left is_show none usage seen = seen
seen_by_nobody left is_show none (refusal why) seen = seen
seen_by_nobody left is_show none (read_fault name) seen = seen
seen_by_nobody left is_show none write_fault seen = shown_to_nobody Failed left seen.0 (none seen.0 seen.1) seen.2
seen_by_nobody left is_show none (save_fault name) seen = seen
seen_by_nobody left is_show none out_of_memory (inl same) = same.kept
seen_by_nobody left is_show none out_of_memory (inr part) = shown_to_nobody OutOfMemory left part.0 (none part.0 part.1) part.2

-- a command that isn't `watch` shows nothing
nothing_shown : (tells : Type 0) (files : List ℕ → List ℕ) (command : CommandValue) → ((query : List ℕ) (binds : List Binding) (plain : Bool) → command ≡ watch query binds plain → ⊥)
    → (shown : Option (List Snapshot)) → IsShow tells files command shown → shown ≡ None
nothing_shown tells files (watch query binds plain) none shown is = absurd (none query binds plain refl)
nothing_shown tells files command none shown is = is

kept_of : (left : Left) (shown : Option (List Snapshot)) → shown ≡ None → SeeAll left shown → left.kept
kept_of left shown none all = subst (λ (o : Option (List Snapshot)). SeeAll left o) none all

-- such a command leaves the watchers as they were, if all was written
pub unwatched_all : (tells : Type 0) (files : List ℕ → List ℕ) (left : Left) (command : CommandValue)
    → ((query : List ℕ) (binds : List Binding) (plain : Bool) → command ≡ watch query binds plain → ⊥)
    → (shown : Option (List Snapshot)) × IsShow tells files command shown × SeeAll left shown → left.kept
unwatched_all tells files left command none (shown, is, all) = kept_of left shown (nothing_shown tells files command none shown is) all

-- and if not all was written
pub unwatched_part : (tells : Type 0) (files : List ℕ → List ℕ) (left : Left) (command : CommandValue)
    → ((query : List ℕ) (binds : List Binding) (plain : Bool) → command ≡ watch query binds plain → ⊥) → (report : Report)
    → SeeOfFault left (IsShow tells files command) report → left.kept
unwatched_part tells files left command none report seen =
    seen_by_nobody left (IsShow tells files command) (nothing_shown tells files command none) report seen
