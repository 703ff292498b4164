-- What is read of the spelling of a valid state is the state.
use Rattle.std.proofs.Common.{◌≡◌, ◌⊎◌, ℕ, ◌<◌, ◌≤◌, ◌^◌, List, [], ◌∷◌, ◌++◌, length, Option, Some, Result, Ok, Err, refl, sym, ap, ◌∙◌, subst, arith, inl, inr, length-append}
use Rattle.std.specs.Prelude.{IfOk, IfErr, MatchResult, codes}
use Rattle.std.specs.Fmt.{decimal, signed_decimal}
use Rattle.std.specs.List.{AllByRecursion, flat_map}
use Rattle.tilt_checkpoint.specs.Spelling.{query_lines, row_lines}
use Rattle.tilt_core.specs.Core.{CoreParts}
use Rattle.tilt_feed.specs.declared.update.Update.{Update}
use Rattle.tilt_feed.specs.declared.update.Update.TheVariants.{Row, Value, NoValue, KnownUpTo}
use Rattle.tilt_live_state.proofs.Checks.{rows_of}
use Rattle.tilt_live_state.proofs.Kept.{IsReadable, run-again}
use Rattle.tilt_live_state.specs.Reading.{run_at}
use Rattle.tilt_live_state.specs.Spelling.{head_line, input_lines, line, progress_lines, run_lines, spelled, update_line}
use Rattle.tilt_live_state.specs.State.{InputParts, LiveStateParts}
use Rattle.tilt_live_state.specs.Valid.{HasNumbers, IsInRange, IsInput, IsState, IsStateOf}
use Rattle.tilt_live_state.specs.declared.decoder.Decoded.{Decoded}
use Rattle.tilt_live_state.specs.declared.fault.StateFault.{StateFault}
use Rattle.tilt_live_state.specs.declared.fault.StateFault.TheVariants.{NotAState, OutOfMemory}
use Rattle.tilt_live_state.specs.declared.progress.Progress.{Progress}
use Rattle.tilt_stream.specs.Snap.{Snapshot}
use Rattle.tilt_stream.specs.Text.{cell_text, row_text}
use Rattle.tilt_types.specs.Checked.{core_of}

-- there are no more rows and updates than bytes

row_some : (r : Snapshot) → 1 ≤ length (row_text r)
row_some r = omega (arith, length-append (signed_decimal r.start ++ codes "," ++ signed_decimal r.end ++ codes "," ++ cell_text r.value) (codes "\n"))

rows_fewer : (rows : List Snapshot) → length rows ≤ length (row_lines rows)
rows_fewer [] = omega arith
rows_fewer (r ∷ rows) = omega (arith, row_some r, rows_fewer rows, length-append (row_text r) (row_lines rows))

line_some : (word text : List ℕ) → 1 ≤ length (line word text)
line_some word text = omega (arith, length-append word (32 ∷ (text ++ 10 ∷ [])))

update_some : (u : Update) → 1 ≤ length (update_line u)
update_some (Row start end value) = line_some (codes "row") _
update_some (Value start value) = line_some (codes "value") _
update_some (NoValue start) = line_some (codes "null") _
update_some (KnownUpTo watermark) = line_some (codes "known") _

updates_fewer : (updates : List Update) → length updates ≤ length (flat_map update_line updates)
updates_fewer [] = omega arith
updates_fewer (u ∷ updates) = omega (arith, update_some u, updates_fewer updates, length-append (update_line u) (flat_map update_line updates))

inputs_readable : (lateness : Option ℕ) (inputs : List InputParts) → AllByRecursion (IsInput lateness) inputs
    → AllByRecursion HasNumbers inputs → length (flat_map input_lines inputs) < 2 ^ 63 → AllByRecursion IsReadable inputs
inputs_readable lateness [] are numbers small = tt
inputs_readable lateness (i ∷ inputs) are numbers small =
    let rows = row_lines i.rows in
    let held = flat_map update_line i.held in
    let head = head_line i.edge (length i.rows) (length i.held) in
    let split = length-append (input_lines i) (flat_map input_lines inputs) in
    let parts = length-append head (rows ++ held) in
    let both = length-append rows held in (
      record {
        rows = rows_of i are.0.in_order;
        numbers = numbers.0;
        few_rows = omega (arith, split, parts, both, rows_fewer i.rows);
        few_held = omega (arith, split, parts, both, updates_fewer i.held);
      },
      inputs_readable lateness inputs are.1 numbers.1 (omega (arith, split)),
    )

run_fewer : (p : Progress) (inputs : List InputParts) → length (flat_map input_lines inputs) ≤ length (run_lines p inputs)
run_fewer p inputs =
    let lines = flat_map input_lines inputs in
    omega (arith, length-append (progress_lines p) (lines ++ codes "end\n"), length-append lines (codes "end\n"))

spelled_fewer : (s : LiveStateParts) → length (run_lines s.progress s.inputs) ≤ length (spelled s)
spelled_fewer s =
    let run = run_lines s.progress s.inputs in
    omega (arith, length-append (codes "tilt live 1\n") (query_lines s.query ++ run), length-append (query_lines s.query) run)

-- what is after the query of a valid state is read
pub state-again : (s : LiveStateParts) (bytes : List ℕ) → IsState s → IsInRange s → bytes ≡ spelled s → length bytes < 2 ^ 63
    → run_at (length (core_of s.query).inputs) (run_lines s.progress s.inputs) ≡ Some (s.progress, s.inputs)
state-again s bytes is range e small =
    let few : length (flat_map input_lines s.inputs) < 2 ^ 63 =
    omega (arith, run_fewer s.progress s.inputs, spelled_fewer s, ap (λ (t : List ℕ). length t) e) in
    let readable = inputs_readable s.progress.options.lateness s.inputs is.run.inputs range.inputs few in
    ap (λ (n : ℕ). run_at n (run_lines s.progress s.inputs)) (sym is.run.counted)
    ∙ run-again s.progress s.inputs range.progress readable

-- clauses that follow

abbrev Only : Result Decoded StateFault → List ℕ → Type 0
Only result bytes =
    (s : LiveStateParts) → IsState s → IsInRange s → bytes ≡ spelled s
    → MatchResult result (λ found. found.state ≡ s) (λ fault. fault ≡ OutOfMemory)

bad_memory : ◌≡◌ {A = StateFault} NotAState OutOfMemory → ⊥
bad_memory e = cc e

pub none-spelled : (result : Result Decoded StateFault) (bytes : List ℕ) → Only result bytes
    → IfErr result (λ fault. fault ≡ NotAState → (s : LiveStateParts) → IsState s → IsInRange s → ¬ (bytes ≡ spelled s))
none-spelled (Ok decoded) bytes only = tt
none-spelled (Err fault) bytes only = λ bad s is range e. bad_memory (sym bad ∙ only s is range e)

one_of : (fault : StateFault) → (fault ≡ NotAState) ⊎ (fault ≡ OutOfMemory)
one_of NotAState = inl refl
one_of OutOfMemory = inr refl

pub none-read : (result : Result Decoded StateFault) (bytes : List ℕ)
    → IfOk result (λ decoded. IsState decoded.state × (bytes ≡ spelled decoded.state))
    → ((s : LiveStateParts) → IsState s → ¬ (bytes ≡ spelled s))
    → MatchResult result (λ _. ⊥) (λ fault. (fault ≡ NotAState) ⊎ (fault ≡ OutOfMemory))
none-read (Ok decoded) bytes found none = none decoded.state found.0 found.1
none-read (Err fault) bytes found none = one_of fault

-- a state that was found, of a query with that core, if a valid one is the same
pub found_valid : (found s : LiveStateParts) (core : CoreParts) → core ≡ core_of found.query → found ≡ s → IsState s → IsStateOf core found
found_valid found s core e same is =
    subst (λ (k : CoreParts). IsStateOf k found) (sym e)
    (subst (λ (t : LiveStateParts). IsStateOf (core_of t.query) t) (sym same) is.run)

pub valid_found : (found : LiveStateParts) (core : CoreParts) → core ≡ core_of found.query → IsStateOf core found → IsStateOf (core_of found.query) found
valid_found found core e is = subst (λ (k : CoreParts). IsStateOf k found) e is
