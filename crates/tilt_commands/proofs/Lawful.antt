-- Each row of the table is lawful: files have one outcome for it, and always one.
use Rattle.std.proofs.Common.{◌≡◌, ◌≤◌, ◌∙◌, ◌++◌, ◌⊎◌, not, Bool, List, ℕ, ℤ, ◌*◌, ◌+◌, length, Option, None, Some, Result, Ok, inl, inr, refl, sym, ap}
use Rattle.tilt_base.specs.declared.span.Span.{Span}
use Rattle.tilt_bounds.specs.Margins.{MarginsParts}
use Rattle.tilt_code.specs.Code.{CodeParts}
use Rattle.tilt_code.specs.Listing.{listing}
use Rattle.tilt_code.specs.Run.{run_of}
use Rattle.tilt_commands.proofs.MadeQuery.{core, made_taken, two_inputs}
use Rattle.tilt_commands.proofs.Divided.{parts_once, parts_refused_once, parts_refused_or_taken, parts_taken_or_refused, same_parted, some_parted}
use Rattle.tilt_commands.proofs.Fixing.{fixed-once, fixed-some, fixed-no_usage}
use Rattle.tilt_commands.proofs.Taken.{taken_domain, taken_gives}
use Rattle.tilt_commands.specs.Fixed.{IsFixed, fix_row}
use Rattle.tilt_commands.specs.Query.{IsMadeOfQuery, lone_row, query_row}
use Rattle.tilt_commands.specs.Table.{IsCompiled, compile_row, exec_row, IsExplained, explain_row, flow_row, flow_text, IsPiped, parts_row, pipe_row, run_row, IsTryOutcome, made_inputs}
use Rattle.tilt_commands.specs.Table.{summed, watch_row, Row, reads, reads_last, makes, row_of}
use Rattle.tilt_compiler.specs.Compiled.{IsCodeOf}
use Rattle.tilt_core.specs.Core.{CoreParts}
use Rattle.tilt_core.specs.Meaning.{output_of}
use Rattle.tilt_core.specs.Needs.{Need}
use Rattle.tilt_explain.specs.Explain.{explained}
use Rattle.tilt_fuse.specs.Plan.{plan_of}
use Rattle.tilt_load.proofs.FileCommands.{IsLawful}
use Rattle.tilt_load.proofs.OneCode.{code_once, code_refused_once, code_refused_or_taken, code_taken_or_refused}
use Rattle.tilt_load.proofs.OneFlow.{flow_once, flow_refused_once, flow_refused_or_taken, flow_taken_or_refused}
use Rattle.tilt_load.proofs.OneQuery.{IsQueryFile, query_core, query_taken_or_refused, refused_once, refused_or_taken, taken_once}
use Rattle.tilt_load.specs.QueryFile.{TakesQuery, RefusesQuery}
use Rattle.tilt_lower.specs.Lowering.{code_of}
use Rattle.tilt_made.specs.Summary.{summary_text}
use Rattle.tilt_made.specs.TryQuery.{query_text}
use Rattle.tilt_pipe.specs.Rings.{most_ever}
use Rattle.tilt_printed.specs.Figures.{watched_text}
use Rattle.tilt_printed.specs.Rings.{rings_line}
use Rattle.tilt_report.specs.Report.{Reason, Outcome, printed, refused, usage}
use Rattle.tilt_commands.proofs.LawfulSessions.{start_lawful, resume_lawful}
use Rattle.tilt_stream.specs.Snap.{Snapshot}
use Rattle.tilt_stream.specs.Text.{text_of}
use Rattle.tilt_types.specs.Checked.{core_of}
use Rattle.tilt_watch.specs.Watch.{Watch}
use Rattle.tilt_cli.specs.Command.{CommandValue, IsWithin, run, compile, exec, explain, start, resume_upto, resume_end, pipe, watch, parts, flow, fix, try}

printed_usage : (text : List ℕ) → printed text ≡ refused usage → ⊥
printed_usage text same = cc

same_some : (o : Option (List Snapshot)) (list list' : List Snapshot) → o ≡ Some list → o ≡ Some list' → list ≡ list'
same_some o list list' is is' = cc

same_margins : {m n : MarginsParts} → (let x : Result MarginsParts Need = Ok m in x ≡ Ok n) → m ≡ n
same_margins e = cc

same_domain : {d e : Span} → (let x : Option Span = Some d in x ≡ Some e) → d ≡ e
same_domain e = cc

-- each text is a query that is taken, or is refused
queries : (name bytes : List ℕ) → ((c : CoreParts) × TakesQuery bytes c) ⊎ ((why : Reason) × RefusesQuery name bytes why)
queries name bytes = from (query_taken_or_refused name bytes) where
  from : IsQueryFile bytes ⊎ ((why : Reason) × RefusesQuery name bytes why) → ((c : CoreParts) × TakesQuery bytes c) ⊎ ((why : Reason) × RefusesQuery name bytes why)
  from (inl is) =
      inl (core_of is.query, record { has_core = query_core bytes is.query (core_of is.query) is.says; margins = is.margins; reach = is.near })
  from (inr refuses) = inr refuses

-- a command on queries
query_lawful : (query : List ℕ) (gives : CoreParts → List (List Snapshot) → Outcome → Type 0)
    → ((c : CoreParts) (rows : List (List Snapshot)) (o p : Outcome) → gives c rows o → gives c rows p → o ≡ p)
    → ((bytes : List ℕ) (c : CoreParts) (rows : List (List Snapshot)) → TakesQuery bytes c → length rows ≡ length c.inputs → (o : Outcome) × gives c rows o)
    → ((c : CoreParts) (rows : List (List Snapshot)) → gives c rows (refused usage) → ⊥) → IsLawful (query_row query gives)
query_lawful query gives once some none = record {
  one = taken_once;
  once = refused_once query;
  either = refused_or_taken query;
  some = queries query;
  given_once = once;
  given_some = some;
  no_usage = none;
}

-- a command on queries alone
lone_lawful : (query : List ℕ) (gives : CoreParts → Outcome → Type 0) → ((c : CoreParts) (o p : Outcome) → gives c o → gives c p → o ≡ p)
    → ((bytes : List ℕ) (c : CoreParts) → TakesQuery bytes c → (o : Outcome) × gives c o) → ((c : CoreParts) → gives c (refused usage) → ⊥)
    → IsLawful (lone_row query gives)
lone_lawful query gives once some none = record {
  one = taken_once;
  once = refused_once query;
  either = refused_or_taken query;
  some = queries query;
  given_once = λ c rows o p is is'. once c o p is is';
  given_some = λ bytes c rows taken many. some bytes c taken;
  no_usage = λ c rows is. none c is;
}

-- what makes a text of the snapshots of a query's meaning
made_lawful : (query : List ℕ) (text : List Snapshot → List ℕ) → IsLawful (query_row query (IsMadeOfQuery (λ list. printed (text list))))
made_lawful query text =
    query_lawful query (IsMadeOfQuery (λ list. printed (text list)))
    (λ c rows o p is is'. is.2 ∙ ap (λ (l : List Snapshot). printed (text l)) (same_some (output_of c rows) is.0 is'.0 is.1 is'.1) ∙ sym is'.2)
    (λ bytes c rows taken many. let given = taken_gives bytes c taken rows many in (printed (text given.0), (given.0, given.1, refl)))
    (λ c rows is. printed_usage (text is.0) (sym is.2))

run_lawful : (query : List ℕ) → IsLawful (run_row query)
run_lawful query = made_lawful query text_of

watch_lawful : (query : List ℕ) (watchers : List Watch) → IsLawful (watch_row query watchers)
watch_lawful query watchers = made_lawful query (watched_text watchers)

same_code : (fuse : Bool) (c : CoreParts) (code code' : CodeParts) → IsCodeOf c fuse code → IsCodeOf c fuse code' → code ≡ code'
same_code fuse c code code' is is' =
    let margins = same_margins (sym is.near ∙ is'.near) in
    let domain = same_domain (sym is.stretch ∙ is'.stretch) in
    is.is ∙ (λ i. code_of (plan_of c fuse) c (margins i) (domain i).start (domain i).end) ∙ sym is'.is

some_code : (fuse : Bool) (bytes : List ℕ) (c : CoreParts) → TakesQuery bytes c → (code : CodeParts) × IsCodeOf c fuse code
some_code fuse bytes c taken =
    let domain = taken_domain bytes c taken in (
      code_of (plan_of c fuse) c taken.margins domain.0.start domain.0.end,
      record { margins = taken.margins; domain = domain.0; near = taken.reach; stretch = domain.1; is = refl },
    )

same_piped : (fuse : Bool) (c : CoreParts) (rows : List (List Snapshot)) (o p : Outcome) → IsPiped fuse c rows o → IsPiped fuse c rows p → o ≡ p
same_piped fuse c rows o p is is' =
    let lists = same_some (output_of c rows) is.list is'.list is.means is'.means in
    let codes = same_code fuse c is.code is'.code is.code_is is'.code_is in
    is.is ∙ (λ i. printed (text_of (lists i) ++ rings_line (most_ever (codes i) rows))) ∙ sym is'.is

some_piped : (fuse : Bool) (bytes : List ℕ) (c : CoreParts) (rows : List (List Snapshot)) → TakesQuery bytes c → length rows ≡ length c.inputs
    → (o : Outcome) × IsPiped fuse c rows o
some_piped fuse bytes c rows taken many =
    let given = taken_gives bytes c taken rows many in
    let code = some_code fuse bytes c taken in (
      printed (text_of given.0 ++ rings_line (most_ever code.0 rows)),
      record { list = given.0; code = code.0; means = given.1; code_is = code.1; is = refl },
    )

pipe_lawful : (query : List ℕ) (fuse : Bool) → IsLawful (pipe_row query fuse)
pipe_lawful query fuse = query_lawful query (IsPiped fuse) (same_piped fuse) (some_piped fuse) (λ c rows is. printed_usage _ (sym is.is))

compile_lawful : (query : List ℕ) (fuse : Bool) → IsLawful (compile_row query fuse)
compile_lawful query fuse =
    lone_lawful query (IsCompiled fuse)
    (λ c o p is is'. is.2 ∙ ap (λ (code : CodeParts). printed (listing code)) (same_code fuse c is.0 is'.0 is.1 is'.1) ∙ sym is'.2)
    (λ bytes c taken. let code = some_code fuse bytes c taken in (printed (listing code.0), (code.0, code.1, refl)))
    (λ c is. printed_usage (listing is.0) (sym is.2))

explain_lawful : (query : List ℕ) → IsLawful (explain_row query)
explain_lawful query =
    lone_lawful query IsExplained
    (λ c o p is is'. is.2 ∙ ap (λ (m : MarginsParts). printed (explained c m)) (same_margins (sym is.1 ∙ is'.1)) ∙ sym is'.2)
    (λ bytes c taken. (printed (explained c taken.margins), (taken.margins, taken.reach, refl)))
    (λ c is. printed_usage (explained c is.0) (sym is.2))

exec_lawful : (file : List ℕ) → IsLawful (exec_row file)
exec_lawful file = record {
  one = code_once;
  once = code_refused_once file;
  either = code_refused_or_taken file;
  some = code_taken_or_refused file;
  given_once = λ c rows o p is is'. is ∙ sym is';
  given_some = λ bytes c rows taken many. (printed (text_of (run_of c rows)), refl);
  no_usage = λ c rows is. printed_usage (text_of (run_of c rows)) (sym is);
}

parts_lawful : (query : List ℕ) (cuts : List ℤ) (order : List ℕ) → IsLawful (parts_row query cuts order)
parts_lawful query cuts order = record {
  one = λ bytes c d. parts_once query cuts order bytes c d;
  once = λ bytes r s. parts_refused_once query cuts order bytes r s;
  either = λ bytes r c. parts_refused_or_taken query cuts order bytes r c;
  some = λ bytes. parts_taken_or_refused query cuts order bytes (queries query bytes);
  given_once = λ c rows o p is is'. same_parted cuts c rows o p is is';
  given_some = λ bytes c rows takes many. some_parted cuts bytes c rows takes.taken many;
  no_usage = λ c rows is. printed_usage _ (sym is.is);
}

flow_lawful : (file : List ℕ) → IsLawful (flow_row file)
flow_lawful file = record {
  one = flow_once;
  once = flow_refused_once file;
  either = flow_refused_or_taken file;
  some = flow_taken_or_refused file;
  given_once = λ tree rows o p is is'. is ∙ sym is';
  given_some = λ bytes tree rows taken many. (printed (flow_text tree rows), refl);
  no_usage = λ tree rows is. printed_usage (flow_text tree rows) (sym is);
}

fix_lawful : (query name bytes : List ℕ) → IsLawful (fix_row query name bytes)
fix_lawful query name bytes =
    query_lawful query (IsFixed name bytes) (fixed-once name bytes) (λ text core rows taken many. fixed-some name bytes core rows text taken many)
    (fixed-no_usage name bytes)

-- `try` has one outcome
try_once : (seed count : ℕ) (o p : Outcome) → IsTryOutcome seed count o → IsTryOutcome seed count p → o ≡ p
try_once seed count o p (summed core list taken out) (summed core' list' taken' out') =
    let same = taken_once (query_text count) core core' taken taken' in
    ap (λ (l : List Snapshot). printed (summary_text count l)) (same_some (output_of core (made_inputs seed count)) list list' out (rw (← same) at out'))

-- and always one
try_some : (seed count : ℕ) → count ≤ 1000000 → (o : Outcome) × IsTryOutcome seed count o
try_some seed count few =
    let taken = made_taken count few in
    let given = taken_gives (query_text count) (core (10 * count + 10)) taken (made_inputs seed count) (sym (two_inputs count few (core (10 * count + 10)) taken)) in
    (printed (summary_text count given.0), summed (core (10 * count + 10)) given.0 taken given.1)

-- it isn't usage
no_try_usage : (seed count : ℕ) (o : Outcome) → IsTryOutcome seed count o → o ≡ refused usage → ⊥
no_try_usage seed count o (summed core list taken out) same = cc

-- what is made without files is one outcome, always is one, and isn't that of words that are no command
pub record IsOneOutcome (is_outcome : Outcome → Type 0) : Type 0 where
  pub once : (o p : Outcome) → is_outcome o → is_outcome p → o ≡ p
  pub some : (o : Outcome) × is_outcome o
  pub no_usage : is_outcome (refused usage) → ⊥

-- a row has one outcome, whatever its files hold
abbrev pub IsLawfulRow : Row → Type 0
IsLawfulRow (reads file binds command) = (watchers : List Watch) → IsLawful (command watchers)
IsLawfulRow (reads_last file binds last command) = (bytes : List ℕ) → IsLawful (command bytes)
IsLawfulRow (makes is_outcome) = IsOneOutcome is_outcome

-- each row is lawful
pub rows_lawful : (command : CommandValue) → IsWithin command → IsLawfulRow (row_of command)
rows_lawful (run query binds plain cuts) within = λ watchers. run_lawful query
rows_lawful (compile query plain) within = λ watchers. compile_lawful query (not plain)
rows_lawful (exec code binds) within = λ watchers. exec_lawful code
rows_lawful (explain query) within = λ watchers. explain_lawful query
rows_lawful (start query binds plain upto save) within = λ watchers. start_lawful (record { upto = upto; save = save }) query
rows_lawful (resume_upto checkpoint binds plain upto save) within = λ watchers. resume_lawful (Some (record { upto = upto; save = save })) checkpoint
rows_lawful (resume_end checkpoint binds plain) within = λ watchers. resume_lawful None checkpoint
rows_lawful (pipe query binds plain) within = λ watchers. pipe_lawful query (not plain)
rows_lawful (watch query binds plain) within = λ watchers. watch_lawful query watchers
rows_lawful (parts query binds plain at order) within = λ watchers. parts_lawful query at order
rows_lawful (flow file binds plain) within = λ watchers. flow_lawful file
rows_lawful (fix query binds plain edits) within = fix_lawful query edits
rows_lawful (try seed count) within = record {
  once = try_once seed count;
  some = try_some seed count within.1;
  no_usage = λ is. no_try_usage seed count (refused usage) is refl;
}
