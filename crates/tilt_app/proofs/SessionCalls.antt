-- Sessions that go on from one another are one run.
use Rattle.std.proofs.Common.{◌≡◌, ◌∙◌, ◌++◌, ℕ, List, [], ◌∷◌, Bool, true, false, if◌then◌else◌, length, append_assoc, append-nil, Option, None, Some, refl, sym, ap, subst}
use Rattle.std.specs.Prelude.{◌⊎◌, codes, is_some}
use Rattle.std.proofs.Common.{inl, inr}
use Rattle.std.specs.List.{AllByRecursion}
use Rattle.std.proofs.lemmas.Option.{none-some}
use Rattle.tilt_app.specs.Continued.{IsLeft}
use Rattle.tilt_app.specs.Outcome.{does}
use Rattle.tilt_app.specs.Saving.{IsSaved}
use Rattle.tilt_app.specs.SessionCalls.{AreHandedOn, AreRead, AreSessions, DidContinue, IsOneRun, IsReadBy, SessionCall}
use Rattle.tilt_app.specs.SessionCalls.{binds_of, checkpoint_name, out_of, query_name, saved_name, shelf_of, texts_of}
use Rattle.tilt_checkpoint.specs.Cuts.{CutsParts}
use Rattle.tilt_checkpoint.specs.Spelling.{spelling}
use Rattle.tilt_commands.proofs.Taken.{taken_domain}
use Rattle.tilt_commands.specs.HandsOn.{HandsOn, IsBegun, IsBeyond}
use Rattle.tilt_commands.specs.SavedCut.{SavedCutValue}
use Rattle.tilt_commands.specs.Start.{StartsFrom, cuts_at}
use Rattle.tilt_load.proofs.OneQuery.{query_core}
use Rattle.tilt_load.specs.FileCommand.{done}
use Rattle.tilt_load.specs.QueryFile.{TakesQuery}
use Rattle.tilt_printed.specs.Saving.{SaveValue, outcome_of}
use Rattle.tilt_report.specs.Report.{printed, printed_and_saved}
use Rattle.tilt_session.proofs.Whole.{output-given}
use Rattle.tilt_session.specs.Emitted.{emitted}
use Rattle.tilt_session.specs.Kept.{checkpoint_at}
use Rattle.tilt_session.specs.NewRows.{added}
use Rattle.tilt_session.specs.declared.cut.Cut.{Cut}
use Rattle.tilt_session.specs.declared.cut.Cut.TheVariants.{Upto, End}
use Rattle.tilt_stream.specs.Snap.{Snapshot}
use Rattle.tilt_stream.specs.Text.{lines_of, row_text, text_of}
use Rattle.tilt_syntax.specs.Tree.{StatementTree}
use Rattle.tilt_types.specs.Checked.{core_of}
use Rattle.tilt_cli.specs.Binding.{Binding}
use Rattle.tilt_cli.specs.Command.{CommandValue, run, compile, exec, explain, start, resume_upto, resume_end, pipe, watch, parts, flow, fix, try}

-- a call
abbrev called : CommandValue → (held holds : List ℕ → List ℕ) → List ℕ → SessionCall
called command held holds text = record { command = command; held = held; holds = holds; text = text }

-- the lines of two lists, joined
lines-append : (front back : List Snapshot) → lines_of (front ++ back) ≡ lines_of front ++ lines_of back
lines-append [] back = refl
lines-append (s ∷ front) back = by (is_some s.value) (lines-append front back)
  where
    by : (b : Bool) → lines_of (front ++ back) ≡ lines_of front ++ lines_of back
        → (if b then row_text s ++ lines_of (front ++ back) else lines_of (front ++ back))
        ≡ (if b then row_text s ++ lines_of front else lines_of front) ++ lines_of back
    by true more = ap (λ (l : List ℕ). row_text s ++ l) more ∙ sym (append_assoc (row_text s) (lines_of front) (lines_of back))
    by false more = more

-- what is printed, and saved if something is
saved_is : (text other name bytes : List ℕ) (save : Option SaveValue) → outcome_of text save ≡ printed_and_saved other name bytes
    → (text ≡ other) × (save ≡ Some (record { name = name; bytes = bytes }))
saved_is text other name bytes None is = absurd (cc is)
saved_is text other name bytes (Some save) is =
    let named : save.name ≡ name = cc is in
    let same : save.bytes ≡ bytes = cc is in
    (cc is, λ i. Some (record { name = named i; bytes = same i }))

printed_is : (text other : List ℕ) (save : Option SaveValue) → outcome_of text save ≡ printed other → text ≡ other
printed_is text other None is = cc is
printed_is text other (Some save) is = absurd (cc is)

-- Of a query: the rows so far, and the cuts up to which they are.
module _ (q : List StatementTree) (rows : List (List Snapshot)) (cuts : CutsParts) where
  -- a session saved nothing, or a checkpoint that hands all rows on
  abbrev Left : SessionCall → List (List Snapshot) → Cut → Type 0
  Left call all cut = ((cut ≡ End) × (saved_name call.command ≡ None))
      ⊎ ((upto : CutsParts) × (save : List ℕ) × (cut ≡ Upto upto) × (saved_name call.command ≡ Some save) × HandsOn (call.holds save) q all upto)

  -- what one more session reads, writes and saves
  record IsStep (call : SessionCall) : Type 0 where
    pub more : List (List Snapshot)
    pub beyond : List Snapshot
    pub cut : Cut
    pub read : IsReadBy call (binds_of call.command) (core_of q).inputs more
    pub many : length (added rows more) ≡ length (core_of q).inputs
    pub adds : emitted (core_of q) (added rows more) cut ≡ emitted (core_of q) rows (Upto cuts) ++ beyond
    pub wrote : call.text ≡ lines_of beyond
    pub left : Left call (added rows more) cut

  step-upto : (held holds : List ℕ → List ℕ) (text : List ℕ) (name : List ℕ) (binds : List Binding) (plain : Bool) (cut : SavedCutValue)
      → IsLeft (IsBeyond held binds q rows cuts (Some cut)) (shelf_of (called (resume_upto name binds plain cut.upto cut.save) held holds text))
      (out_of (called (resume_upto name binds plain cut.upto cut.save) held holds text))
      → IsStep (called (resume_upto name binds plain cut.upto cut.save) held holds text)
  step-upto held holds text name binds plain cut left =
      let out = left.outcome in
      let all = added rows out.more in
      let is = saved_is left.text (lines_of out.beyond) cut.save (spelling (checkpoint_at q all (cuts_at cut q))) left.save out.is in
      let kept = subst (λ (s : Option SaveValue). IsSaved (shelf_of (called (resume_upto name binds plain cut.upto cut.save) held holds text)) s) is.1 left.saved tt in
      record {
        more = out.more;
        beyond = out.beyond;
        cut = Upto (cuts_at cut q);
        read = record { bounds = _; read = out.read };
        many = out.handed.first.counted;
        adds = out.adds;
        wrote = left.written tt ∙ is.0;
        left = inr (cuts_at cut q, cut.save, refl, refl, subst (λ (bytes : List ℕ). HandsOn bytes q all (cuts_at cut q)) (sym kept.0) out.hands_on);
      }

  step-end : (held holds : List ℕ → List ℕ) (text : List ℕ) (name : List ℕ) (binds : List Binding) (plain : Bool)
      → IsLeft (IsBeyond held binds q rows cuts None) (shelf_of (called (resume_end name binds plain) held holds text))
      (out_of (called (resume_end name binds plain) held holds text))
      → IsStep (called (resume_end name binds plain) held holds text)
  step-end held holds text name binds plain left =
      let out = left.outcome in
      record {
        more = out.more;
        beyond = out.beyond;
        cut = End;
        read = record { bounds = _; read = out.read };
        many = out.handed.first.counted;
        adds = out.adds;
        wrote = left.written tt ∙ printed_is left.text (lines_of out.beyond) left.save out.is;
        left = inl (refl, refl);
      }

  -- a call that goes on after the checkpoint of the rows is such a step
  step : (command : CommandValue) (held holds : List ℕ → List ℕ) (text checkpoint : List ℕ) → checkpoint_name command ≡ Some checkpoint
      → HandsOn (held checkpoint) q rows cuts
      → DidContinue (called command held holds text)
      → IsStep (called command held holds text)
  step (resume_upto name binds plain upto save) held holds text checkpoint named hands did =
      let same : name ≡ checkpoint = cc named in
      step-upto held holds text name binds plain (record { upto = upto; save = save })
      (did q rows cuts (subst (λ (n : List ℕ). HandsOn (held n) q rows cuts) (sym same) hands))
  step (resume_end name binds plain) held holds text checkpoint named hands did =
      let same : name ≡ checkpoint = cc named in
      step-end held holds text name binds plain (did q rows cuts (subst (λ (n : List ℕ). HandsOn (held n) q rows cuts) (sym same) hands))
  step (run query binds plain cut) held holds text checkpoint named hands did = absurd (cc named)
  step (compile query plain) held holds text checkpoint named hands did = absurd (cc named)
  step (exec code binds) held holds text checkpoint named hands did = absurd (cc named)
  step (explain query) held holds text checkpoint named hands did = absurd (cc named)
  step (start query binds plain upto save) held holds text checkpoint named hands did = absurd (cc named)
  step (pipe query binds plain) held holds text checkpoint named hands did = absurd (cc named)
  step (watch query binds plain) held holds text checkpoint named hands did = absurd (cc named)
  step (parts query binds plain at order) held holds text checkpoint named hands did = absurd (cc named)
  step (flow pipeline binds plain) held holds text checkpoint named hands did = absurd (cc named)
  step (fix query binds plain edits) held holds text checkpoint named hands did = absurd (cc named)
  step (try seed count) held holds text checkpoint named hands did = absurd (cc named)

  -- what all later calls read and write
  record IsRest (calls : List SessionCall) : Type 0 where
    pub all : List (List Snapshot)
    pub beyond : List Snapshot
    pub read : AreRead (core_of q).inputs rows calls all
    pub many : length all ≡ length (core_of q).inputs
    pub adds : emitted (core_of q) all End ≡ emitted (core_of q) rows (Upto cuts) ++ beyond
    pub wrote : texts_of calls ≡ lines_of beyond

-- one step, and the rest after it
first-and-rest : (q : List StatementTree) (rows : List (List Snapshot)) (cuts upto : CutsParts) (call : SessionCall) (calls : List SessionCall)
    (is : IsStep q rows cuts call) → is.cut ≡ Upto upto → IsRest q (added rows is.more) upto calls → IsRest q rows cuts (call ∷ calls)
first-and-rest q rows cuts upto call calls is at rest =
    let core = core_of q in
    let adds : emitted core (added rows is.more) (Upto upto) ≡ emitted core rows (Upto cuts) ++ is.beyond =
    subst (λ (c : Cut). emitted core (added rows is.more) c ≡ emitted core rows (Upto cuts) ++ is.beyond) at is.adds in
    record {
      all = rest.all;
      beyond = is.beyond ++ rest.beyond;
      read = (is.more, is.read, rest.read);
      many = rest.many;
      adds = rest.adds ∙ ap (λ (l : List Snapshot). l ++ rest.beyond) adds ∙ append_assoc (emitted core rows (Upto cuts)) is.beyond rest.beyond;
      wrote = (λ i. is.wrote i ++ rest.wrote i) ∙ sym (lines-append is.beyond rest.beyond);
    }

-- the last step
last-step : (q : List StatementTree) (rows : List (List Snapshot)) (cuts : CutsParts) (call : SessionCall) (is : IsStep q rows cuts call) → is.cut ≡ End
    → IsRest q rows cuts (call ∷ [])
last-step q rows cuts call is at = record {
  all = added rows is.more;
  beyond = is.beyond;
  read = (is.more, is.read, refl);
  many = is.many;
  adds = subst (λ (c : Cut). emitted (core_of q) (added rows is.more) c ≡ emitted (core_of q) rows (Upto cuts) ++ is.beyond) at is.adds;
  wrote = append-nil call.text ∙ is.wrote;
}

rest : (q : List StatementTree) (rows : List (List Snapshot)) (cuts : CutsParts) (call : SessionCall) (save : List ℕ) (calls : List SessionCall)
    → saved_name call.command ≡ Some save → HandsOn (call.holds save) q rows cuts → AllByRecursion DidContinue calls → AreHandedOn call calls
    → IsRest q rows cuts calls
rest q rows cuts call save [] saves hands did on =
    let none : None ≡ Some save = ap saved_name (sym on.3) ∙ saves in
    absurd (none-some save none)
rest q rows cuts call save (next ∷ calls) saves hands did on =
    let to = on.0 in
    let name : to.save ≡ save = cc (sym to.saves ∙ saves) in
    let bytes = to.same ∙ ap call.holds name in
    let is = step q rows cuts next.command next.held next.holds next.text to.checkpoint to.resumes
    (subst (λ (b : List ℕ). HandsOn b q rows cuts) (sym bytes) hands) did.0 in
    by calls is is.left on.1 (λ all upto name kept hands_on. rest q all upto next name calls kept hands_on did.1 on.1)
  where
    by : (calls : List SessionCall) (is : IsStep q rows cuts next) → Left q rows cuts next (added rows is.more) is.cut → AreHandedOn next calls
        → ((all : List (List Snapshot)) (upto : CutsParts) (name : List ℕ) → saved_name next.command ≡ Some name → HandsOn (next.holds name) q all upto
        → IsRest q all upto calls) → IsRest q rows cuts (next ∷ calls)
    by [] is (inl ends) on more = last-step q rows cuts next is ends.0
    by (m ∷ ms) is (inl ends) on more = absurd (none-some on.0.save (sym ends.1 ∙ on.0.saves))
    by calls is (inr goes) on more =
        first-and-rest q rows cuts goes.0 next calls is goes.2 (more (added rows is.more) goes.0 goes.1 goes.3 goes.4)

-- what the first call reads, writes and saves
record IsBeginning (call : SessionCall) (save : List ℕ) : Type 0 where
  pub query : List StatementTree
  pub rows : List (List Snapshot)
  pub cuts : CutsParts
  pub says : StartsFrom (call.held (query_name call.command)) query
  pub read : IsReadBy call (binds_of call.command) (core_of query).inputs rows
  pub wrote : call.text ≡ text_of (emitted (core_of query) rows (Upto cuts))
  pub hands : HandsOn (call.holds save) query rows cuts

begun : (held holds : List ℕ → List ℕ) (text : List ℕ) (file : List ℕ) (binds : List Binding) (plain : Bool) (cut : SavedCutValue)
    → IsLeft (IsBegun held file binds cut) (shelf_of (called (start file binds plain cut.upto cut.save) held holds text))
    (out_of (called (start file binds plain cut.upto cut.save) held holds text))
    → IsBeginning (called (start file binds plain cut.upto cut.save) held holds text) cut.save
begun held holds text file binds plain cut left =
    let out = left.outcome in
    let cuts = cuts_at cut out.query in
    let bytes = spelling (checkpoint_at out.query out.rows cuts) in
    let is = saved_is left.text (text_of (emitted (core_of out.query) out.rows (Upto cuts))) cut.save bytes left.save out.is in
    let kept = subst (λ (s : Option SaveValue). IsSaved (shelf_of (called (start file binds plain cut.upto cut.save) held holds text)) s) is.1 left.saved tt in
    record {
      query = out.query;
      rows = out.rows;
      cuts = cuts;
      says = out.says.starts;
      read = record { bounds = _; read = out.read };
      wrote = left.written tt ∙ is.0;
      hands = subst (λ (b : List ℕ). HandsOn b out.query out.rows cuts) (sym kept.0) out.hands_on;
    }

beginning : (command : CommandValue) (held holds : List ℕ → List ℕ) (text save : List ℕ) → checkpoint_name command ≡ None → saved_name command ≡ Some save
    → DidContinue (called command held holds text)
    → IsBeginning (called command held holds text) save
beginning (start file binds plain upto name) held holds text save none saves did =
    let same : name ≡ save = cc saves in
    subst (λ (n : List ℕ). IsBeginning (called (start file binds plain upto name) held holds text) n) same
    (begun held holds text file binds plain (record { upto = upto; save = name }) did)
beginning (resume_upto name binds plain upto other) held holds text save none saves did = absurd (cc none)
beginning (resume_end name binds plain) held holds text save none saves did = absurd (cc saves)
beginning (run query binds plain cuts) held holds text save none saves did = absurd (cc saves)
beginning (compile query plain) held holds text save none saves did = absurd (cc saves)
beginning (exec code binds) held holds text save none saves did = absurd (cc saves)
beginning (explain query) held holds text save none saves did = absurd (cc saves)
beginning (pipe query binds plain) held holds text save none saves did = absurd (cc saves)
beginning (watch query binds plain) held holds text save none saves did = absurd (cc saves)
beginning (parts query binds plain at order) held holds text save none saves did = absurd (cc saves)
beginning (flow pipeline binds plain) held holds text save none saves did = absurd (cc saves)
beginning (fix query binds plain edits) held holds text save none saves did = absurd (cc saves)
beginning (try seed count) held holds text save none saves did = absurd (cc saves)

-- sessions of one run are that run
pub one-run : (first : SessionCall) (calls : List SessionCall) → AreSessions first calls → IsOneRun first calls
one-run first calls are =
    let is = beginning first.command first.held first.holds first.text are.saves are.starts are.saved are.continued.0 in
    let q = is.query in
    let core = core_of q in
    let more = rest q is.rows is.cuts first are.saves calls are.saved is.hands are.continued.1 are.on in
    let taken : TakesQuery (first.held (query_name first.command)) core = record {
      has_core = query_core (first.held (query_name first.command)) q core is.says.says;
      margins = is.says.margins;
      reach = is.says.near;
    } in
    let domain = taken_domain (first.held (query_name first.command)) core taken in
    let list = emitted core more.all End in
    let gives = output-given core more.all domain.0 domain.1 more.many in
    let joined : texts_of (first ∷ calls) ≡ text_of list =
    (λ i. is.wrote i ++ more.wrote i) ∙ append_assoc (codes "start,end,value\n") (lines_of (emitted core is.rows (Upto is.cuts))) (lines_of more.beyond)
    ∙ ap (λ (l : List ℕ). codes "start,end,value\n" ++ l) (sym (lines-append (emitted core is.rows (Upto is.cuts)) more.beyond) ∙ ap lines_of (sym more.adds)) in
    record {
      core = core;
      rows = is.rows;
      all = more.all;
      list = list;
      says = taken;
      first_read = is.read;
      read = more.read;
      gives = gives;
      joined = joined;
      run_prints = λ words files query binds plain watchers command says read.
          does (run query binds plain []) command (done core more.all says read (list, gives, ap printed joined));
    }
