-- What is left of the inputs of a feed.
use Rattle.std.proofs.Common.{◌≡◌, ◌≤◌, ◌<◌, ◌^◌, ℕ, zero, suc, ℤ, ◌≤ℤ◌, neg_ℤ, Bool, true, false, int_le, List, [], ◌∷◌, ◌++◌, length, map, Option, None, Some, slice_get, Result, Ok, Err, IfOk, OnOk, refl, sym, ap, ◌∙◌, subst, inl, inr, arith}
use Rattle.std.proofs.lemmas.Bool.{cases_Bool}
use Rattle.std.proofs.lemmas.Int.{ints}
use Rattle.std.proofs.lemmas.List.{length-map}
use Rattle.std.proofs.lemmas.Option.{same_Some}
use Rattle.std.specs.List.{AllByRecursion}
use Rattle.tilt_base.specs.declared.limits.TheConstants.{T}
use Rattle.tilt_compiler.specs.Accepted.{AcceptedParts, IsAccepted}
use Rattle.tilt_core.specs.Core.{CoreParts, IsCore}
use Rattle.tilt_feed.proofs.AllAtRest.{AreSettled, fed-settled}
use Rattle.tilt_feed.proofs.AtRest.{IsSettled}
use Rattle.tilt_feed.proofs.Following.{fed-length}
use Rattle.tilt_feed.specs.Feed.{Feed, InputFeed, closed_at, empty_feed}
use Rattle.tilt_feed.specs.Horizon.{output_domain}
use Rattle.tilt_feed.specs.Laws.{IsInOrder, fed}
use Rattle.tilt_feed.specs.Printed.{printed}
use Rattle.tilt_feed.specs.declared.edge.Edge.{Edge}
use Rattle.tilt_feed.specs.declared.event.Event.{Event}
use Rattle.tilt_feed.specs.declared.open_row.OpenRow.{OpenRow}
use Rattle.tilt_feed_form.proofs.Keeping.{IsGoing, kept-many, kept-same, lines-going}
use Rattle.tilt_feed_form.proofs.Saying.{rows-same}
use Rattle.tilt_feed_form.specs.Kept.{IsOfForm, bare_kept, kept_with}
use Rattle.tilt_feed_form.specs.Kept as texts
use Rattle.tilt_feed_text.proofs.Splitting.{are-ended}
use Rattle.tilt_feed_form.specs.Said.{FeedState, TextKept, after_lines, first_state}
use Rattle.tilt_feed_form.specs.Said.TextKept.{OfReadings, OfRows}
use Rattle.tilt_feed_form.specs.Setup.{SetupParts}
use Rattle.tilt_feed_form.specs.declared.feed_form.FeedForm.{FeedForm}
use Rattle.tilt_feed_form.specs.declared.feed_form.FeedForm.TheVariants.{Readings, Rows}
use Rattle.tilt_feed_form.specs.declared.kept_feed.KeptFeed.{KeptFeed}
use Rattle.tilt_feed_form.specs.declared.kept_feed.KeptFeed.TheVariants as given
use Rattle.tilt_feed_text.proofs.Saying.{lines-said}
use Rattle.tilt_feed_text.specs.Said.{lines_said, number_after}
use Rattle.tilt_feed_text.specs.Said as rows
use Rattle.tilt_feed_text.specs.Split.{ended, whole_lines}
use Rattle.tilt_input_state.specs.Resume.{first_read, left_input, resume_tick}
use Rattle.tilt_live.proofs.Ended.{ends-within}
use Rattle.tilt_live.specs.Resuming.{IsLeft}
use Rattle.tilt_live_run.proofs.Newly.{state-fed}
use Rattle.tilt_live_run.proofs.Upto.{printed-fills}
use Rattle.tilt_live_run.specs.Joined.{bare, joined, rows_at}
use Rattle.tilt_live_run.specs.Leaves.{AreResumable, Belongs, GoesOn}
use Rattle.tilt_live_run.specs.Left.{each_left, given_by, inputs_left, kept_beside, kept_given, none_held, progress_of, readings_kept, rows_left, state_left}
use Rattle.tilt_live_run.specs.Left.{watermark_options}
use Rattle.tilt_live_run.specs.Runs.{number_of, state_after}
use Rattle.tilt_live_run.specs.declared.run_options.RunOptions.{RunOptions}
use Rattle.tilt_live_state.specs.State.{InputParts, LiveStateParts, feed_of, kept_of, waiting_of}
use Rattle.tilt_live_state.specs.Valid.{IsInput, IsStateOf}
use Rattle.tilt_outside.specs.Counts.{added_count}
use Rattle.tilt_reading_text.specs.Kept.{BareText, bare_text}
use Rattle.tilt_reading_text.specs.Said as readings
use Rattle.tilt_run_state.specs.State.{RunStateParts}
use Rattle.tilt_run_state.specs.Valid.{FitsForm, HasOptions}
use Rattle.tilt_stream.specs.Pieces.{kept}
use Rattle.tilt_stream.specs.Snap.{InOrder, Snapshot}
use Rattle.tilt_syntax.specs.Tree.{StatementTree}
use Rattle.tilt_watermarks.proofs.Stepping.{all-steps, keeps-first, kept-of}
use Rattle.tilt_watermarks.specs.Held.{Waiting}
use Rattle.tilt_watermarks.specs.Laws.{IsFit, IsKeptOf, edges_of, watermarked}
use Rattle.tilt_watermarks.specs.Steps.{Kept, nothing_kept}
use Rattle.tilt_watermarks.specs.declared.options.Options.{Options}

-- rows by their number, and none
pub rows-at : (known : List InputFeed) (number : ℕ) (input : InputFeed) → slice_get known number ≡ Some input → rows_at known number ≡ input.rows
rows-at [] number input is = absurd (cc is)
rows-at (x ∷ known) zero input is = ap (λ (i : InputFeed). i.rows) (same_Some x input is)
rows-at (x ∷ known) (suc number) input is = rows-at known number input is

pub rows-past : (known : List InputFeed) (number : ℕ) → length known ≤ number → rows_at known number ≡ []
rows-past [] number past = refl
rows-past (x ∷ known) zero past = absurd (omega arith)
rows-past (x ∷ known) (suc number) past = rows-past known number (omega arith)

-- inputs are counted from one more if there is one more before them
joined-shift : (number : ℕ) (x : InputFeed) (known : List InputFeed) (waiting : List Waiting) → joined (suc number) (x ∷ known) waiting ≡ joined number known waiting
joined-shift number x known [] = refl
joined-shift number x known (w ∷ waiting) =
    ap (λ (list : List InputParts). record { rows = rows_at known number; edge = w.edge; held = w.held } ∷ list) (joined-shift (suc number) x known waiting)

abbrev edges_in : List InputFeed → List Edge
edges_in inputs = map (λ (input : InputFeed). input.edge) inputs

-- What is left of the inputs of a feed whose watermarks keep the edges of the feed.
module _ (core : CoreParts) (feed : Feed) where
  abbrev first : ℤ
  first = first_read core (resume_tick core feed)

  rows-open : (rows : List Snapshot) → feed.finished ≡ false → rows_left core feed rows ≡ kept first rows
  rows-open rows going = rw going refl

  rows-ended : (rows : List Snapshot) → feed.finished ≡ true → rows_left core feed rows ≡ []
  rows-ended rows end = rw end refl

  -- joined from what is known of an unfinished feed
  pub joined-open : (inputs : List InputFeed) (waiting : List Waiting) → feed.finished ≡ false → edges_of waiting ≡ edges_in inputs
      → joined 0 (map (left_input first) inputs) waiting ≡ each_left core feed inputs waiting
  joined-open [] [] going same = refl
  joined-open [] (w ∷ waiting) going same = absurd (cc same)
  joined-open (x ∷ inputs) [] going same = refl
  joined-open (x ∷ inputs) (w ∷ waiting) going same =
      let edge : w.edge ≡ x.edge = cc same in
      let rest : edges_of waiting ≡ edges_in inputs = cc same in
      let more = joined-shift 0 (left_input first x) (map (left_input first) inputs) waiting ∙ joined-open inputs waiting going rest in
      λ k. record { rows = (sym (rows-open x.rows going)) k; edge = edge k; held = w.held } ∷ more k

  -- joined without rows of a finished one
  pub joined-ended : (number : ℕ) (inputs : List InputFeed) (waiting : List Waiting) → feed.finished ≡ true → edges_of waiting ≡ edges_in inputs
      → joined number [] waiting ≡ each_left core feed inputs waiting
  joined-ended number [] [] end same = refl
  joined-ended number [] (w ∷ waiting) end same = absurd (cc same)
  joined-ended number (x ∷ inputs) [] end same = refl
  joined-ended number (x ∷ inputs) (w ∷ waiting) end same =
      let edge : w.edge ≡ x.edge = cc same in
      let rest : edges_of waiting ≡ edges_in inputs = cc same in
      let more = joined-ended (suc number) inputs waiting end rest in
      λ k. record { rows = (sym (rows-ended x.rows end)) k; edge = edge k; held = w.held } ∷ more k

  -- of inputs of which no update is held
  pub bare-open : (inputs : List InputFeed) → feed.finished ≡ false → map bare (map (left_input first) inputs) ≡ each_left core feed inputs (map none_held inputs)
  bare-open [] going = refl
  bare-open (x ∷ inputs) going =
      let more = bare-open inputs going in
      λ k. record { rows = (sym (rows-open x.rows going)) k; edge = x.edge; held = [] } ∷ more k

  left-many : (inputs : List InputFeed) (waiting : List Waiting) → edges_of waiting ≡ edges_in inputs → length (each_left core feed inputs waiting) ≡ length inputs
  left-many [] waiting same = refl
  left-many (x ∷ inputs) [] same = absurd (cc same)
  left-many (x ∷ inputs) (w ∷ waiting) same =
      let rest : edges_of waiting ≡ edges_in inputs = cc same in
      ap suc (left-many inputs waiting rest)

  -- what the feed knows of them
  left-feeds : (inputs : List InputFeed) (waiting : List Waiting) → edges_of waiting ≡ edges_in inputs → feed.finished ≡ false
      → map feed_of (each_left core feed inputs waiting) ≡ map (left_input first) inputs
  left-feeds [] waiting same going = refl
  left-feeds (x ∷ inputs) [] same going = absurd (cc same)
  left-feeds (x ∷ inputs) (w ∷ waiting) same going =
      let rest : edges_of waiting ≡ edges_in inputs = cc same in
      let more = left-feeds inputs waiting rest going in
      λ k. record { rows = (rows-open x.rows going) k; edge = x.edge } ∷ more k

  -- and what its watermarks keep
  left-waiting : (inputs : List InputFeed) (waiting : List Waiting) → edges_of waiting ≡ edges_in inputs
      → map waiting_of (each_left core feed inputs waiting) ≡ waiting
  left-waiting [] [] same = refl
  left-waiting [] (w ∷ waiting) same = absurd (cc same)
  left-waiting (x ∷ inputs) [] same = absurd (cc same)
  left-waiting (x ∷ inputs) (w ∷ waiting) same =
      let edge : w.edge ≡ x.edge = cc same in
      let rest : edges_of waiting ≡ edges_in inputs = cc same in
      let more = left-waiting inputs waiting rest in
      λ k. record { edge = (sym edge) k; held = w.held } ∷ more k

-- rows in order are in order from below
order-lower : (from lower limit : ℤ) (rows : List Snapshot) → lower ≤ℤ from → InOrder from limit rows → InOrder lower limit rows
order-lower from lower limit [] on order = tt
order-lower from lower limit (r ∷ rows) on order = let up = order.0 in (omega (arith, ints, on, up), order.1, order.2, order.3)

-- and so are those that are kept
kept-order : (tick from limit : ℤ) (rows more : List Snapshot) → InOrder from limit (rows ++ more) → InOrder from limit (kept tick rows ++ more)
kept-order tick from limit [] more order = order
kept-order tick from limit (r ∷ rows) more order =
    let rest = kept-order tick r.end limit rows more order.3 in
    elim (cases_Bool (int_le tick r.end)) [
      | inl is ↦ rw is (order.0, order.1, order.2, rest)
      | inr none ↦ rw none (let low = order.0 in let up = order.1 in order-lower r.end from limit (kept tick rows ++ more) (omega (arith, ints, low, up)) rest)
    ]

-- what is left of an input is in order
left-order : (core : CoreParts) (feed : Feed) (input : InputFeed) (finished : Bool) → feed.finished ≡ finished → IsSettled finished input
    → IsInOrder (record { rows = rows_left core feed input.rows; edge = input.edge })
left-order core feed input false is settled =
    let from = first_read core (resume_tick core feed) in
    subst (λ (rows : List Snapshot). IsInOrder (record { rows = rows; edge = input.edge })) (sym (rows-open core feed input.rows is)) record {
      rows = kept-order from (neg_ℤ T) input.edge.watermark input.rows (closed_at input.edge.watermark input.edge.open_row) settled.order.rows;
      low = settled.order.low;
      high = settled.order.high;
    }
left-order core feed input true is settled =
    subst (λ (rows : List Snapshot). IsInOrder (record { rows = rows; edge = input.edge })) (sym (rows-ended core feed input.rows is)) record {
      rows = subst (λ (o : Option OpenRow). InOrder (neg_ℤ T) input.edge.watermark (closed_at input.edge.watermark o)) (sym (settled.closed refl)) tt;
      low = settled.order.low;
      high = settled.order.high;
    }

-- what is left of inputs is valid
left-inputs : (core : CoreParts) (feed : Feed) (lateness : Option ℕ) (inputs : List InputFeed) (waiting : List Waiting) → edges_of waiting ≡ edges_in inputs
    → AreSettled feed.finished inputs → AllByRecursion (IsFit lateness) waiting → AllByRecursion (IsInput lateness) (each_left core feed inputs waiting)
left-inputs core feed lateness [] waiting same settled fit = tt
left-inputs core feed lateness (x ∷ inputs) [] same settled fit = absurd (cc same)
left-inputs core feed lateness (x ∷ inputs) (w ∷ waiting) same settled fit =
    let edge : w.edge ≡ x.edge = cc same in
    let rest : edges_of waiting ≡ edges_in inputs = cc same in (
      record {
        in_order = left-order core feed x feed.finished refl settled.0;
        fit = subst (λ (e : Edge). IsFit lateness (record { edge = e; held = w.held })) edge fit.0;
      },
      left-inputs core feed lateness inputs waiting rest settled.1 fit.1,
    )

-- the state that is left is one of the query
pub left-state : (accepted : AcceptedParts) (options : RunOptions) (state : FeedState) (events : List Event) (query : List StatementTree) (bytes lines written : ℕ)
    → IsAccepted accepted → state.feed ≡ fed accepted.core events → IsKeptOf (watermark_options options.form).lateness (kept_beside state.kept state.feed) state.feed
    → IsStateOf accepted.core (record { query = query; progress = progress_of options accepted.core state bytes lines written; inputs = inputs_left accepted.core state })
left-state accepted options state events query bytes lines written valid is keeps =
    let core = accepted.core in
    let fills = printed-fills accepted state.feed events is valid in
    let within = ends-within (output_domain core).start (output_domain core).end (printed core state.feed) fills.0 fills.1 in
    record {
      low = within.0;
      high = within.1;
      counted = left-many core state.feed state.feed.inputs (kept_beside state.kept state.feed).inputs keeps.edges ∙ ap (λ (f : Feed). length f.inputs) is ∙ fed-length core events;
      inputs = left-inputs core state.feed (watermark_options options.form).lateness state.feed.inputs (kept_beside state.kept state.feed).inputs keeps.edges
          (subst (λ (f : Feed). AreSettled f.finished f.inputs) (sym is) (fed-settled (length core.inputs) events)) keeps.held;
    }

-- watermarks keep what belongs to the feed of rows
rows-belong : (options : Options) (inputs : List (List ℕ)) (lines : List (List ℕ))
    → (let state = rows.after_lines options inputs 0 (rows.first_state (length inputs)) lines in IsKeptOf options.lateness state.kept state.feed)
rows-belong options inputs lines =
    let many = length inputs in
    let said = lines_said inputs 0 lines in
    let steps = all-steps options said (nothing_kept many) (empty_feed many) (keeps-first options.lateness many) in
    let keeps = (watermarked options many said).kept in
    subst (λ (s : rows.FeedState). IsKeptOf options.lateness s.kept s.feed) (lines-said options inputs 0 (rows.first_state many) lines)
    (subst (λ (f : Feed). IsKeptOf options.lateness keeps f) (sym steps.goes.is) (kept-of options.lateness keeps steps.later steps.keeps))

-- watermarks that hold nothing keep what belongs to a feed
edges-none : (inputs : List InputFeed) → edges_of (map none_held inputs) ≡ edges_in inputs
edges-none [] = refl
edges-none (x ∷ inputs) = ap (λ (list : List Edge). x.edge ∷ list) (edges-none inputs)

none-fit : (inputs : List InputFeed) → AllByRecursion (IsFit None) (map none_held inputs)
none-fit [] = tt
none-fit (x ∷ inputs) = (record { fits = refl; none = λ _. refl }, none-fit inputs)

readings_belong : (setup : SetupParts) (kept : TextKept) (feed : Feed) → IsGoing (Readings setup) (record { kept = kept; feed = feed })
    → Belongs (Readings setup) (record { kept = kept; feed = feed })
readings_belong setup (OfRows kept) feed is = absurd is.0
readings_belong setup (OfReadings kept) feed is = record {
  of_form = is.0;
  goes_on = is.1;
  kept = record { edges = edges-none feed.inputs; finished = refl; held = none-fit feed.inputs; greatest = λ tick e. absurd (cc e) };
}

-- what is kept of the text of a feed after lines belongs to it
lines-belong : (form : FeedForm) (inputs : List (List ℕ)) (lines : List (List ℕ)) → Belongs form (after_lines form inputs 0 (first_state form (length inputs)) lines)
lines-belong (Rows options) inputs lines =
    subst (Belongs (Rows options)) (sym (rows-same options inputs 0 (rows.first_state (length inputs)) lines))
    (record { of_form = tt; goes_on = tt; kept = rows-belong options inputs lines })
lines-belong (Readings setup) inputs lines =
    let state = after_lines (Readings setup) inputs 0 (first_state (Readings setup) (length inputs)) lines in
    readings_belong setup state.kept state.feed (lines-going (Readings setup) inputs lines)

pub state-belongs : (options : RunOptions) (core : CoreParts) (bytes : List ℕ) → Belongs options.form (state_after options core bytes)
state-belongs options core bytes = lines-belong options.form core.inputs (whole_lines bytes)

-- what a state gives the text of a feed is what was kept of it
given-same : (form : FeedForm) (kept : TextKept) (feed : Feed) (live : LiveStateParts) → IsOfForm form kept → kept_of live ≡ kept_beside kept feed
    → kept_with form (kept_given (record { state = live; kept = readings_kept kept })) ≡ kept
given-same (Rows options) (OfRows kept) feed live of own = ap OfRows own
given-same (Rows options) (OfReadings kept) feed live of own = absurd of
given-same (Readings setup) (OfRows kept) feed live of own = absurd of
given-same (Readings setup) (OfReadings kept) feed live of own = kept-same (Readings setup) (OfReadings kept) of

-- what a state says that a run left
pub state-left : (options : RunOptions) (core : CoreParts) (query : List StatementTree) (bytes : List ℕ) (written : ℕ) (s : RunStateParts)
    → s ≡ state_left options core query bytes written
    → IsLeft core (state_after options core bytes).feed s.state.progress.from s.state.progress.finished (map feed_of s.state.inputs)
    × (kept_with options.form (kept_given s) ≡ (state_after options core bytes).kept)
state-left options core query bytes written s is =
    let state = state_after options core bytes in
    let kept = kept_beside state.kept state.feed in
    let belongs = state-belongs options core bytes in
    let keeps = belongs.kept in
    let of = state-fed options core bytes in
    let feeds = left-feeds core state.feed state.feed.inputs kept.inputs keeps.edges in
    let waits = left-waiting core state.feed state.feed.inputs kept.inputs keeps.edges in
    let left = state_left options core query bytes written in
    let own : kept_of left.state ≡ kept =
    λ k. record { inputs = waits k; finished = (sym keeps.finished) k; greatest = kept.greatest; latest = kept.latest } in (
      rw is record {
        events = of.events;
        feed_is = ap (λ (s : FeedState). s.feed) of.is;
        from_is = refl;
        finished_is = refl;
        inputs_are = feeds;
      },
      rw is (given-same options.form state.kept state.feed left.state belongs.of_form own),
    )

-- what is valid of inputs: the feed of each is in order,
pub inputs-order : (lateness : Option ℕ) (inputs : List InputParts) → AllByRecursion (IsInput lateness) inputs
    → AllByRecursion (λ (input : InputParts). IsInOrder (feed_of input)) inputs
inputs-order lateness [] are = tt
inputs-order lateness (x ∷ inputs) are = (are.0.in_order, inputs-order lateness inputs are.1)

-- what is held of each is allowed,
pub inputs-fit : (lateness : Option ℕ) (inputs : List InputParts) → AllByRecursion (IsInput lateness) inputs → AllByRecursion (IsFit lateness) (map waiting_of inputs)
inputs-fit lateness [] are = tt
inputs-fit lateness (x ∷ inputs) are = (are.0.fit, inputs-fit lateness inputs are.1)

-- and they are few
pub inputs-few : (core : CoreParts) (inputs : List InputParts) → IsCore core → length inputs ≡ length core.inputs → length (map waiting_of inputs) < 2 ^ 32
inputs-few core inputs valid many =
    let few = valid.few in
    let len = length-map inputs waiting_of in
    omega (arith, few, len, many)

-- So the text of a feed can go on from what a state gives it
given_fits : (core : CoreParts) (form : FeedForm) (state : LiveStateParts) (kept : Option BareText) → IsCore core → IsStateOf core state
    → FitsForm form (record { state = state; kept = kept }) → HasOptions form (record { state = state; kept = kept }) → texts.FitsForm form (given_by state kept)
given_fits core (Rows options) state None valid of fits has = (
  inputs-few core state.inputs valid of.counted,
  subst (λ (o : Options). AllByRecursion (IsFit o.lateness) (map waiting_of state.inputs)) has (inputs-fit state.progress.options.lateness state.inputs of.inputs),
)
given_fits core (Rows options) state (Some kept) valid of fits has = absurd (cc fits)
given_fits core (Readings setup) state None valid of fits has = absurd fits
given_fits core (Readings setup) state (Some kept) valid of fits has = (fits.counted, fits.resumable)

pub given-fits : (core : CoreParts) (form : FeedForm) (s : RunStateParts) → IsCore core → IsStateOf core s.state → FitsForm form s → HasOptions form s
    → texts.FitsForm form (kept_given s)
given-fits core form s valid of fits has = given_fits core form s.state s.kept valid of fits has

-- a text of readings can go on from what is kept of it
pub kept-resumable : (form : FeedForm) (kept : TextKept) (bare : KeptFeed) → bare ≡ bare_kept kept → texts.FitsForm form bare → AreResumable (readings_kept kept)
kept-resumable form (OfRows kept) bare is fits = tt
kept-resumable (Rows options) (OfReadings kept) bare is fits = absurd (rw is at fits)
kept-resumable (Readings setup) (OfReadings kept) bare is fits = (rw is at fits).1

-- and what is left fits the form of its feed
none-held-left : (core : CoreParts) (feed : Feed) (inputs all : List InputFeed)
    → AllByRecursion (λ (input : InputParts). input.held ≡ []) (each_left core feed all (map none_held inputs))
none-held-left core feed [] [] = tt
none-held-left core feed [] (y ∷ all) = tt
none-held-left core feed (x ∷ inputs) [] = tt
none-held-left core feed (x ∷ inputs) (y ∷ all) = (refl, none-held-left core feed inputs all)

pub left-fits : (core : CoreParts) (form : FeedForm) (kept : TextKept) (feed : Feed) (s : RunStateParts) → IsOfForm form kept
    → s.state.progress.options ≡ watermark_options form → s.state.inputs ≡ each_left core feed feed.inputs (kept_beside kept feed).inputs
    → s.kept ≡ readings_kept kept → AreResumable s.kept → FitsForm form s
left-fits core (Rows options) (OfRows kept) feed s of asked inputs is fit = is
left-fits core (Rows options) (OfReadings kept) feed s of asked inputs is fit = absurd of
left-fits core (Readings setup) (OfRows kept) feed s of asked inputs is fit = absurd of
left-fits core (Readings setup) (OfReadings kept) feed s of asked inputs is fit =
    rw is (record {
      resumable = rw is at fit;
      counted = kept-many setup.options kept.feed of;
      options = asked;
      none_held = subst (AllByRecursion (λ (input : InputParts). input.held ≡ [])) (sym inputs) (none-held-left core feed feed.inputs feed.inputs);
    })

-- the state that is left after bytes is the one after those of their lines
pub state-ended : (options : RunOptions) (core : CoreParts) (query : List StatementTree) (bytes : List ℕ) (count written : ℕ) → count ≡ added_count 0 (length (ended bytes))
    → ◌≡◌ {A = RunStateParts}
    (record {
      state = record {
        query = query;
        progress = progress_of options core (state_after options core bytes) count (number_of bytes) written;
        inputs = inputs_left core (state_after options core bytes);
      };
      kept = readings_kept (state_after options core bytes).kept;
    }) (state_left options core query (ended bytes) written)
state-ended options core query bytes count written is =
    let lines = sym (are-ended bytes).lines in
    let state = λ (list : List (List ℕ)). after_lines options.form core.inputs 0 (first_state options.form (length core.inputs)) list in
    λ k. record {
      state = record {
        query = query;
        progress = progress_of options core (state (lines k)) (is k) (number_after 0 (lines k)) written;
        inputs = inputs_left core (state (lines k));
      };
      kept = readings_kept (state (lines k)).kept;
    }

-- what is so of a value is so of it, said otherwise
pub if-ok : {A E : Type 0} (P Q : A → Type 0) (result : Result A E) → ((x : A) → P x → Q x) → IfOk result P → IfOk result Q
if-ok P Q (Ok x) into is = into x is
if-ok P Q (Err e) into is = tt

pub both-ok : {A E : Type 0} (P Q R : A → Type 0) (result : Result A E) → ((x : A) → P x → Q x → R x) → IfOk result P → IfOk result Q → IfOk result R
both-ok P Q R (Ok x) into one two = into x one two
both-ok P Q R (Err e) into one two = tt

pub on-into : {A E : Type 0} (P Q : Type 0) (result : Result A E) → (P → Q) → OnOk result P → OnOk result Q
on-into P Q (Ok x) into is = into is
on-into P Q (Err e) into is = tt

-- what was left, said otherwise
pub left-same : (core : CoreParts) (feed : Feed) (from start : ℤ) (finished ended : Bool) (inputs known : List InputFeed) → start ≡ from → ended ≡ finished → known ≡ inputs
    → IsLeft core feed from finished inputs → IsLeft core feed start ended known
left-same core feed from start finished ended inputs known a b c is =
    subst (λ (t : ℤ). IsLeft core feed t ended known) (sym a)
    (subst (λ (t : Bool). IsLeft core feed from t known) (sym b) (subst (λ (t : List InputFeed). IsLeft core feed from finished t) (sym c) is))

-- what is left has what is asked of watermarks
pub left-asked : (form : FeedForm) (s : RunStateParts) → s.state.progress.options ≡ watermark_options form → HasOptions form s
left-asked (Rows options) s is = is
left-asked (Readings setup) s is = tt

-- what a text keeps, by what is kept of it without its form
pub rows-kept : (bare : Kept) (kept : TextKept) → given.Rows bare ≡ bare_kept kept → OfRows bare ≡ kept
rows-kept bare (OfRows kept) is = let same : bare ≡ kept = cc is in ap OfRows same
rows-kept bare (OfReadings kept) is = absurd (cc is)

pub readings-are : (bare : BareText) (kept : TextKept) → given.Readings bare ≡ bare_kept kept
    → (text : readings.TextKept) × (OfReadings text ≡ kept) × (bare ≡ bare_text text)
readings-are bare (OfRows kept) is = absurd (cc is)
readings-are bare (OfReadings kept) is = (kept, refl, cc is)

-- a feed of readings goes on
pub readings-go-on : (form : FeedForm) (text : readings.TextKept) (kept : TextKept) (feed : Feed) → OfReadings text ≡ kept → IsOfForm form kept
    → GoesOn form (record { kept = kept; feed = feed }) → feed.finished ≡ false
readings-go-on (Rows options) text kept feed is of goes = absurd (rw (← is) at of)
readings-go-on (Readings setup) text kept feed is of goes = goes
