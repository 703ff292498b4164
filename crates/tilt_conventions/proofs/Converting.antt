-- Lists of turns, and the feed of their updates.
use Rattle.std.proofs.Common.{◌≡◌, ℕ, ℤ, ◌≤ℤ◌, neg_ℤ, true, false, if◌then◌else◌, List, [], ◌∷◌, ◌++◌, Option, Some, None, is_none, option_map, length}
use Rattle.std.proofs.Common.{refl, sym, ap, subst, ◌∙◌, arith, append-nil, append_assoc}
use Rattle.std.proofs.lemmas.Int.{ints}
use Rattle.tilt_base.specs.declared.limits.TheConstants.{T}
use Rattle.tilt_conventions.proofs.Delayed.{Delayed, delayed-cut, delayed-ends, delayed-latest, delayed-rows, known-follows, reading-follows}
use Rattle.tilt_conventions.proofs.Numbering.{Counts}
use Rattle.tilt_conventions.proofs.Prompt.{IsNear, Prompt, known-goes, prompt-cut, prompt-ends, prompt-rows, reading-goes}
use Rattle.tilt_conventions.proofs.Showing.{Allowed, Closes, Shows, allowed-append, updated-append, updated-edge, updated_all}
use Rattle.tilt_conventions.proofs.Taking.{timely}
use Rattle.tilt_conventions.proofs.Telling.{cells}
use Rattle.tilt_conventions.specs.Cells.{AreAfter, last_by, value_at}
use Rattle.tilt_conventions.specs.Laws.{AreAllowed, HoldsATick, converted, cut_of, end_of, events_of, feed_of, last_start, last_tick, meant, reached, readings_of}
use Rattle.tilt_conventions.specs.Laws.{stepped, stepped_all, taken_from, taken_turns, updates_at_last, updates_now}
use Rattle.tilt_conventions.specs.Rows.{age_of, counted}
use Rattle.tilt_conventions.specs.Steps.{Kept, Step, is_in_range, last_updates, nothing_kept, taken, turn_fault}
use Rattle.tilt_conventions.specs.declared.fault.TurnFault.{TurnFault}
use Rattle.tilt_conventions.specs.declared.options.Convention.{Convention}
use Rattle.tilt_conventions.specs.declared.options.Convention.TheVariants.{Hold, Event}
use Rattle.tilt_conventions.specs.declared.options.Options.{Options}
use Rattle.tilt_conventions.specs.declared.options.Ties.{Ties}
use Rattle.tilt_conventions.specs.declared.options.Ties.TheVariants.{First, Last, Refuse, Spread}
use Rattle.tilt_conventions.specs.declared.turn.Reading.{Reading}
use Rattle.tilt_conventions.specs.declared.turn.Turn.{Turn}
use Rattle.tilt_conventions.specs.declared.turn.Turn.TheVariants as turn
use Rattle.tilt_feed.specs.Events.{after, after_all, updated}
use Rattle.tilt_feed.specs.Feed.{Feed, InputFeed, all_rows_now, closed_rows, empty_feed, rows_now, unknown_input, watermarks}
use Rattle.tilt_feed.specs.declared.edge.Edge.{Edge}
use Rattle.tilt_feed.specs.declared.event.Event.TheVariants.{Input, Finish}
use Rattle.tilt_feed.specs.declared.fault.EventFault.{EventFault}
use Rattle.tilt_feed.specs.declared.update.Update.{Update}
use Rattle.tilt_feed.proofs.Ordered.{fed-order}
use Rattle.tilt_feed.specs.Laws.{IsInOrder}
use Rattle.std.specs.List.{AllByRecursion}
use Rattle.tilt_stream.specs.Snap.{InOrder, Snapshot}
use Rattle.tilt_stream.specs.Stream.{cell_at}

-- the options with a convention and ties
abbrev pub by : Convention → Ties → Options
by convention ties = record { convention = convention; ties = ties }

-- what is kept after turns, and the feed of the input
abbrev pub Keeps : Convention → Ties → List Turn → Kept → InputFeed → Type 0
Keeps convention First turns kept input = Prompt (by convention First) turns kept input
Keeps convention Last turns kept input = Delayed convention turns kept input
Keeps convention Refuse turns kept input = Prompt (by convention Refuse) turns kept input
Keeps convention Spread turns kept input = Prompt (by convention Spread) turns kept input

-- updates are allowed, and what is kept after them is that of the feed
pub record Goes (convention : Convention) (ties : Ties) (turns : List Turn) (step : Step) (input : InputFeed) : Type 0 where
  pub allowed : Allowed input.edge step.updates
  pub keeps : Keeps convention ties turns step.kept (updated_all step.updates input)

known-high : (ties : Ties) (latest : Option Reading) (tick : ℤ) → is_in_range ties latest (turn.KnownUpTo tick) ≡ true → tick ≤ℤ T
known-high ties latest tick is = grind (arith, ints)

-- a turn that is taken
turn-goes : (convention : Convention) (ties : Ties) (turns : List Turn) (kept : Kept) (input : InputFeed) (turn : Turn) → HoldsATick convention → Keeps convention ties turns kept input
    → turn_fault ties kept turn ≡ None → Goes convention ties (turns ++ turn ∷ []) (taken (by convention ties) turn kept) input
turn-goes convention First turns kept input (turn.Reading reading) holds keeps is =
    let goes = reading-goes (by convention First) turns kept input reading refl holds keeps (timely First kept (turn.Reading reading) is) in
    record { allowed = goes.allowed; keeps = goes.keeps }
turn-goes convention First turns kept input (turn.KnownUpTo tick) holds keeps is =
    let on_time = timely First kept (turn.KnownUpTo tick) is in
    let goes = known-goes (by convention First) turns kept input tick refl keeps on_time.on (known-high First kept.latest tick on_time.range) in
    record { allowed = goes.allowed; keeps = goes.keeps }
turn-goes convention Last turns kept input (turn.Reading reading) holds keeps is =
    let goes = reading-follows convention turns kept input reading holds keeps (timely Last kept (turn.Reading reading) is) in
    record { allowed = goes.allowed; keeps = goes.keeps }
turn-goes convention Last turns kept input (turn.KnownUpTo tick) holds keeps is =
    let on_time = timely Last kept (turn.KnownUpTo tick) is in
    let goes = known-follows convention turns kept input tick holds keeps on_time.on (known-high Last kept.latest tick on_time.range) in
    record { allowed = goes.allowed; keeps = goes.keeps }
turn-goes convention Refuse turns kept input (turn.Reading reading) holds keeps is =
    let goes = reading-goes (by convention Refuse) turns kept input reading refl holds keeps (timely Refuse kept (turn.Reading reading) is) in
    record { allowed = goes.allowed; keeps = goes.keeps }
turn-goes convention Refuse turns kept input (turn.KnownUpTo tick) holds keeps is =
    let on_time = timely Refuse kept (turn.KnownUpTo tick) is in
    let goes = known-goes (by convention Refuse) turns kept input tick refl keeps on_time.on (known-high Refuse kept.latest tick on_time.range) in
    record { allowed = goes.allowed; keeps = goes.keeps }
turn-goes convention Spread turns kept input (turn.Reading reading) holds keeps is =
    let goes = reading-goes (by convention Spread) turns kept input reading refl holds keeps (timely Spread kept (turn.Reading reading) is) in
    record { allowed = goes.allowed; keeps = goes.keeps }
turn-goes convention Spread turns kept input (turn.KnownUpTo tick) holds keeps is =
    let on_time = timely Spread kept (turn.KnownUpTo tick) is in
    let goes = known-goes (by convention Spread) turns kept input tick refl keeps on_time.on (known-high Spread kept.latest tick on_time.range) in
    record { allowed = goes.allowed; keeps = goes.keeps }

-- a turn, by whether it is taken
abbrev pub stepped_by : Option TurnFault → Options → Turn → Kept → Step
stepped_by fault options turn kept = if is_none fault then taken options turn kept else record { kept = kept; updates = [] }

abbrev pub one_by : Option TurnFault → Turn → List Turn
one_by fault turn = if is_none fault then turn ∷ [] else []

one-goes : (fault : Option TurnFault) (convention : Convention) (ties : Ties) (turns : List Turn) (kept : Kept) (input : InputFeed) (turn : Turn) → HoldsATick convention
    → Keeps convention ties turns kept input → turn_fault ties kept turn ≡ fault
    → Goes convention ties (turns ++ one_by fault turn) (stepped_by fault (by convention ties) turn kept) input
one-goes None convention ties turns kept input turn holds keeps is = turn-goes convention ties turns kept input turn holds keeps is
one-goes (Some fault) convention ties turns kept input turn holds keeps is = record {
  allowed = tt;
  keeps = subst (λ (list : List Turn). Keeps convention ties list kept input) (sym (append-nil turns)) keeps;
}

-- turns, one after another
pub all-go : (convention : Convention) (ties : Ties) (more before : List Turn) (kept : Kept) (input : InputFeed) → HoldsATick convention → Keeps convention ties before kept input
    → Goes convention ties (before ++ taken_from (by convention ties) more kept) (stepped_all (by convention ties) more kept) input
all-go convention ties [] before kept input holds keeps = record {
  allowed = tt;
  keeps = subst (λ (list : List Turn). Keeps convention ties list kept input) (sym (append-nil before)) keeps;
}
all-go convention ties (turn ∷ more) before kept input holds keeps =
    let options = by convention ties in
    let fault = turn_fault ties kept turn in
    let step = stepped options turn kept in
    let one = one_by fault turn in
    let goes = one-goes fault convention ties before kept input turn holds keeps refl in
    let later = updated_all step.updates input in
    let rest = all-go convention ties more (before ++ one) step.kept later holds goes.keeps in
    let last = stepped_all options more step.kept in
    record {
      allowed = allowed-append input.edge step.updates last.updates goes.allowed (subst (λ (e : Edge). Allowed e last.updates) (updated-edge step.updates input) rest.allowed);
      keeps = subst (λ (i : InputFeed). Keeps convention ties (before ++ (one ++ taken_from options more step.kept)) last.kept i) (sym (updated-append step.updates last.updates input))
          (subst (λ (list : List Turn). Keeps convention ties list last.kept (updated_all last.updates later)) (append_assoc before one (taken_from options more step.kept)) rest.keeps);
    }

-- before the first turn
shows-none : (convention : Convention) (age : Option ℕ) → Shows convention age [] unknown_input
shows-none (Hold max_age) None = record { low = omega (arith, ints); high = grind (arith, ints); young = tt; kind = tt; rows = λ cut on. refl }
shows-none (Hold max_age) (Some age) = record { low = omega (arith, ints); high = grind (arith, ints); young = tt; kind = tt; rows = λ cut on. refl }
shows-none Event None = record { low = omega (arith, ints); high = grind (arith, ints); young = tt; kind = refl; rows = λ cut on. refl }
shows-none Event (Some age) = record { low = omega (arith, ints); high = grind (arith, ints); young = tt; kind = refl; rows = λ cut on. refl }

prompt-first : (convention : Convention) (ties : Ties) → counted ties [] ≡ [] → IsNear ties (neg_ℤ T) None → Prompt (by convention ties) [] nothing_kept unknown_input
prompt-first convention ties none near = record {
  edge = refl;
  mark = refl;
  low = omega (arith, ints);
  high = grind (arith, ints);
  latest = ap (λ (list : List Reading). last_tick None list) (sym none);
  near = near;
  at = refl;
  shows = subst (λ (list : List Reading). Shows convention (age_of convention) list unknown_input) (sym none) (shows-none convention (age_of convention));
  apart = subst (λ (list : List Reading). AreAfter None list) (sym none) tt;
  counts = subst (λ (list : List Reading). Counts 0 (length list) 0) (sym none) (record { few = omega arith; is = refl });
}

keeps-first : (convention : Convention) (ties : Ties) → Keeps convention ties [] nothing_kept unknown_input
keeps-first convention First = prompt-first convention First refl tt
keeps-first convention Last = record {
  edge = refl;
  mark = refl;
  low = omega (arith, ints);
  high = grind (arith, ints);
  at = refl;
  stays = record { none = refl; shows = shows-none convention (age_of convention) };
  counts = record { few = omega arith; is = refl };
}
keeps-first convention Refuse = prompt-first convention Refuse refl tt
keeps-first convention Spread = prompt-first convention Spread refl tt

pub from-first : (options : Options) (turns : List Turn) → HoldsATick options.convention
    → Goes options.convention options.ties (taken_turns options turns) (converted options turns) unknown_input
from-first options turns holds =
    all-go options.convention options.ties turns [] nothing_kept unknown_input holds (keeps-first options.convention options.ties)

-- the rows now, and up to where they are known
keeps-cut : (convention : Convention) (ties : Ties) (turns : List Turn) (kept : Kept) (input : InputFeed) → Keeps convention ties turns kept input → input.edge.watermark ≡ cut_of ties turns
keeps-cut convention First turns kept input keeps = prompt-cut (by convention First) turns kept input keeps
keeps-cut convention Last turns kept input keeps = delayed-cut convention turns kept input keeps
keeps-cut convention Refuse turns kept input keeps = prompt-cut (by convention Refuse) turns kept input keeps
keeps-cut convention Spread turns kept input keeps = prompt-cut (by convention Spread) turns kept input keeps

keeps-rows : (convention : Convention) (ties : Ties) (turns : List Turn) (kept : Kept) (input : InputFeed) → Keeps convention ties turns kept input
    → rows_now input ≡ meant (by convention ties) turns (cut_of ties turns)
keeps-rows convention First turns kept input keeps = prompt-rows (by convention First) turns kept input keeps
keeps-rows convention Last turns kept input keeps = delayed-rows convention turns kept input keeps
keeps-rows convention Refuse turns kept input keeps = prompt-rows (by convention Refuse) turns kept input keeps
keeps-rows convention Spread turns kept input keeps = prompt-rows (by convention Spread) turns kept input keeps

-- what is kept
pub record IsKeptOf (ties : Ties) (turns : List Turn) (kept : Kept) : Type 0 where
  pub mark : kept.mark ≡ last_start (neg_ℤ T) turns
  pub latest : option_map (λ r. r.tick) kept.latest ≡ last_tick None (counted ties (readings_of turns))
  pub apart : AreAfter None (counted ties (readings_of turns))
  pub counts : Counts (length (readings_of turns)) (length (counted ties (readings_of turns))) kept.skipped

kept-prompt : (options : Options) (turns : List Turn) (kept : Kept) (input : InputFeed) → Prompt options turns kept input → IsKeptOf options.ties turns kept
kept-prompt options turns kept input keeps = record { mark = keeps.mark; latest = keeps.latest; apart = keeps.apart; counts = keeps.counts }

keeps-kept : (convention : Convention) (ties : Ties) (turns : List Turn) (kept : Kept) (input : InputFeed) → Keeps convention ties turns kept input → IsKeptOf ties turns kept
keeps-kept convention First turns kept input keeps = kept-prompt (by convention First) turns kept input keeps
keeps-kept convention Last turns kept input keeps =
    let latest = delayed-latest convention turns kept input keeps in
    record { mark = keeps.mark; latest = latest.0; apart = latest.1; counts = keeps.counts }
keeps-kept convention Refuse turns kept input keeps = kept-prompt (by convention Refuse) turns kept input keeps
keeps-kept convention Spread turns kept input keeps = kept-prompt (by convention Spread) turns kept input keeps

keeps-ends : (convention : Convention) (ties : Ties) (turns : List Turn) (kept : Kept) (input : InputFeed) → HoldsATick convention → Keeps convention ties turns kept input
    → Closes (age_of convention) (counted ties (readings_of turns)) (reached ties turns) (last_updates (by convention ties) kept) input
keeps-ends convention First turns kept input holds keeps = prompt-ends (by convention First) turns kept input refl keeps
keeps-ends convention Last turns kept input holds keeps = delayed-ends convention turns kept input holds keeps
keeps-ends convention Refuse turns kept input holds keeps = prompt-ends (by convention Refuse) turns kept input refl keeps
keeps-ends convention Spread turns kept input holds keeps = prompt-ends (by convention Spread) turns kept input refl keeps

-- the feed of one input
abbrev pub one_feed : InputFeed → Feed
one_feed input = record { inputs = input ∷ []; finished = false }

pub record IsFed (updates : List Update) (input : InputFeed) : Type 0 where
  pub allowed : AreAllowed (events_of updates ++ Finish ∷ []) (one_feed input)
  pub is : after_all (events_of updates) (one_feed input) ≡ one_feed (updated_all updates input)

pub is-fed : (updates : List Update) (input : InputFeed) → Allowed input.edge updates → IsFed updates input
is-fed [] input is = record { allowed = (refl, tt); is = refl }
is-fed (update ∷ updates) input is =
    let event = Input 0 update in
    let next : after event (one_feed input) ≡ one_feed (updated update input) =
    ap (λ (fault : Option EventFault). if is_none fault then one_feed (updated update input) else one_feed input) is.0 in
    let rest = is-fed updates (updated update input) is.1 in
    record {
      allowed = (is.0, subst (λ (f : Feed). AreAllowed (events_of updates ++ Finish ∷ []) f) (sym next) rest.allowed);
      is = ap (λ (f : Feed). after_all (events_of updates) f) next ∙ rest.is;
    }

-- the laws
pub now-fed : (options : Options) (turns : List Turn) → HoldsATick options.convention
    → all_rows_now (feed_of (updates_now options turns)) ≡ meant options (taken_turns options turns) (cut_of options.ties (taken_turns options turns)) ∷ []
now-fed options turns holds =
    let goes = from-first options turns holds in
    let updates = updates_now options turns in
    let rows = keeps-rows options.convention options.ties (taken_turns options turns) (converted options turns).kept (updated_all updates unknown_input) goes.keeps in
    ap (λ (f : Feed). all_rows_now f) (is-fed updates unknown_input goes.allowed).is ∙ ap (λ (list : List Snapshot). list ∷ []) rows

pub cut-fed : (options : Options) (turns : List Turn) → HoldsATick options.convention
    → watermarks (feed_of (updates_now options turns)) ≡ cut_of options.ties (taken_turns options turns) ∷ []
cut-fed options turns holds =
    let goes = from-first options turns holds in
    let updates = updates_now options turns in
    let cut = keeps-cut options.convention options.ties (taken_turns options turns) (converted options turns).kept (updated_all updates unknown_input) goes.keeps in
    ap (λ (f : Feed). watermarks f) (is-fed updates unknown_input goes.allowed).is ∙ ap (λ (w : ℤ). w ∷ []) cut

pub last-fed : (options : Options) (turns : List Turn) → HoldsATick options.convention
    → Closes (age_of options.convention) (counted options.ties (readings_of (taken_turns options turns))) (reached options.ties (taken_turns options turns))
    (updates_at_last options turns) unknown_input
last-fed options turns holds =
    let goes = from-first options turns holds in
    let updates = updates_now options turns in
    let kept = (converted options turns).kept in
    let later = updated_all updates unknown_input in
    let closes = keeps-ends options.convention options.ties (taken_turns options turns) kept later holds goes.keeps in
    let last = last_updates options kept in
    record {
      allowed = allowed-append unknown_input.edge updates last goes.allowed (subst (λ (e : Edge). Allowed e last) (updated-edge updates unknown_input) closes.allowed);
      rows = ap (λ (i : InputFeed). rows_now i) (updated-append updates last unknown_input) ∙ closes.rows;
    }

pub end-fed : (options : Options) (turns : List Turn) → HoldsATick options.convention
    → closed_rows (after Finish (feed_of (updates_at_last options turns))) ≡ meant options (taken_turns options turns) (end_of options (taken_turns options turns)) ∷ []
end-fed options turns holds =
    let last = last-fed options turns holds in
    ap (λ (f : Feed). closed_rows (after Finish f)) (is-fed (updates_at_last options turns) unknown_input last.allowed).is ∙ ap (λ (list : List Snapshot). list ∷ []) last.rows

pub allowed-fed : (options : Options) (turns : List Turn) → HoldsATick options.convention → AreAllowed (events_of (updates_at_last options turns) ++ Finish ∷ []) (empty_feed 1)
allowed-fed options turns holds = (is-fed (updates_at_last options turns) unknown_input (last-fed options turns holds).allowed).allowed

pub kept-of : (options : Options) (turns : List Turn) → HoldsATick options.convention → IsKeptOf options.ties (taken_turns options turns) (converted options turns).kept
kept-of options turns holds =
    let goes = from-first options turns holds in
    keeps-kept options.convention options.ties (taken_turns options turns) (converted options turns).kept (updated_all (updates_now options turns) unknown_input) goes.keeps

pub cells-of : (options : Options) (turns : List Turn) (cut tick : ℤ) → HoldsATick options.convention → tick ≤ℤ cut
    → cell_at (meant options (taken_turns options turns) cut) tick
    ≡ value_at (age_of options.convention) tick (last_by tick (counted options.ties (readings_of (taken_turns options turns))))
cells-of options turns cut tick holds under =
    cells (age_of options.convention) None (counted options.ties (readings_of (taken_turns options turns))) cut tick (kept-of options turns holds).apart under

-- the rows are in order
pub order-fed : (options : Options) (turns : List Turn) → HoldsATick options.convention
    → InOrder (neg_ℤ T) (cut_of options.ties (taken_turns options turns)) (meant options (taken_turns options turns) (cut_of options.ties (taken_turns options turns)))
order-fed options turns holds =
    let all = taken_turns options turns in
    let kept = (converted options turns).kept in
    let goes = from-first options turns holds in
    let updates = updates_now options turns in
    let input = updated_all updates unknown_input in
    let fed = (is-fed updates unknown_input goes.allowed).is in
    let ordered = subst (λ (f : Feed). AllByRecursion IsInOrder f.inputs) fed (fed-order 1 (events_of updates)) in
    let rows = keeps-rows options.convention options.ties all kept input goes.keeps in
    let cut = keeps-cut options.convention options.ties all kept input goes.keeps in
    subst (λ (list : List Snapshot). InOrder (neg_ℤ T) (cut_of options.ties all) list) rows
    (subst (λ (w : ℤ). InOrder (neg_ℤ T) w (rows_now input)) cut ordered.0.rows)
