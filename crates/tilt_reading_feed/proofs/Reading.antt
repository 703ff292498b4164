-- The laws of feeds of readings.
use Rattle.std.proofs.Common.{◌≡◌, ◌≤◌, ◌<◌, ◌+◌, ℕ, zero, suc, ℤ, neg_ℤ, List, [], ◌∷◌, ◌++◌, length, map, replicate, slice_get, get_or}
use Rattle.std.proofs.Common.{Option, Some, None, option_map, refl, sym, ap, ap₂, subst, ◌∙◌, arith, append_assoc}
use Rattle.std.proofs.lemmas.List.{length-map, length-replicate}
use Rattle.std.proofs.lemmas.Option.{get_or_from_slice_get, same_Some, slice_get-map, slice_get_within}
use Rattle.tilt_base.specs.declared.limits.TheConstants.{T}
use Rattle.tilt_conventions.proofs.Converting.{cut-fed, from-first, is-fed, last-fed, now-fed}
use Rattle.tilt_conventions.proofs.Showing.{Allowed, updated_all}
use Rattle.tilt_conventions.specs.Laws.{AreAllowed, HoldsATick, cut_of, end_of, taken_turns, updates_at_last, updates_now}
use Rattle.tilt_conventions.specs.Rows.{age_of, counted, rows_of}
use Rattle.tilt_conventions.specs.declared.options.Options.{Options}
use Rattle.tilt_conventions.specs.declared.turn.Reading.{Reading}
use Rattle.tilt_conventions.specs.declared.turn.Turn.{Turn}
use Rattle.tilt_conventions.specs.declared.turn.Turn.TheVariants.{KnownUpTo}
use Rattle.tilt_feed.specs.Events.{finished_input}
use Rattle.tilt_feed.specs.Feed.{Feed, InputFeed, all_rows_now, closed_rows, empty_feed, rows_now, unknown_input, watermarks}
use Rattle.tilt_feed.specs.declared.event.Event.{Event}
use Rattle.tilt_feed.specs.declared.event.Event.TheVariants.{Finish}
use Rattle.tilt_feed.specs.declared.update.Update.{Update}
use Rattle.tilt_reading_feed.proofs.Feeding.{AllAllowed, AreOf, IsFedBy, ends-allowed, ends-feed, fed-by, of-more, within}
use Rattle.tilt_reading_feed.proofs.Lines.{last-has, read-has, stepped_line}
use Rattle.tilt_reading_feed.proofs.Whole.{all-taken}
use Rattle.tilt_reading_feed.specs.Laws.{HoldTicks, events_at_last, events_now, feed_after, line_stepped, lines_read, lines_stepped, nothing_read}
use Rattle.tilt_reading_feed.specs.Laws.{readings_at, taken_lines, turns_at, updates_of}
use Rattle.tilt_reading_feed.specs.Steps.{FeedKept, InputKept, events_at, events_each, events_known, events_read, first_kept, handed, handed_at, inputs_known}
use Rattle.tilt_reading_feed.specs.Steps.{inputs_read, inputs_turned, last_handed, line_fault, turn_of, turned}
use Rattle.tilt_reading_feed.specs.declared.fault.FeedFault.{FeedFault}
use Rattle.tilt_reading_lines.specs.Lines.{Said}
use Rattle.tilt_reading_lines.specs.declared.rules.InputReading.{InputReading}
use Rattle.tilt_stream.specs.Snap.{Snapshot}

-- how many inputs there are
turned-length : (inputs : List InputKept) (number : ℕ) (turn : Turn) → length (inputs_turned number turn inputs) ≡ length inputs
turned-length [] number turn = refl
turned-length (input ∷ inputs) zero turn = refl
turned-length (input ∷ inputs) (suc number) turn = ap suc (turned-length inputs number turn)

read-length : (readings : List InputReading) (inputs : List InputKept) → length (inputs_read readings inputs) ≡ length inputs
read-length [] inputs = refl
read-length (reading ∷ readings) inputs =
    read-length readings (inputs_turned reading.input (turn_of reading) inputs) ∙ turned-length inputs reading.input (turn_of reading)

known-length : (known : Option ℤ) (inputs : List InputKept) → length (inputs_known known inputs) ≡ length inputs
known-length None inputs = refl
known-length (Some tick) inputs = length-map inputs (turned (KnownUpTo tick))

-- the events are of these inputs
at-of : (inputs number : ℕ) (updates : List Update) → number < inputs → AreOf inputs (events_at number updates)
at-of inputs number [] below = tt
at-of inputs number (update ∷ updates) below = (below, at-of inputs number updates below)

turn-of : (inputs : List InputKept) (number from count : ℕ) (turn : Turn) → from + length inputs ≤ count
    → AreOf count (events_at (from + number) (handed_at number turn inputs))
turn-of [] number from count turn few = tt
turn-of (input ∷ inputs) zero from count turn few = at-of count (from + zero) (handed turn input) (omega arith)
turn-of (input ∷ inputs) (suc number) from count turn few =
    let next : from + suc number ≡ suc from + number = omega arith in
    subst (λ (n : ℕ). AreOf count (events_at n (handed_at number turn inputs))) (sym next) (turn-of inputs number (suc from) count turn (omega arith))

read-of : (readings : List InputReading) (inputs : List InputKept) (count : ℕ) → length inputs ≤ count → AreOf count (events_read readings inputs)
read-of [] inputs count few = tt
read-of (reading ∷ readings) inputs count few =
    let later = inputs_turned reading.input (turn_of reading) inputs in
    let same = turned-length inputs reading.input (turn_of reading) in
    let handed = handed_at reading.input (turn_of reading) inputs in
    let number : 0 + reading.input ≡ reading.input = omega arith in
    of-more count (events_at reading.input handed) (events_read readings later)
    (subst (λ (n : ℕ). AreOf count (events_at n handed)) number (turn-of inputs reading.input 0 count (turn_of reading) (omega (arith, few))))
    (read-of readings later count (omega (arith, same, few)))

each-of : (updates : InputKept → List Update) (inputs : List InputKept) (from count : ℕ) → from + length inputs ≤ count → AreOf count (events_each updates from inputs)
each-of updates [] from count few = tt
each-of updates (input ∷ inputs) from count few =
    of-more count (events_at from (updates input)) (events_each updates (suc from) inputs)
    (at-of count from (updates input) (omega arith)) (each-of updates inputs (suc from) count (omega arith))

known-of : (known : Option ℤ) (inputs : List InputKept) (count : ℕ) → length inputs ≤ count → AreOf count (events_known known inputs)
known-of None inputs count few = tt
known-of (Some tick) inputs count few = each-of (handed (KnownUpTo tick)) inputs 0 count (omega (arith, few))

-- what lines keep of inputs is as many, and their events are of these
pub record Counts (count : ℕ) (kept : FeedKept) (events : List Event) : Type 0 where
  pub inputs : length kept.inputs ≡ count
  pub are : AreOf count events

line-counts : (fault : Option FeedFault) (said : Said) (kept : FeedKept)
    → Counts (length kept.inputs) (stepped_line fault said kept).kept (stepped_line fault said kept).events
line-counts None said kept =
    let inputs = inputs_read said.readings kept.inputs in
    let count = length kept.inputs in
    let same = read-length said.readings kept.inputs in
    record {
      inputs = known-length said.known inputs ∙ same;
      are = of-more count (events_read said.readings kept.inputs) (events_known said.known inputs) (read-of said.readings kept.inputs count (omega arith))
          (known-of said.known inputs count (omega (arith, same)));
    }
line-counts (Some fault) said kept = record { inputs = refl; are = tt }

lines-count : (lines : List Said) (kept : FeedKept) → Counts (length kept.inputs) (lines_stepped lines kept).kept (lines_stepped lines kept).events
lines-count [] kept = record { inputs = refl; are = tt }
lines-count (said ∷ lines) kept =
    let one = line-counts (line_fault kept said) said kept in
    let step = line_stepped said kept in
    let more = lines-count lines step.kept in
    record {
      inputs = more.inputs ∙ one.inputs;
      are = of-more (length kept.inputs) step.events (lines_stepped lines step.kept).events one.are
          (subst (λ (n : ℕ). AreOf n (lines_stepped lines step.kept).events) one.inputs more.are);
    }

read-counts : (options : List Options) (lines : List Said) → Counts (length options) (lines_read options lines).kept (events_now options lines)
read-counts options lines =
    subst (λ (n : ℕ). Counts n (lines_read options lines).kept (events_now options lines)) (length-map options first_kept) (lines-count lines (nothing_read options))

-- inputs of which nothing is known
unknown-inputs : (count number : ℕ) (input : InputFeed) → slice_get (replicate count unknown_input) number ≡ Some input → input ≡ unknown_input
unknown-inputs zero number input at = absurd (cc at)
unknown-inputs (suc count) zero input at = sym (same_Some unknown_input input at)
unknown-inputs (suc count) (suc number) input at = unknown-inputs count number input at

unknown-at : (count number : ℕ) → number < count → slice_get (replicate count unknown_input) number ≡ Some unknown_input
unknown-at zero number below = absurd (omega arith)
unknown-at (suc count) zero below = refl
unknown-at (suc count) (suc number) below = unknown-at count number (omega arith)

hold-at : (options : List Options) (number : ℕ) (o : Options) → HoldTicks options → slice_get options number ≡ Some o → HoldsATick o.convention
hold-at [] number o holds at = absurd (cc at)
hold-at (first ∷ options) zero o holds at = subst (λ (x : Options). HoldsATick x.convention) (same_Some first o at) holds.0
hold-at (first ∷ options) (suc number) o holds at = hold-at options number o holds.1 at

-- the updates of each input are allowed, if those of its turns are
all-allowed : (options : List Options) (events : List Event)
    → ((number : ℕ) (o : Options) → slice_get options number ≡ Some o → Allowed unknown_input.edge (updates_of number events))
    → AllAllowed events (replicate (length options) unknown_input)
all-allowed options events each number input at =
    let below = slice_get_within (replicate (length options) unknown_input) number input at in
    let few = length-replicate (length options) unknown_input in
    let here = within options number (omega (arith, below, few)) in
    subst (λ (i : InputFeed). Allowed i.edge (updates_of number events)) (sym (unknown-inputs (length options) number input at)) (each number here.0 here.1)

-- the events of lines
abbrev pub starts : List Options → List InputFeed
starts options = replicate (length options) unknown_input

now-by : (options : List Options) (lines : List Said) → HoldTicks options → IsFedBy (events_now options lines) (starts options)
now-by options lines holds =
    fed-by (events_now options lines) (starts options)
    (subst (λ (n : ℕ). AreOf n (events_now options lines)) (sym (length-replicate (length options) unknown_input)) (read-counts options lines).are)
    (all-allowed options (events_now options lines) (λ number o at.
    subst (λ (list : List Update). Allowed unknown_input.edge list) (sym (read-has options lines number o at).updates)
    (from-first o (turns_at number (taken_lines options lines)) (hold-at options number o holds at)).allowed))

-- and those at the end, before the end itself
abbrev pub events_before : List Options → List Said → List Event
events_before options lines = events_now options lines ++ events_each last_handed 0 (lines_read options lines).kept.inputs

before-by : (options : List Options) (lines : List Said) → HoldTicks options → IsFedBy (events_before options lines) (starts options)
before-by options lines holds =
    let counts = read-counts options lines in
    let few = counts.inputs in
    let last = (lines_read options lines).kept.inputs in
    fed-by (events_before options lines) (starts options)
    (subst (λ (n : ℕ). AreOf n (events_before options lines)) (sym (length-replicate (length options) unknown_input))
    (of-more (length options) (events_now options lines) (events_each last_handed 0 last) counts.are (each-of last_handed last 0 (length options) (omega (arith, few)))))
    (all-allowed options (events_before options lines) (λ number o at.
    subst (λ (list : List Update). Allowed unknown_input.edge list) (sym (last-has options lines number o at))
    (last-fed o (turns_at number (taken_lines options lines)) (hold-at options number o holds at)).allowed))

with-end : (options : List Options) (lines : List Said) → events_at_last options lines ≡ events_before options lines ++ Finish ∷ []
with-end options lines = sym (append_assoc (events_now options lines) (events_each last_handed 0 (lines_read options lines).kept.inputs) (Finish ∷ []))

pub all-events : (options : List Options) (lines : List Said) → HoldTicks options → AreAllowed (events_at_last options lines) (empty_feed (length options))
all-events options lines holds =
    subst (λ (events : List Event). AreAllowed events (empty_feed (length options))) (sym (with-end options lines))
    (ends-allowed (events_before options lines) (starts options) (before-by options lines holds))

-- the input with a number after the events of lines
abbrev pub turns_now : List Options → List Said → ℕ → List Turn
turns_now options lines number = turns_at number (taken_lines options lines)

now-input : (options : List Options) (lines : List Said) (number : ℕ) (o : Options) (holds : HoldTicks options) → slice_get options number ≡ Some o
    → slice_get (now-by options lines holds).later number ≡ Some (updated_all (updates_now o (turns_now options lines number)) unknown_input)
now-input options lines number o holds at =
    (now-by options lines holds).input number unknown_input (unknown-at (length options) number (slice_get_within options number o at))
    ∙ ap (λ (list : List Update). Some (updated_all list unknown_input)) (read-has options lines number o at).updates

-- one of what a feed has of its inputs
of-inputs : {A : Type 0} (f : InputFeed → A) (inputs : List InputFeed) (number : ℕ) (input : InputFeed) (none : A) → slice_get inputs number ≡ Some input
    → get_or (map f inputs) number none ≡ f input
of-inputs f inputs number input none at =
    get_or_from_slice_get (map f inputs) number (f input) none
    (slice_get-map f inputs number ∙ ap (λ (found : Option InputFeed). option_map f found) at)

pub cut-now : (options : List Options) (lines : List Said) (number : ℕ) (o : Options) → HoldTicks options → slice_get options number ≡ Some o
    → get_or (watermarks (feed_after options (events_now options lines))) number (neg_ℤ T) ≡ cut_of o.ties (taken_turns o (turns_now options lines number))
cut-now options lines number o holds at =
    let hold = hold-at options number o holds at in
    let turns = turns_now options lines number in
    let fed = now-by options lines holds in
    let updates = updates_now o turns in
    let one = (is-fed updates unknown_input (from-first o turns hold).allowed).is in
    ap (λ (feed : Feed). get_or (watermarks feed) number (neg_ℤ T)) fed.is
    ∙ of-inputs (λ i. i.edge.watermark) fed.later number (updated_all updates unknown_input) (neg_ℤ T) (now-input options lines number o holds at)
    ∙ ap (λ (feed : Feed). get_or (watermarks feed) 0 (neg_ℤ T)) (sym one)
    ∙ ap (λ (list : List ℤ). get_or list 0 (neg_ℤ T)) (cut-fed o turns hold)

pub rows-now : (options : List Options) (lines : List Said) (number : ℕ) (o : Options) → HoldTicks options → slice_get options number ≡ Some o
    → get_or (all_rows_now (feed_after options (events_now options lines))) number []
    ≡ rows_of (age_of o.convention) (counted o.ties (readings_at number (taken_lines options lines)))
    (get_or (watermarks (feed_after options (events_now options lines))) number (neg_ℤ T))
rows-now options lines number o holds at =
    let hold = hold-at options number o holds at in
    let turns = turns_now options lines number in
    let fed = now-by options lines holds in
    let updates = updates_now o turns in
    let one = (is-fed updates unknown_input (from-first o turns hold).allowed).is in
    ap (λ (feed : Feed). get_or (all_rows_now feed) number []) fed.is
    ∙ of-inputs rows_now fed.later number (updated_all updates unknown_input) [] (now-input options lines number o holds at)
    ∙ ap (λ (feed : Feed). get_or (all_rows_now feed) 0 []) (sym one)
    ∙ ap (λ (list : List (List Snapshot)). get_or list 0 []) (now-fed o turns hold)
    ∙ ap₂ (λ (readings : List Reading) (cut : ℤ). rows_of (age_of o.convention) (counted o.ties readings) cut)
    (all-taken options lines number o at) (sym (cut-now options lines number o holds at))

pub rows-last : (options : List Options) (lines : List Said) (number : ℕ) (o : Options) → HoldTicks options → slice_get options number ≡ Some o
    → get_or (closed_rows (feed_after options (events_at_last options lines))) number []
    ≡ rows_of (age_of o.convention) (counted o.ties (readings_at number (taken_lines options lines)))
    (end_of o (taken_turns o (turns_now options lines number)))
rows-last options lines number o holds at =
    let hold = hold-at options number o holds at in
    let turns = turns_now options lines number in
    let events = events_before options lines in
    let fed = before-by options lines holds in
    let updates = updates_at_last o turns in
    let input = fed.input number unknown_input (unknown-at (length options) number (slice_get_within options number o at))
    ∙ ap (λ (list : List Update). Some (updated_all list unknown_input)) (last-has options lines number o at) in
    let last = slice_get-map finished_input fed.later number ∙ ap (λ (found : Option InputFeed). option_map finished_input found) input in
    ap (λ (list : List Event). get_or (closed_rows (feed_after options list)) number []) (with-end options lines)
    ∙ ap (λ (feed : Feed). get_or (closed_rows feed) number []) (ends-feed events (starts options) fed)
    ∙ of-inputs (λ i. i.rows) (map finished_input fed.later) number (finished_input (updated_all updates unknown_input)) [] last
    ∙ (last-fed o turns hold).rows
    ∙ ap (λ (readings : List Reading). rows_of (age_of o.convention) (counted o.ties readings) (end_of o (taken_turns o turns))) (all-taken options lines number o at)
