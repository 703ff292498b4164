-- Events that a feed takes, one after another: the turns of inputs.
use Rattle.std.proofs.Common.{◌≡◌, ◌≤◌, ℕ, zero, suc, ℤ, ◌≤ℤ◌, Bool, true, false, if◌then◌else◌, int_lt, List, [], ◌∷◌, ◌++◌, length, map, Option, Some, None, is_none}
use Rattle.std.specs.Prelude.{⊤}
use Rattle.std.proofs.Common.{refl, sym, ap, subst, ◌∙◌, inl, inr, arith, append_assoc, length-append}
use Rattle.std.proofs.lemmas.Bool.{cases_Bool}
use Rattle.std.proofs.lemmas.Int.{ints}
use Rattle.std.specs.List.{AllByRecursion}
use Rattle.std.specs.Option.{ForSome}
use Rattle.tilt_feed.proofs.Updates.{allowed-of, step-of}
use Rattle.tilt_feed.specs.Events.{after, after_all, changed_by, edge_of, event_fault, finished_input, is_time, update_fault, updated, updated_at}
use Rattle.tilt_feed.specs.Feed.{Feed, InputFeed, unknown_input}
use Rattle.tilt_feed.specs.declared.edge.Edge.{Edge}
use Rattle.tilt_feed.specs.declared.event.Event.{Event}
use Rattle.tilt_feed.specs.declared.event.Event.TheVariants as event
use Rattle.tilt_feed.specs.declared.fault.EventFault.{EventFault}
use Rattle.tilt_feed.specs.declared.update.Update.{Update}
use Rattle.tilt_feed.specs.declared.update.Update.TheVariants.{KnownUpTo}
use Rattle.tilt_watermarks.proofs.Fitting.{fits-parts, next-allowed}
use Rattle.tilt_watermarks.specs.Held.{Waiting, due, fits, is_due, known, moved, moved_all, rising}
use Rattle.tilt_watermarks.specs.Laws.{AreAllowed, IsFit}
use Rattle.tilt_watermarks.specs.Steps.{closed, events_at, raised, raising}

-- the events are allowed, and a feed is another one after them
pub record Goes (events : List Event) (feed later : Feed) : Type 0 where
  pub allowed : AreAllowed events feed
  pub is : after_all events feed ≡ later

pub goes-none : (feed : Feed) → Goes [] feed feed
goes-none feed = record { allowed = tt; is = refl }

pub goes-one : (event : Event) (feed : Feed) → event_fault feed event ≡ None → Goes (event ∷ []) feed (changed_by event feed.inputs)
goes-one event feed is = record {
  allowed = (is, tt);
  is = ap (λ (fault : Option EventFault). if is_none fault then changed_by event feed.inputs else feed) is;
}

pub goes-on : (events more : List Event) (feed later last : Feed) → Goes events feed later → Goes more later last → Goes (events ++ more) feed last
goes-on [] more feed later last first second = record {
  allowed = subst (λ (f : Feed). AreAllowed more f) (sym first.is) second.allowed;
  is = ap (λ (f : Feed). after_all more f) first.is ∙ second.is;
}
goes-on (event ∷ events) more feed later last first second =
    let rest = goes-on events more (after event feed) later last (record { allowed = first.allowed.1; is = first.is }) second in
    record { allowed = (first.allowed.0, rest.allowed); is = rest.is }

-- a feed that isn't finished
abbrev pub open_feed : List InputFeed → Feed
open_feed inputs = record { inputs = inputs; finished = false }

-- the inputs of a feed have the edges that are kept
abbrev pub Match : List Waiting → List InputFeed → Type 0
Match [] [] = ⊤
Match [] (feed ∷ feeds) = ⊥
Match (input ∷ inputs) [] = ⊥
Match (input ∷ inputs) (feed ∷ feeds) = (input.edge ≡ feed.edge) × Match inputs feeds

-- an input after others
edge-after : (front : List InputFeed) (input : InputFeed) (rest : List InputFeed) (number : ℕ) → length front ≡ number → edge_of (front ++ input ∷ rest) number ≡ input.edge
edge-after [] input rest zero is = refl
edge-after [] input rest (suc number) is = absurd (omega arith)
edge-after (x ∷ front) input rest zero is = absurd (omega arith)
edge-after (x ∷ front) input rest (suc number) is = edge-after front input rest number (omega arith)

updated-after : (front : List InputFeed) (input : InputFeed) (rest : List InputFeed) (number : ℕ) (update : Update) → length front ≡ number
    → updated_at number update (front ++ input ∷ rest) ≡ front ++ updated update input ∷ rest
updated-after [] input rest zero update is = refl
updated-after [] input rest (suc number) update is = absurd (omega arith)
updated-after (x ∷ front) input rest zero update is = absurd (omega arith)
updated-after (x ∷ front) input rest (suc number) update is = ap (λ (list : List InputFeed). x ∷ list) (updated-after front input rest number update (omega arith))

-- no input
pub edge-past : (inputs : List InputFeed) (number : ℕ) → length inputs ≤ number → edge_of inputs number ≡ unknown_input.edge
edge-past [] number past = refl
edge-past (x ∷ inputs) zero past = absurd (omega arith)
edge-past (x ∷ inputs) (suc number) past = edge-past inputs number (omega arith)

pub updated-past : (inputs : List InputFeed) (number : ℕ) (update : Update) → length inputs ≤ number → updated_at number update inputs ≡ inputs
updated-past [] number update past = refl
updated-past (x ∷ inputs) zero update past = absurd (omega arith)
updated-past (x ∷ inputs) (suc number) update past = ap (λ (list : List InputFeed). x ∷ list) (updated-past inputs number update (omega arith))

-- updates that are allowed one after another
abbrev pub Allowed : Edge → List Update → Type 0
Allowed edge [] = ⊤
Allowed edge (update ∷ updates) = (update_fault false edge update ≡ None) × Allowed (moved update edge) updates

pub allowed-append : (edge : Edge) (first second : List Update) → Allowed edge first → Allowed (moved_all first edge) second → Allowed edge (first ++ second)
allowed-append edge [] second one two = two
allowed-append edge (update ∷ first) second one two = (one.0, allowed-append (moved update edge) first second one.1 two)

-- they don't lower the watermark
pub allowed-rise : (edge : Edge) (updates : List Update) → Allowed edge updates → edge.watermark ≤ℤ (moved_all updates edge).watermark
allowed-rise edge [] is = omega (arith, ints)
allowed-rise edge (update ∷ updates) is =
    let low = (step-of edge update (allowed-of false edge update is.0).1).low in
    let more = allowed-rise (moved update edge) updates is.1 in
    omega (arith, ints, low, more)

-- an input after them
abbrev pub updated_all : List Update → InputFeed → InputFeed
updated_all [] input = input
updated_all (update ∷ updates) input = updated_all updates (updated update input)

pub updated-edge : (updates : List Update) (input : InputFeed) → moved_all updates input.edge ≡ (updated_all updates input).edge
updated-edge [] input = refl
updated-edge (update ∷ updates) input = updated-edge updates (updated update input)

pub match-edge : (updates : List Update) (edge : Edge) (input : InputFeed) → edge ≡ input.edge → moved_all updates edge ≡ (updated_all updates input).edge
match-edge updates edge input same = ap (moved_all updates) same ∙ updated-edge updates input

-- the turn of one input
pub turn-goes : (updates : List Update) (number : ℕ) (front : List InputFeed) (input : InputFeed) (rest : List InputFeed) → length front ≡ number → Allowed input.edge updates
    → Goes (events_at number updates) (open_feed (front ++ input ∷ rest)) (open_feed (front ++ updated_all updates input ∷ rest))
turn-goes [] number front input rest at is = goes-none (open_feed (front ++ input ∷ rest))
turn-goes (update ∷ updates) number front input rest at is =
    let feed = open_feed (front ++ input ∷ rest) in
    let allowed = ap (λ (edge : Edge). update_fault false edge update) (edge-after front input rest number at) ∙ is.0 in
    let first = subst (λ (inputs : List InputFeed). Goes (event.Input number update ∷ []) feed (open_feed inputs)) (updated-after front input rest number update at)
    (goes-one (event.Input number update) feed allowed) in
    goes-on (event.Input number update ∷ []) (events_at number updates) feed _ _ first (turn-goes updates number front (updated update input) rest at is.1)

-- what follows an input, seen after it
pub shifted : (events : List Event) (front : List InputFeed) (input : InputFeed) (rest later : List InputFeed)
    → Goes events (open_feed ((front ++ input ∷ []) ++ rest)) (open_feed ((front ++ input ∷ []) ++ later)) → Goes events (open_feed (front ++ input ∷ rest)) (open_feed (front ++ input ∷ later))
shifted events front input rest later goes =
    subst (λ (inputs : List InputFeed). Goes events (open_feed inputs) (open_feed (front ++ input ∷ later))) (append_assoc front (input ∷ []) rest)
    (subst (λ (inputs : List InputFeed). Goes events (open_feed ((front ++ input ∷ []) ++ rest)) (open_feed inputs)) (append_assoc front (input ∷ []) later) goes)

pub length-one-more : (front : List InputFeed) (input : InputFeed) (number : ℕ) → length front ≡ number → length (front ++ input ∷ []) ≡ suc number
length-one-more front input number at = simp length-append (omega arith)

-- what an input hands on when it becomes known up to an end is allowed
abbrev pub IsEnd : Option ℤ → Type 0
IsEnd end = ForSome end (λ tick. is_time tick ≡ true)

pub due-allowed : (end : Option ℤ) (edge : Edge) (updates : List Update) → fits edge.watermark updates ≡ true → Allowed edge (due end updates)
due-allowed end edge [] is = tt
due-allowed end edge (update ∷ updates) is =
    let parts = fits-parts edge.watermark update updates is in
    elim (cases_Bool (is_due end update)) [
      | inl here ↦ subst (λ (b : Bool). Allowed edge (if b then update ∷ due end updates else [])) (sym here)
          (next-allowed edge update parts.0, due-allowed end (moved update edge) updates parts.1)
      | inr none ↦ subst (λ (b : Bool). Allowed edge (if b then update ∷ due end updates else [])) (sym none) tt
    ]

known-allowed : (edge : Edge) (tick : ℤ) → is_time tick ≡ true → int_lt edge.watermark tick ≡ true → update_fault false edge (KnownUpTo tick) ≡ None
known-allowed edge tick time above =
    let on : int_lt tick edge.watermark ≡ false = grind (arith, ints) in
    rw (time, on) refl

rising-by : (b : Bool) (edge : Edge) (tick : ℤ) → is_time tick ≡ true → int_lt edge.watermark tick ≡ b → Allowed edge (if b then KnownUpTo tick ∷ [] else [])
rising-by false edge tick time is = tt
rising-by true edge tick time is = (known-allowed edge tick time is, tt)

rising-allowed : (end : Option ℤ) (edge : Edge) → IsEnd end → Allowed edge (rising end edge)
rising-allowed None edge times = tt
rising-allowed (Some tick) edge times = rising-by (int_lt edge.watermark tick) edge tick (times tick refl) refl

pub handed-allowed : (end : Option ℤ) (input : Waiting) → IsEnd end → fits input.edge.watermark input.held ≡ true → Allowed input.edge (known end input).handed
handed-allowed end input times is =
    allowed-append input.edge (due end input.held) (rising end (moved_all (due end input.held) input.edge)) (due-allowed end input.edge input.held is)
    (rising-allowed end (moved_all (due end input.held) input.edge) times)

-- the feeds of all inputs after that
abbrev pub all_updated : Option ℤ → List Waiting → List InputFeed → List InputFeed
all_updated end [] feeds = []
all_updated end (input ∷ inputs) [] = []
all_updated end (input ∷ inputs) (feed ∷ feeds) = updated_all (known end input).handed feed ∷ all_updated end inputs feeds

pub raised-match : (end : Option ℤ) (inputs : List Waiting) (feeds : List InputFeed) → Match inputs feeds → Match (map (raised end) inputs) (all_updated end inputs feeds)
raised-match end [] feeds is = tt
raised-match end (input ∷ inputs) [] is = absurd is
raised-match end (input ∷ inputs) (feed ∷ feeds) is = (match-edge (known end input).handed input.edge feed is.0, raised-match end inputs feeds is.1)

pub raising-goes : (lateness : Option ℕ) (end : Option ℤ) (number : ℕ) (front : List InputFeed) (inputs : List Waiting) (feeds : List InputFeed) → IsEnd end → Match inputs feeds
    → AllByRecursion (IsFit lateness) inputs → length front ≡ number → Goes (raising number end inputs) (open_feed (front ++ feeds)) (open_feed (front ++ all_updated end inputs feeds))
raising-goes lateness end number front [] [] times is fit at = goes-none (open_feed (front ++ []))
raising-goes lateness end number front [] (feed ∷ feeds) times is fit at = absurd is
raising-goes lateness end number front (input ∷ inputs) [] times is fit at = absurd is
raising-goes lateness end number front (input ∷ inputs) (feed ∷ feeds) times is fit at =
    let turn = (known end input).handed in
    let now = updated_all turn feed in
    let first = turn-goes turn number front feed feeds at (subst (λ (edge : Edge). Allowed edge turn) is.0 (handed-allowed end input times fit.0.fits)) in
    let more = raising-goes lateness end (suc number) (front ++ now ∷ []) inputs feeds times is.1 fit.1 (length-one-more front now number at) in
    goes-on (events_at number turn) (raising (suc number) end inputs) _ _ _ first (shifted (raising (suc number) end inputs) front now feeds (all_updated end inputs feeds) more)

-- and when nothing more comes
pub closed-match : (inputs : List Waiting) (feeds : List InputFeed) → Match inputs feeds → Match (map closed inputs) (map finished_input feeds)
closed-match [] [] is = tt
closed-match [] (feed ∷ feeds) is = absurd is
closed-match (input ∷ inputs) [] is = absurd is
closed-match (input ∷ inputs) (feed ∷ feeds) is =
    (ap (λ (edge : Edge). let e : Edge = record { open_row = None; watermark = edge.watermark } in e) is.0, closed-match inputs feeds is.1)
