-- The feed of several inputs after events: each input has the updates of its own.
use Rattle.std.proofs.Common.{◌≡◌, ◌<◌, ◌==◌, ℕ, zero, suc, false, if◌then◌else◌, List, [], ◌∷◌, ◌++◌, length, slice_get}
use Rattle.std.proofs.Common.{Option, Some, None, is_none, refl, sym, ap, subst, ◌∙◌, inl, inr, arith}
use Rattle.std.specs.Prelude.{⊤}
use Rattle.std.proofs.lemmas.Bool.{cases_Bool, eq-eqb, eqb-true}
use Rattle.std.proofs.lemmas.Option.{same_Some}
use Rattle.tilt_conventions.proofs.Showing.{Allowed, updated_all}
use Rattle.tilt_conventions.specs.Laws.{AreAllowed}
use Rattle.tilt_feed.specs.Events.{after, after_all, edge_of, event_fault, update_fault, updated, updated_at}
use Rattle.tilt_feed.specs.Feed.{Feed, InputFeed}
use Rattle.tilt_feed.specs.declared.edge.Edge.{Edge}
use Rattle.tilt_feed.specs.declared.event.Event.{Event}
use Rattle.tilt_feed.specs.declared.event.Event.TheVariants.{Input, Finish}
use Rattle.tilt_feed.specs.declared.fault.EventFault.{EventFault}
use Rattle.tilt_feed.specs.declared.update.Update.{Update}
use Rattle.tilt_reading_feed.specs.Laws.{updates_of}

-- the events are updates of so many inputs
abbrev pub AreOf : ℕ → List Event → Type 0
AreOf inputs [] = ⊤
AreOf inputs (Input input update ∷ events) = (input < inputs) × AreOf inputs events
AreOf inputs (Finish ∷ events) = ⊥

pub of-more : (inputs : ℕ) (events more : List Event) → AreOf inputs events → AreOf inputs more → AreOf inputs (events ++ more)
of-more inputs [] more one two = two
of-more inputs (Input input update ∷ events) more one two = (one.0, of-more inputs events more one.1 two)
of-more inputs (Finish ∷ events) more one two = absurd one

-- the input with a number after an update of one
updated-here : (inputs : List InputFeed) (number : ℕ) (update : Update) (input : InputFeed) → slice_get inputs number ≡ Some input
    → slice_get (updated_at number update inputs) number ≡ Some (updated update input)
updated-here [] number update input at = absurd (cc at)
updated-here (first ∷ inputs) zero update input at = ap (λ (i : InputFeed). Some (updated update i)) (same_Some first input at)
updated-here (first ∷ inputs) (suc number) update input at = updated-here inputs number update input at

updated-there : (inputs : List InputFeed) (other number : ℕ) (update : Update) → (other ≡ number → ⊥)
    → slice_get (updated_at other update inputs) number ≡ slice_get inputs number
updated-there [] other number update apart = refl
updated-there (first ∷ inputs) zero zero update apart = absurd (apart refl)
updated-there (first ∷ inputs) zero (suc number) update apart = refl
updated-there (first ∷ inputs) (suc other) zero update apart = refl
updated-there (first ∷ inputs) (suc other) (suc number) update apart = updated-there inputs other number update (λ same. apart (ap suc same))

updated-length : (inputs : List InputFeed) (number : ℕ) (update : Update) → length (updated_at number update inputs) ≡ length inputs
updated-length [] number update = refl
updated-length (first ∷ inputs) zero update = refl
updated-length (first ∷ inputs) (suc number) update = ap suc (updated-length inputs number update)

edge-at : (inputs : List InputFeed) (number : ℕ) (input : InputFeed) → slice_get inputs number ≡ Some input → edge_of inputs number ≡ input.edge
edge-at [] number input at = absurd (cc at)
edge-at (first ∷ inputs) zero input at = ap (λ (i : InputFeed). i.edge) (same_Some first input at)
edge-at (first ∷ inputs) (suc number) input at = edge-at inputs number input at

-- an input that is there
pub within : {A : Type 0} (list : List A) (number : ℕ) → number < length list → (item : A) × (slice_get list number ≡ Some item)
within [] number below = absurd (omega arith)
within (first ∷ list) zero below = (first, refl)
within (first ∷ list) (suc number) below = within list number (omega arith)

-- a feed that isn't finished
abbrev pub open_feed : List InputFeed → Feed
open_feed inputs = record { inputs = inputs; finished = false }

-- the events are allowed, and each input has its updates after them
pub record IsFedBy (events : List Event) (inputs : List InputFeed) : Type 0 where
  pub allowed : AreAllowed events (open_feed inputs)
  pub later : List InputFeed
  pub is : after_all events (open_feed inputs) ≡ open_feed later
  pub input : (number : ℕ) (input : InputFeed) → slice_get inputs number ≡ Some input
      → slice_get later number ≡ Some (updated_all (updates_of number events) input)

-- the updates of each input are allowed, one after another
abbrev pub AllAllowed : List Event → List InputFeed → Type 0
AllAllowed events inputs = (number : ℕ) (input : InputFeed) → slice_get inputs number ≡ Some input → Allowed input.edge (updates_of number events)

of-same : (number : ℕ) (update : Update) (events : List Event) → updates_of number (Input number update ∷ events) ≡ update ∷ updates_of number events
of-same number update events = rw (eq-eqb number number refl) refl

of-other : (other number : ℕ) (update : Update) (events : List Event) → (other == number) ≡ false
    → updates_of number (Input other update ∷ events) ≡ updates_of number events
of-other other number update events none = rw none refl

-- the same after the first one
next-allowed : (other : ℕ) (update : Update) (events : List Event) (inputs : List InputFeed) (here : InputFeed) → slice_get inputs other ≡ Some here
    → AllAllowed (Input other update ∷ events) inputs → AllAllowed events (updated_at other update inputs)
next-allowed other update events inputs here found all number input at = elim (cases_Bool (other == number)) [
  | inl is ↦
      let same = eqb-true other number is in
      let there = subst (λ (n : ℕ). slice_get inputs n ≡ Some here) same found in
      let now = subst (λ (n : ℕ). slice_get (updated_at n update inputs) number ≡ Some (updated update here)) (sym same) (updated-here inputs number update here there) in
      let first = subst (λ (n : ℕ). Allowed here.edge (updates_of number (Input n update ∷ events))) same (all number here there) in
      let rest = subst (λ (list : List Update). Allowed here.edge list) (of-same number update events) first in
      subst (λ (i : InputFeed). Allowed i.edge (updates_of number events)) (same_Some (updated update here) input (sym now ∙ at)) rest.1
  | inr none ↦
      let apart = λ (same : other ≡ number). absurd (cc (sym none ∙ eq-eqb other number same)) in
      let there = sym (updated-there inputs other number update apart) ∙ at in
      subst (λ (list : List Update). Allowed input.edge list) (of-other other number update events none) (all number input there)
]

next-input : (other : ℕ) (update : Update) (events : List Event) (inputs later : List InputFeed)
    → ((number : ℕ) (input : InputFeed) → slice_get (updated_at other update inputs) number ≡ Some input
    → slice_get later number ≡ Some (updated_all (updates_of number events) input))
    → (number : ℕ) (input : InputFeed) → slice_get inputs number ≡ Some input
    → slice_get later number ≡ Some (updated_all (updates_of number (Input other update ∷ events)) input)
next-input other update events inputs later rest number input at = elim (cases_Bool (other == number)) [
  | inl is ↦
      let same = eqb-true other number is in
      let now = subst (λ (n : ℕ). slice_get (updated_at n update inputs) number ≡ Some (updated update input)) (sym same) (updated-here inputs number update input at) in
      rest number (updated update input) now
      ∙ ap (λ (list : List Update). Some (updated_all list input)) (sym (of-same number update events))
      ∙ ap (λ (n : ℕ). Some (updated_all (updates_of number (Input n update ∷ events)) input)) (sym same)
  | inr none ↦
      let apart = λ (same : other ≡ number). absurd (cc (sym none ∙ eq-eqb other number same)) in
      rest number input (updated-there inputs other number update apart ∙ at)
      ∙ ap (λ (list : List Update). Some (updated_all list input)) (sym (of-other other number update events none))
]

pub fed-by : (events : List Event) (inputs : List InputFeed) → AreOf (length inputs) events → AllAllowed events inputs → IsFedBy events inputs
fed-by [] inputs are all = record { allowed = tt; later = inputs; is = refl; input = λ number input at. at }
fed-by (Input other update ∷ events) inputs are all =
    let here = within inputs other are.0 in
    let first = subst (λ (list : List Update). Allowed here.0.edge list) (of-same other update events) (all other here.0 here.1) in
    let fault : update_fault false (edge_of inputs other) update ≡ None =
    ap (λ (edge : Edge). update_fault false edge update) (edge-at inputs other here.0 here.1) ∙ first.0 in
    let more = updated_at other update inputs in
    let next : after (Input other update) (open_feed inputs) ≡ open_feed more =
    ap (λ (f : Option EventFault). if is_none f then open_feed more else open_feed inputs) fault in
    let rest = fed-by events more (subst (λ (n : ℕ). AreOf n events) (sym (updated-length inputs other update)) are.1)
    (next-allowed other update events inputs here.0 here.1 all) in
    record {
      allowed = (fault, subst (λ (f : Feed). AreAllowed events f) (sym next) rest.allowed);
      later = rest.later;
      is = ap (λ (f : Feed). after_all events f) next ∙ rest.is;
      input = next-input other update events inputs rest.later rest.input;
    }
fed-by (Finish ∷ events) inputs are all = absurd are

-- and then the end
allowed-more : (events : List Event) (event : Event) (feed : Feed) → AreAllowed events feed → event_fault (after_all events feed) event ≡ None
    → AreAllowed (events ++ event ∷ []) feed
allowed-more [] event feed allowed is = (is, tt)
allowed-more (first ∷ events) event feed allowed is = (allowed.0, allowed-more events event (after first feed) allowed.1 is)

after-more : (events : List Event) (event : Event) (feed : Feed) → after_all (events ++ event ∷ []) feed ≡ after event (after_all events feed)
after-more [] event feed = refl
after-more (first ∷ events) event feed = after-more events event (after first feed)

pub ends-allowed : (events : List Event) (inputs : List InputFeed) → IsFedBy events inputs → AreAllowed (events ++ Finish ∷ []) (open_feed inputs)
ends-allowed events inputs fed =
    allowed-more events Finish (open_feed inputs) fed.allowed (ap (λ (f : Feed). event_fault f Finish) fed.is)

pub ends-feed : (events : List Event) (inputs : List InputFeed) (fed : IsFedBy events inputs)
    → after_all (events ++ Finish ∷ []) (open_feed inputs) ≡ after Finish (open_feed fed.later)
ends-feed events inputs fed = after-more events Finish (open_feed inputs) ∙ ap (λ (f : Feed). after Finish f) fed.is
