-- A feed after more events, input by input, and what that makes of the streams that a query reads.
use Rattle.std.proofs.Common.{◌≡◌, ℕ, zero, suc, Bool, true, false, List, [], ◌∷◌, map, length, Option, Some, None, is_none, if◌then◌else◌, refl, ap, sym, subst, ◌∙◌}
use Rattle.std.specs.Prelude.{⊤}
use Rattle.std.proofs.lemmas.List.{length-replicate}
use Rattle.tilt_feed.proofs.Rising.{AreNotAbove}
use Rattle.tilt_feed.proofs.Same.{AreAllSame}
use Rattle.tilt_feed.proofs.SureMarks.{HaveMarksOf}
use Rattle.tilt_feed.proofs.Updates.{IsAllowed, Follows, allowed-of, follows-finish, follows-refl, follows-trans, follows-update, sure-mark, sure-same}
use Rattle.tilt_feed.specs.Events.{after, after_all, changed_by, edge_of, event_fault, finished_input, updated_at}
use Rattle.tilt_feed.specs.Feed.{InputFeed, Feed, empty_feed, rows_now, unknown_input}
use Rattle.tilt_feed.specs.Horizon.{Horizon, input_horizon}
use Rattle.tilt_feed.specs.Laws.{fed}
use Rattle.tilt_feed.specs.Sure.{with_sure_marks}
use Rattle.tilt_feed.specs.declared.event.Event.{Event}
use Rattle.tilt_feed.specs.declared.event.Event.TheVariants.{Input, Finish}
use Rattle.tilt_feed.specs.declared.fault.EventFault.TheVariants.{Finished}
use Rattle.tilt_feed.specs.declared.fault.EventFault.{EventFault}
use Rattle.tilt_feed.specs.declared.update.Update.{Update}
use Rattle.tilt_core.specs.Core.{CoreParts}
use Rattle.tilt_stream.specs.Stream.{Stream, stream_of}

-- each input is a later state of the one before
abbrev pub AllFollow : Bool → Bool → List InputFeed → List InputFeed → Type 0
AllFollow finished later [] [] = ⊤
AllFollow finished later [] (b ∷ bs) = ⊥
AllFollow finished later (a ∷ as_) [] = ⊥
AllFollow finished later (a ∷ as_) (b ∷ bs) = Follows finished later a b × AllFollow finished later as_ bs

all-refl : (finished : Bool) (inputs : List InputFeed) → AllFollow finished finished inputs inputs
all-refl finished [] = tt
all-refl finished (a ∷ inputs) = (follows-refl finished a, all-refl finished inputs)

all-trans : (first second third : Bool) (xs ys zs : List InputFeed) → AllFollow first second xs ys → AllFollow second third ys zs → AllFollow first third xs zs
all-trans first second third [] [] [] f g = tt
all-trans first second third [] [] (z ∷ zs) f g = absurd g
all-trans first second third [] (y ∷ ys) zs f g = absurd f
all-trans first second third (x ∷ xs) [] zs f g = absurd f
all-trans first second third (x ∷ xs) (y ∷ ys) [] f g = absurd g
all-trans first second third (x ∷ xs) (y ∷ ys) (z ∷ zs) f g =
    (follows-trans first second third x y z f.0 g.0, all-trans first second third xs ys zs f.1 g.1)

-- an update of one input
all-updated : (number : ℕ) (update : Update) (inputs : List InputFeed) → IsAllowed (edge_of inputs number) update
    → AllFollow false false inputs (updated_at number update inputs)
all-updated number update [] allowed = tt
all-updated zero update (a ∷ inputs) allowed = (follows-update a update allowed, all-refl false inputs)
all-updated (suc number) update (a ∷ inputs) allowed = (follows-refl false a, all-updated number update inputs allowed)

all-finished : (inputs : List InputFeed) → AllFollow false true inputs (map finished_input inputs)
all-finished [] = tt
all-finished (a ∷ inputs) = (follows-finish a, all-finished inputs)

pub none-is : (fault : Option EventFault) → is_none fault ≡ true → fault ≡ None
none-is None is = refl
none-is (Some fault) is = absurd (cc is)

pub unfinished : (finished : Bool) → (if finished then Some Finished else None) ≡ None → finished ≡ false
unfinished true is = absurd (cc is)
unfinished false is = refl

-- an event that breaks no rule
changed-follows : (event : Event) (feed : Feed) → event_fault feed event ≡ None
    → AllFollow feed.finished (changed_by event feed.inputs).finished feed.inputs (changed_by event feed.inputs).inputs
changed-follows (Input number update) feed is =
    let rules = allowed-of feed.finished (edge_of feed.inputs number) update is in
    subst (λ (finished : Bool). AllFollow finished false feed.inputs (updated_at number update feed.inputs)) (sym rules.0)
    (all-updated number update feed.inputs rules.1)
changed-follows Finish feed is =
    subst (λ (finished : Bool). AllFollow finished true feed.inputs (map finished_input feed.inputs)) (sym (unfinished feed.finished is)) (all-finished feed.inputs)

after_by : (event : Event) (feed : Feed) (allowed : Bool) → is_none (event_fault feed event) ≡ allowed
    → AllFollow feed.finished (if allowed then changed_by event feed.inputs else feed).finished feed.inputs (if allowed then changed_by event feed.inputs else feed).inputs
after_by event feed true is = changed-follows event feed (none-is (event_fault feed event) is)
after_by event feed false is = all-refl feed.finished feed.inputs

after-follows : (event : Event) (feed : Feed) → AllFollow feed.finished (after event feed).finished feed.inputs (after event feed).inputs
after-follows event feed = after_by event feed (is_none (event_fault feed event)) refl

-- so after events
pub after_all-follows : (events : List Event) (feed : Feed) → AllFollow feed.finished (after_all events feed).finished feed.inputs (after_all events feed).inputs
after_all-follows [] feed = all-refl feed.finished feed.inputs
after_all-follows (event ∷ events) feed =
    let next = after event feed in
    let last = after_all events next in
    all-trans feed.finished next.finished last.finished feed.inputs next.inputs last.inputs (after-follows event feed) (after_all-follows events next)

-- there are as many inputs
follow-length : (finished later : Bool) (xs ys : List InputFeed) → AllFollow finished later xs ys → length ys ≡ length xs
follow-length finished later [] [] all = refl
follow-length finished later [] (y ∷ ys) all = absurd all
follow-length finished later (x ∷ xs) [] all = absurd all
follow-length finished later (x ∷ xs) (y ∷ ys) all = ap suc (follow-length finished later xs ys all.1)

pub after_all-length : (events : List Event) (feed : Feed) → length (after_all events feed).inputs ≡ length feed.inputs
after_all-length events feed =
    let last = after_all events feed in
    follow-length feed.finished last.finished feed.inputs last.inputs (after_all-follows events feed)

pub fed-length : (core : CoreParts) (events : List Event) → length (fed core events).inputs ≡ length core.inputs
fed-length core events = after_all-length events (empty_feed (length core.inputs)) ∙ length-replicate (length core.inputs) unknown_input

-- the horizons, the rows as they are now, and those with their sure marks alone
abbrev pub input_horizons : Bool → List InputFeed → List Horizon
input_horizons finished inputs = map (λ input. input_horizon finished input.edge) inputs

abbrev pub now : List InputFeed → List Stream
now inputs = map stream_of (map rows_now inputs)

abbrev pub surely : Bool → List InputFeed → List Stream
surely finished inputs = map (with_sure_marks finished) inputs

pub inputs-same : (finished later : Bool) (xs ys : List InputFeed) → AllFollow finished later xs ys → AreAllSame (input_horizons finished xs) (now xs) (now ys)
inputs-same finished later [] [] all = tt
inputs-same finished later [] (y ∷ ys) all = absurd all
inputs-same finished later (x ∷ xs) [] all = absurd all
inputs-same finished later (x ∷ xs) (y ∷ ys) all = (all.0.same, inputs-same finished later xs ys all.1)

pub inputs-sure : (finished later : Bool) (xs ys : List InputFeed) → AllFollow finished later xs ys → HaveMarksOf (surely finished xs) (surely later ys)
inputs-sure finished later [] [] all = tt
inputs-sure finished later [] (y ∷ ys) all = absurd all
inputs-sure finished later (x ∷ xs) [] all = absurd all
inputs-sure finished later (x ∷ xs) (y ∷ ys) all = (all.0.sure, inputs-sure finished later xs ys all.1)

pub inputs-rise : (finished later : Bool) (xs ys : List InputFeed) → AllFollow finished later xs ys → AreNotAbove (input_horizons finished xs) (input_horizons later ys)
inputs-rise finished later [] [] all = tt
inputs-rise finished later [] (y ∷ ys) all = absurd all
inputs-rise finished later (x ∷ xs) [] all = absurd all
inputs-rise finished later (x ∷ xs) (y ∷ ys) all = (all.0.rises, inputs-rise finished later xs ys all.1)

-- the sure marks of inputs are marks of them
pub sure-marks : (finished : Bool) (xs : List InputFeed) → HaveMarksOf (surely finished xs) (now xs)
sure-marks finished [] = tt
sure-marks finished (x ∷ xs) = (record { all = sure-mark finished x }, sure-marks finished xs)

-- and up to the horizons they are all marks
pub sure-all : (finished : Bool) (xs : List InputFeed) → AreAllSame (input_horizons finished xs) (surely finished xs) (now xs)
sure-all finished [] = tt
sure-all finished (x ∷ xs) = (sure-same finished x, sure-all finished xs)
