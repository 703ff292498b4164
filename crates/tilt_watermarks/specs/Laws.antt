-- What the laws of watermarks say.
use Rattle.std.specs.Prelude.{◌≡◌, ◌<◌, ℕ, ℤ, pos, ◌-ℤ◌, ◌≤ℤ◌, true, false, if◌then◌else◌, List, [], ◌∷◌, length, map, Option, Some, None, is_none, ⊤, ◌==◌}
use Rattle.std.specs.List.{AllByRecursion}
use Rattle.std.specs.Option.{ForSome}
use Rattle.tilt_base.specs.declared.limits.TheConstants.{T}
use Rattle.tilt_feed.specs.Events.{after, event_fault}
use Rattle.tilt_feed.specs.Feed.{Feed}
use Rattle.tilt_feed.specs.declared.edge.Edge.{Edge}
use Rattle.tilt_feed.specs.declared.event.Event.{Event}
use Rattle.tilt_feed.specs.declared.event.Event.TheVariants.{Input, Finish}
use Rattle.tilt_feed.specs.declared.update.Update.{Update}
use Rattle.tilt_feed.specs.declared.update.Update.TheVariants.{Row, Value, NoValue, KnownUpTo}
use Rattle.tilt_feed_line.specs.declared.line.Line.{Line}
use Rattle.tilt_feed_line.specs.declared.line.Line.TheVariants as line
use Rattle.tilt_watermarks.specs.Held.{Waiting, fits, with_update}
use Rattle.tilt_watermarks.specs.Steps.{Kept, Step, followed_by, input_at, line_fault, nothing_kept, taken}
use Rattle.tilt_watermarks.specs.declared.options.Options.{Options}

-- what is kept after a line, and the events that it hands on: one that isn't taken changes nothing
abbrev pub stepped : Options → Line → Kept → Step
stepped options line kept = if is_none (line_fault options kept line) then taken options line kept else record { kept = kept; events = [] }

-- the same of lines, one after another
abbrev pub stepped_all : Options → List Line → Kept → Step
stepped_all options [] kept = record { kept = kept; events = [] }
stepped_all options (line ∷ lines) kept = followed_by (stepped_all options lines) (stepped options line kept)

-- the same from the start
abbrev pub watermarked : Options → ℕ → List Line → Step
watermarked options inputs lines = stepped_all options lines (nothing_kept inputs)

-- each event is allowed after those before it
abbrev pub AreAllowed : List Event → Feed → Type 0
AreAllowed [] feed = ⊤
AreAllowed (event ∷ events) feed = (event_fault feed event ≡ None) × AreAllowed events (after event feed)

-- the edge of each input
abbrev pub edges_of : List Waiting → List Edge
edges_of inputs = map (λ input. input.edge) inputs

-- what an input holds is allowed, one after another from its watermark; without lateness it holds nothing
pub record IsFit (lateness : Option ℕ) (input : Waiting) : Type 0 where
  pub fits : fits input.edge.watermark input.held ≡ true
  pub none : lateness ≡ None → input.held ≡ []

-- what is kept is the edges of a feed and whether it is finished; what is held is allowed after them; and the greatest watermark is a time
pub record IsKeptOf (lateness : Option ℕ) (kept : Kept) (feed : Feed) : Type 0 where
  pub edges : edges_of kept.inputs ≡ map (λ input. input.edge) feed.inputs
  pub finished : kept.finished ≡ feed.finished
  pub held : AllByRecursion (IsFit lateness) kept.inputs
  pub greatest : ForSome kept.greatest (λ tick. tick ≤ℤ T)

-- no watermark is lower later
abbrev pub AreRising : Kept → Kept → Type 0
AreRising kept later = (number : ℕ) → (input_at kept.inputs number).edge.watermark ≤ℤ (input_at later.inputs number).edge.watermark

-- the least that `idle` promises: each input's watermark is at least so many ticks below the greatest one, unless the feed is finished
abbrev pub AreNear : ℕ → Kept → Type 0
AreNear ticks kept = (greatest : ℤ) (number : ℕ) → kept.finished ≡ false → kept.greatest ≡ Some greatest → number < length kept.inputs
    → (greatest -ℤ pos ticks) ≤ℤ (input_at kept.inputs number).edge.watermark

-- no option is given
abbrev pub no_options : Options
no_options = record { idle = None; ahead = None; lateness = None }

-- the rows and values among updates: all but "known up to"
abbrev pub pieces : List Update → List Update
pieces [] = []
pieces (Row start end value ∷ updates) = Row start end value ∷ pieces updates
pieces (Value start value ∷ updates) = Value start value ∷ pieces updates
pieces (NoValue start ∷ updates) = NoValue start ∷ pieces updates
pieces (KnownUpTo tick ∷ updates) = pieces updates

-- the updates of the input with a number among events
abbrev pub updates_of : ℕ → List Event → List Update
updates_of number [] = []
updates_of number (Input input update ∷ events) =
    if input == number then update ∷ updates_of number events else updates_of number events
updates_of number (Finish ∷ events) = updates_of number events

-- updates in order of their starts with the one of a line, if it is of the input with a number
abbrev pub with_line : ℕ → Line → List Update → List Update
with_line number (line.Update input update) updates = if input == number then with_update update updates else updates
with_line number (line.AllKnownUpTo tick) updates = updates
with_line number line.Finish updates = updates

-- the rows and values of the input with a number that lines give which are taken, in order of their starts, after those before
abbrev pub gathered : Options → ℕ → List Line → Kept → List Update → List Update
gathered options number [] kept updates = updates
gathered options number (line ∷ lines) kept updates = gathered options number lines (stepped options line kept).kept
    (if is_none (line_fault options kept line) then with_line number line updates else updates)
