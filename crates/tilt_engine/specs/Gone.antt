-- What an engine has let go of its buffers: the first snapshots of each (our own rule).
use Rattle.std.specs.Prelude.{◌≡◌, ℤ, pos, ◌+ℤ◌, ◌<ℤ◌, List, [], ◌∷◌, ◌++◌, length, drop, get_or, ⊤}
use Rattle.std.specs.List.{AllByRecursion}
use Rattle.tilt_code.specs.declared.instr.Instr.{Instr}
use Rattle.tilt_code.specs.declared.instr.Instr.TheVariants.{Port, Win}
use Rattle.tilt_feed.specs.Feed.{Feed, InputFeed}
use Rattle.tilt_stream.specs.Snap.{Snapshot}

-- a snapshot that ends below a tick
abbrev pub EndsBelow : ℤ → Snapshot → Type 0
EndsBelow tick s = (s.start <ℤ s.end) × (s.end <ℤ tick)

-- what has gone of a buffer ends below the first tick that a leaf reads of it at a grid point
abbrev pub IsGoneFor : List (List Snapshot) → ℤ → Instr → Type 0
IsGoneFor gone point (Port buffer offset) = AllByRecursion (EndsBelow (point +ℤ offset)) (get_or gone buffer [])
IsGoneFor gone point (Win reducer buffer from to number) =
    AllByRecursion (EndsBelow (point +ℤ from +ℤ pos 1)) (get_or gone buffer [])
IsGoneFor gone point other = ⊤

-- a list that begins with another one
abbrev pub BeginsWith : List Snapshot → List Snapshot → Type 0
BeginsWith front list = (rest : List Snapshot) × (list ≡ front ++ rest)

-- what is left of each list
abbrev pub rests : List (List Snapshot) → List (List Snapshot) → List (List Snapshot)
rests [] lists = lists
rests (g ∷ gone) [] = []
rests (g ∷ gone) (list ∷ lists) = drop (length g) list ∷ rests gone lists

-- inputs with the rows that have gone before their own
abbrev pub with_gone : List (List Snapshot) → List InputFeed → List InputFeed
with_gone [] inputs = inputs
with_gone (g ∷ gone) [] = []
with_gone (g ∷ gone) (a ∷ inputs) = record { rows = g ++ a.rows; edge = a.edge } ∷ with_gone gone inputs

-- the same of a feed
abbrev pub whole_feed : List (List Snapshot) → Feed → Feed
whole_feed gone feed = record { inputs = with_gone gone feed.inputs; finished = feed.finished }
