-- Watchers: each keeps a pair of figures, which changes with each row that it sees, until it has seen enough (our own rule).
use Rattle.std.specs.Prelude.{ℕ, ℤ, Bool, true, false, List, ◌++◌, map, filter, is_some, codes}
use Rattle.std.specs.List.{flat_map}
use Rattle.std.specs.Fmt.{signed_decimal}
use Rattle.tilt_stream.specs.Snap.{Snapshot}
use Rattle.tilt_watch.specs.declared.next.Next.{Next}
use Rattle.tilt_watch.specs.declared.next.Next.TheVariants.{More, Done}

-- a watcher: its figures now, the pair after a pair when it sees a row, and which pairs are ends
pub record Watch : Type 0 where
  pub pair : ℤ × ℤ
  pub step : ℤ × ℤ → Snapshot → ℤ × ℤ
  pub ends : ℤ × ℤ → Bool

-- the watchers of a list, of which these are the pairs, the steps and the ends
abbrev pub watches : {W : Type 0} → (W → ℤ × ℤ) → (W → ℤ × ℤ → Snapshot → ℤ × ℤ) → (W → ℤ × ℤ → Bool) → List W → List Watch
watches pair step ends list = map (λ watcher. record { pair = pair watcher; step = step watcher; ends = ends watcher }) list

-- what a watcher says once it saw a row: that it is done exactly if its new pair is an end
abbrev pub next_of : Bool → Next
next_of true = Done
next_of false = More

-- the rows that watchers see of snapshots: those that aren't null
abbrev pub rows_of : List Snapshot → List Snapshot
rows_of list = filter (λ snapshot. is_some snapshot.value) list

-- the figures of all watchers, in order
abbrev pub pairs_of : List Watch → List (ℤ × ℤ)
pairs_of list = map (λ watch. watch.pair) list

-- the line `figures A B`
abbrev pub figures_line : ℤ × ℤ → List ℕ
figures_line pair = codes "figures " ++ signed_decimal pair.0 ++ codes " " ++ signed_decimal pair.1 ++ codes "\n"

-- a line for each pair, in order
abbrev pub figures_text : List (ℤ × ℤ) → List ℕ
figures_text pairs = flat_map figures_line pairs
