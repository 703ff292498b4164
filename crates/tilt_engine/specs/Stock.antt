-- What the engine keeps of its inputs and of its loops, as plain data (our own rule).
use Rattle.std.specs.Prelude.{◌≡◌, ℤ, neg_ℤ, ◌≤ℤ◌, ◌<ℤ◌, Bool, List, [], ◌∷◌, ◌++◌, Option, Some, None, refl}
use Rattle.std.specs.Coded.{Coded, code_by, coded×, coded_option, coded_ℤ}
use Rattle.std.specs.Option.{ForSome}
use Rattle.tilt_base.specs.declared.limits.TheConstants.{T, WIDE}
use Rattle.tilt_code.specs.Code.{LoopParts}
use Rattle.tilt_feed.specs.Feed.{InputFeed, closed_at}
use Rattle.tilt_feed.specs.Horizon.{Horizon, input_horizon}
use Rattle.tilt_feed.specs.Laws.{IsInOrder}
use Rattle.tilt_feed.specs.Resting.{resting_end}
use Rattle.tilt_feed.specs.contracts.edge.Edge as edge
use Rattle.tilt_feed.specs.declared.edge.Edge.{Edge}
use Rattle.tilt_feed.specs.declared.open_row.OpenRow.{OpenRow}
use Rattle.tilt_stream.specs.Snap.{Snapshot, Fill, gap_before, last_end}
use Rattle.tilt_stream.specs.Stored.{coded_snapshot, coded_snapshots}

-- an input: what is known of it, and where its open row is taken to end
pub record InletParts : Type 0 where
  pub input : InputFeed
  pub end : ℤ

-- its rows as loops read them: the closed ones, and the open one, up to that end
abbrev pub inlet_list : InletParts → List Snapshot
inlet_list i = i.input.rows ++ closed_at i.end i.input.edge.open_row

-- an input of which this is known, while more may come
abbrev pub resting_inlet : InputFeed → InletParts
resting_inlet input = record { input = input; end = resting_end input.edge }

-- an input of which nothing more comes
abbrev pub finished_inlet : InputFeed → InletParts
finished_inlet input = record { input = input; end = input.edge.watermark }

-- up to where an input is known
abbrev pub inlet_horizon : Bool → InletParts → Horizon
inlet_horizon finished i = input_horizon finished i.input.edge

-- an open row, if there is one, may end at a tick, after these rows
pub record MayCloseOne (rows : List Snapshot) (end : ℤ) (row : OpenRow) : Type 0 where
  pub after : ForSome (last_end rows) (λ last. last ≤ℤ row.start)
  pub low : neg_ℤ T ≤ℤ row.start
  pub some : row.start <ℤ end
  pub high : end ≤ℤ T

abbrev pub MayClose : List Snapshot → Option OpenRow → ℤ → Type 0
MayClose rows open_row end = ForSome open_row (MayCloseOne rows end)

-- what holds of an input: its rows are in order, and its open row ends at the watermark or after it
pub record IsInlet (i : InletParts) : Type 0 where
  pub order : IsInOrder i.input
  pub low : i.input.edge.watermark ≤ℤ i.end
  pub high : i.end ≤ℤ WIDE

-- what a loop has made: the snapshots that are settled, and where the last of them ends. Then the next one, if its end may still change,
-- and where the stretch of the loop ends
pub record MadeParts : Type 0 where
  pub made : List Snapshot
  pub settled : ℤ
  pub waiting : Option Snapshot
  pub hi : ℤ

-- a snapshot, if there is one
abbrev pub listed : Option Snapshot → List Snapshot
listed None = []
listed (Some s) = s ∷ []

-- a loop that has made nothing
abbrev pub nothing_made : LoopParts → MadeParts
nothing_made l = record { made = []; settled = l.lo; waiting = None; hi = l.hi }

-- all snapshots that it has made
abbrev pub pieces : MadeParts → List Snapshot
pieces m = m.made ++ listed m.waiting

-- where the last one ends
abbrev pub reached_by : ℤ → Option Snapshot → ℤ
reached_by settled None = settled
reached_by settled (Some s) = s.end

-- the same of what a loop has made
abbrev pub reached : MadeParts → ℤ
reached m = reached_by m.settled m.waiting

-- what other loops read of it: what it has made, and one null snapshot for the rest of its stretch
abbrev pub made_list : MadeParts → List Snapshot
made_list m = pieces m ++ gap_before (Some (reached m)) m.hi

-- a snapshot that goes on from a tick, up to another one at most
pub record IsPieceOn (settled hi : ℤ) (s : Snapshot) : Type 0 where
  pub begins : s.start ≡ settled
  pub rises : s.start <ℤ s.end
  pub within : s.end ≤ℤ hi

-- what holds of it: the snapshots go from the lower end of the stretch to where the last one ends
pub record IsMade (m : MadeParts) : Type 0 where
  pub lo : ℤ
  pub low : neg_ℤ WIDE ≤ℤ lo
  pub fill : Fill lo m.settled m.made
  pub within : m.settled ≤ℤ m.hi
  pub high : m.hi ≤ℤ WIDE
  pub waiting : ForSome m.waiting (IsPieceOn m.settled m.hi)

-- the same without the snapshot whose end may still change
abbrev pub restarted : MadeParts → MadeParts
restarted m = record { made = m.made; settled = m.settled; waiting = None; hi = m.hi }

-- with one settled snapshot more
abbrev pub with_settled : Snapshot → MadeParts → MadeParts
with_settled s m = record { made = m.made ++ s ∷ []; settled = s.end; waiting = None; hi = m.hi }

-- and with one whose end may still change
abbrev pub with_waiting : Snapshot → MadeParts → MadeParts
with_waiting s m = record { made = m.made; settled = m.settled; waiting = Some s; hi = m.hi }

-- distinguished part by part
abbrev pub coded_inlet : Coded InletParts
coded_inlet =
    code_by (List Snapshot × (Edge × ℤ)) (coded× coded_snapshots (coded× edge.the_row.coded coded_ℤ))
    (λ i. (i.input.rows, (i.input.edge, i.end)))
    (λ p. record { input = record { rows = p.0; edge = p.1.0 }; end = p.1.1 }) (λ _. refl)

abbrev pub coded_made : Coded MadeParts
coded_made =
    code_by (List Snapshot × (ℤ × (Option Snapshot × ℤ))) (coded× coded_snapshots (coded× coded_ℤ (coded× (coded_option coded_snapshot) coded_ℤ)))
    (λ m. (m.made, (m.settled, (m.waiting, m.hi))))
    (λ p. record { made = p.0; settled = p.1.0; waiting = p.1.1.0; hi = p.1.1.1 }) (λ _. refl)
