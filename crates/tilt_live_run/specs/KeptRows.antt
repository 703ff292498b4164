-- The rows that a run keeps for its state (our own rule).
use Rattle.std.specs.Prelude.{◌≡◌, ℤ, Bool, true, false, is_some}
use Rattle.std.specs.Option.{ForSome}
use Rattle.tilt_engine.specs.FedRows.{KeepsRowsOf}
use Rattle.tilt_feed.specs.Feed.{Feed}
use Rattle.tilt_live_run.specs.declared.keep.Keep.{Keep}
use Rattle.tilt_live_run.specs.declared.keep.Keep.TheVariants.{Nothing, State}
use Rattle.tilt_live_run.specs.declared.state_rows.StateRows.{StateRows}

-- whether rows are kept
abbrev pub has_rows : StateRows → Bool
has_rows rows = is_some rows.fed

-- whether they have to be
abbrev pub needs_rows : Keep → Bool
needs_rows Nothing = false
needs_rows State = true

-- if rows are kept, they are those of a feed that end at a tick or after it, and maybe others. Of a finished feed none has to be kept
abbrev pub KeepsRows : StateRows → ℤ → Feed → Type 0
KeepsRows rows first feed = feed.finished ≡ false → ForSome rows.fed (λ fed. KeepsRowsOf fed first feed)
