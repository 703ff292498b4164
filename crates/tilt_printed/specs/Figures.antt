-- The text of snapshots with the figures of those who watch (our own rule).
use Rattle.std.specs.Prelude.{◌++◌, List, map, ℕ}
use Rattle.tilt_stream.specs.Snap.{Snapshot}
use Rattle.tilt_stream.specs.Text.{text_of}
use Rattle.tilt_watch.specs.Places.{figures_over}
use Rattle.tilt_watch.specs.Watch.{Watch, figures_text, rows_of}

-- a line of figures for each watcher: its results over the rows of these snapshots
abbrev pub figures_after : List Watch → List Snapshot → List ℕ
figures_after watchers list = figures_text (map (figures_over (rows_of list)) watchers)

-- the text of snapshots, and then the figures of those who watch
abbrev pub watched_text : List Watch → List Snapshot → List ℕ
watched_text watchers list = text_of list ++ figures_after watchers list
