use Rattle.std.proofs.Common.{ℕ, List, ◌<◌, ◌≤◌, length}
use Rattle.tilt_exactly_once.specs.Serving.{GoesOn}
use Rattle.tilt_port.specs.Transcript.{Transcript}
use Rattle.tilt_store.specs.Open.{IsOpen}
use Rattle.tilt_exactly_once.proofs.keeper.Keeper.serve_all.Given as goal

abbrev pub invariant-loop : goal.invariant-loop
invariant-loop g l = record {
  space : 0 < length l.room;
  takes : (n : ℕ) → g.E.Sink.takes l.err n;
  sound : g.M.Machine.sound l.self.machine;
  is_open : g.F.Folder.tells → IsOpen (g.F.Folder.seen l.self.ledger.folder) (g.F.Folder.may_leave l.self.ledger.folder);
  reads : (g.P.Port.transcript l.fn.port).read_faults ≤ (g.P.Port.transcript l.port).read_faults;
  faults : g.F.Folder.faults l.fn.self.ledger.folder ≤ g.F.Folder.faults l.self.ledger.folder;
  of : g.F.Folder.tells → (of : g.M.Machine.Of) (first : g.row.F.Denot) (bytes : List ℕ) (old : Transcript)
      → GoesOn g.F.Folder.seen g.F.Folder.may_leave g.M.Machine.is g.M.Machine.output of g.M.Machine.commits g.M.Machine.stops g.M.Machine.fits g.F.Folder.moment
      g.F.Folder.left_since g.P.Port.tells first bytes old l.fn.self.ledger.folder l.fn.self.machine l.fn.self.written l.fn.self.lines (g.P.Port.transcript l.fn.port)
      → GoesOn g.F.Folder.seen g.F.Folder.may_leave g.M.Machine.is g.M.Machine.output of g.M.Machine.commits g.M.Machine.stops g.M.Machine.fits g.F.Folder.moment
      g.F.Folder.left_since g.P.Port.tells first bytes old l.self.ledger.folder l.self.machine l.self.written l.self.lines (g.P.Port.transcript l.port);
}
