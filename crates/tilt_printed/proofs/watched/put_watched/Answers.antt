use Rattle.std.proofs.Common.{codes, refl}
use Rattle.std.proofs.lemmas.Result.{err_from_is_err_and}
use Rattle.tilt_code.specs.Run.{run_of}
use Rattle.tilt_printed.proofs.Printing.{prints-front, prints-stopped}
use Rattle.tilt_printed.proofs.Seen.{no_figures, no_header, no_panel, not_all_lines}
use Rattle.tilt_printed.proofs.SeenLines.{all-put, figures-are, figures-room, figures-short, header-short, lines-room, lines-short, text-put}
use Rattle.tilt_printed.specs.Figures.{figures_after}
use Rattle.tilt_printed.specs.Left.{left_of}
use Rattle.tilt_stream.specs.Text.{lines_of}
use Rattle.tilt_watch.proofs.PlacesAfter.{in_step-first}
use Rattle.tilt_printed.proofs.watched.put_watched.Goals as goal

pub returns-in_err-panel-clause-prints : goal.returns-in_err-panel-clause-prints
returns-in_err-panel-clause-prints g c =
    let p = err_from_is_err_and c.from_residual.result c.from_residual.ensures.1 in
    prints-stopped _ _ _ _ c.args.out.now _ p.0 c.from_residual.result p.1 p.2

pub returns-in_err-panel-clause-seen : goal.returns-in_err-panel-clause-seen
returns-in_err-panel-clause-seen g c =
    let p = err_from_is_err_and c.from_residual.result c.from_residual.ensures.1 in
    rw p.1 (no_panel (left_of g.O.Sink.tells g.O.Sink.written c.args.out.now c.args.out.now _ _ _ c.args.watchers.now c.args.watchers.now)
    (run_of c.args.pipe.code c.args.pipe.inputs) p.0 p.2 refl (λ t. refl))

pub returns-in_err-put_header-clause-prints : goal.returns-in_err-put_header-clause-prints
returns-in_err-put_header-clause-prints g c =
    header-short _ _ _ _ (codes "start,end,value\n") (lines_of (run_of c.args.pipe.code c.args.pipe.inputs)) (figures_after _ (run_of c.args.pipe.code c.args.pipe.inputs))
    c.args.out.now _ _ c.from_residual-in_err-put_header.result c.from_residual-in_err-put_header.ensures.0 c.in_err-put_header.ensures

pub returns-in_err-put_header-clause-seen : goal.returns-in_err-put_header-clause-seen
returns-in_err-put_header-clause-seen g c =
    let run = run_of c.args.pipe.code c.args.pipe.inputs in
    let p = err_from_is_err_and c.from_residual-in_err-put_header.result c.from_residual-in_err-put_header.ensures.1 in
    let left = left_of g.O.Sink.tells g.O.Sink.written c.args.out.now c.put_header.new.sink _ _ _ c.args.watchers.now c.args.watchers.now in
    rw p.1 (no_header left run p.0 p.2 refl c.in_err-put_header.ensures.front
    (prints-front _ _ _ _ c.args.out.now c.put_header.new.sink _ c.from_residual-in_err-put_header.result p.0 p.1
    (header-short _ _ _ _ (codes "start,end,value\n") (lines_of run) (figures_after _ run) c.args.out.now c.put_header.new.sink c.in_err-put_header.field-0.0
    c.from_residual-in_err-put_header.result c.from_residual-in_err-put_header.ensures.0 c.in_err-put_header.ensures)))

pub put_seen_lines-requires-clause-room : goal.put_seen_lines-requires-clause-room
put_seen_lines-requires-clause-room g c =
    let run = run_of c.args.pipe.code c.args.pipe.inputs in
    lines-room _ _ _ _ (codes "start,end,value\n") (lines_of run) (figures_after _ run) c.args.out.now c.put_header.new.sink g.met.O.Sink.takes_fewer
    c.in_ok-put_header.ensures c.requires.room

pub put_seen_lines-requires-clause-in_step : goal.put_seen_lines-requires-clause-in_step
put_seen_lines-requires-clause-in_step g c = rw (c.in_ok-panel.ensures, c.deref.ensures.value) (in_step-first _)

pub put_figures-requires : goal.put_figures-requires
put_figures-requires g c =
    let run = run_of c.args.pipe.code c.args.pipe.inputs in
    let figures = figures-are c.in_ok-panel.panel c.put_seen_lines.new.panel _ run (rw c.deref.ensures.value at c.in_ok-panel.ensures) c.in_ok-put_seen_lines.ensures.places in
    figures-room _ _ _ _ (codes "start,end,value\n") (lines_of run) (figures_after _ run) c.args.out.now c.put_header.new.sink c.put_seen_lines.new.out
    c.in_ok-put_header.ensures c.in_ok-put_seen_lines.ensures.prints _ figures c.requires.room

pub returns-in_err-put_seen_lines-clause-prints : goal.returns-in_err-put_seen_lines-clause-prints
returns-in_err-put_seen_lines-clause-prints g c =
    let run = run_of c.args.pipe.code c.args.pipe.inputs in
    let p = err_from_is_err_and c.from_residual-in_err-put_seen_lines.result c.from_residual-in_err-put_seen_lines.ensures.1 in
    rw (p.1, p.2) (lines-short _ _ _ _ (codes "start,end,value\n") (lines_of run) (figures_after _ run) c.args.out.now c.put_header.new.sink c.put_seen_lines.new.out
    c.in_err-put_seen_lines.field-0.0 _ refl c.in_ok-put_header.ensures c.in_err-put_seen_lines.ensures.prints)

pub returns-in_err-put_seen_lines-clause-seen : goal.returns-in_err-put_seen_lines-clause-seen
returns-in_err-put_seen_lines-clause-seen g c =
    let run = run_of c.args.pipe.code c.args.pipe.inputs in
    let p = err_from_is_err_and c.from_residual-in_err-put_seen_lines.result c.from_residual-in_err-put_seen_lines.ensures.1 in
    let left = left_of g.O.Sink.tells g.O.Sink.written c.args.out.now c.put_seen_lines.new.out _ _ _ c.args.watchers.now c.put_seen_lines.new.watchers in
    let why = c.in_err-put_seen_lines.field-0.0 in
    let same = rw p.2 at p.1 in
    rw (p.1, p.2) (not_all_lines left run why (g.O.Sink.written c.put_header.new.sink) c.in_ok-put_header.ensures.whole c.in_err-put_seen_lines.ensures.seen
    (prints-front _ _ _ _ c.args.out.now c.put_seen_lines.new.out _ c.from_residual-in_err-put_seen_lines.result why same
    (lines-short _ _ _ _ (codes "start,end,value\n") (lines_of run) (figures_after _ run) c.args.out.now c.put_header.new.sink c.put_seen_lines.new.out why
    c.from_residual-in_err-put_seen_lines.result same c.in_ok-put_header.ensures c.in_err-put_seen_lines.ensures.prints)))

pub returns-in_err-put_figures-clause-prints : goal.returns-in_err-put_figures-clause-prints
returns-in_err-put_figures-clause-prints g c =
    let run = run_of c.args.pipe.code c.args.pipe.inputs in
    let figures = figures-are c.in_ok-panel.panel c.put_seen_lines.new.panel _ run (rw c.deref.ensures.value at c.in_ok-panel.ensures) c.in_ok-put_seen_lines.ensures.places in
    figures-short _ _ _ _ (codes "start,end,value\n") (lines_of run) (figures_after _ run) c.args.out.now c.put_header.new.sink c.put_seen_lines.new.out c.put_figures.new.out _
    c.from_residual-in_err-put_figures.result c.from_residual-in_err-put_figures.ensures.0 c.in_ok-put_header.ensures c.in_ok-put_seen_lines.ensures.prints _ figures
    c.in_err-put_figures.ensures

pub returns-in_err-put_figures-clause-seen : goal.returns-in_err-put_figures-clause-seen
returns-in_err-put_figures-clause-seen g c =
    let run = run_of c.args.pipe.code c.args.pipe.inputs in
    let p = err_from_is_err_and c.from_residual-in_err-put_figures.result c.from_residual-in_err-put_figures.ensures.1 in
    let left = left_of g.O.Sink.tells g.O.Sink.written c.args.out.now c.put_figures.new.out _ _ _ c.args.watchers.now c.put_seen_lines.new.watchers in
    let figures = figures-are c.in_ok-panel.panel c.put_seen_lines.new.panel _ run (rw c.deref.ensures.value at c.in_ok-panel.ensures) c.in_ok-put_seen_lines.ensures.places in
    let text = text-put _ _ _ _ (codes "start,end,value\n") (lines_of run) (codes "") c.args.out.now c.put_header.new.sink c.put_seen_lines.new.out
    c.in_ok-put_header.ensures c.in_ok-put_seen_lines.ensures.prints in
    rw p.1 (no_figures left run p.0 p.2 (g.O.Sink.written c.put_seen_lines.new.out) c.in_ok-put_seen_lines.ensures.left text.whole _ c.in_err-put_figures.ensures.front
    (prints-front _ _ _ _ c.args.out.now c.put_figures.new.out _ c.from_residual-in_err-put_figures.result p.0 p.1
    (figures-short _ _ _ _ (codes "start,end,value\n") (lines_of run) (figures_after _ run) c.args.out.now c.put_header.new.sink c.put_seen_lines.new.out
    c.put_figures.new.out c.in_err-put_figures.field-0.0 c.from_residual-in_err-put_figures.result c.from_residual-in_err-put_figures.ensures.0 c.in_ok-put_header.ensures
    c.in_ok-put_seen_lines.ensures.prints _ figures c.in_err-put_figures.ensures)))

pub returns-clause-prints : goal.returns-clause-prints
returns-clause-prints g c =
    let run = run_of c.args.pipe.code c.args.pipe.inputs in
    let figures = figures-are c.in_ok-panel.panel c.put_seen_lines.new.panel _ run (rw c.deref.ensures.value at c.in_ok-panel.ensures) c.in_ok-put_seen_lines.ensures.places in
    all-put _ _ _ _ (codes "start,end,value\n") (lines_of run) (figures_after _ run) c.args.out.now c.put_header.new.sink c.put_seen_lines.new.out c.put_figures.new.out
    c.in_ok-put_header.ensures c.in_ok-put_seen_lines.ensures.prints _ figures c.in_ok-put_figures.ensures

pub returns-clause-seen : goal.returns-clause-seen
returns-clause-seen g c =
    let run = run_of c.args.pipe.code c.args.pipe.inputs in
    let figures = figures-are c.in_ok-panel.panel c.put_seen_lines.new.panel _ run (rw c.deref.ensures.value at c.in_ok-panel.ensures) c.in_ok-put_seen_lines.ensures.places in
    record {
      saw = c.in_ok-put_seen_lines.ensures.left;
      written = (all-put _ _ _ _ (codes "start,end,value\n") (lines_of run) (figures_after _ run) c.args.out.now c.put_header.new.sink c.put_seen_lines.new.out c.put_figures.new.out
          c.in_ok-put_header.ensures c.in_ok-put_seen_lines.ensures.prints _ figures c.in_ok-put_figures.ensures).whole;
    }
