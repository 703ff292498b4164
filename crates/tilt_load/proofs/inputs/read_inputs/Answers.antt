use Rattle.std.proofs.Common.{◌≡◌, ◌∙◌, rules, arith, [], ◌∷◌, ap, subst, length, length-append, vec_len}
use Rattle.std.specs.List.{AllByRecursion}
use Rattle.std.proofs.lemmas.Result.{err_from_is_err_and}
use Rattle.tilt_report.specs.Report.{report_of}
use Rattle.tilt_cli.specs.Binding.{bindings_of}
use Rattle.tilt_load.specs.SeriesFiles.{IsWithin, bounds_in}
use Rattle.tilt_series.specs.Series.{Bounds}
use Rattle.tilt_outside.proofs.MoreReads.{reads-then}
use Rattle.tilt_load.proofs.Within.{within_more}
use Rattle.tilt_load.proofs.Turns.{turn_at, taken_at, counted_at, fault_at, all_taken, all_counted}
use Rattle.tilt_load.proofs.inputs.read_inputs.Goals as goal

pub load_input-requires : goal.load_input-requires
load_input-requires g c =
    c.requires.lent c.file_bound.result.now (turn_at (g.S.Shelf.files c.args.shelf.now) (bindings_of c.args.binds.now) (bounds_in c.args.bounds.now)
    c.args.inputs.now c.input-item.result c.loop-input.input-index c.loop-input-test.true c.input-item.is g.S.Shelf.tells c.file_bound.result.now
    c.requires.named c.file_bound.ensures (λ t. (c.loop-input.all.items, c.loop-input.invariant.read t)))

pub returns-in_err-rows-clause-fault : goal.returns-in_err-rows-clause-fault
returns-in_err-rows-clause-fault g c =
    let p = err_from_is_err_and c.from_residual.result c.from_residual.ensures.1 in
    let stored : vec_len c.loop-input.all ≡ length c.loop-input.all.items = search rules in
    let here : c.bounds_at-within.result ≡ bounds_in c.args.bounds.now c.loop-input.input-index =
    c.bounds_at-within.ensures ∙ ap (bounds_in c.args.bounds.now) (c.len.ensures ∙ stored ∙ c.loop-input.invariant.many) in
    rw (p.1, p.2) (fault_at (g.S.Shelf.files c.args.shelf.now) (bindings_of c.args.binds.now) (bounds_in c.args.bounds.now) c.args.inputs.now
    c.input-item.result c.loop-input.input-index c.loop-input-test.true c.input-item.is c.bounds_at-within.result here g.S.Shelf.tells
    (g.S.Shelf.files c.loop-input.shelf) c.file_bound.result.now (g.S.Shelf.read_faults c.args.shelf.now) (g.S.Shelf.read_faults c.loop-input.shelf)
    (g.S.Shelf.read_faults c.load_input.new.shelf) c.requires.named c.file_bound.ensures (λ t. (c.loop-input.all.items, c.loop-input.invariant.read t))
    c.loop-input.invariant.rest.same_files c.loop-input.invariant.rest.no_fewer_read_faults (report_of c.in_err-rows.field-0.0) c.in_err-rows.ensures.fault)

pub loop-input-preserved : goal.loop-input-preserved
loop-input-preserved g c =
    let files = g.S.Shelf.files c.args.shelf.now in
    let binds = bindings_of c.args.binds.now in
    let bounds = bounds_in c.args.bounds.now in
    let stored : vec_len c.loop-input.all ≡ length c.loop-input.all.items = search rules in
    let here : c.bounds_at-within.result ≡ bounds c.loop-input.input-index = c.bounds_at-within.ensures ∙ ap bounds (c.len.ensures ∙ stored ∙ c.loop-input.invariant.many) in
    record {
      read = λ t.
          let taken = rw (c.loop-input.invariant.rest.same_files, c.file_bound.ensures) at (c.in_ok-rows.ensures.taken t) in
          rw c.in_ok-add.ensures (taken_at files binds bounds c.args.inputs.now c.input-item.result c.loop-input.input-index c.loop-input-test.true c.input-item.is
          c.bounds_at-within.result here c.loop-input.all.items c.in_ok-rows.rows (c.loop-input.invariant.read t) taken);
      within = rw c.in_ok-add.ensures (within_more bounds c.loop-input.all.items c.in_ok-rows.rows c.loop-input.invariant.within
          (subst (λ (b : Bounds). AllByRecursion (IsWithin b) c.in_ok-rows.rows) (c.bounds_at-within.ensures ∙ ap bounds (c.len.ensures ∙ stored)) c.in_ok-rows.ensures.within));
      many = rw c.in_ok-add.ensures (omega (arith, length-append c.loop-input.all.items (c.in_ok-rows.rows ∷ []), c.loop-input.invariant.many));
      given = λ t small.
          counted_at files binds bounds c.args.inputs.now c.input-item.result c.loop-input.input-index c.loop-input-test.true c.input-item.is
          (g.S.Shelf.files c.loop-input.shelf) c.file_bound.result.now (g.S.Shelf.given c.args.shelf.now) (g.S.Shelf.given c.loop-input.shelf)
          (g.S.Shelf.given c.load_input.new.shelf) c.loop-input.invariant.rest.same_files c.file_bound.ensures
          (c.loop-input.invariant.given t small) (c.in_ok-rows.ensures.given t);
      rest = reads-then c.loop-input.invariant.rest c.load_input.ensures.rest;
    }

pub returns-clause-taken : goal.returns-clause-taken
returns-clause-taken g c =
    λ t. all_taken (g.S.Shelf.files c.args.shelf.now) (bindings_of c.args.binds.now) (bounds_in c.args.bounds.now) c.args.inputs.now c.loop-input.all.items
    c.loop-input.input-index c.loop-input-test.false (c.loop-input.invariant.read t)

pub returns-clause-given : goal.returns-clause-given
returns-clause-given g c =
    λ t small. all_counted (g.S.Shelf.files c.args.shelf.now) (bindings_of c.args.binds.now) c.args.inputs.now (g.S.Shelf.given c.args.shelf.now)
    (g.S.Shelf.given c.loop-input.shelf) c.loop-input.input-index c.loop-input-test.false (c.loop-input.invariant.given t small)
