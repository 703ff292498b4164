use Rattle.std.proofs.Common.{◌≡◌, ◌∙◌, Bool, suc, drop, sym, ap, arith}
use Rattle.std.specs.Prelude.{◌&&◌, ◌||◌}
use Rattle.tilt_bounds.proofs.Steps.{length-needs}
use Rattle.tilt_fuse.proofs.Places.{windowed-from, used-at}
use Rattle.tilt_fuse.specs.Plan.{has_window_on, is_windowed}
use Rattle.tilt_core.specs.CoreTree.{CoreTree, Definition, tree_of}
use Rattle.tilt_core.specs.Needs.{needs_from}
use Rattle.tilt_fuse.proofs.merging.puts_window_on.Goals as goal

pub bounds-query-query : goal.bounds-query-query
bounds-query-query c =
    let many = c.requires.known.are_used.many ∙ length-needs c.args.query.now.inputs c.args.query.now.defs.now in
    let low = c.requires.place in
    omega (arith, many)

pub returns-then-query-place : goal.returns-then-query-place
returns-then-query-place c =
    let inputs = c.args.query.now.inputs in
    let defs = c.args.query.now.defs.now in
    let used = used-at inputs defs c.args.place c.requires.place c.args.query.now.used.now c.requires.known in
    let body : tree_of c.def.inside.body ≡ c.index-query-place.result.body = ap (λ (d : Definition). d.body) (c.def.view_is ∙ sym c.index-query-place.is) in
    let rest = is_windowed (drop (suc c.args.place) defs) (drop (suc c.args.place) (needs_from inputs defs)) c.args.number in
    windowed-from inputs defs c.args.place c.requires.place c.index-query-place.result c.args.number c.index-query-place.is
    ∙ ap (λ (some : Bool). (some && has_window_on c.index-query-place.result.body c.args.number) || rest) (sym used ∙ c.if-query-place.true)
    ∙ ap (λ (b : CoreTree). has_window_on b c.args.number || rest) (sym body)
    ∙ ap (λ (on : Bool). on || rest) (sym c.has_window_on.ensures)

pub returns-else-query-place : goal.returns-else-query-place
returns-else-query-place c =
    let inputs = c.args.query.now.inputs in
    let defs = c.args.query.now.defs.now in
    let used = used-at inputs defs c.args.place c.requires.place c.args.query.now.used.now c.requires.known in
    let rest = is_windowed (drop (suc c.args.place) defs) (drop (suc c.args.place) (needs_from inputs defs)) c.args.number in
    windowed-from inputs defs c.args.place c.requires.place c.index-query-place.result c.args.number c.index-query-place.is
    ∙ ap (λ (some : Bool). (some && has_window_on c.index-query-place.result.body c.args.number) || rest) (sym used ∙ c.if-query-place.false)
    ∙ ap (λ (some : Bool). some || rest) (sym c.if-query-place.false)
