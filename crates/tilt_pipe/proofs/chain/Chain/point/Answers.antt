use Rattle.std.proofs.Common.{◌≡◌, ◌∙◌, Some, FitsSigned, w64, refl, sym, ap, subst, rules}
use Rattle.std.proofs.lemmas.Int.{to_z-of_z}
use Rattle.std.proofs.lemmas.Option.{same_Some, slice_get_within}
use Rattle.std.specs.Option.{IsSome}
use Rattle.tilt_pipe.proofs.Points.{open-point, point-found}
use Rattle.tilt_pipe.specs.Chain.{point_at}
use Rattle.tilt_pipe.specs.Made.{Work}
use Rattle.tilt_pipe.specs.Positions.{start_at}
use Rattle.tilt_pipe.specs.Reads.{turn_point}
use Rattle.tilt_pipe.proofs.chain.Chain.point.Goals as goal
use Rattle.tilt_pipe.proofs.chain.Chain.point.Goals.{After-index}

-- the point that is found
found : (c : After-index) → c.index.result.now ≡ Some (turn_point c.requires.at_work.0.loop (start_at c.args.self.now.rings c.args.place))
found c =
    let p = c.args.self.now.rings in
    let t = c.requires.at_work in
    point-found p c.args.self.now.points.items c.args.place t.0 c.index.result.now c.requires.points t.1.is c.index.ensures
    ∙ open-point p c.args.place t.0 t.1 t.2

pub index-requires : goal.index-requires
index-requires c =
    let t = c.requires.at_work in
    let within = slice_get_within c.args.self.now.points.items c.args.place (point_at c.args.self.now.rings c.args.place t.0)
    (c.requires.points c.args.place t.0 t.1.is) in
    search rules

pub unwrap-requires : goal.unwrap-requires
unwrap-requires c = subst IsSome (sym (found (goal.at.unwrap-requires c).After-index)) refl

pub returns : goal.returns
returns c = λ w is_open.
    let p = c.args.self.now.rings in
    let t = c.requires.at_work in
    let at = found (goal.at.returns c).After-index in
    let same : t.0 ≡ w = same_Some t.0 w (sym t.1.is ∙ is_open.is) in
    let fits : FitsSigned w64 c.unwrap.result = search rules in
    rw (to_z-of_z w64 c.unwrap.result fits)
    (same_Some c.unwrap.result (turn_point t.0.loop (start_at p c.args.place)) (sym c.unwrap.ensures ∙ at)
    ∙ ap (λ (x : Work). turn_point x.loop (start_at p c.args.place)) same)
