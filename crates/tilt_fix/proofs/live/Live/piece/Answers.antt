use Rattle.std.proofs.Common.{◌≡◌, [], None, sym, subst, ◌∙◌}
use Rattle.std.specs.List.{slice_index_or}
use Rattle.tilt_fix.proofs.Pieced.{nothing-put}
use Rattle.tilt_fix.specs.Change.{IsChangeOf}
use Rattle.tilt_edits.specs.Edited.{input_of}
use Rattle.tilt_fix.specs.Live.{LiveParts}
use Rattle.tilt_fix.specs.Reached.{reached}
use Rattle.tilt_fix.proofs.live.Live.piece.Goals as goal

pub returns-in-None : goal.returns-in-None
returns-in-None c =
    let does = subst (λ (l : LiveParts). IsChangeOf c.args.edit.now (slice_index_or l.rows (input_of c.args.edit.now) []) c.args.change.now) (sym c.self.view_is) c.requires.change in
    let none = subst (λ (l : LiveParts). reached l.query c.args.edit.now ≡ None) (sym c.self.view_is) (sym c.requires.reached ∙ c.in-None.is) in
    rw (← c.self.view_is, c.none.ensures.from, c.none.ensures.to, c.none.ensures.list)
    (nothing-put c.self.inside.accepted c.self.inside.rows.items c.self.invariant.accepted c.self.invariant.many c.domain-domain.result
    c.domain-domain.ensures.value c.domain-domain.ensures.stretch c.args.edit.now c.requires.edit.some c.args.change.now does c.self.inside.output
    c.self.invariant.gives none)
