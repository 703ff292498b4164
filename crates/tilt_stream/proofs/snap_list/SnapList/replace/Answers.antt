use Rattle.std.proofs.Common.{◌≡◌, ◌∙◌, refl, List, Ok}
use Rattle.std.specs.Bool.{⊤}
use Rattle.std.specs.List.{splice}
use Rattle.std.proofs.lemmas.Iterator.Adapters.{YieldsList-from_vec, fact_from_collect}
use Rattle.tilt_stream.specs.declared.snap.Snap.{Snap}
use Rattle.tilt_stream.proofs.snap_list.SnapList.replace.Goals as goal

-- what is inserted is the whole of the piece
pub put : (c : goal.After-drop-branch) → c.splice.new.self.items ≡ splice c.self.inside.snaps.items c.args.from c.args.to c.piece.inside.snaps.items
put c =
    let h = c.in_ok-splice.ensures.items in
    let all = YieldsList-from_vec {s = h.0} c.piece.inside.snaps.items h.2.0 (h.2.1 ∙ c.piece.inside.snaps.ok.0) in
    fact_from_collect {E = ⊤} (λ (xs : List Snap) _. c.splice.new.self.items ≡ splice c.self.inside.snaps.items c.args.from c.args.to xs) (Ok c.args.from)
    (h.1, (h.3.1.0, h.3.1.1, λ _. (h.3.0, h.3.1.2)), h.4) all

pub invariant_of-self-2 : goal.invariant_of-self-2
invariant_of-self-2 c = rw (put c, c.self.view_is, c.piece.view_is) c.requires.no_gaps

pub returns-clause-ok : goal.returns-clause-ok
returns-clause-ok c = rw (put c, c.self.view_is, c.piece.view_is) refl
