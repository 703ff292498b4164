use Rattle.std.proofs.Common.{◌≡◌, ◌∙◌, ◌∷◌, ap, arith, rules, to_z, of_z, w64}
use Rattle.std.proofs.lemmas.List.{drop_all}
use Rattle.tilt_series.proofs.Lines.{line_of}
use Rattle.tilt_series.proofs.line.line_before.Goals as goal

pub returns-clause-text : goal.returns-clause-text
returns-clause-text c =
    let row = c.row.inside in
    let start : to_z w64 (of_z w64 row.start) ≡ row.start = search rules in
    let end : to_z w64 (of_z w64 row.end) ≡ row.end = search rules in
    let first = rw start at c.number_before.ensures.text in
    let second = rw end at c.number_before-at.ensures.text in
    let last = c.byte_before-at.ensures.text ∙ ap (λ rest. 10 ∷ rest) (drop_all 64 c.args.room.now (omega arith)) in
    rw (← c.row.view_is)
    (line_of (record { start = row.start; end = row.end; value = row.value }) _ _ _ _ _ _ first c.byte_before-at-3.ensures.text second c.byte_before-at-2.ensures.text
    c.cell_before-at.ensures.text last)
