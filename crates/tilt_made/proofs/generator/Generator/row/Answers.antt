use Rattle.std.proofs.Common.{◌≡◌, ◌+◌, ℕ, pos, ◌-ℤ◌, FitsSigned, ap, rules, ◌∙◌}
use Rattle.std.specs.Int.{w64}
use Rattle.std.proofs.lemmas.Int.{to_z-of_z}
use Rattle.tilt_made.specs.Generator.{after_row, drawn, gap, next, ticks}
use Rattle.tilt_made.proofs.Rows.{row_is, value_fits}
use Rattle.tilt_made.proofs.generator.Generator.row.Goals as goal

pub returns-clause-row : goal.returns-clause-row
returns-clause-row c =
    let start : FitsSigned w64 c.from.result = search rules in
    let end : FitsSigned w64 c.from-2.result = search rules in
    let drawn_value : FitsSigned w64 c.from-value.result = search rules in
    let value : FitsSigned w64 (c.from-value.result -ℤ pos 1000) =
    value_fits c.from-value.result c.draw-3.result c.from-value.ensures c.draw-3.ensures.below in
    let state = c.args.self.now.state in
    let one : c.draw.result ≡ gap state = c.draw.ensures.drawn ∙ ap (drawn 3) c.draw.ensures.state in
    let second_state : c.draw-2.new.self.state ≡ next (next state) = c.draw-2.ensures.state ∙ ap next c.draw.ensures.state in
    let two : c.draw-2.result + 1 ≡ ticks state = ap (λ (n : ℕ). n + 1) (c.draw-2.ensures.drawn ∙ ap (drawn 9) second_state) in
    let three : c.draw-3.result ≡ drawn 2001 (after_row state) =
    c.draw-3.ensures.drawn ∙ ap (drawn 2001) (c.draw-3.ensures.state ∙ ap next second_state) in
    rw (to_z-of_z w64 _ start, to_z-of_z w64 _ end, to_z-of_z w64 _ drawn_value, to_z-of_z w64 _ value, c.from.ensures, c.from-2.ensures, c.from-value.ensures)
    (row_is state c.args.position.now c.draw.result c.draw-2.result c.draw-3.result one two three)
