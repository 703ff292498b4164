use Rattle.std.proofs.Common.{◌≡◌, ◌∙◌, ◌+ℤ◌, ◌-ℤ◌, ℤ, pos, [], sym, ap, map, get_or, List, Option, arith}
use Rattle.std.proofs.lemmas.Int.{ints}
use Rattle.tilt_base.specs.Reduce.{numbers, reduce}
use Rattle.tilt_code.specs.Body.{mapped}
use Rattle.tilt_stream.specs.Stream.{Stream, stream_of}
use Rattle.tilt_stream.specs.Window.{met}
use Rattle.tilt_turn.proofs.Numbered.{read-stream}
use Rattle.tilt_turn.specs.Kinds.{kind_reducer}
use Rattle.tilt_turn.proofs.span.WindowLeaf.cell.Goals as goal

pub returns : goal.returns
returns c =
    let w = c.args.self.now in
    λ lists maps point stands.
    let x = stream_of (get_or lists w.buffer []) in
    let stream_is = read-stream lists w.buffer in
    let low : point +ℤ w.from +ℤ pos 1 -ℤ pos 1 ≡ point +ℤ w.from = omega (arith, ints) in
    let all = stands.at.begins.held.cells
    ∙ ap (λ (lo : ℤ). map (mapped maps w.map) (met x lo w.window.back.tick)) low
    ∙ ap (λ (hi : ℤ). map (mapped maps w.map) (met x (point +ℤ w.from) hi)) stands.last
    ∙ ap (λ (y : Stream). map (mapped maps w.map) (met y (point +ℤ w.from) (point +ℤ w.to))) (sym stream_is) in
    c.result.ensures ∙ ap (λ (cells : List (Option ℤ)). reduce (kind_reducer w.window.kind) (numbers cells)) all
