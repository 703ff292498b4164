use Rattle.std.proofs.Common.{◌∙◌, pos, sym}
use Rattle.std.proofs.lemmas.Int.{to_z-of_z}
use Rattle.std.specs.Int.{w64}
use Rattle.std.proofs.lemmas.Option.{none-some}
use Rattle.tilt_keyed_state.proofs.Parts.{natural_of, size_read}
use Rattle.tilt_keyed_state.proofs.part.size_of.Goals as goal
use Rattle.tilt_text.proofs.Numbers.{signed-shortest}

pub returns-in_err-shortest : goal.returns-in_err-shortest
returns-in_err-shortest c = rw c.from_residual.ensures (λ n small e. none-some (pos n) (c.in_err-shortest.ensures ∙ size_read c.args.word.now n small e))

pub returns : goal.returns
returns c =
    let word = c.args.word.now in
    let number = c.in_ok-shortest.field-0 in
    let fits = (signed-shortest word number (sym c.in_ok-shortest.ensures)).1 in
    natural_of word number c.natural.result c.in_ok-shortest.ensures (rw (to_z-of_z w64 number fits) at c.natural.ensures)
