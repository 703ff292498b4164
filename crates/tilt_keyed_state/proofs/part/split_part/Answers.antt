use Rattle.std.proofs.Common.{length, ◌<◌, ◌^◌, ◌∙◌, sym, ap, arith}
use Rattle.std.specs.Fmt.{decimal}
use Rattle.std.proofs.lemmas.Fmt.{decimal_injective}
use Rattle.tilt_keyed_state.proofs.Parts.{has_line, match_into, part_of, part_small, size_is, word_is}
use Rattle.tilt_keyed_state.proofs.part.split_part.Goals as goal

pub returns-in_err-word : goal.returns-in_err-word
returns-in_err-word c =
    let bytes = c.args.bytes.now in
    let small : length bytes < 2 ^ 63 = omega arith in
    rw c.from_residual.ensures (λ part rest e. has_line bytes part rest small e c.in_err-word.ensures)

pub returns-in_err-count : goal.returns-in_err-count
returns-in_err-count c =
    let bytes = c.args.bytes.now in
    let small : length bytes < 2 ^ 63 = omega arith in
    rw c.from_residual-in_err-count.ensures (λ part rest e. c.in_err-count.ensures (length part) (part_small bytes part rest small e)
    (size_is bytes part rest small e c.in_ok-word.word.now c.in_ok-word.rest.now c.in_ok-word.ensures))

pub returns : goal.returns
returns c =
    let bytes = c.args.bytes.now in
    let word = c.in_ok-word.word.now in
    let after = c.in_ok-word.rest.now in
    let count = c.in_ok-count.count in
    let small : length bytes < 2 ^ 63 = omega arith in
    match_into c.split_sized.result _ _ _ _ (λ none part rest e.
    let read = word_is bytes part rest small e word after c.in_ok-word.ensures in
    let many = decimal_injective (length part) count (omega (arith, part_small bytes part rest small e)) (omega (arith, c.in_ok-count.ensures.1))
    (sym read.0 ∙ c.in_ok-count.ensures.0) in
    none part rest many read.1)
    (λ p is. part_of bytes word after p.0.now p.1.now c.in_ok-word.ensures (c.in_ok-count.ensures.0 ∙ ap decimal (sym is.0)) is.1) c.split_sized.ensures
