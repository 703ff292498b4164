use Rattle.std.proofs.Common.{◌≡◌, length, arith}
use Rattle.std.proofs.lemmas.List.{length-map}
use Rattle.tilt_syntax.specs.Query.{kinds}
use Rattle.tilt_syntax.proofs.Cutting.{cut-tokens, length-positive, length-within, sound-front-tokens, sound-behind-tokens}
use Rattle.tilt_syntax.proofs.cut.first_statement.Goals as goal

pub split_at-requires : goal.split_at-requires
split_at-requires c =
    let within = length-within (kinds c.args.tokens.now) in
    let same : length (kinds c.args.tokens.now) ≡ length c.args.tokens.now = simp length-map in
    omega (arith, c.first_length-length.ensures)

pub returns-clause-cut : goal.returns-clause-cut
returns-clause-cut c =
    cut-tokens c.args.tokens.now _ _ c.requires (rw c.first_length-length.ensures at c.split_at.ensures.front)
    (rw c.first_length-length.ensures at c.split_at.ensures.back)

pub returns-clause-fewer : goal.returns-clause-fewer
returns-clause-fewer c =
    let some = c.requires in
    let same : length (kinds c.args.tokens.now) ≡ length c.args.tokens.now = simp length-map in
    let first = length-positive (kinds c.args.tokens.now) (omega arith) in
    let back = c.split_at.ensures.back_len in
    omega (arith, c.first_length-length.ensures)

pub returns-clause-first_sound : goal.returns-clause-first_sound
returns-clause-first_sound c = sound-front-tokens _ c.args.tokens.now _ c.split_at.ensures.front

pub returns-clause-sound : goal.returns-clause-sound
returns-clause-sound c = sound-behind-tokens _ c.args.tokens.now _ c.split_at.ensures.back
