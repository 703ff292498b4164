use Rattle.std.proofs.Common.{◌∷◌, sym, ap, ◌∙◌, option_map}
use Rattle.tilt_code.specs.Partial.{Progress, parts_of}
use Rattle.tilt_code.specs.Reading.{pieces_left}
use Rattle.tilt_code.proofs.Texts.{read_refused, read_taken}
use Rattle.tilt_code.proofs.reader.read_lines.Goals as goal

pub returns-then-not-branch : goal.returns-then-not-branch
returns-then-not-branch c =
    let s : Progress = record { code = parts_of c.loop-number.code; bad = c.loop-number.bad } in
    let cut = c.cut.ensures ∙ ap (λ o. c.cut.result.0.now ∷ pieces_left 10 (option_map (λ b. b.now) o)) c.in-Some.is in
    let none = rw c.if-not-branch.true at c.in_ok-take_text.ensures in
    sym c.loop-number.invariant ∙ read_refused c.loop-number.number s c.loop-number.left.now c.cut.result.0.now c.in-Some.behind.now cut none

pub loop-number-preserved : goal.loop-number-preserved
loop-number-preserved c =
    let s : Progress = record { code = parts_of c.loop-number.code; bad = c.loop-number.bad } in
    let q : Progress = record { code = parts_of c.take_text.new.code; bad = c.take_text.new.bad } in
    let cut = c.cut.ensures ∙ ap (λ o. c.cut.result.0.now ∷ pieces_left 10 (option_map (λ b. b.now) o)) c.in-Some.is in
    let taken = rw c.if-not-branch.false at c.in_ok-take_text.ensures in
    sym (read_taken c.loop-number.number s q c.loop-number.left.now c.cut.result.0.now c.in-Some.behind.now cut taken) ∙ c.loop-number.invariant
