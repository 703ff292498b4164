use Rattle.std.proofs.Common.{◌≡◌, Ok, subst, ◌∙◌, rules}
use Rattle.tilt_feed_line.specs.Lines.{input_named}
use Rattle.tilt_lexer.specs.Word.{IsWord}
use Rattle.tilt_feed_line.proofs.AtOnce.{named_input}
use Rattle.tilt_feed_line.proofs.quick.find_word.Goals as goal

pub returns : goal.returns
returns c =
    let inputs = c.args.inputs.now in
    let input = c.in_ok-input.input in
    let named : input_named inputs c.args.name.now ≡ Ok input = search rules in
    let there = c.index-inputs-input.is ∙ named_input inputs c.args.name.now input c.index-inputs-input.result named in
    (named, subst IsWord there c.bytes-word.ensures.word)
