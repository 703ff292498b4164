use Rattle.std.proofs.Common.{sym}
use Rattle.tilt_lexer.proofs.Fronts.{front_is_word, word_is_front}
use Rattle.tilt_lexer.proofs.front.front_word.Goals as goal

pub from_word-requires : goal.from_word-requires
from_word-requires c = rw c.word_length-length.ensures (front_is_word c.args.bytes.now c.requires)

pub returns-in-Some : goal.returns-in-Some
returns-in-Some c =
    let is_key = rw c.word_length-length.ensures at c.in-Some.ensures in
    rw c.word_length-length.ensures (word_is_front c.args.bytes.now _ c.requires (sym is_key) tt)

pub returns-in_ok-from_word-in-None : goal.returns-in_ok-from_word-in-None
returns-in_ok-from_word-in-None c =
    let is_name = rw c.word_length-length.ensures at c.in_ok-from_word-in-None.ensures in
    let no_key = rw c.word_length-length.ensures at c.in-None.ensures in
    rw c.word_length-length.ensures (word_is_front c.args.bytes.now _ c.requires (front_is_word c.args.bytes.now c.requires, λ reserved. no_key reserved.0 reserved.1, is_name) tt)
