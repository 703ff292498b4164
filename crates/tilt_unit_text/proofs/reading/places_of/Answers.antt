use Rattle.std.proofs.Common.{sym, subst, arith}
use Rattle.std.proofs.lemmas.List.{length-map}
use Rattle.tilt_lexer.specs.declared.token.Token.{Token}
use Rattle.tilt_syntax.proofs.Parsing.{sound-kinds}
use Rattle.tilt_syntax.proofs.Texts.{sound_back}
use Rattle.tilt_syntax.specs.Query.{AreSound, kinds}
use Rattle.tilt_unit_text.proofs.Numbered.{counted_sound}
use Rattle.tilt_unit_text.proofs.reading.places_of.Goals as goal

pub parse-requires : goal.parse-requires
parse-requires c =
    let ts = c.args.tokens.items in
    let n = length-map ts (λ (t : Token). t.kind) in
    let few = c.args.tokens.small in
    let counts = counted_sound 0 (kinds ts) (sound-kinds ts c.requires.sound) (omega arith) in
    record { sound = rw c.deref.ensures.value (sound_back c.in_ok-counts.counts.items (subst AreSound (sym c.in_ok-counts.ensures) counts)) }
