use Rattle.std.proofs.Common.{◌≡◌, replicate, sym, subst, rules}
use Rattle.tilt_lexer.specs.Word.{IsWord}
use Rattle.tilt_overflows.proofs.Underscores.{is_word_of}
use Rattle.tilt_overflows.proofs.names.name_of.Goals as goal

pub unreachable-requires : goal.unreachable-requires
unreachable-requires c =
    let bytes : c.deref.result.now ≡ replicate c.args.count 95 = search rules in
    let word : IsWord c.deref.result.now = subst IsWord (sym bytes) (is_word_of c.args.count c.requires) in
    let none = rw c.in_default.is at c.in_ok-name.ensures in
    search rules
