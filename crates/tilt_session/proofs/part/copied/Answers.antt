use Rattle.std.proofs.Common.{ap, ◌∙◌, sym}
use Rattle.std.proofs.lemmas.Option.{none-some}
use Rattle.tilt_stream.specs.Snap.{last_end}
use Rattle.tilt_session.proofs.part.copied.Goals as goal

pub append-requires-clause-behind : goal.append-requires-clause-behind
append-requires-clause-behind c = λ end is. absurd (none-some end (sym (ap last_end c.new-copies.ensures) ∙ is))
