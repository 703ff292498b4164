use Rattle.std.proofs.Common.{Option, Ok, ap, ◌∙◌}
use Rattle.tilt_code.specs.Partial.{parts_of}
use Rattle.tilt_code.specs.declared.place.Place.{Place}
use Rattle.tilt_code.proofs.Outcomes.{reads-code}
use Rattle.tilt_code.proofs.reader.read.Goals as goal

pub new-requires : goal.new-requires
new-requires c =
    let code = parts_of c.in_ok-progress.progress.code in
    rw c.into_list.ensures (reads-code c.args.bytes.now code (c.in_ok-progress.ensures ∙ ap (λ (o : Option Place). Ok (record { code = code; bad = o })) c.in-None.is)).0

pub returns-in-Some : goal.returns-in-Some
returns-in-Some c =
    let code = parts_of c.in_ok-progress.progress.code in
    (code, c.in_ok-progress.ensures ∙ ap (λ (o : Option Place). Ok (record { code = code; bad = o })) c.in-Some.is)
