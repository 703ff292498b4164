use Rattle.std.proofs.Common.{◌∙◌, Option, sym, subst}
use Rattle.std.proofs.lemmas.List.{length-map}
use Rattle.tilt_checkpoint.specs.Checkpoint.{cuts_of}
use Rattle.tilt_session.proofs.Falls.{IsTold, none-onward}
use Rattle.tilt_session.specs.Cuts.{IsOnward, first_fall}
use Rattle.tilt_session.specs.declared.cut_back.CutBack.{CutBack}
use Rattle.tilt_session.proofs.cut_back.next_cut.Goals as goal

pub returns-in-None : goal.returns-in-None
returns-in-None c =
    let checkpoint = c.args.checkpoint.now in
    let cuts = c.in-Upto.cuts in
    let none = subst (λ (told : Option CutBack). IsTold (first_fall (cuts_of checkpoint) cuts) told) c.in-None.is c.first_fall.ensures.fall in
    subst (IsOnward (cuts_of checkpoint)) (sym c.in-Upto.is)
    (none-onward (cuts_of checkpoint) cuts c.first_fall.ensures.valid.least c.first_fall.ensures.cuts.least
    (c.requires cuts c.in-Upto.is ∙ sym (length-map checkpoint.series (λ kept. kept.cut))) none)
