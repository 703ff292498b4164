use Rattle.std.proofs.Common.{refl}
use Rattle.tilt_commands.proofs.Doing.{fits_unsaved, none_shown}
use Rattle.tilt_commands.specs.Table.{summed}
use Rattle.tilt_printed.specs.declared.printed.Printed.TheVariants.{Whole}
use Rattle.tilt_printed.specs.declared.whole_text.WholeText.TheVariants.{Text}
use Rattle.tilt_commands.proofs.try_command.try_.Goals as goal

pub returns-clause-made : goal.returns-clause-made
returns-clause-made c =
    λ watchers.
    let run = rw c.in_ok-rows.ensures at c.in_ok-list.ensures in
    rw (c.unsaved.ensures, c.in_ok-text.ensures) (summed c.in_ok-loaded.loaded.accepted.core c.in_ok-list.list c.in_ok-loaded.ensures.taken run)

pub returns-clause-fits : goal.returns-clause-fits
returns-clause-fits c = rw c.unsaved.ensures (fits_unsaved ⊥ ⊥ (Whole (Text c.in_ok-text.text)) tt (λ no. no, λ no. no) (none_shown _ refl))
