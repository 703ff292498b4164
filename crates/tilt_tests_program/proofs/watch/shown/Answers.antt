use Rattle.tilt_watch.proofs.PlacesAfter.{in_step-first}
use Rattle.tilt_tests_program.proofs.watch.shown.Goals as goal

pub show-requires : goal.show-requires
show-requires g c = rw (c.in_ok-panel.ensures, c.deref.ensures.value) (in_step-first _)
