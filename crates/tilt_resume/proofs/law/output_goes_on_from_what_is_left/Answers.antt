use Rattle.tilt_resume.proofs.Restored.{events-restore}
use Rattle.tilt_resume.proofs.Resumed.{rest-given}
use Rattle.tilt_resume.proofs.Rises.{resume-rises}
use Rattle.tilt_resume.proofs.law.output_goes_on_from_what_is_left.Goals as goal

pub returns-clause-rest : goal.returns-clause-rest
returns-clause-rest c = λ core margins events more is near bounded looks. rest-given core margins is near bounded looks events more

pub returns-clause-restored : goal.returns-clause-restored
returns-clause-restored c = events-restore

pub returns-clause-rises : goal.returns-clause-rises
returns-clause-rises c = resume-rises
