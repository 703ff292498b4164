use Rattle.tilt_feed.proofs.Final.{fed-final, fed-output, fed-printed, fed-rises, sure-where_known}
use Rattle.tilt_feed.proofs.law.known_is_final.Goals as goal
use Rattle.tilt_feed.specs.Laws.{fed}

pub returns-clause-sources : goal.returns-clause-sources
returns-clause-sources c = λ core events more is. fed-final core events more is

pub returns-clause-sure : goal.returns-clause-sure
returns-clause-sure c = λ core events is. sure-where_known core is (fed core events)

pub returns-clause-rises : goal.returns-clause-rises
returns-clause-rises c = λ core events more is. fed-rises core events more is

pub returns-clause-printed : goal.returns-clause-printed
returns-clause-printed c = λ core events more is. fed-printed core events more is

pub returns-clause-output : goal.returns-clause-output
returns-clause-output c = λ core events more is. fed-output core events more is
