use Rattle.tilt_serving.proofs.Feeding.{all-more, end-more, output-more}
use Rattle.tilt_serving.proofs.law.servings_are_joined.Goals as goal

pub returns-clause-written : goal.returns-clause-written
returns-clause-written c = λ means start bytes more laws none. output-more means start laws bytes more none

pub returns-clause-reported : goal.returns-clause-reported
returns-clause-reported c = λ means start bytes more laws none. all-more means start laws bytes more none

pub returns-clause-stops : goal.returns-clause-stops
returns-clause-stops c = λ means start bytes more laws none. end-more means start laws bytes more none
