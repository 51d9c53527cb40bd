use Rattle.std.proofs.Common.{refl}
use Rattle.pair_answer.proofs.why_answers.said.made.Goals as goal

pub returns-in-Ok : goal.returns-in-Ok
returns-in-Ok c = λ text h. rw c.in-Ok.is at h

pub returns-in-Err : goal.returns-in-Err
returns-in-Err c = λ text h. refl
