use Rattle.std.proofs.Common.{List, Bool, subst, ◌∙◌}
use Rattle.std.specs.Prelude.{⊤}
use Rattle.sight_names.specs.Map.{map_of}
use Rattle.map_answers.specs.SightStatus.Answer.{GivesCalled, line_answer}
use Rattle.map_answers.specs.Noise.{CountCalls, PairCalls}
use Rattle.map_answers.proofs.noise.judge_sound.Goals as goal

pub returns-in-Some-clause-judged : goal.returns-in-Some-clause-judged
returns-in-Some-clause-judged c =
    rw c.in-Some.is (subst (λ (ds : List Bool). GivesCalled ⊤ (PairCalls (map_of c.args.input.now.plan) ds c.in-Some.pair) (line_answer c.judge_pair.result)) (c.as_slice-dampers.ensures ∙ c.requires.dampers.are) c.judge_pair.ensures.judged)
