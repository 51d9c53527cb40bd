use Rattle.pair_answer.proofs.Sectors.{answers_said, answers_tell}
use Rattle.pair_answer.proofs.why_answers.laws.whys_are_of_builds.Goals as goal

pub returns : goal.returns
returns c = λ p ask pair line b plan decided says. record {
  given = says.given;
  is = says.is;
  built = answers_said p ask pair says.given b plan says.faces decided says.is_answer;
  sight = answers_tell p ask pair says.given plan says.faces says.is_answer;
}
