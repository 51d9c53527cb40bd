use Rattle.std.proofs.Common.{subst}
use Rattle.sight_names.specs.Map.{map_of}
use Rattle.pair_answer.specs.declared.answer.PairAnswer.{PairAnswer}
use Rattle.pair_answer.specs.declared.answer.PairAnswer.TheVariants as answer
use Rattle.map_answers.specs.Groups.{seen}
use Rattle.pair_answer.specs.Answer.{IsAnswerFor}
use Rattle.draw_answers.proofs.Joins.{answer_joins}
use Rattle.draw_answers.proofs.Pairs.{shown_made}
use Rattle.draw_answers.proofs.pair.drawn_answer_of.Goals as goal

pub drawn_sight-requires-clause-ray : goal.drawn_sight-requires-clause-ray
drawn_sight-requires-clause-ray c =
    let p = c.args.plan.now in
    answer_joins p c.args.ask c.args.pair c.in-Sight.ray c.requires.groups.plan (subst (λ (x : PairAnswer). IsAnswerFor (map_of p) c.args.ask c.args.pair x) c.in-Sight.is c.requires.answer)

pub returns-in-Blind-clause-shown : goal.returns-in-Blind-clause-shown
returns-in-Blind-clause-shown c = rw c.in-Blind.is (shown_made c.args.map.now (map_of c.args.plan.now) c.args.pair (seen c.args.groups.now) c.args.ask answer.Blind c.drawn_blind.result c.made-in-Blind.result c.drawn_blind.ensures c.made-in-Blind.ensures.made)

pub returns-in-Listed-clause-shown : goal.returns-in-Listed-clause-shown
returns-in-Listed-clause-shown c = rw c.in-Listed.is (shown_made c.args.map.now (map_of c.args.plan.now) c.args.pair (seen c.args.groups.now) c.args.ask answer.Listed c.drawn_word-in-Listed.result c.made-in-Listed.result c.drawn_word-in-Listed.ensures c.made-in-Listed.ensures.made)
