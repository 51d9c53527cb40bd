use Rattle.std.proofs.Common.{refl}
use Rattle.pair_answer.specs.declared.answer.PairAnswer.TheVariants as answer
use Rattle.pair_answer.specs.WhyAnswers.Lines.{blind_line, listed_line, sight_line_by, touch_line}
use Rattle.pair_answer.proofs.WhyAnswers.Saying.{line_refusal, line_said}
use Rattle.pair_answer.proofs.why_answers.said.said.Goals as goal

pub returns-in-Sight-clause-said : goal.returns-in-Sight-clause-said
returns-in-Sight-clause-said c = let text = sight_line_by c.args.pair c.in-Sight.ray in rw c.in-Sight.is (line_said c.args.pair (answer.Sight c.in-Sight.ray) text c.made.result refl (c.made.ensures text c.sight_line_of.ensures))

pub returns-in-Sight-clause-refusals : goal.returns-in-Sight-clause-refusals
returns-in-Sight-clause-refusals c = let text = sight_line_by c.args.pair c.in-Sight.ray in line_refusal text c.made.result (c.made.ensures text c.sight_line_of.ensures)

pub returns-in-Blind-clause-said : goal.returns-in-Blind-clause-said
returns-in-Blind-clause-said c = let text = blind_line c.args.pair in rw c.in-Blind.is (line_said c.args.pair answer.Blind text c.made-in-Blind.result refl (c.made-in-Blind.ensures text c.blind_line_of.ensures))

pub returns-in-Blind-clause-refusals : goal.returns-in-Blind-clause-refusals
returns-in-Blind-clause-refusals c = let text = blind_line c.args.pair in line_refusal text c.made-in-Blind.result (c.made-in-Blind.ensures text c.blind_line_of.ensures)

pub returns-in-Touch-clause-said : goal.returns-in-Touch-clause-said
returns-in-Touch-clause-said c = let text = touch_line c.args.pair in rw c.in-Touch.is (line_said c.args.pair answer.Touch text c.made-in-Touch.result refl (c.made-in-Touch.ensures text c.touch_line_of.ensures))

pub returns-in-Touch-clause-refusals : goal.returns-in-Touch-clause-refusals
returns-in-Touch-clause-refusals c = let text = touch_line c.args.pair in line_refusal text c.made-in-Touch.result (c.made-in-Touch.ensures text c.touch_line_of.ensures)

pub returns-in-Listed-clause-said : goal.returns-in-Listed-clause-said
returns-in-Listed-clause-said c = let text = listed_line c.args.pair in rw c.in-Listed.is (line_said c.args.pair answer.Listed text c.made-in-Listed.result refl (c.made-in-Listed.ensures text c.listed_line_of.ensures))

pub returns-in-Listed-clause-refusals : goal.returns-in-Listed-clause-refusals
returns-in-Listed-clause-refusals c = let text = listed_line c.args.pair in line_refusal text c.made-in-Listed.result (c.made-in-Listed.ensures text c.listed_line_of.ensures)

pub returns-in-NoSector-clause-said : goal.returns-in-NoSector-clause-said
returns-in-NoSector-clause-said c = rw c.in-NoSector.is refl
