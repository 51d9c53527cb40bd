use Rattle.std.proofs.Common.{◌≡◌, string_bytes, subst}
use Rattle.sight_names.specs.Map.{map_of}
use Rattle.sight_names.specs.Plan.{PlanParts}
use Rattle.map_answers.specs.Noise.{heard_line}
use Rattle.map_answers.proofs.Noises.{counts_are_the_answer}
use Rattle.map_answers.proofs.noise.judge_counts.Goals as goal

pub returns-in-Ok-heard_line_of-clause-judged : goal.returns-in-Ok-heard_line_of-clause-judged
returns-in-Ok-heard_line_of-clause-judged c = counts_are_the_answer (map_of c.args.plan.now) c.args.dampers.now c.args.name.now c.in-Ok.heard.pairs c.in-Ok.heard.silent (string_bytes c.in-Ok-heard_line_of.line) c.in-Ok.ensures
    (subst (λ (p : PlanParts). string_bytes c.in-Ok-heard_line_of.line ≡ heard_line c.args.name.now p.sectors c.in-Ok.heard.pairs c.in-Ok.heard.silent) c.plan.view_is c.in-Ok-heard_line_of.ensures)
