use Rattle.std.proofs.Common.{sym, ◌∙◌, ap, length, filter_map}
use Rattle.sight_names.specs.Map.{looked_up}
use Rattle.map_answers.proofs.Sounds.{same_count}
use Rattle.map_answers.proofs.audit.count_lines.Goals as goal

pub returns : goal.returns
returns c =
    c.count_of.ensures ∙ ap (λ ls. length (filter_map (λ l. l) ls)) c.lines.ensures.list
    ∙ sym (same_count (looked_up c.args.plan.now.points) c.args.plan.now.lines)
