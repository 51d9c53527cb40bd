use Rattle.std.proofs.Common.{codes}
use Rattle.std.specs.Fmt.{decimal}
use Rattle.map_answers.proofs.SightStatus.Lines.{four_counts}
use Rattle.map_answers.proofs.audit.line_of_counts.Goals as goal

pub returns : goal.returns
returns c =
    let n = c.args.counts in
    four_counts _ _ _ _ _ (codes "sound lines ") (decimal n.lines) (codes " points ") (decimal n.points) (codes " sectors ") (decimal n.sectors) (codes " triangles ") (decimal n.triangles) (codes "\n")
    c.new-line.ensures.bytes c.in_ok-push_count.ensures c.in_ok-push_count-2.ensures c.in_ok-push_count-3.ensures c.in_ok-push_count_line.ensures
