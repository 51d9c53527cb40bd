use Rattle.std.proofs.Common.{sym, ◌∙◌, ap, length}
use Rattle.map_answers.proofs.groups.groups_over.Goals as goal

pub returns-in-Ok-clause-groups : goal.returns-in-Ok-clause-groups
returns-in-Ok-clause-groups c =
    let found = c.in-Ok.ensures.verdict c.requires.plain c.requires.fills in
    record {
      plan = c.lines-lines.ensures.plan;
      over = record { faces = record { ends = c.requires.audited; closed = found.closed }; are = found.groups_are; is = found.grouped; mesh = c.requires.mesh; labelled = found.labels };
      sound = found.sound c.requires.audited;
      mesh = found.mesh c.requires.mesh;
      good = found.good;
      points = c.requires.points ∙ sym (ap length c.in-Ok.ensures.points);
    }
