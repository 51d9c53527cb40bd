use Rattle.std.proofs.Common.{length, arith}
use Rattle.cert_format.proofs.LimitLaws.{twice_fits}
use Rattle.triangulate.proofs.MeshBound.{few_in_plan}
use Rattle.group_job.proofs.Walking.{faces_of_groups}
use Rattle.group_job.proofs.grouped.map_of_groups_by.Goals as goal

pub returns-clause-grouped : goal.returns-clause-grouped
returns-clause-grouped g c =
    let v = c.in_ok-groups.ensures.verdict c.in_ok-mesh.ensures.plain c.in_ok-mesh.ensures.fills in
    let twice = few_in_plan c.args.plan.now c.lines.ensures.plan c.requires.audited c.in_ok-mesh.mesh.triangles c.in_ok-mesh.ensures.mesh in record {
      plan = c.lines.ensures.plan;
      closed = record { ends = c.requires.audited; closed = v.closed };
      groups = v.groups_are;
      map = v.grouped;
      few = twice_fits (length c.args.plan.now.points) (length c.in_ok-groups.field-0.groups) c.lines.ensures.plan.few_points (let all = c.in_ok-groups.ensures.few in omega (arith, all, twice));
      points = c.in_ok-groups.ensures.points;
      faces = faces_of_groups c.args.plan.now c.in_ok-groups.field-0.plan c.in_ok-groups.field-0.groups (record { mesh = c.in_ok-mesh.mesh; labels = c.in_ok-groups.field-0.labels }) c.requires.audited c.in_ok-mesh.ensures.points c.in_ok-mesh.ensures.mesh c.in_ok-groups.ensures.points c.in_ok-groups.ensures.sectors v;
    }
