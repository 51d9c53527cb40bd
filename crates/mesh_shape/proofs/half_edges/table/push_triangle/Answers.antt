use Rattle.std.proofs.lemmas.Result.{IfOk-weaker}
use Rattle.mesh_shape.proofs.half_edges.table.push_triangle.Goals as goal

pub returns : goal.returns
returns c = IfOk-weaker c.push_three.result _ _ (λ _ list. record {
  first = c.corner_at-p.result;
  second = c.corner_at-q.result;
  third = c.corner_at-r.result;
  list = list;
  is_first = c.corner_at-p.ensures;
  is_second = c.corner_at-q.ensures;
  is_third = c.corner_at-r.ensures;
}) c.push_three.ensures
