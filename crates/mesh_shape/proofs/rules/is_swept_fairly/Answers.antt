use Rattle.std.proofs.Common.{length, ap, ◌∙◌, arith}
use Rattle.mesh_shape.proofs.rules.is_swept_fairly.Goals as goal

pub put_spans-requires : goal.put_spans-requires
put_spans-requires c = c.as_mut_slice.ensures.len ∙ c.in-Ok.ensures.len ∙ ap length c.lines.ensures.list

pub are_fair_in_order-requires-clause-few : goal.are_fair_in_order-requires-clause-few
are_fair_in_order-requires-clause-few c = let e = c.put_spans.ensures.each in let few = c.lines.ensures.plan.few_lines in omega arith
