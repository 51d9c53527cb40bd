use Rattle.std.proofs.Common.{◌≡◌, ◌+◌, ◌-◌, refl, arith}
use Rattle.cert_judge.proofs.Order.{next_of, triangle_of_next, above_of_next}
use Rattle.cert_judge.proofs.in_order.is_next.Goals as goal

pub returns-else-k-eq0 : goal.returns-else-k-eq0
returns-else-k-eq0 c =
    let q : (c.args.k - 1) + 1 ≡ c.args.k = omega arith in (
      λ yes. next_of c.args.points c.args.labelled.now c.args.k _ c.requires (c.args.k - 1) _ q (c.if-is_triangle.ensures.0 refl) (c.is_above.ensures.0 yes),
      λ next. c.is_above.ensures.1 (above_of_next c.args.points c.args.labelled.now c.args.k _ c.requires (c.args.k - 1) _ q next),
    )

pub returns-else-is_triangle : goal.returns-else-is_triangle
returns-else-is_triangle c = (λ yes. absurd (cc), λ next. c.is_triangle.ensures.1 (triangle_of_next c.args.points c.args.labelled.now c.args.k _ c.requires next))
