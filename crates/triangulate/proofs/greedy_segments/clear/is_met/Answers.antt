use Rattle.std.proofs.Common.{refl, arith}
use Rattle.std.proofs.lemmas.Int.{ints}
use Rattle.mesh_shape.proofs.Separate.{below_apart, apart_at_ends, common_swapped}
use Rattle.triangulate.proofs.greedy_segments.clear.is_met.Goals as goal

pub returns-then-q-s : goal.returns-then-q-s
returns-then-q-s c =
    let p = c.args.p in let q = c.args.q in let r = c.args.r in let s = c.args.s in (
      λ h. apart_at_ends p q r s (below_apart p q r s (omega (arith, ints)) (omega (arith, ints)) (omega (arith, ints)) (omega (arith, ints))),
      λ h. refl,
    )

pub returns-then-s-q : goal.returns-then-s-q
returns-then-s-q c =
    let p = c.args.p in let q = c.args.q in let r = c.args.r in let s = c.args.s in (
      λ h. apart_at_ends p q r s (λ z k. below_apart r s p q (omega (arith, ints)) (omega (arith, ints)) (omega (arith, ints)) (omega (arith, ints)) z (common_swapped p q r s z k)),
      λ h. refl,
    )
