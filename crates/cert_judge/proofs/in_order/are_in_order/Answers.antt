use Rattle.std.proofs.Common.{◌≡◌, ℕ, ◌≤◌, length, refl, sym, subst, below_more, arith}
use Rattle.std.proofs.lemmas.Bool.{leb-true, le-leb}
use Rattle.std.proofs.lemmas.List.{length-map}
use Rattle.cert_format.specs.declared.cert.Labelled.{Labelled}
use Rattle.cert_checker.specs.Apart.{triangles_in}
use Rattle.cert_judge.specs.InOrder.{IsNextAt}
use Rattle.cert_judge.proofs.Order.{all_next}
use Rattle.cert_judge.proofs.in_order.are_in_order.Goals as goal

pub loop-k-preserved : goal.loop-k-preserved
loop-k-preserved c = below_more (IsNextAt c.args.points (triangles_in c.args.labelled.now)) c.loop-k.k c.loop-k.invariant (c.if-not-is_next.ensures.0 refl)

pub returns : goal.returns
returns c =
    let ls = c.args.labelled.now in
    let many : length (triangles_in ls) ≡ length ls = length-map ls (λ (l : Labelled). l.triangle) in (
      λ yes. record {
        triangles = all_next c.args.points (triangles_in ls) (λ k l. c.loop-k.invariant k (omega (arith, l, many)));
        few = subst (λ (n : ℕ). length ls ≤ n) c.most_triangles.ensures (leb-true (length ls) c.most_triangles.result yes);
      },
      λ are. le-leb (length ls) c.most_triangles.result (subst (λ (n : ℕ). length ls ≤ n) (sym c.most_triangles.ensures) are.few),
    )
