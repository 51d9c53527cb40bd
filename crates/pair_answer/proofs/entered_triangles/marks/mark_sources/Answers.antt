use Rattle.std.proofs.Common.{List, Bool, refl, sym, subst, arith}
use Rattle.math_base.proofs.Bools.{not_both_values}
use Rattle.pair_answer.specs.EnteredTriangles.Marks.{IsNamedBy}
use Rattle.pair_answer.proofs.EnteredTriangles.Marking.{named_more, named_skip}
use Rattle.pair_answer.proofs.entered_triangles.marks.mark_sources.Goals as goal
use Rattle.pair_answer.proofs.entered_triangles.marks.mark_sources.Goals.{then-is_named, else-is_named}

pub loop-k-preserved : goal.loop-k-preserved
loop-k-preserved c =
    let named = c.in_ok-named.named.items in
    elim c.if-is_named.branch [
      | then-is_named w ↦ rw w.marks-is (named_more c.loop-k.k c.args.labels.now c.args.sources.now c.args.marks.now c.loop-k.marks _ c.loop-k.invariant named c.args.sectors c.in_ok-named.ensures
          (subst (λ (bs : List Bool). IsNamedBy c.args.labels.now bs c.loop-k.k) c.as_slice.ensures.value (c.is_named.ensures.0 w.if-is_named.true)) (omega arith) w.mark.ensures)
      | else-is_named w ↦ rw w.marks-is (named_skip c.loop-k.k c.args.labels.now c.args.sources.now c.args.marks.now c.loop-k.marks c.loop-k.marks c.loop-k.invariant named c.args.sectors c.in_ok-named.ensures
          (λ n. not_both_values _ (c.is_named.ensures.1 (subst (λ (bs : List Bool). IsNamedBy c.args.labels.now bs c.loop-k.k) (sym c.as_slice.ensures.value) n)) w.if-is_named.false) refl)
    ]
