use Rattle.std.proofs.Common.{Bool, not, sym, ap, ◌∙◌, subst}
use Rattle.sight_names.specs.Map.{map_of}
use Rattle.sight_ray.specs.RayFault.{RaySplitsSide}
use Rattle.sight_ray.proofs.CrossedLineLemmas.{beq_true, beq_false, crossed_line_splits}
use Rattle.sight_ray.proofs.FaultLemmas.{leaves_by, last_unsplit, wrong_first, wrong_last}
use Rattle.sight_ray.proofs.crossed_lines_of.Goals as goal
use Rattle.math_base.proofs.Bools.{false_of_not, not_not}

pub returns-in_default-crossed_line_of : goal.returns-in_default-crossed_line_of
returns-in_default-crossed_line_of c = last_unsplit (map_of c.args.plan.now) c.args.ray.now c.in-Some.start c.requires c.in-Some.ensures c.in_default-crossed_line_of.ensures

pub returns-then-start-ray : goal.returns-then-start-ray
returns-then-start-ray c =
    wrong_first (map_of c.args.plan.now) c.args.ray.now c.in-Some.start c.in-Some-crossed_line_of.stop c.requires c.in-Some.ensures c.in-Some-crossed_line_of.ensures (beq_true _ _ c.if-start-ray.true)

pub returns-then-stop-ray : goal.returns-then-stop-ray
returns-then-stop-ray c =
    wrong_last (map_of c.args.plan.now) c.args.ray.now c.in-Some.start c.in-Some-crossed_line_of.stop c.requires c.in-Some.ensures c.in-Some-crossed_line_of.ensures (beq_false _ _ c.if-start-ray.false) (beq_false _ _ (false_of_not _ c.if-stop-ray.true))

pub returns : goal.returns
returns c =
    let m = map_of c.args.plan.now in
    let r = c.args.ray.now in (
      c.in-Some.ensures,
      c.in-Some-crossed_line_of.ensures,
      leaves_by m r c.in-Some.start c.in-Some.ensures (beq_false _ _ c.if-start-ray.false),
      subst (λ (b : Bool). RaySplitsSide m r r.last b) (beq_true _ _ (sym (not_not _) ∙ ap not c.if-stop-ray.false)) (crossed_line_splits m r r.last c.in-Some-crossed_line_of.stop c.in-Some-crossed_line_of.ensures),
    )
