use Rattle.std.proofs.Common.{List, subst}
use Rattle.std.specs.Prelude.{All}
use Rattle.sight_names.specs.declared.names.PairRay.{PairRay}
use Rattle.found_rays.specs.Rays.{IsFoundRay}
use Rattle.found_rays.proofs.FewLines.{moved_ascend}
use Rattle.found_rays.proofs.Judging.{in_order}
use Rattle.found_rays.proofs.judged.judged.Goals as goal

pub returns-then-all : goal.returns-then-all
returns-then-all g c =
    let p = c.args.over.now.plan in
    let found = subst (λ (rs : List PairRay). All (IsFoundRay p) rs) c.as_slice.ensures.value (c.in_ok-all.ensures c.if-all.true) in
    in_order p c.in_ok-rays.rays.items found (moved_ascend c.args.rays.items c.in_ok-rays.rays.items c.requires.ascend c.in_ok-rays.ensures)
