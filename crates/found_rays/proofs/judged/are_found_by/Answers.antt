use Rattle.std.proofs.Common.{◌≡◌, List, Bool, true, subst}
use Rattle.std.specs.Prelude.{All}
use Rattle.found_rays.proofs.Judging.{parts_found}
use Rattle.found_rays.proofs.judged.are_found_by.Goals as goal

pub returns : goal.returns
returns g c = λ t. parts_found c.args.over.now.plan c.args.rays.now c.in_ok-found.found.items c.in_ok-found.ensures (subst (λ (bs : List Bool). All (λ b. b ≡ true) bs) c.as_slice.ensures.value (c.all_true.ensures t))
