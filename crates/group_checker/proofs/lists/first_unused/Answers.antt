use Rattle.std.proofs.Common.{◌∙◌, ◌<◌, ◌↔◌, ℕ, List, Bool, length, sym, ap, subst}
use Rattle.cert_checker.specs.TreeJudge.Marks.{IsFlagSet}
use Rattle.group_checker.specs.Lists.{IsUsedBelow}
use Rattle.group_checker.proofs.Listing.{used_told}
use Rattle.group_checker.proofs.lists.first_unused.Goals as goal

pub returns : goal.returns
returns c = used_told c.args.count c.args.labels.now c.as_slice.result.now (ap length c.as_slice.ensures.value ∙ c.in_ok-marks.ensures.len)
    (subst (λ (ms : List Bool). (f : ℕ) → f < c.args.count → IsFlagSet ms f ↔ IsUsedBelow (length c.args.labels.now) c.args.labels.now f) (sym c.as_slice.ensures.value) c.in_ok-marks.ensures.marks) c.first_unmarked.result c.first_unmarked.ensures
