use Rattle.std.proofs.Common.{◌≡◌, ℕ, refl, subst, arith}
use Rattle.group_job.specs.Rows.{ListedBefore}
use Rattle.group_job.proofs.Rows.{list_end}
use Rattle.group_job.proofs.sectors.listed_between.Goals as goal

pub returns : goal.returns
returns c =
    let r = c.sectors-a-end.ensures in
    let e : c.loop-a.a ≡ c.args.these.now.n = omega arith in
    list_end c.args.these.now c.args.others.now c.args.these.now.n c.loop-a.listed.items refl (subst (λ (n : ℕ). ListedBefore c.args.these.now c.args.others.now n 0 c.loop-a.listed.items) e c.loop-a.invariant)
