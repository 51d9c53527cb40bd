use Rattle.std.proofs.Common.{ℕ, ◌<◌, ap, subst, sym}
use Rattle.pair_budget.specs.PairRays.{PairRaysParts}
use Rattle.pair_budget.proofs.FoundSectorsLaws.{marked_more}
use Rattle.pair_budget.proofs.pair_rays.PairRays.note.Goals as goal

pub invariant_of-self-then-not-rejects : goal.invariant_of-self-then-not-rejects
invariant_of-self-then-not-rejects c =
    let sized = ap (λ (f : PairRaysParts). f.sectors) c.self.view_is in
    rw c.in_ok-push.ensures.items (marked_more c.self.inside.seen c.set.new.self c.self.inside.rays.items c.args.ray c.self.invariant (subst (λ (n : ℕ). c.args.ray.pair.a < n) (sym sized) c.requires.first) (subst (λ (n : ℕ). c.args.ray.pair.b < n) (sym sized) c.requires.second) c.set.ensures.bit c.set.ensures.pairs)
