use Rattle.std.proofs.Common.{◌≡◌, ℕ, List, Some, ap, sym, subst}
use Rattle.std.specs.List.{slice_get}
use Rattle.sight_names.specs.declared.names.PairRay.{PairRay}
use Rattle.sight_names.specs.Plan.{PlanParts}
use Rattle.cert_checker.specs.Pairs.{IsPairWithin}
use Rattle.exact_job.proofs.Rounds.{pairs_within}
use Rattle.exact_job.proofs.settling.round_of.Goals as goal

pub joined_rows-requires : goal.joined_rows-requires
joined_rows-requires g c = λ i r at. subst (λ (n : ℕ). IsPairWithin n r.pair) (sym (ap (λ (q : PlanParts). q.sectors) c.plan.view_is))
    (pairs_within c.args.over.now.plan c.args.rays.items c.requires.ground.plan c.requires.rays i r (subst (λ (rs : List PairRay). slice_get rs i ≡ Some r) c.as_slice.ensures.value at))
