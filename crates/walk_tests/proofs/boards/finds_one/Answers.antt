use Rattle.std.proofs.Common.{arith, ◌≡◌, ℕ, ◌<◌, List, length, get_or, subst}
use Rattle.std.specs.List.{Contains}
use Rattle.sight_names.specs.Found.{Found}
use Rattle.sight_names.specs.Map.{map_of}
use Rattle.pair_budget.specs.declared.results.Reached.{Reached}
use Rattle.sight_workers.proofs.Lists.{contains_at}
use Rattle.sight_workers.proofs.Walks.{spare}
use Rattle.walk_tests.proofs.boards.finds_one.Goals as goal

pub returns : goal.returns
returns c =
    let found = c.as_slice-found.result.now in
    let first = get_or found 0 spare in
    let some : 0 < length found = omega arith in
    let is_one : first.to ≡ 1 = omega arith in
    let there = subst (λ (xs : List Reached). Contains xs first) c.as_slice-found.ensures (contains_at found 0 spare some) in
    let j = c.args.job in
    λ yes. subst (λ (b : ℕ). Found (map_of j.plan.now) j.mesh.now.triangles j.labels.now 0 b j.budget) is_one (c.in_ok-walked.ensures.exact.within first there)
