use Rattle.std.proofs.Common.{ℕ, List, Option, subst}
use Rattle.gate_floods.specs.RowJudge.Masks.{rows_of}
use Rattle.exact_checker.specs.Owning.{owning_of}
use Rattle.exact_checker.specs.ExactWorkers.Found.{IsFirstFound}
use Rattle.exact_checker.proofs.ExactWorkers.Finding.{answers_each}
use Rattle.exact_checker.proofs.exact_workers.judging.JudgesTreeJudges.find_wrong.Goals as goal

pub returns : goal.returns
returns g c =
    let t = c.args.terrain.now in
    answers_each t.edges.now (rows_of c.args.masks.now) t.roots.now.roots.items t.roots.now.first.items (owning_of c.args.known) c.args.trees.now c.in_ok-found.found.items c.requires.one_each c.from.result c.from.ensures c.in_ok-found.ensures
    c.first_found.result (subst (λ (os : List (Option ℕ)). IsFirstFound os c.first_found.result) c.as_slice.ensures.value c.first_found.ensures)
