use Rattle.std.proofs.Common.{List, subst, arith}
use Rattle.row_trees.specs.declared.made.Made.{Made}
use Rattle.exact_job.specs.Trees.{HasFound, HasFoundNothing}
use Rattle.exact_job.proofs.Rounds.{few_rays, told_not, told_true}
use Rattle.exact_job.proofs.settling.settle.Goals as goal

pub rounds-init : goal.rounds-init
rounds-init g c = c.in_ok-round.ensures

pub rounds-preserved : goal.rounds-preserved
rounds-preserved g c = c.in_ok-round-2.ensures.round

pub rounds-smaller : goal.rounds-smaller
rounds-smaller g c =
    let more = c.in_ok-round-2.ensures.more in
    let few = few_rays c.args.over.now.plan c.requires.ground.plan c.in_ok-round-2.round.rays.items c.in_ok-round-2.ensures.round.rays in
    omega (arith, more, few)

pub next_round-requires-clause-round : goal.next_round-requires-clause-round
next_round-requires-clause-round g c = c.rounds.invariant

pub next_round-requires-clause-found : goal.next_round-requires-clause-found
next_round-requires-clause-found g c = subst (λ (ws : List Made). HasFound ws) c.as_slice.ensures.value (told_true c.has_found.result (HasFound c.as_slice.result.now) (HasFoundNothing c.as_slice.result.now) c.rounds-test.true c.has_found.ensures)

pub end_of-requires : goal.end_of-requires
end_of-requires g c = record { nothing = subst (λ (ws : List Made). HasFoundNothing ws) c.as_slice.ensures.value (told_not c.has_found.result (HasFound c.as_slice.result.now) (HasFoundNothing c.as_slice.result.now) c.rounds-test.false c.has_found.ensures) }

pub returns : goal.returns
returns g c = c.end_of.ensures c.args.over.now.plan c.args.over.now.mesh.triangles c.args.edges.now c.requires.ground.plan c.requires.sectors c.requires.lines c.rounds.invariant
