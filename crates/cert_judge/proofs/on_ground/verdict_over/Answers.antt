use Rattle.std.proofs.Common.{Some, sym, ◌∙◌, ap, subst}
use Rattle.std.specs.Prelude.{IfOk}
use Rattle.sight_names.specs.Map.{map_of}
use Rattle.cert_format.specs.declared.cert_groups.cert.AnyCert.{AnyCert}
use Rattle.cert_judge.specs.Version.{TellsPairsAny}
use Rattle.cert_judge.proofs.Wholes.{of_one, of_two}
use Rattle.cert_judge.proofs.on_ground.verdict_over.Goals as goal

pub returns-in-None-clause-pairs : goal.returns-in-None-clause-pairs
returns-in-None-clause-pairs c = λ p cert w.
    let one = of_one p c.args.over.now c.args.table.now cert c.args.groups.now c.args.listed.now c.args.rays.now c.args.reach.now c.in-None.is w in
    subst (λ (x : AnyCert). IfOk c.judge_reached.result (TellsPairsAny (map_of c.args.over.now) c.args.table.now x)) (sym one.is) (c.judge_reached.ensures.pairs one.one one.listed_is one.rays_are one.reached.tells)

pub returns-in-Some-clause-pairs : goal.returns-in-Some-clause-pairs
returns-in-Some-clause-pairs c = λ p cert w.
    let two = of_two p c.args.over.now c.args.table.now cert c.args.groups.now c.as_slice.result.now c.args.listed.now c.args.rays.now c.args.reach.now (c.in-Some.is ∙ ap Some (sym c.as_slice.ensures)) w in
    subst (λ (x : AnyCert). IfOk c.judge_sectors.result (TellsPairsAny (map_of c.args.over.now) c.args.table.now x)) (sym two.is) (c.judge_sectors.ensures.pairs two.two two.groups_are two.listed_is two.rays_are two.reached.tells)
