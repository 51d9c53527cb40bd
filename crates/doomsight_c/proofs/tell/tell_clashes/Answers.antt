use Rattle.std.proofs.Common.{◌+◌, List, sym, subst, take}
use Rattle.std.proofs.lemmas.List.Elements.{Contains-get_or}
use Rattle.doomsight_c.specs.declared.flaw.DoomsightFlaw.{DoomsightFlaw}
use Rattle.doomsight_c.specs.Audited.{TellsClashes}
use Rattle.doomsight_c.proofs.Auditing.{all_clashes, no_clash, one_clash}
use Rattle.doomsight_c.proofs.tell.tell_clashes.Goals as goal

pub loop-i-init : goal.loop-i-init
loop-i-init c = no_clash c.args.plan.now c.args.pairs.now c.args.out.now.items

pub of_clash-requires : goal.of_clash-requires
of_clash-requires c = c.requires _ (Contains-get_or c.args.pairs.now c.loop-i.i (record { i = 0; j = 0 }) c.loop-i-test.true)

pub loop-i-preserved : goal.loop-i-preserved
loop-i-preserved c =
    let a = c.args in
    subst (λ (fs : List DoomsightFlaw). TellsClashes a.plan.now (take (c.loop-i.i + 1) a.pairs.now) a.out.now.items fs) (sym c.in_ok-push.ensures.items)
    (one_clash a.plan.now a.pairs.now a.out.now.items c.loop-i.out.items c.loop-i.i (record { i = 0; j = 0 }) c.of_clash.result c.loop-i-test.true c.loop-i.invariant c.of_clash.ensures)

pub returns : goal.returns
returns c = all_clashes c.args.plan.now c.args.pairs.now c.args.out.now.items c.loop-i.out.items c.loop-i.i c.loop-i-test.false c.loop-i.invariant
