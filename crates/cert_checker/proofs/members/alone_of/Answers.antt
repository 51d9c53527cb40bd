use Rattle.std.proofs.Common.{◌≡◌, List, Bool, sym, subst}
use Rattle.sight_names.specs.Map.{map_of}
use Rattle.cert_checker.specs.Named.{MarksNamed}
use Rattle.cert_checker.proofs.Alone.{alone_more}
use Rattle.cert_checker.proofs.members.alone_of.Goals as goal

pub loop-sector-preserved : goal.loop-sector-preserved
loop-sector-preserved c =
    let e : c.plan.inside.sectors ≡ c.args.plan.now.sectors = cc in
    alone_more (map_of c.args.plan.now) c.plan.inside.sectors c.loop-sector.sector c.as_slice.result.now c.holds.result c.loop-sector.members.items _ c.in_ok-own.own e c.loop-sector-test.true
    (subst (λ (marks : List Bool). MarksNamed (map_of c.args.plan.now) marks) (sym c.as_slice.ensures.value) c.in_ok-named.ensures) c.holds.ensures c.in_ok-own.ensures c.in_ok-push.ensures.items c.loop-sector.invariant
