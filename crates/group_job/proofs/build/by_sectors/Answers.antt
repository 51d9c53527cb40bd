use Rattle.std.proofs.Common.{ℕ, List, ap, sym, subst}
use Rattle.sight_names.specs.declared.names.Pair.{Pair}
use Rattle.cert_format.specs.declared.cert.Sizes.{Sizes}
use Rattle.cert_format.specs.Sizes.{sizes_of_plan}
use Rattle.cert_format.specs.declared.cert_groups.cert.AnyCert.TheVariants.{Two}
use Rattle.group_job.specs.Built.{IsGroupBuild}
use Rattle.group_job.specs.Sectors.{AreOfSectors, FollowGroups}
use Rattle.group_job.proofs.Certifying.{is_group_build}
use Rattle.group_job.proofs.build.by_sectors.Goals as goal

pub sector_table-requires-clause-below : goal.sector_table-requires-clause-below
sector_table-requires-clause-below c = subst (λ (n : ℕ). AreOfSectors n c.args.groups) (sym (ap (λ (s : Sizes). s.sectors) c.map_sizes-sizes.ensures.sizes)) c.requires.below

pub returns : goal.returns
returns c = λ ask map budget same h.
    let p = c.args.plan.now in
    let t = c.in_ok-sectors.sectors in
    let follow = subst (λ (n : ℕ). FollowGroups c.args.built.table c.args.built.listed c.args.groups n t.table t.listed) (ap (λ (s : Sizes). s.sectors) c.map_sizes-sizes.ensures.sizes) c.in_ok-sectors.ensures in
    subst (λ (ps : List Pair). IsGroupBuild p ask (record { table = t.table; listed = t.listed; cert = Two (record { groups = c.args.groups; cert = c.args.built.cert; listed = ps }) c.map_sizes-sizes.result })) (sym c.in_ok-listed.ensures)
    (subst (λ (s : Sizes). IsGroupBuild p ask (record { table = t.table; listed = t.listed; cert = Two (record { groups = c.args.groups; cert = c.args.built.cert; listed = t.listed }) s })) (sym c.map_sizes-sizes.ensures.sizes)
    (subst (λ (gs : List (List ℕ)). IsGroupBuild p ask (record { table = t.table; listed = t.listed; cert = Two (record { groups = gs; cert = c.args.built.cert; listed = t.listed }) (sizes_of_plan p) })) same
    (is_group_build p ask map budget c.args.built h t.table t.listed
    (subst (λ (gs : List (List ℕ)). FollowGroups c.args.built.table c.args.built.listed gs p.sectors t.table t.listed) (sym same) follow))))
