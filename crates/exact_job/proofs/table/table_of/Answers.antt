use Rattle.std.proofs.Common.{◌∙◌, ℕ, List, map, sym, subst}
use Rattle.sight_names.specs.declared.names.PairRay.{PairRay}
use Rattle.group_job.specs.Marks.{SetsMore}
use Rattle.group_job.specs.Sectors.{AreListedByGroups, AreOfSectors}
use Rattle.group_job.proofs.Marks.{clear_has_none}
use Rattle.found_rays.specs.Lines.{pair_of_ray}
use Rattle.exact_job.specs.Table.{AreInOneGroup}
use Rattle.exact_job.proofs.Tables.{table_is}
use Rattle.exact_job.proofs.table.table_of.Goals as goal

pub set_own-requires : goal.set_own-requires
set_own-requires c = subst (λ (n : ℕ). AreOfSectors n c.args.groups.now) (sym c.in_ok-seen.ensures.sectors) c.requires.below

pub set_joined-requires-clause-below : goal.set_joined-requires-clause-below
set_joined-requires-clause-below c = subst (λ (n : ℕ). AreOfSectors n c.args.groups.now) (sym (c.set_own.ensures.sectors ∙ c.in_ok-seen.ensures.sectors)) c.requires.below

pub returns-clause-pairs : goal.returns-clause-pairs
returns-clause-pairs c = λ cert groups rays.
    let first = subst (λ (gs : List (List ℕ)). SetsMore (AreInOneGroup gs) c.in_ok-seen.seen c.set_own.new.marks) (sym groups) c.set_own.ensures in
    let more = subst (λ (rs : List PairRay). SetsMore (AreListedByGroups (map pair_of_ray rs) cert.groups) c.set_own.new.marks c.set_joined.new.marks) (sym rays)
    (subst (λ (gs : List (List ℕ)). SetsMore (AreListedByGroups (map pair_of_ray c.args.rays.now) gs) c.set_own.new.marks c.set_joined.new.marks) (sym groups) c.set_joined.ensures) in
    table_is cert c.in_ok-seen.seen c.set_own.new.marks c.set_joined.new.marks c.others-table.result (clear_has_none c.in_ok-seen.seen _ c.in_ok-seen.ensures.zero) first more c.others-table.ensures.bits
