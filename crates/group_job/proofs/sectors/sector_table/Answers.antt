use Rattle.std.proofs.Common.{◌<◌, ◌∙◌, ℕ, List, Contains, length, sym, ap, subst}
use Rattle.sight_names.specs.declared.names.Pair.{Pair}
use Rattle.sight_names.specs.Groups.{IsInGroup}
use Rattle.group_job.specs.Sectors.{AreClear, FollowGroups}
use Rattle.group_job.proofs.Following.{follow_groups}
use Rattle.group_job.proofs.Marks.{clear_has_none}
use Rattle.group_job.proofs.sectors.sector_table.Goals as goal

pub set_pairs-requires : goal.set_pairs-requires
set_pairs-requires c = λ q h. c.requires.pairs q (subst (λ (qs : List Pair). Contains qs q) c.as_slice-pairs.ensures h)

pub clear_pairs-requires-clause-below : goal.clear_pairs-requires-clause-below
clear_pairs-requires-clause-below c = λ f a h. c.requires.below f a (subst (λ (gs : List (List ℕ)). IsInGroup gs a f) c.as_slice-groups.ensures h)

pub set_listed-requires-clause-below : goal.set_listed-requires-clause-below
set_listed-requires-clause-below c = λ f a h. subst (λ (n : ℕ). a < n) (sym c.in_ok-marks.ensures.sectors) (c.requires.below f a (subst (λ (gs : List (List ℕ)). IsInGroup gs a f) c.as_slice-groups.ensures h))

pub set_listed-requires-clause-pairs : goal.set_listed-requires-clause-pairs
set_listed-requires-clause-pairs c = λ q h.
    let x = c.requires.pairs q (subst (λ (qs : List Pair). Contains qs q) c.as_slice-pairs.ensures h) in
    let e = c.requires.groups ∙ ap (λ (gs : List (List ℕ)). length gs) (sym c.as_slice-groups.ensures) in
    (subst (λ (n : ℕ). q.a < n) e x.0, subst (λ (n : ℕ). q.b < n) e x.1)

pub set_listed-requires-2-clause-below : goal.set_listed-requires-2-clause-below
set_listed-requires-2-clause-below c = λ f a h. subst (λ (n : ℕ). a < n) (sym c.in_ok-seen.ensures.sectors_are) (c.requires.below f a (subst (λ (gs : List (List ℕ)). IsInGroup gs a f) c.as_slice-groups.ensures h))

pub set_listed-requires-2-clause-pairs : goal.set_listed-requires-2-clause-pairs
set_listed-requires-2-clause-pairs c = λ q h.
    let x = c.requires.pairs q (subst (λ (qs : List Pair). Contains qs q) c.as_slice-pairs.ensures h) in
    let e = c.requires.groups ∙ ap (λ (gs : List (List ℕ)). length gs) (sym c.as_slice-groups.ensures) in
    (subst (λ (n : ℕ). q.a < n) e x.0, subst (λ (n : ℕ). q.b < n) e x.1)

pub returns : goal.returns
returns c =
    let t = c.args.table in
    let gs = c.as_slice-groups.result.now in
    let qs = c.as_slice-pairs.result.now in
    let follow = follow_groups t qs gs c.args.sectors (c.requires.groups ∙ ap (λ (ks : List (List ℕ)). length ks) (sym c.as_slice-groups.ensures)) (subst (AreClear t) (sym c.as_slice-pairs.ensures) c.requires.clear)
    c.set_pairs.new.table c.in_ok-seen.seen c.in_ok-marks.marks c.set_listed.new.marks c.set_listed-2.new.marks c.others-table.result c.in_ok-listed.listed.items
    c.set_pairs.ensures c.in_ok-seen.ensures c.in_ok-marks.ensures.sectors (clear_has_none c.in_ok-marks.marks _ c.in_ok-marks.ensures.zero) c.set_listed.ensures c.in_ok-listed.ensures c.set_listed-2.ensures c.others-table.ensures.bits in
    subst (λ (l : List Pair). FollowGroups t c.args.pairs.now c.args.groups.now c.args.sectors c.others-table.result l) (sym c.of.ensures)
    (subst (λ (ps : List Pair). FollowGroups t ps c.args.groups.now c.args.sectors c.others-table.result c.in_ok-listed.listed.items) c.as_slice-pairs.ensures
    (subst (λ (ks : List (List ℕ)). FollowGroups t qs ks c.args.sectors c.others-table.result c.in_ok-listed.listed.items) c.as_slice-groups.ensures follow))
