use Rattle.std.proofs.Common.{ℕ, sym, ◌∙◌, subst}
use Rattle.sight_names.specs.Map.{map_of}
use Rattle.cert_checker.specs.Pairs.{IsPairWithin}
use Rattle.cert_checker.proofs.Judging.{known_is, about_is}
use Rattle.cert_checker.proofs.judge.judge_members.Goals as goal

pub ray_table-requires : goal.ray_table-requires
ray_table-requires c = λ i r at. subst (λ (n : ℕ). IsPairWithin n r.pair) (sym (c.sectors-count.ensures ∙ c.requires.reached)) (c.requires.lists.rays_within i r at)

pub judge_each_pair-requires : goal.judge_each_pair-requires
judge_each_pair-requires c = record {
  known = known_is c.args.grouped.now.sectors _ c.requires.reached (c.in_ok-rays.ensures.sectors ∙ c.sectors-count.ensures ∙ c.requires.reached) c.requires.members;
  listed = c.requires.lists.listed;
}

pub returns-clause-pairs : goal.returns-clause-pairs
returns-clause-pairs c = λ cert rays told. c.judge_each_pair.ensures.pairs (map_of c.args.grouped.now) cert
    (about_is (map_of c.args.grouped.now) cert _ c.sectors-count.result c.in_ok-components.components.items c.args.reach.now.walked.items c.args.rays.now (c.sectors-count.ensures ∙ c.requires.reached)
    c.as_slice.ensures.value c.in_ok-components.ensures.components c.as_slice-2.ensures.value told (sym rays) c.in_ok-rays.ensures c.requires.members)
