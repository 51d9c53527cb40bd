use Rattle.std.proofs.Common.{ℕ, refl, sym, ◌∙◌, subst}
use Rattle.group_checker.specs.Members.{AreMembers}
use Rattle.group_checker.proofs.Judging.{members_moved}
use Rattle.exact_checker.proofs.judge.judge_sectors.Goals as goal

pub judge_each_pair-requires : goal.judge_each_pair-requires
judge_each_pair-requires c = (members_moved c.sectors-sectors.result c.args.groups.now c.args.groups.now c.in_ok-members.members.items c.as_slice.result.now refl c.as_slice.ensures.value c.in_ok-members.ensures).len ∙ c.sectors-sectors.ensures

pub returns-clause-pairs : goal.returns-clause-pairs
returns-clause-pairs c = λ cert groups joined. c.judge_each_pair.ensures.pairs cert (record {
  members = subst (λ (n : ℕ). AreMembers cert.groups n c.as_slice.result.now) c.sectors-sectors.ensures (members_moved c.sectors-sectors.result cert.groups c.args.groups.now c.in_ok-members.members.items c.as_slice.result.now (sym groups) c.as_slice.ensures.value c.in_ok-members.ensures);
  joined = joined;
})
