use Rattle.std.proofs.Common.{ℕ, ◌<◌, List, sym, subst}
use Rattle.std.proofs.lemmas.Result.{IfOk-weaker}
use Rattle.sight_names.specs.declared.names.Pair.{Pair}
use Rattle.sight_names.specs.Groups.{IsInGroup}
use Rattle.sight_names.specs.Map.{map_of}
use Rattle.cert_checker.specs.Judged.{JudgesPairsBy}
use Rattle.cert_checker.specs.Members.{AreMembersBelow, IsMember}
use Rattle.cert_checker.proofs.Judging.{pairs_moved}
use Rattle.cert_checker.proofs.Alone.{member_is}
use Rattle.group_checker.specs.Judged.{TellsPairsOfTwo}
use Rattle.group_checker.proofs.Judging.{few_are, fit_lists, members_below, members_moved}
use Rattle.group_checker.proofs.judge.judge_sectors.Goals as goal

pub members_of-requires : goal.members_of-requires
members_of-requires c = let w = c.requires.lists in few_are c.args.table.now.n w.cert w.two c.args.groups.now w.groups_are

pub judge_members-requires-clause-members : goal.judge_members-requires-clause-members
judge_members-requires-clause-members c =
    subst (λ (n : ℕ). AreMembersBelow c.args.grouped.now.sectors n c.as_slice.result.now) c.sectors.ensures
    (subst (AreMembersBelow c.args.grouped.now.sectors c.sectors.result) (sym c.as_slice.ensures.value) (members_below c.args.groups.now c.sectors.result c.args.grouped.now.sectors c.in_ok-members.members.items c.requires.sectors c.in_ok-members.ensures))

pub judge_members-requires-clause-lists : goal.judge_members-requires-clause-lists
judge_members-requires-clause-lists c = fit_lists c.args.table.now.n c.args.grouped.now.sectors c.args.groups.now c.args.listed.now c.args.rays.now c.requires.sectors c.requires.lists

pub returns-clause-pairs : goal.returns-clause-pairs
returns-clause-pairs c = λ cert groups listed rays told.
    let g = map_of c.args.grouped.now in
    let all = members_moved c.sectors.result cert.groups c.args.groups.now c.in_ok-members.members.items c.as_slice.result.now (sym groups) c.as_slice.ensures.value c.in_ok-members.ensures in
    IfOk-weaker c.judge_members.result (JudgesPairsBy g (IsMember c.as_slice.result.now) c.args.table.now c.args.listed.now cert.cert) (TellsPairsOfTwo g c.args.table.now cert)
    (λ v h. subst (λ (ps : List Pair). JudgesPairsBy g (IsInGroup cert.groups) c.args.table.now ps cert.cert v) (sym listed)
    (pairs_moved g (IsMember c.as_slice.result.now) (IsInGroup cert.groups) c.args.table.now c.args.listed.now cert.cert (λ a f l. member_is (IsInGroup cert.groups) c.sectors.result c.as_slice.result.now all a f (subst (λ (n : ℕ). a < n) (sym c.sectors.ensures) l)) v h))
    (c.judge_members.ensures.pairs cert.cert rays told)
