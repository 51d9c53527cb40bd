use Rattle.std.proofs.Common.{ℕ, ◌<◌, List, sym, subst}
use Rattle.std.proofs.lemmas.Result.{IfOk-weaker}
use Rattle.sight_names.specs.declared.names.Pair.{Pair}
use Rattle.sight_names.specs.Map.{map_of}
use Rattle.cert_checker.specs.AcceptedGroups.Accepted.{IsAlone}
use Rattle.cert_checker.specs.Judged.{JudgesPairs, JudgesPairsBy}
use Rattle.cert_checker.specs.Members.{AreMembersBelow, AreMembersBy, IsMember}
use Rattle.cert_checker.specs.Pairs.{AreFitLists}
use Rattle.cert_checker.proofs.Lists.{fit_lists}
use Rattle.cert_checker.proofs.Judging.{pairs_moved}
use Rattle.cert_checker.proofs.Alone.{alone_below, member_is}
use Rattle.cert_checker.proofs.judge.judge_reached.Goals as goal

pub judge_members-requires-clause-members : goal.judge_members-requires-clause-members
judge_members-requires-clause-members c =
    subst (AreMembersBelow c.args.plan.now.sectors c.args.table.now.n) (sym c.as_slice.ensures.value)
    (subst (λ (n : ℕ). AreMembersBelow c.args.plan.now.sectors n c.in_ok-members.members.items) (sym c.requires.table) (alone_below (map_of c.args.plan.now) c.args.plan.now.sectors c.in_ok-members.members.items c.in_ok-members.ensures))

pub judge_members-requires-clause-lists : goal.judge_members-requires-clause-lists
judge_members-requires-clause-lists c =
    let w = c.requires.lists in
    subst (λ (n : ℕ). AreFitLists n c.args.plan.now.sectors c.args.listed.now c.args.rays.now) (sym c.requires.table) (fit_lists w.cert c.args.plan.now.sectors c.args.listed.now c.args.rays.now w.in_order w.sectors w.listed_is w.rays_are)

pub returns-clause-pairs : goal.returns-clause-pairs
returns-clause-pairs c = λ cert listed rays told.
    let m = map_of c.args.plan.now in
    let all = subst (AreMembersBy (IsAlone m) c.args.plan.now.sectors) (sym c.as_slice.ensures.value) c.in_ok-members.ensures in
    IfOk-weaker c.judge_members.result (JudgesPairsBy m (IsMember c.as_slice.result.now) c.args.table.now c.args.listed.now cert) (JudgesPairs m c.args.table.now cert)
    (λ v h. subst (λ (ps : List Pair). JudgesPairsBy m (IsAlone m) c.args.table.now ps cert v) (sym listed)
    (pairs_moved m (IsMember c.as_slice.result.now) (IsAlone m) c.args.table.now c.args.listed.now cert (λ a f l. member_is (IsAlone m) c.args.plan.now.sectors c.as_slice.result.now all a f (subst (λ (n : ℕ). a < n) c.requires.table l)) v h))
    (c.judge_members.ensures.pairs cert rays told)
