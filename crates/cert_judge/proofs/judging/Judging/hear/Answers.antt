use Rattle.std.proofs.Common.{sym, subst}
use Rattle.sight_names.specs.Plan.{PlanParts}
use Rattle.cert_judge.specs.Heard.{PartsHeard, nothing_heard, with_part, heard_from}
use Rattle.cert_judge.specs.Judging.{KeepsListingHeard}
use Rattle.cert_judge.proofs.AllHeard.{heard_one_more}
use Rattle.cert_judge.proofs.judging.Judging.hear.Goals as goal

pub returns-in-Ok : goal.returns-in-Ok
returns-in-Ok c = λ p t groups parts w. record {
  plan = w.plan;
  table = w.table;
  kept = λ _.
      let h = heard_from nothing_heard parts in
      let new = c.hear.new.self in
      let old : KeepsListingHeard c.args.self.now.plan.now groups h c.args.self.now.kept = subst (λ (q : PlanParts). KeepsListingHeard q groups h c.args.self.now.kept) (sym w.plan) (w.kept c.in_default.is) in
      subst (λ (g : PartsHeard). KeepsListingHeard p groups g new) (sym (heard_one_more nothing_heard parts c.args.part)) (subst (λ (q : PlanParts). KeepsListingHeard q groups (with_part h c.args.part) new) w.plan (c.in-Ok.ensures groups h old));
}
