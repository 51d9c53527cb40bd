use Rattle.std.proofs.Common.{subst}
use Rattle.std.specs.Prelude.{IfOk}
use Rattle.sight_names.specs.Plan.{PlanParts}
use Rattle.reject_bits.specs.Parts.{TableParts}
use Rattle.group_checker.specs.Judged.{JudgesAny}
use Rattle.cert_judge.proofs.Keeping.{kept_whole}
use Rattle.cert_judge.proofs.judging.Judging.verdict.Goals as goal

pub verdict-requires : goal.verdict-requires
verdict-requires c = (c.requires.cert, kept_whole c.requires.plan c.requires.table c.requires.cert c.args.self c.requires.heard c.in_default.is)

pub returns : goal.returns
returns c = λ p t cert w. subst (λ (q : PlanParts). IfOk c.verdict.result (JudgesAny q t cert)) w.heard.plan (subst (λ (u : TableParts). IfOk c.verdict.result (JudgesAny c.args.self.plan.now u cert)) w.heard.table (c.verdict.ensures cert (kept_whole p t cert c.args.self w c.in_default.is)))
