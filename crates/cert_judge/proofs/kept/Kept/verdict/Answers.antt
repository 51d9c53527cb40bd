use Rattle.std.proofs.Common.{inl, inr, refl, sym, subst}
use Rattle.group_checker.specs.Judged.{JudgesAny}
use Rattle.cert_judge.proofs.Keeping.{judged_on, broken_rule, not_gathering, not_lost}
use Rattle.cert_judge.proofs.kept.Kept.verdict.Goals as goal

pub verdict-requires : goal.verdict-requires
verdict-requires c = (c.requires.0, judged_on c.args.plan.now c.args.table.now c.requires.0 c.args.self c.close.new.self c.requires.1 c.in_ok-close.ensures c.in-Good.on _ c.as_slice.result.now c.as_slice-in-Good.result.now c.in-Good.is refl c.as_slice.ensures.value c.as_slice-in-Good.ensures.value)

pub returns-in-Good : goal.returns-in-Good
returns-in-Good c = λ cert w. subst (JudgesAny c.args.plan.now c.args.table.now cert) (sym c.any_of.ensures)
    (c.in_ok-verdict-in-Good.ensures cert (judged_on c.args.plan.now c.args.table.now cert c.args.self c.close.new.self w c.in_ok-close.ensures c.in-Good.on _ c.as_slice.result.now c.as_slice-in-Good.result.now c.in-Good.is refl c.as_slice.ensures.value c.as_slice-in-Good.ensures.value))

pub returns-in-Broken : goal.returns-in-Broken
returns-in-Broken c = λ cert w. broken_rule c.args.plan.now c.args.table.now cert c.args.self c.close.new.self w c.in_ok-close.ensures c.in-Broken.fault c.in-Broken.is

pub unreachable-requires : goal.unreachable-requires
unreachable-requires c =
    elim c.in-Gathering.is as (λ _. ⊥) [
      | inl gathering ↦ not_gathering c.args.plan.now c.args.table.now c.requires.0 c.args.self c.close.new.self c.requires.1 c.in_ok-close.ensures gathering
      | inr lost ↦ not_lost c.args.plan.now c.args.table.now c.requires.0 c.args.self c.close.new.self c.requires.1 c.in_ok-close.ensures lost
    ]
