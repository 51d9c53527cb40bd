use Rattle.std.proofs.Common.{sym, ◌∙◌}
use Rattle.std.proofs.lemmas.Bool.{false≢true}
use Rattle.mesh_shape.proofs.RuleLemmas.{joins_fairly, meets_fairly as meets_fairly_lem, fairly_meets, places_differ}
use Rattle.mesh_shape.proofs.RuleLemmas.{moved_ends, back_moved}
use Rattle.mesh_shape.proofs.rules.meets_fairly.Goals as goal

pub meet_at_ends-requires-clause-first : goal.meet_at_ends-requires-clause-first
meet_at_ends-requires-clause-first c = λ e. places_differ c.args.plan.now c.place.ensures.plan c.args.u c.args.v c.requires.first c.requires.second c.requires.differ (sym c.place.ensures.place ∙ e ∙ c.place-else-joins.ensures.place)

pub meet_at_ends-requires-clause-second : goal.meet_at_ends-requires-clause-second
meet_at_ends-requires-clause-second c = λ e. places_differ c.args.plan.now c.place.ensures.plan c.args.line.a c.args.line.b c.requires.line.first c.requires.line.second c.requires.line.differ (sym c.place-else-joins-2.ensures.place ∙ e ∙ c.place-else-joins-3.ensures.place)

pub returns-then-joins : goal.returns-then-joins
returns-then-joins c = (λ h. joins_fairly c.args.plan.now c.requires.plan c.args.line c.args.u c.args.v c.requires.line (c.joins.ensures.0 h), λ h. c.if-joins.true)

pub returns-else-joins : goal.returns-else-joins
returns-else-joins c = (
  λ h. meets_fairly_lem c.args.plan.now c.place.ensures.plan c.args.line c.args.u c.args.v (moved_ends _ _ _ _ _ _ _ _ c.place.ensures.place c.place-else-joins.ensures.place c.place-else-joins-2.ensures.place c.place-else-joins-3.ensures.place (c.meet_at_ends.ensures.0 h)),
  λ h. c.meet_at_ends.ensures.1 (back_moved _ _ _ _ _ _ _ _ c.place.ensures.place c.place-else-joins.ensures.place c.place-else-joins-2.ensures.place c.place-else-joins-3.ensures.place (fairly_meets c.args.plan.now c.place.ensures.plan c.args.line c.args.u c.args.v c.requires.line (λ j. false≢true (sym c.if-joins.false ∙ c.joins.ensures.1 j)) h)),
)
