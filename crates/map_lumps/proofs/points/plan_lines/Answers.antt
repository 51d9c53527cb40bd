use Rattle.std.proofs.Common.{◌∙◌, ◌∷◌, [], Contains, Option, ap, length, option_map, subst}
use Rattle.sight_names.specs.Map.{looked_up}
use Rattle.map_lumps.specs.declared.records.PlacedLine.{PlacedLine}
use Rattle.map_lumps.specs.Records.{as_map_line, placed_ends}
use Rattle.map_lumps.proofs.Assembling.{ends_of_entry, mapped_take_more, ends_below_push}
use Rattle.map_lumps.proofs.points.plan_lines.Goals as goal

pub plan_entry-requires-clause-ends : goal.plan_entry-requires-clause-ends
plan_entry-requires-clause-ends c = λ p there. c.requires.ends p (ends_of_entry c.args.lines.now c.loop-line.line-index c.line-item.result p c.loop-line-test.true (subst (λ (o : Option PlacedLine). Contains (placed_ends (o ∷ [])) p) c.line-item.is there))

pub loop-line-preserved : goal.loop-line-preserved
loop-line-preserved c = record {
  same = rw c.in_ok-push.ensures.items (mapped_take_more (option_map (looked_up c.args.points.now)) (option_map as_map_line) c.loop-line.plan.items c.args.lines.now c.plan_entry.result c.line-item.result c.loop-line.line-index c.loop-line-test.true c.loop-line.invariant.same (c.plan_entry.ensures.same ∙ ap (option_map as_map_line) c.line-item.is));
  within = rw c.in_ok-push.ensures.items (ends_below_push (length c.args.points.now) c.loop-line.plan.items c.plan_entry.result c.loop-line.invariant.within c.plan_entry.ensures.within);
}
