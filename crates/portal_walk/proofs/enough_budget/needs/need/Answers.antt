use Rattle.std.proofs.Common.{◌≡◌, ℕ, List, Some, length, slice_get, ap, subst, sym, ◌∙◌}
use Rattle.sight_names.specs.Map.{map_of}
use Rattle.portal_walk.specs.EnoughBudget.Need.{HasSequences}
use Rattle.portal_walk.proofs.EnoughBudget.Counting.{one_longer, one_more_number, sequences_few, spent_below}
use Rattle.portal_walk.proofs.enough_budget.needs.need.Goals as goal

pub loop-source-preserved : goal.loop-source-preserved
loop-source-preserved c =
    let i = c.loop-source.invariant in
    let grown = c.in_ok-push.ensures.items in
    record {
      each = ap length grown ∙ one_longer _ _ c.loop-source.source i.each;
      counts = subst (λ (ns : List ℕ). (a n : ℕ) → slice_get ns a ≡ Some n → HasSequences (map_of c.args.plan.now) c.args.mesh.now.triangles c.args.labels.now a n) (sym {A = List ℕ} grown)
          (one_more_number (map_of c.args.plan.now) c.args.mesh.now.triangles c.args.labels.now c.loop-source.numbers.items c.loop-source.source c.in_ok-count_sequences.field-0 i.each c.in_ok-count_sequences.ensures.number i.counts);
    }

pub returns-clause-few : goal.returns-clause-few
returns-clause-few c = λ a n there. sequences_few (map_of c.args.plan.now) c.args.mesh.now.triangles c.args.labels.now a c.requires.good n (c.loop-source.invariant.counts a n there)

pub returns-clause-spent : goal.returns-clause-spent
returns-clause-spent c = λ a n budget there. spent_below (map_of c.args.plan.now) c.args.mesh.now.triangles c.args.labels.now a c.requires.good n budget (c.loop-source.invariant.counts a n there)
