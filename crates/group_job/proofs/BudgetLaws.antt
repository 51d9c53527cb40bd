-- What the budget that is asked for means for the list: with none, or with one that is enough, no pair is listed.
use Rattle.std.proofs.Common.{◌≡◌, ℕ, List, [], ◌∷◌, Contains, refl, subst}
use Rattle.math_base.proofs.Lists.{contains_here}
use Rattle.sight_names.specs.declared.names.Ask.{Ask}
use Rattle.sight_names.specs.declared.names.Ask.TheVariants.{Full as AskFull, Enough}
use Rattle.sight_names.specs.declared.names.Budget.{Budget}
use Rattle.sight_names.specs.declared.names.Budget.TheVariants.{Full}
use Rattle.sight_names.specs.declared.names.Pair.{Pair}
use Rattle.sight_names.specs.Enough.{IsBudgetOf}
use Rattle.sight_names.specs.Found.{IsListed}
use Rattle.sight_names.specs.Map.{Map, map_of}
use Rattle.sight_names.specs.Plan.{PlanParts}
use Rattle.sight_lift.proofs.EnoughBase.Counts.{own_lists_none}
use Rattle.group_job.specs.declared.walked.Built.{Built}
use Rattle.group_job.specs.declared.grouped.MapOfGroups.{MapOfGroups}
use Rattle.group_job.specs.Walked.{AreWalkedGroups}

-- who asks for no budget gets none
pub full_is : (m : Map) (ask : Ask) (budget : Budget) → ask ≡ AskFull → IsBudgetOf m ask budget → budget ≡ Full
full_is m ask budget e h = subst (λ (a : Ask). IsBudgetOf m a budget) e h

-- within a budget that is enough no pair is listed
nobody_listed : (m : Map) (ask : Ask) (budget : Budget) → ask ≡ Enough → IsBudgetOf m ask budget → (a b : ℕ) → IsListed m budget a b → ⊥
nobody_listed m ask budget e h a b listed =
    let is : IsBudgetOf m Enough budget = subst (λ (k : Ask). IsBudgetOf m k budget) e h in
    own_lists_none m is.0 is.1 a b (subst (λ (k : Budget). IsListed m k a b) is.2 listed)

pub enough_lists_nothing : (p : PlanParts) (ask : Ask) (mg : MapOfGroups) (budget : Budget) (b : Built) → AreWalkedGroups p ask mg budget b → ask ≡ Enough → b.listed ≡ []
enough_lists_nothing p ask mg budget b h e = none b.listed (λ q c. nobody_listed (map_of mg.plan) ask budget e h.is_budget q.a q.b (record {
  triangles = mg.faces.mesh.triangles;
  labels = mg.faces.labels;
  mesh = h.grouped.faces.mesh;
  labelled = h.grouped.faces.labels;
  listed = ((h.built.decides.listed q).0 c).1;
}))
  where
    none : (qs : List Pair) → ((q : Pair) → Contains qs q → ⊥) → qs ≡ []
    none [] h = refl
    none (q ∷ qs) h = absurd (h q (contains_here q qs))
