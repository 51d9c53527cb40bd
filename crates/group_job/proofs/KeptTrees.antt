-- What the trees show over the whole mesh they show over the certificate's triangles too.
use Rattle.std.proofs.Common.{◌≡◌, ◌≢◌, ℕ, ◌<◌, ◌⊎◌, inl, inr, List, map, Contains, Option, Some, sym, subst}
use Rattle.std.proofs.lemmas.List.Elements.{All-contains, All-from_recursion}
use Rattle.sight_names.specs.declared.names.Triangle.{Triangle}
use Rattle.sight_names.specs.Found.{AreConnected}
use Rattle.sight_names.specs.Map.{map_of}
use Rattle.sight_names.specs.Mesh.{IsGoodMesh}
use Rattle.sight_names.specs.Plan.{PlanParts, IsPlan}
use Rattle.sight_names.proofs.PlanMap.{plan_is_map}
use Rattle.mesh_base.proofs.PlanFacts.{plan_facts}
use Rattle.block_evidence.specs.declared.sight_tree.Tree.{Tree}
use Rattle.block_evidence.specs.SightTree.WholeTree.{IsWholeTree, KeepsFrom}
use Rattle.reject_bits.specs.Parts.{Rejects}
use Rattle.cert_format.specs.declared.cert.Labelled.{Labelled}
use Rattle.cert_format.specs.Parts.{CertParts}
use Rattle.cert_format.specs.Accepted.{HasTreeWithout}
use Rattle.pair_budget.specs.declared.results.Verdicts.{Verdicts}
use Rattle.group_job.specs.Results.{AreSetApart, AreWholeTrees, HasTreeKeepingFrom, HasWholeTrees}
use Rattle.group_job.specs.Labelled.{labelled_of}
use Rattle.group_job.proofs.LabelledTrees.{keeps_too, whole_too}

module _ (p : PlanParts) (plan : IsPlan p) (ts : List Triangle) (ls : List (Option ℕ)) (good : IsGoodMesh (map_of p) ts ls) (v : Verdicts) (c : CertParts) (kept : c.triangles ≡ labelled_of ts ls) (trees : c.trees ≡ v.trees) where
  pub whole_trees_of : AreWholeTrees p ts ls v.trees → HasWholeTrees (map_of p) c
  whole_trees_of whole t there =
      let IsWhole : Tree → Type 0 = λ x. (opened : List ℕ) × IsWholeTree (map_of p) ts ls x opened in
      let w = All-contains IsWhole v.trees t (All-from_recursion IsWhole v.trees whole) (subst (λ (xs : List Tree). Contains xs t) trees there) in
      let k = whole_too (map_of p) (plan_is_map p plan) (plan_facts p plan) ts ls good t w.0 w.1 in
      (k.0, subst (λ (xs : List Labelled). IsWholeTree (map_of p) (map (λ (l : Labelled). l.triangle) xs) (map (λ (l : Labelled). Some l.sector) xs) t k.0) (sym kept) k.1)

  away_too : (a b : ℕ) → HasTreeKeepingFrom (map_of p) ts ls v.trees a b → HasTreeWithout (map_of p) c a b
  away_too a b (t, there, source, keeps) = (
    t,
    subst (λ (xs : List Tree). Contains xs t) (sym trees) there,
    source,
    subst (λ (xs : List Labelled). KeepsFrom (map_of p) (map (λ (l : Labelled). l.triangle) xs) (map (λ (l : Labelled). Some l.sector) xs) t b) (sym kept) (keeps_too (map_of p) (plan_is_map p plan) (plan_facts p plan) ts ls good t b keeps),
  )

  pub trees_of_set : AreSetApart p ts ls v → (a b : ℕ) → a < p.sectors → b < p.sectors → a ≢ b → Rejects v.table a b → ¬ AreConnected (map_of p) a b ⊎ (HasTreeWithout (map_of p) c a b ⊎ HasTreeWithout (map_of p) c b a)
  trees_of_set apart a b la lb differ bit = elim (apart a b la lb differ bit) [
    | inl n ↦ inl n
    | inr (inl t) ↦ inr (inl (away_too a b t))
    | inr (inr t) ↦ inr (inr (away_too b a t))
  ]
