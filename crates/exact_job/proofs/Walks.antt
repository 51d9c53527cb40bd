-- From walks with what groups own to the certificate: what is found wasn't joined, and where nothing is found the nodes are trees.
use Rattle.std.proofs.Common.{◌≡◌, ℕ, ◌*◌, ◌<◌, ◌≤◌, List, Option, None, Some, length, refl, sym, ◌∙◌, ap, subst, arith}
use Rattle.std.specs.Prelude.{option_map}
use Rattle.std.specs.List.{slice_get}
use Rattle.std.proofs.lemmas.List.{length-map}
use Rattle.std.proofs.lemmas.Option.{none-some, same_Some, slice_get-map}
use Rattle.sight_names.specs.declared.names.PairRay.{PairRay}
use Rattle.sight_names.specs.declared.names.Triangle.{Triangle}
use Rattle.sight_names.specs.Map.{map_of}
use Rattle.sight_names.specs.Plan.{PlanParts}
use Rattle.block_evidence.specs.declared.sight_tree.Node.{Node}
use Rattle.mesh_shape.specs.declared.half_edges.table.HalfEdge.{HalfEdge}
use Rattle.cert_checker.specs.declared.tree_judge.roots.Root.{Root}
use Rattle.cert_checker.specs.TreeJudge.Roots.{AreRootChains}
use Rattle.face_groups.specs.TriSectors.Components.{AreComponents}
use Rattle.certificates.specs.declared.cert_exact.cert.ExactParts.{ExactParts}
use Rattle.certificates.specs.CertExact.Grammar.{as_two}
use Rattle.gate_floods.specs.Exact.{IsClaimedBlind}
use Rattle.gate_floods.specs.declared.gate_masks.masks.Row.{Row}
use Rattle.gate_floods.specs.RowJudge.Masks.{MaskRows}
use Rattle.gate_floods.specs.RowJudge.Laws.{AreHalfEdgeMasks}
use Rattle.row_trees.specs.declared.made.Made.{Made}
use Rattle.row_trees.specs.Walkable.{IsWalkable}
use Rattle.exact_checker.specs.Owning.{AreRanks, KnowsOwning, OwningParts}
use Rattle.exact_checker.specs.Rows.{AreJoinedRows}
use Rattle.exact_checker.specs.Judged.{AnswersFor, AreTreesOf}
use Rattle.exact_checker.proofs.Judging.{trees_told}
use Rattle.found_rays.specs.Ground.{IsRayGround}
use Rattle.exact_job.specs.Trees.{AreRowWalks, AreWalksOf, HasFoundNothing, nodes_of_walks}
use Rattle.exact_job.proofs.Making.{unjoined}

pub few_edges : (p : PlanParts) (ts : List Triangle) (ls : List (Option ℕ)) (xs : List HalfEdge) → IsRayGround p ts ls xs → length xs ≤ 3 * 65535
few_edges p ts ls xs h = let e = h.edges.len in let l = h.few in omega (arith, e, l)

-- each group can be walked
pub walkable : (p : PlanParts) (ts : List Triangle) (ls : List (Option ℕ)) (xs : List HalfEdge) (roots : List Root) (firsts : List (Option ℕ)) → IsRayGround p ts ls xs → AreRootChains (map_of p) ts xs roots firsts → (f : ℕ) → f < p.sectors
    → IsWalkable (record { plan = p; triangles = ts; labels = ls }) xs roots firsts f
walkable p ts ls xs roots firsts h begin f lt = record { plan = h.plan; audited = h.audited; good = h.good; few = h.few; edges = h.edges; roots_are = begin; within = lt }

-- nodes of a walk
pub nodes_at : (walks : List Made) (f : ℕ) (ns : List Node) → slice_get (nodes_of_walks walks) f ≡ Some ns → (w : Made) × (slice_get walks f ≡ Some w) × (w.nodes ≡ ns)
nodes_at walks f ns at = go (slice_get walks f) refl (sym (slice_get-map (λ (w : Made). w.nodes) walks f) ∙ at)
  where
    go : (o : Option Made) → slice_get walks f ≡ o → option_map (λ (w : Made). w.nodes) (slice_get walks f) ≡ Some ns → (w : Made) × (slice_get walks f ≡ Some w) × (w.nodes ≡ ns)
    go None e h = absurd (none-some ns (sym (ap (option_map (λ (w : Made). w.nodes)) e) ∙ h))
    go (Some w) e h = (w, e, same_Some w.nodes ns (sym (ap (option_map (λ (v : Made). v.nodes)) e) ∙ h))

module _ (p : PlanParts) (ts : List Triangle) (xs : List HalfEdge) (rows : List Row) (roots : List Root) (firsts : List (Option ℕ)) (begin : AreRootChains (map_of p) ts xs roots firsts) (ms : MaskRows) (known : OwningParts) (size : known.count ≡ p.sectors) (components : AreComponents (map_of p) known.components)
    (ranks : (rays : List PairRay) → AreJoinedRows p.sectors rays rows → AreRanks p.sectors rays known.ranks) (same : known.joined ≡ rows) (walks : List Made) (masks : (c : ExactParts) → AreTreesOf c p ts xs rows (nodes_of_walks walks) → AreHalfEdgeMasks (map_of p) (IsClaimedBlind (map_of p) (as_two c).cert) xs ms)
    (all : AreWalksOf p xs ms roots firsts known walks) where
  knows : (rays : List PairRay) → AreJoinedRows p.sectors rays rows → KnowsOwning rays known
  knows rays joined = record {
    ranks = subst (λ (n : ℕ). AreRanks n rays known.ranks) (sym size) (ranks rays joined);
    joined = subst (λ (n : ℕ). AreJoinedRows n rays known.joined) (sym size) (subst (AreJoinedRows p.sectors rays) (sym same) joined);
  }

  answers : HasFoundNothing walks → (f : ℕ) (ns : List Node) → slice_get (nodes_of_walks walks) f ≡ Some ns → AnswersFor xs ms roots firsts known f ns None
  answers nothing f ns at = let w = nodes_at walks f ns at in subst (λ (us : List Node). AnswersFor xs ms roots firsts known f us None) w.2 ((all.each f w.0 w.1).answer (nothing f w.0 w.1))

  pub are_walks : AreRowWalks p ts xs rows walks
  are_walks = record {
    one_each = all.one_each ∙ size;
    nodes = λ f w at. (all.each f w at).nodes;
    seen = λ f w at. (all.each f w at).seen;
    unjoined = λ rays joined f w at. unjoined rays known f w.found.items ((all.each f w at).owned rays (knows rays joined));
    keep = λ nothing c are. trees_told p are.plan c are.sectors xs are.good are.edges roots firsts (subst (λ (vs : List Triangle). AreRootChains (map_of p) vs xs roots firsts) are.triangles begin) ms (masks c are) known size components (knows c.rays are.rows_are) (nodes_of_walks walks) are.trees_are
        (length-map walks (λ (w : Made). w.nodes) ∙ all.one_each ∙ size) None (answers nothing);
  }
