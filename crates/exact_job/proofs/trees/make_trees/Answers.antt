use Rattle.std.proofs.Common.{◌≡◌, ℕ, ◌<◌, List, length, sym, refl, ◌∙◌, ap, subst, arith}
use Rattle.std.proofs.lemmas.Result.{IfOk-weaker}
use Rattle.sight_names.specs.declared.names.PairRay.{PairRay}
use Rattle.sight_names.specs.Map.{map_of}
use Rattle.sight_names.specs.Plan.{PlanParts}
use Rattle.face_groups.specs.TriSectors.Components.{AreComponents}
use Rattle.certificates.specs.declared.cert_exact.cert.ExactParts.{ExactParts}
use Rattle.certificates.specs.CertExact.Grammar.{as_two}
use Rattle.cert_format.specs.Accepted.{triangles_of, labels_of}
use Rattle.gate_floods.specs.Exact.{IsClaimedBlind}
use Rattle.gate_floods.specs.RowJudge.Laws.{AreHalfEdgeMasks}
use Rattle.gate_floods.specs.RowJudge.Masks.{MaskRows}
use Rattle.row_trees.specs.declared.made.Made.{Made}
use Rattle.row_trees.specs.Walkable.{IsWalkable}
use Rattle.exact_checker.specs.Owning.{AreRanks, OwningParts}
use Rattle.exact_checker.specs.Rows.{AreJoinedRows}
use Rattle.exact_checker.specs.Judged.{AreTreesOf}
use Rattle.exact_checker.proofs.Gated.{edge_masks_are}
use Rattle.exact_job.specs.Trees.{AreRowWalks, AreWalksOf, nodes_of_walks}
use Rattle.exact_job.proofs.Walks.{are_walks, few_edges, walkable}
use Rattle.exact_job.proofs.trees.make_trees.Goals as goal

pub edge_masks-requires : goal.edge_masks-requires
edge_masks-requires g c = record { few = few_edges c.args.over.now.plan c.args.over.now.mesh.triangles c.args.over.now.labels c.args.edges.now c.requires.ground }

pub walk_each-requires-clause-sized : goal.walk_each-requires-clause-sized
walk_each-requires-clause-sized g c =
    let size : c.plan.inside.sectors ≡ c.args.over.now.plan.sectors = ap (λ (q : PlanParts). q.sectors) c.plan.view_is in
    record {
      components = ap length c.as_slice-3.ensures.value ∙ c.in_ok-components.ensures.len ∙ sym size;
      ranks = ap length c.as_slice-4.ensures.value ∙ c.in_ok-ranks.ensures.len ∙ c.requires.rows ∙ sym size;
      joined = c.requires.rows ∙ sym size;
    }

pub walk_each-requires-clause-walkable : goal.walk_each-requires-clause-walkable
walk_each-requires-clause-walkable g c =
    let p = c.args.over.now.plan in
    let ts = c.args.over.now.mesh.triangles in
    let ls = c.args.over.now.labels in
    let size : c.plan.inside.sectors ≡ p.sectors = ap (λ (q : PlanParts). q.sectors) c.plan.view_is in
    (record { plan = p; triangles = ts; labels = ls }, (λ f lt. walkable p ts ls c.args.edges.now c.in_ok-roots.roots.roots.items c.in_ok-roots.roots.first.items c.requires.ground c.in_ok-roots.ensures f (omega (arith, lt, size))))

pub returns : goal.returns
returns g c =
    let p = c.args.over.now.plan in
    let ts = c.args.over.now.mesh.triangles in
    let ls = c.args.over.now.labels in
    let xs = c.args.edges.now in
    let rows = c.args.joined.now in
    let roots = c.in_ok-roots.roots.roots.items in
    let firsts = c.in_ok-roots.roots.first.items in
    let ms : MaskRows = record { width = c.in_ok-kept.kept.width; places = c.as_slice.result.now; words = c.as_slice-2.result.now } in
    let known : OwningParts = record { count = c.plan.inside.sectors; components = c.as_slice-3.result.now; ranks = c.as_slice-4.result.now; joined = c.args.joined.now } in
    let size : c.plan.inside.sectors ≡ p.sectors = ap (λ (q : PlanParts). q.sectors) c.plan.view_is in
    let components = subst (AreComponents (map_of p)) (sym c.as_slice-3.ensures.value) c.in_ok-components.ensures.components in
    let ranks : (rays : List PairRay) → AreJoinedRows p.sectors rays rows → AreRanks p.sectors rays known.ranks = λ rays joined. subst (AreRanks p.sectors rays) (sym c.as_slice-4.ensures.value) (subst (λ (n : ℕ). AreRanks n rays c.in_ok-ranks.ranks.items) size (c.in_ok-ranks.ensures.ranks rays (subst (λ (n : ℕ). AreJoinedRows n rays rows) (sym size) joined))) in
    let masks : (walks : List Made) (cert : ExactParts) → AreTreesOf cert p ts xs rows (nodes_of_walks walks) → AreHalfEdgeMasks (map_of p) (IsClaimedBlind (map_of p) (as_two cert).cert) xs ms = λ walks cert are.
    edge_masks_are p are.plan (triangles_of (as_two cert).cert) (labels_of (as_two cert).cert) are.good xs are.edges (as_two cert).cert rows are.rows_are c.in_ok-kept.kept.width c.in_ok-kept.ensures.room c.in_ok-kept.kept.places.items c.in_ok-kept.kept.words.items c.in_ok-kept.ensures.masks ms refl c.as_slice.ensures.value c.as_slice-2.ensures.value in
    let here : (f : ℕ) → f < known.count → IsWalkable (record { plan = p; triangles = ts; labels = ls }) xs roots firsts f = λ f lt. walkable p ts ls xs roots firsts c.requires.ground c.in_ok-roots.ensures f (omega (arith, lt, size)) in
    IfOk-weaker c.walk_each.result (λ v. AreWalksOf p xs ms roots firsts known v.items) (λ v. AreRowWalks p ts xs rows v.items)
    (λ v all. are_walks p ts xs rows roots firsts c.in_ok-roots.ensures ms known size components ranks refl v.items (masks v.items) all) (c.walk_each.ensures (record { plan = p; triangles = ts; labels = ls }) here)
