use Rattle.std.proofs.Common.{◌≡◌, ℕ, List, refl, sym, ap, subst}
use Rattle.sight_names.specs.declared.names.PairRay.{PairRay}
use Rattle.sight_names.specs.declared.names.Triangle.{Triangle}
use Rattle.sight_names.specs.Map.{map_of}
use Rattle.sight_names.specs.Plan.{PlanParts}
use Rattle.gate_floods.specs.declared.gate_masks.masks.Row.{Row}
use Rattle.cert_checker.specs.TreeJudge.Roots.{AreRootChains}
use Rattle.cert_format.specs.Accepted.{triangles_of, labels_of}
use Rattle.certificates.specs.CertExact.Grammar.{as_two}
use Rattle.gate_floods.specs.RowJudge.Masks.{MaskRows}
use Rattle.exact_checker.specs.Rows.{AreJoinedRows}
use Rattle.exact_checker.proofs.Gated.{edge_masks_are}
use Rattle.any_judge.proofs.exact_judge.ground.Ground.new.Goals as goal

pub returns-clause-ground : goal.returns-clause-ground
returns-clause-ground c = λ cert over same.
    let p = c.args.over.now.plan in
    let ts = triangles_of (as_two cert).cert in
    let ls = labels_of (as_two cert).cert in
    let xs = c.args.edges in
    let size : c.plan.inside.sectors ≡ p.sectors = ap (λ (q : PlanParts). q.sectors) c.plan.view_is in
    let rows : AreJoinedRows c.plan.inside.sectors cert.rays c.in_ok-joined.joined.items = subst (λ (rs : List PairRay). AreJoinedRows c.plan.inside.sectors rs c.in_ok-joined.joined.items) (sym same) c.in_ok-joined.ensures in
    let first = subst (λ (js : List Row). AreJoinedRows c.plan.inside.sectors cert.rays js) (sym c.as_slice.ensures.value) rows in
    let second = subst (λ (n : ℕ). AreJoinedRows n cert.rays c.as_slice-2.result.now) size (subst (λ (js : List Row). AreJoinedRows c.plan.inside.sectors cert.rays js) (sym c.as_slice-2.ensures.value) rows) in
    let kept = c.in_ok-masks.masks in
    let ms : MaskRows = record { width = kept.width; places = kept.places.items; words = kept.words.items } in
    record {
      over = record { plan = over.plan; sectors = over.sectors; triangles = refl; good = over.good; edges = over.edges };
      count = size;
      roots = subst (λ (us : List Triangle). AreRootChains (map_of p) us xs c.in_ok-roots.roots.roots.items c.in_ok-roots.roots.first.items) over.triangles c.in_ok-roots.ensures;
      masks = edge_masks_are p over.plan ts ls over.good xs over.edges (as_two cert).cert c.as_slice-2.result.now second kept.width c.in_ok-masks.ensures.room kept.places.items kept.words.items c.in_ok-masks.ensures.masks ms refl refl refl;
      components = c.in_ok-components.ensures.components;
      knows = record { ranks = c.in_ok-ranks.ensures.ranks cert.rays first; joined = rows };
    }
