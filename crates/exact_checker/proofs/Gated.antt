-- The masks by half-edges are those of the gates of the map, with what the certificate claims.
use Rattle.std.proofs.Common.{◌≡◌, ℕ, ◌*◌, ◌<◌, ◌≤◌, List, Option, Some, None, sym, ◌∙◌, subst, arith}
use Rattle.std.specs.List.{slice_get}
use Rattle.std.specs.Prelude.{option_map}
use Rattle.std.proofs.lemmas.Option.{same_Some, slice_get_within}
use Rattle.math_base.proofs.Bools.{by_value}
use Rattle.sight_names.specs.declared.names.Triangle.{Triangle}
use Rattle.sight_names.specs.Plan.{PlanParts, IsPlan}
use Rattle.sight_names.specs.Map.{Map, IsMap, map_of}
use Rattle.sight_names.specs.Mesh.{IsGoodMesh}
use Rattle.sight_names.specs.Sequence.{Portal, IsSolidLine}
use Rattle.sight_names.proofs.PlanMap.{plan_is_map}
use Rattle.mesh_shape.specs.declared.half_edges.table.HalfEdge.{HalfEdge}
use Rattle.mesh_shape.specs.HalfEdges.HalfEdges.{portal_into, AreHalfEdges, IsHalfEdge}
use Rattle.cert_format.specs.Parts.{CertParts}
use Rattle.gate_floods.specs.Exact.{IsClaimedBlind}
use Rattle.gate_floods.specs.Gates.{IsGate, IsBeyond, here, further, IsInMask}
use Rattle.gate_floods.proofs.Connected.{far_below}
use Rattle.gate_floods.specs.declared.gate_masks.masks.Row.{Row}
use Rattle.gate_floods.specs.GateMasks.Masks as by_side
use Rattle.gate_floods.specs.GateMasks.Masks.{IsLeftOut}
use Rattle.gate_floods.specs.GateMasks.Behind.{mask_behind, IsMaskBehind}
use Rattle.gate_floods.proofs.GateMasks.Behind.{masks_behind}
use Rattle.gate_floods.proofs.GateMasks.Claiming.{masks_of_claims}
use Rattle.gate_floods.specs.RowJudge.Masks.{MaskRows}
use Rattle.gate_floods.specs.RowJudge.Asked as asked
use Rattle.gate_floods.specs.RowJudge.Laws.{AreHalfEdgeMasks, IsPortalMask}
use Rattle.gate_floods.specs.RowJudge.Words.{row_in_words}
use Rattle.exact_checker.specs.Masking.{fitted, AreEdgeMasks, HaveMasksOf}
use Rattle.exact_checker.specs.Rows.{AreJoinedRows}
use Rattle.exact_checker.proofs.Fitting.{fitted_bits}
use Rattle.exact_checker.proofs.JoinedRows.{in_joined}
use Rattle.cert_checker.proofs.TreeJudge.OneTree.{edge_of_number}

-- ---- what lies beyond a gate is a sector of the map

module _ (m : Map) (is_map : IsMap m) where
  beyond_below : (Claims : ℕ → ℕ → Type 0) (b d : ℕ) (p : Portal) → IsGate m b d p → (c : ℕ) → IsBeyond m Claims b d p c → c < m.sectors
  beyond_below Claims b d p gate c (here e) = subst (λ (x : ℕ). x < m.sectors) (sym e) (far_below m is_map b d p gate)
  beyond_below Claims b d p gate c (further x q h none through may) = far_below m is_map x c q through

-- ---- the mask of the gate by which one comes in

module _ (p : PlanParts) (is : IsPlan p) (ts : List Triangle) (ls : List (Option ℕ)) (good : IsGoodMesh (map_of p) ts ls) (rows : List Row) where
  is_map : IsMap (map_of p)
  is_map = plan_is_map p is

  fits : (width : ℕ) → p.sectors ≤ 64 * width → (q : Portal) (o : Option Row) → IsMaskBehind (map_of p) (IsLeftOut rows) q o → IsPortalMask (map_of p) (IsLeftOut rows) q (fitted width o)
  fits width room q None none = none
  fits width room q (Some row) ((b, d, gate), bits) =
      (b, d, gate, fitted_bits row.words.items width (IsInMask (map_of p) (IsLeftOut rows) b d q) (λ c h. let l = beyond_below (map_of p) is_map (IsLeftOut rows) b d q gate c h.beyond in omega (arith, l, room)) (bits b d gate))

  module _ (xs : List HalfEdge) (are : AreHalfEdges p ts ls xs) (masks : List (Option Row)) (by : by_side.AreSideMasks (map_of p) (IsLeftOut rows) masks) (width : ℕ) (room : p.sectors ≤ 64 * width) where
    mask_there : (i : ℕ) (x : HalfEdge) → slice_get xs i ≡ Some x → ¬ IsSolidLine (map_of p) (portal_into x) → IsPortalMask (map_of p) (IsLeftOut rows) (portal_into x) (fitted width (mask_behind masks x))
    mask_there i x at open_ =
        let e = edge_of_number (map_of p) ts ls good i (let l = slice_get_within xs i x at in let n = are.len in omega (arith, l, n)) in
        let h = are.each e.0 i e.1 in
        let half : IsHalfEdge p ts ls xs e.0 x = subst (IsHalfEdge p ts ls xs e.0) (same_Some h.0 x (sym h.1 ∙ at)) h.2 in
        fits width room (portal_into x) (mask_behind masks x) (masks_behind p ts ls xs rows masks e.0 x is good by half (by_value x.solid (λ t. absurd (open_ (half.solid.0 t))) (λ f. f)))

    masks_there : (places : List (Option ℕ)) (words : List ℕ) → HaveMasksOf masks xs width places words → (ms : MaskRows) → ms.width ≡ width → ms.places ≡ places → ms.words ≡ words → AreHalfEdgeMasks (map_of p) (IsLeftOut rows) xs ms
    masks_there places words have ms w e f i x at open_ =
        let told : asked.mask_of_edge ms i ≡ fitted width (mask_behind masks x) = (λ j. option_map (row_in_words (f j) (w j)) (asked.mask_place (e j) i)) ∙ have i x at in
        subst (IsPortalMask (map_of p) (IsLeftOut rows) (portal_into x)) (sym told) (mask_there i x at open_)

-- ---- the claims of the certificate

module _ (g : Map) (is_map : IsMap g) (cert : CertParts) (rows : List Row) (joined : AreJoinedRows g.sectors cert.rays rows) where
  claims_moved : (q : Portal) (o : Option (List ℕ)) → IsPortalMask g (IsLeftOut rows) q o → IsPortalMask g (IsClaimedBlind g cert) q o
  claims_moved q None none = none
  claims_moved q (Some mask) (b, d, gate, bits) =
      let same = masks_of_claims g cert rows is_map (in_joined g.sectors cert rows joined) b d q gate in
      (b, d, gate, (λ c. ((λ h. (same c).0 ((bits c).0 h)), (λ k. (bits c).1 ((same c).1 k)))))

  pub masks_of_joined : (xs : List HalfEdge) (ms : MaskRows) → AreHalfEdgeMasks g (IsLeftOut rows) xs ms → AreHalfEdgeMasks g (IsClaimedBlind g cert) xs ms
  masks_of_joined xs ms are i x at open_ = claims_moved (portal_into x) (asked.mask_of_edge ms i) (are i x at open_)

-- what is put by half-edges is what a walk with a row asks
pub edge_masks_are : (p : PlanParts) → IsPlan p → (ts : List Triangle) (ls : List (Option ℕ)) → IsGoodMesh (map_of p) ts ls → (xs : List HalfEdge) → AreHalfEdges p ts ls xs → (cert : CertParts) (rows : List Row) → AreJoinedRows p.sectors cert.rays rows
    → (width : ℕ) → p.sectors ≤ 64 * width → (places : List (Option ℕ)) (words : List ℕ) → AreEdgeMasks (map_of p) (IsLeftOut rows) xs width places words → (ms : MaskRows) → ms.width ≡ width → ms.places ≡ places → ms.words ≡ words → AreHalfEdgeMasks (map_of p) (IsClaimedBlind (map_of p) cert) xs ms
edge_masks_are p is ts ls good xs are cert rows joined width room places words put ms w e f =
    masks_of_joined (map_of p) (plan_is_map p is) cert rows joined xs ms (masks_there p is ts ls good rows xs are put.masks put.are width room places words put.have ms w e f)
