-- Kept segments as edges in range.
use Rattle.std.proofs.Common.{◌≡◌, ℕ, ◌<◌, List, length, get_or, slice_get, Some, sym, ap, ◌∙◌, map, option_map, Option, None, refl, subst}
use Rattle.std.proofs.lemmas.Option.{slice_get-get_or, slice_get-map, slice_get_within, get_or_from_slice_get, same_Some}
use Rattle.sight_names.specs.Points.{Edge}
use Rattle.triangulate.specs.declared.incident_segments.segments.Segment.{Segment}
use Rattle.triangulate.specs.IncidentSegments.Incident.{AreSegments, IsSegment}
use Rattle.triangulate.specs.IncidentSegments.Kept.{edge_of, IsEdgeBetween, AreEdges}

abbrev pub any_segment : Segment
any_segment = record { from = 0; to = 0 }

pub edge_there : (n : ℕ) (xs : List Segment) (es : List Edge) (k : ℕ) (d : Segment) → map edge_of xs ≡ es → AreEdges n es → k < length xs → IsEdgeBetween n (edge_of (get_or xs k d))
edge_there n xs es k d e are lt = are k (edge_of (get_or xs k d)) (sym (ap (λ (ys : List Edge). slice_get ys k) e) ∙ slice_get-map edge_of xs k ∙ ap (option_map edge_of) (slice_get-get_or xs k d lt))

pub edges_of_segments : (n : ℕ) (xs : List Segment) (es : List Edge) → es ≡ map edge_of xs → AreSegments n xs → AreEdges n es
edges_of_segments n xs es eq are k e at = go (slice_get xs k) refl (sym (slice_get-map edge_of xs k) ∙ ap (λ (ys : List Edge). slice_get ys k) (sym eq) ∙ at)
  where
    go : (o : Option Segment) → slice_get xs k ≡ o → option_map edge_of (slice_get xs k) ≡ Some e → IsEdgeBetween n e
    go None there f = absurd (none (sym (ap (option_map edge_of) there) ∙ f))
      where
        none : ◌≡◌ {A = Option Edge} None (Some e) → ⊥
        none h = cc
    go (Some s) there f =
        let is : IsSegment n (get_or xs k s) = are k (slice_get_within xs k s there) s in
        let here : get_or xs k s ≡ s = get_or_from_slice_get xs k s s there in
        subst (IsEdgeBetween n) (same_Some (edge_of s) e (sym (ap (option_map edge_of) there) ∙ f)) (made s (subst (IsSegment n) here is))
      where
        made : (s : Segment) → IsSegment n s → IsEdgeBetween n (edge_of s)
        made s is = record { from = is.from; to = is.to; differ = is.differ }
