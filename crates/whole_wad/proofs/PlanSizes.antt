-- The sizes of a plan.
use Rattle.std.proofs.Common.{◌≡◌, ℕ, sym, ap, ◌∙◌, refl, length, option_map}
use Rattle.std.proofs.lemmas.List.{length-map}
use Rattle.sight_names.specs.Map.{looked_up, map_of}
use Rattle.sight_names.specs.Plan.{IsPlan, PlanParts}
use Rattle.sight_names.specs.Points.{points_of}
use Rattle.sight_names.proofs.PlanPoints.{seen_points}
use Rattle.cert_format.specs.declared.cert.Sizes.{Sizes}
use Rattle.cert_format.specs.Sizes.{sizes_of_plan}
use Rattle.whole_wad.specs.Sizes.{sizes_of_map}

sizes : ℕ → ℕ → ℕ → Sizes
sizes s p l = record { sectors = s; points = p; lines = l }

pub same_sizes : (p : PlanParts) → IsPlan p → sizes_of_plan p ≡ sizes_of_map (map_of p)
unfolding sizes
same_sizes p h =
    let points : length p.points ≡ length (points_of (map_of p)) = ap length (sym (seen_points p p refl h)) in
    let lines : length p.lines ≡ length (map_of p).lines = sym (length-map p.lines (option_map (looked_up p.points))) in
    ap (λ k. sizes p.sectors k (length p.lines)) points ∙ ap (λ k. sizes p.sectors (length (points_of (map_of p))) k) lines
