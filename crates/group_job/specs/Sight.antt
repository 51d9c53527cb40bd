-- What a build tells of sight.
use Rattle.std.specs.Prelude.{◌≡◌, ℕ, ◌<◌, ◌⊎◌, List, Option, Some, slice_get, Contains}
use Rattle.sight_names.specs.declared.names.Pair.{Pair}
use Rattle.sight_names.specs.declared.names.PairRay.{PairRay}
use Rattle.sight_names.specs.declared.names.Triangle.{Triangle}
use Rattle.sight_names.specs.Map.{Map}
use Rattle.sight_names.specs.Plan.{PlanParts}
use Rattle.sight_names.specs.Ray.{IsSightRay}
use Rattle.sight_names.specs.Sees.{Sees}
use Rattle.reject_bits.specs.Parts.{TableParts, Rejects}
use Rattle.cert_format.specs.Parts.{CertParts}
use Rattle.pair_budget.specs.declared.results.Reached.{Reached}
use Rattle.pair_budget.specs.declared.results.SourceResult.{SourceResult}
use Rattle.pair_budget.specs.Decide.{turned_ray}
use Rattle.pair_budget.specs.Through.{AreThrough, IsRayThrough}
use Rattle.pair_budget.specs.Walked.{IsReachedFrom}

module _ (p : PlanParts) (ts : List Triangle) (ls : List (Option ℕ)) where
  -- the rays of each walk split the portals of sequences of its source
  abbrev pub AreAllThrough : List SourceResult → Type 0
  AreAllThrough rs = (k : ℕ) (r : SourceResult) → slice_get rs k ≡ Some r → AreThrough p ts ls k r.found

  -- a walk of this source found this sector along this ray
  pub record IsFoundAlong (source : ℕ) (r : Reached) : Type 0 where
    pub is_reached : IsReachedFrom p source r
    pub is_through : IsRayThrough p ts ls source r

  -- the smaller sector found the larger along the ray, or the larger the smaller along the ray turned round
  abbrev pub IsRayAlong : PairRay → Type 0
  IsRayAlong r = ((x : Reached) × IsFoundAlong r.pair.a x × (x.to ≡ r.pair.b) × (x.ray ≡ r.ray)) ⊎ ((x : Reached) × IsFoundAlong r.pair.b x × (x.to ≡ r.pair.a) × (r.ray ≡ turned_ray x.ray))

  abbrev pub AreRaysAlong : List PairRay → Type 0
  AreRaysAlong rays = (r : PairRay) → Contains rays r → IsRayAlong r

-- each ray of the certificate is a sight ray of its pair
abbrev pub HasSightRays : Map → CertParts → Type 0
HasSightRays m c = (r : PairRay) → Contains c.rays r → IsSightRay m r.ray r.pair.a r.pair.b

-- Sectors whose bit is set don't see each other; those whose bit is clear do, unless their pair is listed.
pub record TellsWhoSees (m : Map) (t : TableParts) (listed : List Pair) : Type 0 where
  pub blind : (a b : ℕ) → a < m.sectors → b < m.sectors → Rejects t a b → ¬ Sees m a b
  pub seen : (a b : ℕ) → a < m.sectors → b < m.sectors → ¬ Rejects t a b → ¬ Contains listed (record { a = a; b = b }) → ¬ Contains listed (record { a = b; b = a }) → Sees m a b
