-- The pairs of which one found the other, as the code gathers them.
use Rattle.std.specs.Prelude.{◌≡◌, ◌≢◌, ℕ, ◌<◌, ◌⊎◌, ◌↔◌, List, [], ◌∷◌, ◌++◌, Some, Contains, slice_get, map, if◌then◌else◌, nat_lt}
use Rattle.std.specs.List.{flat_map}
use Rattle.std.specs.Ordering.{nat_cmp, ordering_then}
use Rattle.std.specs.declared.cmp.Ordering.{Ordering}
use Rattle.sight_names.specs.declared.names.Pair.{Pair}
use Rattle.sight_names.specs.declared.names.PairRay.{PairRay}
use Rattle.reject_bits.specs.Parts.{TableParts, Rejects}
use Rattle.pair_budget.specs.declared.results.Reached.{Reached}
use Rattle.pair_budget.specs.declared.results.SourceResult.{SourceResult}
use Rattle.pair_budget.specs.Decide.{turned_ray}

-- a number of sectors, and rays between them
pub record PairRaysParts : Type 0 where
  pub sectors : ℕ
  pub rays : List PairRay

-- one of the rays is for the pair
abbrev pub HasRayFor : List PairRay → ℕ → ℕ → Type 0
HasRayFor rays a b = (r : PairRay) × Contains rays r × (r.pair ≡ record { a = a; b = b })

-- the bits of the table are those of the rays' pairs
pub record AreRayPairsMarked (t : TableParts) (rays : List PairRay) : Type 0 where
  pub bits : (a b : ℕ) → a < t.n → b < t.n → Rejects t a b ↔ HasRayFor rays a b

-- the ray is added where its pair isn't there yet
pub record IsRayNoted (ray : PairRay) (old new : PairRaysParts) : Type 0 where
  pub sectors : new.sectors ≡ old.sectors
  pub rays : (HasRayFor old.rays ray.pair.a ray.pair.b × (new.rays ≡ old.rays)) ⊎ (¬ HasRayFor old.rays ray.pair.a ray.pair.b × (new.rays ≡ old.rays ++ ray ∷ []))

-- the ray of a sector that the source found, from the smaller of the two to the larger
abbrev pub toward : ℕ → Reached → PairRay
toward source r = if nat_lt source r.to then record { pair = record { a = source; b = r.to }; ray = r.ray } else record { pair = record { a = r.to; b = source }; ray = turned_ray r.ray }

-- the rays of all sectors that were found, in the order of the sources
abbrev pub all_rays : List SourceResult → List PairRay
all_rays rs = flat_map (λ (r : SourceResult). map (toward r.source) r.found) rs

-- the rays are some of those, one for each of their pairs
pub record KeepsOneEach (all rays : List PairRay) : Type 0 where
  pub from : (r : PairRay) → Contains rays r → Contains all r
  pub pairs : (r : PairRay) → Contains all r → HasRayFor rays r.pair.a r.pair.b
  pub once : (i j : ℕ) (r s : PairRay) → i < j → slice_get rays i ≡ Some r → slice_get rays j ≡ Some s → r.pair ≢ s.pair

-- by the first sector, then by the second
abbrev pub pair_cmp : Pair → Pair → Ordering
pair_cmp p q = ordering_then (nat_cmp p.a q.a) (nat_cmp p.b q.b)
