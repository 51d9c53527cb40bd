-- The parts that a reader gives from the beginning on are those of the certificate that is read of the whole.
use Rattle.std.proofs.Common.{◌≡◌, ℕ, ◌+◌, Bool, true, false, List, [], ◌++◌, map, length, flat_map, ◌==◌, Result, Ok, Err, None, refl, sym, ap, ◌∙◌, arith}
use Rattle.sight_names.specs.declared.faults.CertFault.{CertFault}
use Rattle.sight_names.specs.declared.faults.CertFault.TheVariants as faults
use Rattle.sight_names.specs.declared.names.Pair.{Pair}
use Rattle.sight_names.specs.declared.names.PairRay.{PairRay}
use Rattle.block_evidence.specs.declared.sight_tree.Tree.{Tree}
use Rattle.cert_format.specs.declared.cert.Sizes.{Sizes}
use Rattle.cert_format.specs.declared.cert.Labelled.{Labelled}
use Rattle.cert_format.specs.Parts.{CertParts}
use Rattle.cert_format.specs.Reading.{◌>>=◌, begins_at, passed, RecordCounts, front_at, counts_at, triangles_at, rays_at, pairs_at, trees_at, records_at, reading}
use Rattle.certificates.specs.declared.cert_parts.part.Part.{Part}
use Rattle.certificates.specs.declared.cert_parts.part.Part.TheVariants as parts
use Rattle.certificates.specs.CertParts.Parts.{tree_parts, parts_of_listing, reading_parts}
use Rattle.certificates.specs.CertParts.Left.{trees_left, nodes_left, pairs_left, rays_left, triangles_left, header_at, all_awaited, left_at, ReaderState, parts_left}
use Rattle.certificates.specs.CertParts.Steps.{none_read}
use Rattle.certificates.specs.declared.cert_parts.awaited.Awaited.{Awaited}
use Rattle.certificates.proofs.CertParts.Order.{same_read}

-- these records, as parts, before what is left
abbrev before : {X : Type 0} → (X → Part) → List X → Result (List Part) CertFault → Result (List Part) CertFault
before part xs left = left >>= λ others. Ok (map part xs ++ others)

-- all records that these counts have, those of listed pairs with sectors of other sizes
abbrev pub awaiting : Sizes → Sizes → RecordCounts → Awaited
awaiting sizes map_sizes k = record {
  sizes = sizes;
  map_sizes = map_sizes;
  begun = true;
  triangles = k.triangles;
  rays = k.rays;
  listed = k.listed;
  trees = k.trees;
  nodes = 0;
  last_triangle = None;
  last_ray = None;
  last_pair = None;
  last_source = None;
}

-- what is made of records, seen as their parts
module _ {C A : Type 0} (sizes map_sizes : Sizes) (n : ℕ) (k : RecordCounts) (made : List Labelled → List PairRay → List Pair → List Tree → C) (parts_in : C → A) (view : List Part → A)
    (agrees : (ts : List Labelled) (rs : List PairRay) (ps : List Pair) (ds : List Tree) → view (map (λ t. parts.Triangle t) ts ++ (map (λ r. parts.Ray r) rs ++ (map (λ p. parts.Listed p) ps ++ flat_map tree_parts ds))) ≡ parts_in (made ts rs ps ds)) where
  abbrev tell : Result C CertFault → Result A CertFault
  tell read = read >>= λ c. Ok (parts_in c)

  abbrev seen : Result (List Part) CertFault → Result A CertFault
  seen read = read >>= λ ps. Ok (view ps)

  abbrev pub behind_trees : List Labelled → List PairRay → List Pair → List Tree × List ℕ → Result C CertFault
  behind_trees ts rs ps d = passed (length d.1 == 0) (faults.Trailing (begins_at n d.1)) (made ts rs ps d.0)

  abbrev pub behind_pairs : List Labelled → List PairRay → List Pair × List ℕ → Result C CertFault
  behind_pairs ts rs p = trees_at sizes n None k.trees p.1 >>= λ d. behind_trees ts rs p.0 d

  abbrev pub behind_rays : List Labelled → List PairRay × List ℕ → Result C CertFault
  behind_rays ts r = pairs_at map_sizes n None k.listed r.1 >>= λ p. behind_pairs ts r.0 p

  abbrev pub behind_triangles : List Labelled × List ℕ → Result C CertFault
  behind_triangles t = rays_at sizes n None k.rays t.1 >>= λ r. behind_rays t.0 r

  by_test : (ts : List Labelled) (rs : List PairRay) (ps : List Pair) (ds : List Tree) (b : Bool) (f : CertFault)
      → seen (before (λ t. parts.Triangle t) ts (before (λ t. parts.Ray t) rs (before (λ t. parts.Listed t) ps (before (λ t. parts.Node t) [] (passed b f (flat_map tree_parts ds)))))) ≡ tell (passed b f (made ts rs ps ds))
  by_test ts rs ps ds true f = ap (λ (a : A). Ok a) (agrees ts rs ps ds)
  by_test ts rs ps ds false f = refl

  by_trees : (ts : List Labelled) (rs : List PairRay) (ps : List Pair) (r : Result (List Tree × List ℕ) CertFault)
      → seen (before (λ t. parts.Triangle t) ts (before (λ t. parts.Ray t) rs (before (λ t. parts.Listed t) ps (before (λ t. parts.Node t) [] (r >>= λ d. passed (length d.1 == 0) (faults.Trailing (begins_at n d.1)) (flat_map tree_parts d.0))))))
      ≡ tell (r >>= λ d. behind_trees ts rs ps d)
  by_trees ts rs ps (Ok d) = by_test ts rs ps d.0 (length d.1 == 0) (faults.Trailing (begins_at n d.1))
  by_trees ts rs ps (Err f) = refl

  by_pairs : (ts : List Labelled) (rs : List PairRay) (r : Result (List Pair × List ℕ) CertFault)
      → seen (before (λ t. parts.Triangle t) ts (before (λ t. parts.Ray t) rs (r >>= λ p. before (λ t. parts.Listed t) p.0 (nodes_left (awaiting sizes map_sizes k) n p.1)))) ≡ tell (r >>= λ p. behind_pairs ts rs p)
  unfolding nodes_left trees_left records_at
  by_pairs ts rs (Ok p) = by_trees ts rs p.0 (trees_at sizes n None k.trees p.1)
  by_pairs ts rs (Err f) = refl

  by_rays : (ts : List Labelled) (r : Result (List PairRay × List ℕ) CertFault)
      → seen (before (λ t. parts.Triangle t) ts (r >>= λ y. before (λ t. parts.Ray t) y.0 (pairs_left (awaiting sizes map_sizes k) n y.1))) ≡ tell (r >>= λ y. behind_rays ts y)
  unfolding pairs_left
  by_rays ts (Ok y) = by_pairs ts y.0 (pairs_at map_sizes n None k.listed y.1)
  by_rays ts (Err f) = refl

  pub by_triangles : (r : Result (List Labelled × List ℕ) CertFault) → seen (r >>= λ t. before (λ t. parts.Triangle t) t.0 (rays_left (awaiting sizes map_sizes k) n t.1)) ≡ tell (r >>= λ t. behind_triangles t)
  unfolding rays_left
  by_triangles (Ok t) = by_rays t.0 (rays_at sizes n None k.rays t.1)
  by_triangles (Err f) = refl

-- ---- in version 1

abbrev told : Result CertParts CertFault → Result (List Part) CertFault
told read = read >>= λ c. Ok (parts_of_listing c)

module _ (sizes : Sizes) (n : ℕ) where
  abbrev cert : List Labelled → List PairRay → List Pair → List Tree → CertParts
  cert ts rs ps ds = record { sizes = sizes; triangles = ts; rays = rs; listed = ps; trees = ds }

  -- what is read behind these counts
  abbrev counted : RecordCounts × List ℕ → Result CertParts CertFault
  counted k = triangles_at sizes n None k.0.triangles k.1 >>= behind_triangles sizes sizes n k.0 cert (λ c. parts_of_listing c) (λ ps. ps) (λ ts rs ps ds. refl)

  by_kinds : (k : RecordCounts × List ℕ) → triangles_left (all_awaited sizes k.0) n k.1 ≡ told (counted k)
  unfolding triangles_left
  by_kinds k = sym (same_read (triangles_left (all_awaited sizes k.0) n k.1)) ∙ by_triangles sizes sizes n k.0 cert (λ c. parts_of_listing c) (λ ps. ps) (λ ts rs ps ds. refl) (triangles_at sizes n None k.0.triangles k.1)

  by_counts : (r : Result (RecordCounts × List ℕ) CertFault) → (r >>= λ k. triangles_left (all_awaited sizes k.0) n k.1) ≡ told (r >>= counted)
  by_counts (Ok k) = by_kinds k
  by_counts (Err f) = refl

  by_front : (r : Result (List ℕ) CertFault) → ((r >>= λ f. counts_at sizes.points n f) >>= λ k. triangles_left (all_awaited sizes k.0) n k.1) ≡ told (r >>= λ f. counts_at sizes.points n f >>= counted)
  by_front (Ok f) = by_counts (counts_at sizes.points n f)
  by_front (Err f) = refl

pub from_the_beginning : (s : ReaderState) (sizes : Sizes) (bytes : List ℕ) → s.awaited ≡ none_read sizes → s.given ≡ 0 → s.kept ≡ [] → parts_left s bytes ≡ reading_parts sizes bytes
unfolding parts_left left_at header_at reading
from_the_beginning s sizes bytes p q r =
    let n : 0 + length bytes ≡ length bytes = omega arith in
    rw (p, q, r, n) (by_front sizes (length bytes) (front_at sizes (length bytes) bytes))
