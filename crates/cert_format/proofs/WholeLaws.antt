-- The two laws of the grammar: what is read is spelled so, and what is spelled so is read.
use Rattle.std.proofs.Common.{◌≡◌, ℕ, zero, suc, ◌^◌, ◌<◌, ◌≤◌, eqb, List, [], ◌∷◌, ◌++◌, length, map, slice_get, Some, None, Result, Ok, refl, sym, ap, subst, ◌∙◌, append_assoc, arith, inl, inr, codes, ◌-◌}
use Rattle.std.specs.List.{flat_map, AllByRecursion}
use Rattle.std.specs.Int.{w16, w32}
use Rattle.std.proofs.lemmas.Bool.{ltb-false, le-ltb, eqb-true, not-true}
use Rattle.std.proofs.lemmas.List.{append-nil, nil_from_length}
use Rattle.sight_names.specs.Limits.{most_triangles}
use Rattle.sight_names.specs.declared.faults.CertFault.{CertFault}
use Rattle.sight_names.specs.declared.faults.CertFault.TheVariants as faults
use Rattle.sight_names.specs.declared.names.Pair.{Pair}
use Rattle.sight_names.specs.declared.names.PairRay.{PairRay}
use Rattle.sight_names.specs.declared.names.Triangle.{Triangle}
use Rattle.sight_names.specs.Mesh.{IsTriangle, IsAbove, AreTriangles}
use Rattle.block_evidence.specs.declared.sight_tree.Tree.{Tree}
use Rattle.cert_format.specs.declared.cert.Sizes.{Sizes}
use Rattle.cert_format.specs.declared.cert.Labelled.{Labelled}
use Rattle.cert_format.specs.Parts.{CertParts}
use Rattle.block_evidence.specs.SightTree.Spelling.{u16}
use Rattle.cert_format.specs.Grammar.{AreSmall, IsPairInRange, IsRayInRange, IsTreeInRange, IsOneInOrder, FitsRay, FitsFields, SpellsOne, u32, triangle_bytes, ray_bytes, pair_bytes, tree_bytes, front_bytes, spelling}
use Rattle.sight_names.specs.Order.{Ascends, PairBefore}
use Rattle.cert_format.specs.Grammar as fields
use Rattle.cert_format.specs.Reading.{◌>>=◌, passed, cert_magic, magic_at, version_at, front_at, triangle_count_at, RecordCounts, counts_at, triangle_at, ray_at, pair_at, tree_at, triangles_at, rays_at, pairs_at, trees_at, reading}
use Rattle.cert_format.proofs.FieldLaws.{IsBytes, bind_ok, passed_ok, ok_is, Takes, Takes-then, wide16, wide32, number_takes, number_again, known_takes, known_again}
use Rattle.cert_format.proofs.RecordLaws.{records_take, records_again, ascends_of_chain, chain_of_ascends}
use Rattle.cert_format.proofs.KindLaws.{FitsLabelled, TriangleAfter, triangle_takes, triangle_again, PairAfter, pair_takes, pair_again, FitsPairRay, RayAfter, ray_takes, ray_again}
use Rattle.cert_format.proofs.TreeLaws.{FitsTree, TreeAfter, tree_takes, tree_again, in_orders, all_fit, fit_in_order}
use Rattle.cert_format.proofs.CountLaws.{few_pairs, few_rays, few_trees}
use Rattle.cert_format.proofs.LimitLaws.{few_of}
use Rattle.math_base.proofs.Options.{some_is_same}

-- ---- the header

abbrev pub count_bytes : RecordCounts → List ℕ
count_bytes c = fields.count_bytes c.triangles c.rays c.listed c.trees

front_takes : (sizes : Sizes) (total : ℕ) (bytes rest : List ℕ) → IsBytes bytes → front_at sizes total bytes ≡ Ok rest → Takes bytes (front_bytes sizes) rest
unfolding front_at magic_at version_at
front_takes sizes total bytes rest fits e =
    let m = bind_ok _ _ rest e in
    let v = bind_ok _ _ rest m.2 in
    let a = bind_ok _ _ rest v.2 in
    let b = bind_ok _ _ rest a.2 in
    let m' = bind_ok _ _ m.0 m.1 in
    let mg = passed_ok _ _ m'.0.1 m.0 m'.2 in
    let v' = bind_ok _ _ v.0 v.1 in
    let vg = passed_ok _ _ v'.0.1 v.0 v'.2 in
    let tm = number_takes w32 (2 ^ 32) wide32 total bytes m'.0 fits m'.1 in
    let tm' : Takes bytes (codes "DSCT") m.0 = subst (λ (r : List ℕ). Takes bytes (codes "DSCT") r) {x = m'.0.1} mg.1 (subst (λ (k : ℕ). Takes bytes (u32 k) m'.0.1) {x = m'.0.0} (eqb-true _ _ mg.0) tm.0) in
    let tv = number_takes w16 (2 ^ 16) wide16 total m.0 v'.0 tm'.rest_fits v'.1 in
    let tv' : Takes m.0 (u16 1) v.0 = subst (λ (r : List ℕ). Takes m.0 (u16 1) r) {x = v'.0.1} vg.1 (subst (λ (k : ℕ). Takes m.0 (u16 k) v'.0.1) {x = v'.0.0} (eqb-true _ _ vg.0) tv.0) in
    let ta = known_takes sizes.sectors total v.0 a.0 tv'.rest_fits a.1 in
    let tb = known_takes sizes.points total a.0 b.0 ta.rest_fits b.1 in
    let tc = known_takes sizes.lines total b.0 rest tb.rest_fits b.2 in
    Takes-then bytes (codes "DSCT" ++ u16 1 ++ u16 sizes.sectors ++ u16 sizes.points) b.0 (u16 sizes.lines) rest
    (Takes-then bytes (codes "DSCT" ++ u16 1 ++ u16 sizes.sectors) a.0 (u16 sizes.points) b.0
    (Takes-then bytes (codes "DSCT" ++ u16 1) v.0 (u16 sizes.sectors) a.0 (Takes-then bytes (codes "DSCT") m.0 (u16 1) v.0 tm' tv') ta) tb) tc

front_again : (sizes : Sizes) → AreSmall sizes → (total : ℕ) (rest : List ℕ) → front_at sizes total (front_bytes sizes ++ rest) ≡ Ok rest
unfolding front_at magic_at version_at
front_again sizes small total rest =
    rw (
      number_again w32 (2 ^ 32) wide32 total cert_magic (u16 1 ++ (u16 sizes.sectors ++ (u16 sizes.points ++ (u16 sizes.lines ++ rest)))) (omega arith),
      number_again w16 (2 ^ 16) wide16 total 1 (u16 sizes.sectors ++ (u16 sizes.points ++ (u16 sizes.lines ++ rest))) (omega arith),
      known_again sizes.sectors total (u16 sizes.points ++ (u16 sizes.lines ++ rest)) small.sectors,
      known_again sizes.points total (u16 sizes.lines ++ rest) small.points,
    ) (known_again sizes.lines total rest small.lines)

pub record FitCounts (points : ℕ) (c : RecordCounts) : Type 0 where
  pub triangles : c.triangles ≤ most_triangles points
  pub rays : c.rays < 2 ^ 32
  pub listed : c.listed < 2 ^ 32
  pub trees : c.trees < 2 ^ 32

pub counts_take : (points total : ℕ) (bytes : List ℕ) (x : RecordCounts × List ℕ) → IsBytes bytes → counts_at points total bytes ≡ Ok x → Takes bytes (count_bytes x.0) x.1 × FitCounts points x.0
unfolding counts_at triangle_count_at
counts_take points total bytes x fits e =
    let t = bind_ok _ _ x e in
    let r = bind_ok _ _ x t.2 in
    let l = bind_ok _ _ x r.2 in
    let f = bind_ok _ _ x l.2 in
    let made : RecordCounts × List ℕ = (record { triangles = t.0.0; rays = r.0.0; listed = l.0.0; trees = f.0.0 }, f.0.1) in
    let t' = bind_ok _ _ t.0 t.1 in
    let g = passed_ok _ _ t'.0 t.0 t'.2 in
    let t0 = number_takes w32 (2 ^ 32) wide32 total bytes t'.0 fits t'.1 in
    let both = subst (λ (y : ℕ × List ℕ). Takes bytes (u32 y.0) y.1 × (y.0 ≤ most_triangles points)) {x = t'.0} g.1 (t0.0, ltb-false _ _ (not-true _ g.0)) in
    let t1 = number_takes w32 (2 ^ 32) wide32 total t.0.1 r.0 both.0.rest_fits r.1 in
    let t2 = number_takes w32 (2 ^ 32) wide32 total r.0.1 l.0 t1.0.rest_fits l.1 in
    let t3 = number_takes w32 (2 ^ 32) wide32 total l.0.1 f.0 t2.0.rest_fits f.1 in
    let taken = Takes-then bytes (u32 t.0.0 ++ u32 r.0.0 ++ u32 l.0.0) l.0.1 (u32 f.0.0) f.0.1 (Takes-then bytes (u32 t.0.0 ++ u32 r.0.0) r.0.1 (u32 l.0.0) l.0.1 (Takes-then bytes (u32 t.0.0) t.0.1 (u32 r.0.0) r.0.1 both.0 t1.0) t2.0) t3.0 in
    subst (λ (y : RecordCounts × List ℕ). Takes bytes (count_bytes y.0) y.1 × FitCounts points y.0) {x = made} (ok_is made x f.2) (taken, record { triangles = both.1; rays = t1.1; listed = t2.1; trees = t3.1 })

pub counts_again : (points total : ℕ) (c : RecordCounts) (rest : List ℕ) → FitCounts points c → counts_at points total (count_bytes c ++ rest) ≡ Ok (c, rest)
unfolding counts_at triangle_count_at
counts_again points total c rest fits =
    rw (
      number_again w32 (2 ^ 32) wide32 total c.triangles (u32 c.rays ++ (u32 c.listed ++ (u32 c.trees ++ rest))) (let h = few_of points c.triangles fits.triangles in omega arith),
      le-ltb _ _ fits.triangles,
      number_again w32 (2 ^ 32) wide32 total c.rays (u32 c.listed ++ (u32 c.trees ++ rest)) fits.rays,
      number_again w32 (2 ^ 32) wide32 total c.listed (u32 c.trees ++ rest) fits.listed,
      number_again w32 (2 ^ 32) wide32 total c.trees rest fits.trees,
    ) refl

-- ---- the parts

pub above_carries : (a b c : Triangle) → IsAbove a b → IsAbove b c → IsAbove a c
above_carries a b c (inl h) (inl g) = inl (omega (arith, h, g))
above_carries a b c (inl h) (inr (e, g)) = inl (omega (arith, h, e))
above_carries a b c (inr (e, h)) (inl g) = inl (omega (arith, e, g))
above_carries a b c (inr (e, inl h)) (inr (f, inl g)) = inr (e ∙ f, inl (omega (arith, h, g)))
above_carries a b c (inr (e, inl h)) (inr (f, inr (i, g))) = inr (e ∙ f, inl (omega (arith, h, i)))
above_carries a b c (inr (e, inr (j, h))) (inr (f, inl g)) = inr (e ∙ f, inl (omega (arith, j, g)))
above_carries a b c (inr (e, inr (j, h))) (inr (f, inr (i, g))) = inr (e ∙ f, inr (j ∙ i, omega (arith, h, g)))

pub pair_carries : (a b c : Pair) → PairBefore a b → PairBefore b c → PairBefore a c
pair_carries a b c (inl h) (inl g) = inl (omega (arith, h, g))
pair_carries a b c (inl h) (inr (e, g)) = inl (omega (arith, h, e))
pair_carries a b c (inr (e, h)) (inl g) = inl (omega (arith, e, g))
pair_carries a b c (inr (e, h)) (inr (f, g)) = inr (e ∙ f, omega (arith, h, g))

pub source_carries : (a b c : Tree) → a.source < b.source → b.source < c.source → a.source < c.source
source_carries a b c h g = omega (arith, h, g)

abbrev pub triangle_list : List Labelled → List Triangle
triangle_list ls = map (λ (l : Labelled). l.triangle) ls

-- the labelled triangle behind a triangle of the list
got : (ls : List Labelled) (i : ℕ) (t : Triangle) → slice_get (triangle_list ls) i ≡ Some t → (l : Labelled) × (slice_get ls i ≡ Some l) × (l.triangle ≡ t)
got [] i t h = absurd cc
got (l ∷ ls) zero t h = (l, refl, some_is_same l.triangle t h)
got (l ∷ ls) (suc i) t h = got ls i t h

pub got_back : (ls : List Labelled) (i : ℕ) (l : Labelled) → slice_get ls i ≡ Some l → slice_get (triangle_list ls) i ≡ Some l.triangle
got_back [] i l h = absurd cc
got_back (k ∷ ls) zero l h = ap (λ (x : Labelled). Some x.triangle) (some_is_same k l h)
got_back (k ∷ ls) (suc i) l h = got_back ls i l h

fits_at : (sizes : Sizes) (ls : List Labelled) → AllByRecursion (FitsLabelled sizes) ls → (i : ℕ) (l : Labelled) → slice_get ls i ≡ Some l → FitsLabelled sizes l
fits_at sizes [] h i l e = absurd cc
fits_at sizes (k ∷ ls) h zero l e = subst (FitsLabelled sizes) {x = k} (some_is_same k l e) h.0
fits_at sizes (k ∷ ls) h (suc i) l e = fits_at sizes ls h.1 i l e

pub triangles_are : (sizes : Sizes) (ls : List Labelled) → AllByRecursion (FitsLabelled sizes) ls → Ascends (λ x y. IsAbove x.triangle y.triangle) ls → AreTriangles sizes.points (triangle_list ls)
triangles_are sizes ls fit ascend = record {
  each = λ k t h. let g = got ls k t h in subst (IsTriangle sizes.points) g.2 (fits_at sizes ls fit k g.0 g.1).triangle;
  ascend = λ i j t u lt h g. let p = got ls i t h in let q = got ls j u g in subst (λ (w : Triangle). IsAbove w u) p.2 (subst (λ (w : Triangle). IsAbove p.0.triangle w) q.2 (ascend i j p.0 q.0 lt p.1 q.1));
}

pub sectors_are : (sizes : Sizes) (ls : List Labelled) → AllByRecursion (FitsLabelled sizes) ls → AllByRecursion (λ (l : Labelled). l.sector < sizes.sectors) ls
sectors_are sizes [] h = tt
sectors_are sizes (l ∷ ls) h = (h.0.sector, sectors_are sizes ls h.1)

pub labelled_fit : (sizes : Sizes) (ls : List Labelled) → ((k : ℕ) (l : Labelled) → slice_get ls k ≡ Some l → IsTriangle sizes.points l.triangle) → AllByRecursion (λ (l : Labelled). l.sector < sizes.sectors) ls → AllByRecursion (FitsLabelled sizes) ls
labelled_fit sizes [] each h = tt
labelled_fit sizes (l ∷ ls) each h = (record { triangle = each 0 l refl; sector = h.0 }, labelled_fit sizes ls (λ k m e. each (suc k) m e) h.1)

pub ranges_of : (sizes : Sizes) (rs : List PairRay) → AllByRecursion (FitsPairRay sizes) rs → AllByRecursion (IsRayInRange sizes) rs
ranges_of sizes [] h = tt
ranges_of sizes (r ∷ rs) h = (h.0.in_range, ranges_of sizes rs h.1)

pub rays_fit : (sizes : Sizes) (rs : List PairRay) → AllByRecursion (FitsPairRay sizes) rs → AllByRecursion (λ (r : PairRay). FitsRay r.ray) rs
rays_fit sizes [] h = tt
rays_fit sizes (r ∷ rs) h = (h.0.fits, rays_fit sizes rs h.1)

pub pair_rays_fit : (sizes : Sizes) (rs : List PairRay) → AllByRecursion (IsRayInRange sizes) rs → AllByRecursion (λ (r : PairRay). FitsRay r.ray) rs → AllByRecursion (FitsPairRay sizes) rs
pair_rays_fit sizes [] h g = tt
pair_rays_fit sizes (r ∷ rs) h g = (record { in_range = h.0; fits = g.0 }, pair_rays_fit sizes rs h.1 g.1)

pub tree_ranges : (sizes : Sizes) (ts : List Tree) → AllByRecursion (FitsTree sizes) ts → AllByRecursion (IsTreeInRange sizes) ts
tree_ranges sizes [] h = tt
tree_ranges sizes (t ∷ ts) h = ((h.0.source, in_orders t.nodes h.0.nodes), tree_ranges sizes ts h.1)

pub fields_fit : (sizes : Sizes) (ts : List Tree) → AllByRecursion (FitsTree sizes) ts → AllByRecursion fields.FitsTree ts
fields_fit sizes [] h = tt
fields_fit sizes (t ∷ ts) h = (record { count = h.0.count; nodes = all_fit t.nodes h.0.nodes }, fields_fit sizes ts h.1)

pub trees_fit : (sizes : Sizes) (ts : List Tree) → AllByRecursion (IsTreeInRange sizes) ts → AllByRecursion fields.FitsTree ts → AllByRecursion (FitsTree sizes) ts
trees_fit sizes [] h g = tt
trees_fit sizes (t ∷ ts) h g = (record { source = h.0.0; count = g.0.count; nodes = fit_in_order t.nodes h.0.1 g.0.nodes }, trees_fit sizes ts h.1 g.1)

-- ---- the laws

pub reading_takes : (sizes : Sizes) (bytes : List ℕ) (c : CertParts) → AreSmall sizes → IsBytes bytes → reading sizes bytes ≡ Ok c → SpellsOne sizes bytes c
unfolding reading spelling
reading_takes sizes bytes c small fits e =
    let n = length bytes in
    let f = bind_ok _ _ c e in
    let k = bind_ok _ _ c f.2 in
    let t = bind_ok _ _ c k.2 in
    let r = bind_ok _ _ c t.2 in
    let l = bind_ok _ _ c r.2 in
    let d = bind_ok _ _ c l.2 in
    let made : CertParts = record { sizes = sizes; triangles = t.0.0; rays = r.0.0; listed = l.0.0; trees = d.0.0 } in
    let g = passed_ok _ _ made c d.2 in
    let tf = front_takes sizes n bytes f.0 fits f.1 in
    let tk = counts_take sizes.points n f.0 k.0 tf.rest_fits k.1 in
    let tt' = records_take (triangle_at sizes n) (λ x. Some x) triangle_bytes (FitsLabelled sizes) TriangleAfter (triangle_takes sizes n) k.0.0.triangles None k.0.1 t.0 tk.0.rest_fits t.1 in
    let tr = records_take (ray_at sizes n) (λ x. Some x) ray_bytes (FitsPairRay sizes) RayAfter (ray_takes sizes n) k.0.0.rays None t.0.1 r.0 tt'.takes.rest_fits r.1 in
    let tl = records_take (pair_at sizes n) (λ x. Some x) pair_bytes (IsPairInRange sizes) PairAfter (pair_takes sizes n) k.0.0.listed None r.0.1 l.0 tr.takes.rest_fits l.1 in
    let td = records_take (tree_at sizes n) (λ x. Some x.source) tree_bytes (FitsTree sizes) TreeAfter (tree_takes sizes n) k.0.0.trees None l.0.1 d.0 tl.takes.rest_fits d.1 in
    let counts : RecordCounts = record { triangles = length t.0.0; rays = length r.0.0; listed = length l.0.0; trees = length d.0.0 } in
    let same : k.0.0 ≡ counts = counts_same k.0.0 (length t.0.0) (length r.0.0) (length l.0.0) (length d.0.0) (sym tt'.count) (sym tr.count) (sym tl.count) (sym td.count) in
    let counted : Takes f.0 (count_bytes counts) k.0.1 = subst (λ (x : RecordCounts). Takes f.0 (count_bytes x) k.0.1) same tk.0 in
    let e0 = Takes-then bytes (front_bytes sizes) f.0 (count_bytes counts) k.0.1 tf counted in
    let e1 = Takes-then bytes (front_bytes sizes ++ count_bytes counts) k.0.1 (flat_map triangle_bytes t.0.0) t.0.1 e0 tt'.takes in
    let e2 = Takes-then bytes (front_bytes sizes ++ count_bytes counts ++ flat_map triangle_bytes t.0.0) t.0.1 (flat_map ray_bytes r.0.0) r.0.1 e1 tr.takes in
    let e3 = Takes-then bytes (front_bytes sizes ++ count_bytes counts ++ flat_map triangle_bytes t.0.0 ++ flat_map ray_bytes r.0.0) r.0.1 (flat_map pair_bytes l.0.0) l.0.1 e2 tl.takes in
    let e4 = Takes-then bytes (front_bytes sizes ++ count_bytes counts ++ flat_map triangle_bytes t.0.0 ++ flat_map ray_bytes r.0.0 ++ flat_map pair_bytes l.0.0) l.0.1 (flat_map tree_bytes d.0.0) d.0.1 e3 td.takes in
    let nothing : d.0.1 ≡ [] = nil_from_length d.0.1 (eqb-true _ _ g.0) in
    let whole : bytes ≡ spelling made = e4.parts ∙ ap (λ (x : List ℕ). (front_bytes sizes ++ count_bytes counts ++ flat_map triangle_bytes t.0.0 ++ flat_map ray_bytes r.0.0 ++ flat_map pair_bytes l.0.0 ++ flat_map tree_bytes d.0.0) ++ x) nothing ∙ append-nil (front_bytes sizes ++ count_bytes counts ++ flat_map triangle_bytes t.0.0 ++ flat_map ray_bytes r.0.0 ++ flat_map pair_bytes l.0.0 ++ flat_map tree_bytes d.0.0) in
    let above = ascends_of_chain (triangle_at sizes n) (λ x. Some x) triangle_bytes (FitsLabelled sizes) TriangleAfter (λ x y z. above_carries x.triangle y.triangle z.triangle) None t.0.0 tt'.chain in
    let in_order : IsOneInOrder made = record {
      few = omega (arith, tk.1.triangles, tt'.count);
      triangles = triangles_are sizes t.0.0 tt'.fit above;
      sectors = sectors_are sizes t.0.0 tt'.fit;
      rays = ranges_of sizes r.0.0 tr.fit;
      rays_ascend = ascends_of_chain (ray_at sizes n) (λ x. Some x) ray_bytes (FitsPairRay sizes) RayAfter (λ x y z. pair_carries x.pair y.pair z.pair) None r.0.0 tr.chain;
      listed = tl.fit;
      listed_ascend = ascends_of_chain (pair_at sizes n) (λ x. Some x) pair_bytes (IsPairInRange sizes) PairAfter pair_carries None l.0.0 tl.chain;
      trees = tree_ranges sizes d.0.0 td.fit;
      trees_ascend = ascends_of_chain (tree_at sizes n) (λ x. Some x.source) tree_bytes (FitsTree sizes) TreeAfter source_carries None d.0.0 td.chain;
    } in
    subst (λ (x : CertParts). SpellsOne sizes bytes x) {x = made} g.1 (record {
      sized = refl;
      in_order = in_order;
      fits = record { sectors = small.sectors; points = small.points; lines = small.lines; rays = rays_fit sizes r.0.0 tr.fit; trees = fields_fit sizes d.0.0 td.fit };
      spelled = whole;
    })
  where
    counts_same : (k : RecordCounts) (a b c d : ℕ) → k.triangles ≡ a → k.rays ≡ b → k.listed ≡ c → k.trees ≡ d → k ≡ record { triangles = a; rays = b; listed = c; trees = d }
    counts_same k a b c d p q r s = rw (← p, ← q, ← r, ← s) refl

pub spelled_again : (c : CertParts) → IsOneInOrder c → FitsFields c → reading c.sizes (spelling c) ≡ Ok c
unfolding reading spelling
spelled_again c is fits =
    let n = length (spelling c) in
    let s = c.sizes in
    let small : AreSmall s = record { sectors = fits.sectors; points = fits.points; lines = fits.lines } in
    let counts : RecordCounts = record { triangles = length c.triangles; rays = length c.rays; listed = length c.listed; trees = length c.trees } in
    let fit_counts : FitCounts s.points counts = record { triangles = is.few; rays = few_rays s c.rays fits.sectors is.rays is.rays_ascend; listed = few_pairs s c.listed fits.sectors is.listed is.listed_ascend; trees = few_trees s c.trees fits.sectors is.trees is.trees_ascend } in
    let ts = flat_map triangle_bytes c.triangles in
    let rs = flat_map ray_bytes c.rays in
    let ps = flat_map pair_bytes c.listed in
    let ds = flat_map tree_bytes c.trees in
    let regrouped : spelling c ≡ front_bytes s ++ (count_bytes counts ++ (ts ++ (rs ++ (ps ++ (ds ++ []))))) = in_parts (front_bytes s) (count_bytes counts) ts rs ps ds in
    let each = labelled_fit s c.triangles (λ k l h. is.triangles.each k l.triangle (got_back c.triangles k l h)) is.sectors in
    let rays = pair_rays_fit s c.rays is.rays fits.rays in
    let trees = trees_fit s c.trees is.trees fits.trees in
    let t = records_again (triangle_at s n) (λ x. Some x) triangle_bytes (FitsLabelled s) TriangleAfter (triangle_again s fits.points fits.sectors n) None c.triangles (rs ++ (ps ++ (ds ++ []))) each
    (chain_of_ascends (triangle_at s n) (λ x. Some x) triangle_bytes (FitsLabelled s) TriangleAfter None c.triangles (λ x. tt) (λ i j x y lt h g. is.triangles.ascend i j x.triangle y.triangle lt (got_back c.triangles i x h) (got_back c.triangles j y g))) in
    let r = records_again (ray_at s n) (λ x. Some x) ray_bytes (FitsPairRay s) RayAfter (ray_again s fits.sectors n) None c.rays (ps ++ (ds ++ [])) rays
    (chain_of_ascends (ray_at s n) (λ x. Some x) ray_bytes (FitsPairRay s) RayAfter None c.rays (λ x. tt) is.rays_ascend) in
    let p = records_again (pair_at s n) (λ x. Some x) pair_bytes (IsPairInRange s) PairAfter (pair_again s fits.sectors n) None c.listed (ds ++ []) is.listed
    (chain_of_ascends (pair_at s n) (λ x. Some x) pair_bytes (IsPairInRange s) PairAfter None c.listed (λ x. tt) is.listed_ascend) in
    let d = records_again (tree_at s n) (λ x. Some x.source) tree_bytes (FitsTree s) TreeAfter (tree_again s fits.sectors n) None c.trees [] trees
    (chain_of_ascends (tree_at s n) (λ x. Some x.source) tree_bytes (FitsTree s) TreeAfter None c.trees (λ x. tt) is.trees_ascend) in
    let F : List ℕ → Result CertParts CertFault = λ bytes. front_at s n bytes >>= (λ front. counts_at s.points n front >>= (λ counts. triangles_at s n None counts.0.triangles counts.1 >>= (λ triangles. rays_at s n None counts.0.rays triangles.1 >>= (λ rays. pairs_at s n None counts.0.listed rays.1 >>= (λ listed. trees_at s n None counts.0.trees listed.1 >>= (λ trees.
    passed (eqb (length trees.1) 0) (faults.Trailing (n - length trees.1)) (record { sizes = s; triangles = triangles.0; rays = rays.0; listed = listed.0; trees = trees.0 }))))))) in
    ap F regrouped ∙ rw (front_again s small n (count_bytes counts ++ (ts ++ (rs ++ (ps ++ (ds ++ []))))), counts_again s.points n counts (ts ++ (rs ++ (ps ++ (ds ++ [])))) fit_counts, t, r, p, d) refl
  where
    in_parts : (f k t r p d : List ℕ) → f ++ k ++ t ++ r ++ p ++ d ≡ f ++ (k ++ (t ++ (r ++ (p ++ (d ++ [])))))
    in_parts f k t r p d = rw (append-nil d) (simp append_assoc)

pub spells_again : (sizes : Sizes) (bytes : List ℕ) (c : CertParts) → SpellsOne sizes bytes c → reading sizes bytes ≡ Ok c
spells_again sizes bytes c s =
    subst (λ (z : Sizes). reading z bytes ≡ Ok c) s.sized (subst (λ (b : List ℕ). reading c.sizes b ≡ Ok c) (sym s.spelled) (spelled_again c s.in_order s.fits))
