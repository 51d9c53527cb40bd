-- The two laws of the grammar of version 3: what is read is spelled so, and what is spelled so is read.
use Rattle.std.proofs.Common.{◌≡◌, ℕ, ◌+◌, ◌<◌, ◌≤◌, ◌^◌, List, [], ◌++◌, length, Some, None, Ok, refl, sym, ap, subst, ◌∙◌, append_assoc, arith, codes}
use Rattle.std.specs.List.{flat_map, AllByRecursion}
use Rattle.std.proofs.lemmas.Bool.{eqb-true}
use Rattle.std.proofs.lemmas.List.{append-nil, nil_from_length}
use Rattle.sight_names.specs.Limits.{most_triangles}
use Rattle.block_evidence.specs.declared.sight_tree.Node.{Node}
use Rattle.block_evidence.specs.SightTree.Spelling.{u16}
use Rattle.cert_format.specs.declared.cert.Sizes.{Sizes}
use Rattle.cert_format.specs.Grammar.{AreSmall, IsOneInOrder, FitsFields, u64, triangle_bytes, ray_bytes}
use Rattle.cert_format.specs.Reading.{triangle_at, ray_at}
use Rattle.cert_format.proofs.FieldLaws.{IsBytes, bind_ok, passed_ok, Takes, Takes-then}
use Rattle.cert_format.proofs.RecordLaws.{records_take, records_again, ascends_of_chain, chain_of_ascends}
use Rattle.cert_format.proofs.KindLaws.{FitsLabelled, TriangleAfter, triangle_takes, triangle_again, FitsPairRay, RayAfter, ray_takes, ray_again}
use Rattle.cert_format.proofs.CountLaws.{few_rays}
use Rattle.cert_format.proofs.LimitLaws.{small_of}
use Rattle.cert_format.proofs.WholeLaws.{above_carries, pair_carries, got_back, triangles_are, sectors_are, labelled_fit, ranges_of, rays_fit, pair_rays_fit}
use Rattle.cert_format.specs.CertGroups.Grammar.{IsGroupInOrder, IsTwoInOrder, grouped_sizes, group_bytes}
use Rattle.cert_format.specs.CertGroups.Reading.{group_at}
use Rattle.cert_format.proofs.CertGroups.GroupOrder.{GroupAfter, before_carries}
use Rattle.cert_format.proofs.CertGroups.GroupLaws.{sizes_take, sizes_again, group_takes, group_again}
use Rattle.certificates.specs.declared.cert_exact.cert.ExactParts.{ExactParts}
use Rattle.certificates.specs.declared.cert_exact.cert.CountsThree.{CountsThree}
use Rattle.certificates.specs.CertExact.Grammar.{trees_from, as_two, exact_header_bytes, nodes_bytes, length_bytes, spelling, SpellsThree}
use Rattle.certificates.specs.CertExact.Reading.{with_sectors, lengths_at, parts_at, exact_at}
use Rattle.certificates.proofs.CertExact.TreesLaws.{sizes_spelled, many_sizes, fit_sizes, lengths_take, lengths_again, trees_take, trees_again}
use Rattle.certificates.proofs.CertExact.HeaderLaws.{FitCounts, count_bytes, version_takes, version_again, counts_take, counts_again}
use Rattle.certificates.proofs.CertExact.GroupTrees.{tree_ranges, sources_ascend, trees_fit, nodes_fit, all_in_order}
use Rattle.cert_format.proofs.CertGroups.PartLaws.{none_ascend}

counts_same : (k : CountsThree) (a b c : ℕ) → k.groups ≡ a → k.triangles ≡ b → k.rays ≡ c → k ≡ record { groups = a; triangles = b; rays = c }
counts_same k a b c p q r = rw (← p, ← q, ← r) refl

no_more_than : (n m : ℕ) → n ≡ m → 0 + n ≤ m
no_more_than n m e = omega (arith, e)

pub exact_takes : (sizes : Sizes) (bytes : List ℕ) (c : ExactParts) → AreSmall sizes → IsBytes bytes → exact_at sizes bytes ≡ Ok c → SpellsThree sizes bytes c
unfolding parts_at spelling
exact_takes sizes bytes c small fits e =
    let n = length bytes in
    let v = bind_ok _ _ c e in
    let s = bind_ok _ _ c v.2 in
    let k = bind_ok _ _ c s.2 in
    let g = bind_ok _ _ c k.2 in
    let t = bind_ok _ _ c g.2 in
    let r = bind_ok _ _ c t.2 in
    let l = bind_ok _ _ c r.2 in
    let d = bind_ok _ _ c l.2 in
    let own : Sizes = with_sectors sizes k.0.0.groups in
    let groups : List (List ℕ) = g.0.0 in
    let trees : List (List Node) = d.0.0 in
    let made : ExactParts = record { sizes = sizes; groups = groups; triangles = t.0.0; rays = r.0.0; trees = trees } in
    let q = passed_ok _ _ made c d.2 in
    let tv = version_takes n bytes v.0 fits v.1 in
    let ts = sizes_take sizes n v.0 s.0 tv.rest_fits s.1 in
    let tk = counts_take sizes.points n s.0 k.0 ts.rest_fits k.1 in
    let tg = records_take (group_at sizes.sectors n) (λ x. Some x) group_bytes (IsGroupInOrder sizes.sectors) GroupAfter (group_takes sizes.sectors n) k.0.0.groups None k.0.1 g.0 tk.0.rest_fits g.1 in
    let tt' = records_take (triangle_at own n) (λ x. Some x) triangle_bytes (FitsLabelled own) TriangleAfter (triangle_takes own n) k.0.0.triangles None g.0.1 t.0 tg.takes.rest_fits t.1 in
    let tr = records_take (ray_at own n) (λ x. Some x) ray_bytes (FitsPairRay own) RayAfter (ray_takes own n) k.0.0.rays None t.0.1 r.0 tt'.takes.rest_fits r.1 in
    let tl = lengths_take n k.0.0.groups r.0.1 l.0 tr.takes.rest_fits l.1 in
    let td = trees_take n l.0.0 l.0.1 d.0 tl.takes.rest_fits d.1 in
    let counts : CountsThree = record { groups = length groups; triangles = length t.0.0; rays = length r.0.0 } in
    let same : k.0.0 ≡ counts = counts_same k.0.0 (length groups) (length t.0.0) (length r.0.0) (sym tg.count) (sym tt'.count) (sym tr.count) in
    let counted : Takes s.0 (count_bytes counts) k.0.1 = subst (λ (x : CountsThree). Takes s.0 (count_bytes x) k.0.1) same tk.0 in
    let measured : Takes r.0.1 (flat_map length_bytes trees) l.0.1 = subst (λ (b : List ℕ). Takes r.0.1 b l.0.1) (ap (λ (ls : List ℕ). flat_map u64 ls) (sym td.sizes) ∙ sizes_spelled trees) tl.takes in
    let h0 : List ℕ = codes "DSCT" ++ u16 3 in
    let h1 : List ℕ = u16 sizes.sectors ++ u16 sizes.points ++ u16 sizes.lines in
    let head : List ℕ = exact_header_bytes made in
    let e0 = Takes-then bytes h0 v.0 h1 s.0 tv ts in
    let e1 : Takes bytes head k.0.1 = Takes-then bytes (h0 ++ h1) s.0 (count_bytes counts) k.0.1 e0 counted in
    let e2 = Takes-then bytes head k.0.1 (flat_map group_bytes groups) g.0.1 e1 tg.takes in
    let e3 = Takes-then bytes (head ++ flat_map group_bytes groups) g.0.1 (flat_map triangle_bytes t.0.0) t.0.1 e2 tt'.takes in
    let e4 = Takes-then bytes (head ++ flat_map group_bytes groups ++ flat_map triangle_bytes t.0.0) t.0.1 (flat_map ray_bytes r.0.0) r.0.1 e3 tr.takes in
    let e5 = Takes-then bytes (head ++ flat_map group_bytes groups ++ flat_map triangle_bytes t.0.0 ++ flat_map ray_bytes r.0.0) r.0.1 (flat_map length_bytes trees) l.0.1 e4 measured in
    let e6 = Takes-then bytes (head ++ flat_map group_bytes groups ++ flat_map triangle_bytes t.0.0 ++ flat_map ray_bytes r.0.0 ++ flat_map length_bytes trees) l.0.1 (flat_map nodes_bytes trees) d.0.1 e5 td.takes in
    let nothing : d.0.1 ≡ [] = nil_from_length d.0.1 (eqb-true _ _ q.0) in
    let whole : bytes ≡ spelling made = e6.parts ∙ ap (λ (x : List ℕ). spelling made ++ x) nothing ∙ append-nil (spelling made) in
    let above = ascends_of_chain (triangle_at own n) (λ x. Some x) triangle_bytes (FitsLabelled own) TriangleAfter (λ x y z. above_carries x.triangle y.triangle z.triangle) None t.0.0 tt'.chain in
    let as_many : length trees ≡ k.0.0.groups = sym (many_sizes trees) ∙ ap length td.sizes ∙ tl.count in
    let grouped : own ≡ grouped_sizes sizes groups = ap (λ (j : ℕ). with_sectors sizes j) (sym tg.count) in
    let own_in_order : IsOneInOrder (record { sizes = own; triangles = t.0.0; rays = r.0.0; listed = []; trees = trees_from 0 trees }) = record {
      few = subst (λ (j : ℕ). j ≤ most_triangles sizes.points) (sym tt'.count) tk.1.triangles;
      triangles = triangles_are own t.0.0 tt'.fit above;
      sectors = sectors_are own t.0.0 tt'.fit;
      rays = ranges_of own r.0.0 tr.fit;
      rays_ascend = ascends_of_chain (ray_at own n) (λ x. Some x) ray_bytes (FitsPairRay own) RayAfter (λ x y z. pair_carries x.pair y.pair z.pair) None r.0.0 tr.chain;
      listed = tt;
      listed_ascend = none_ascend;
      trees = tree_ranges own 0 trees (no_more_than (length trees) k.0.0.groups as_many) td.fit;
      trees_ascend = sources_ascend 0 trees;
    } in
    let few : length groups ≤ most_triangles sizes.points = subst (λ (j : ℕ). j ≤ most_triangles sizes.points) (sym tg.count) tk.1.groups in
    let in_order : IsTwoInOrder sizes (as_two made) = record {
      few = few;
      groups = tg.fit;
      groups_ascend = ascends_of_chain (group_at sizes.sectors n) (λ x. Some x) group_bytes (IsGroupInOrder sizes.sectors) GroupAfter before_carries None groups tg.chain;
      grouped = refl;
      in_order = subst (λ (z : Sizes). IsOneInOrder (record { sizes = z; triangles = t.0.0; rays = r.0.0; listed = []; trees = trees_from 0 trees })) grouped own_in_order;
      no_pairs = refl;
      listed = tt;
      listed_ascend = none_ascend;
    } in
    let short = fit_sizes trees (subst (λ (ls : List ℕ). AllByRecursion (λ m. m < 2 ^ 64) ls) (sym td.sizes) tl.fit) in
    subst (λ (x : ExactParts). SpellsThree sizes bytes x) {x = made} q.1 (record {
      sized = refl;
      in_order = in_order;
      one_each = as_many ∙ sym tg.count;
      fits = record { sectors = small_of sizes.points (length groups) few; points = small.points; lines = small.lines; rays = rays_fit own r.0.0 tr.fit; trees = trees_fit 0 trees short (nodes_fit trees td.fit) };
      sectors = small.sectors;
      lengths = short;
      spelled = whole;
    })

parts_again : (total : ℕ) (c : ExactParts) → AreSmall c.sizes → IsTwoInOrder c.sizes (as_two c) → length c.trees ≡ length c.groups → FitsFields (as_two c).cert → AllByRecursion (λ ns. length (nodes_bytes ns) < 2 ^ 64) c.trees → parts_at c.sizes total (spelling c) ≡ Ok c
unfolding parts_at spelling
parts_again total c small is one_each fits short =
    let s = grouped_sizes c.sizes c.groups in
    let inner : IsOneInOrder (as_two c).cert = is.in_order in
    let many : s.sectors < 2 ^ 16 = small_of c.sizes.points (length c.groups) is.few in
    let counts : CountsThree = record { groups = length c.groups; triangles = length c.triangles; rays = length c.rays } in
    let fit_counts : FitCounts c.sizes.points counts = record { groups = is.few; triangles = inner.few; rays = few_rays s c.rays many inner.rays inner.rays_ascend } in
    let sb = u16 c.sizes.sectors ++ u16 c.sizes.points ++ u16 c.sizes.lines in
    let gs = flat_map group_bytes c.groups in
    let ts = flat_map triangle_bytes c.triangles in
    let rs = flat_map ray_bytes c.rays in
    let ls = flat_map length_bytes c.trees in
    let ds = flat_map nodes_bytes c.trees in
    let regrouped : spelling c ≡ codes "DSCT" ++ (u16 3 ++ (sb ++ (count_bytes counts ++ (gs ++ (ts ++ (rs ++ (ls ++ (ds ++ [])))))))) = in_parts (exact_header_bytes c) gs ts rs ls ds in
    let each = labelled_fit s c.triangles (λ k l h. inner.triangles.each k l.triangle (got_back c.triangles k l h)) inner.sectors in
    let rays = pair_rays_fit s c.rays inner.rays fits.rays in
    let trees = all_in_order s 0 c.trees inner.trees fits.trees in
    let g = records_again (group_at c.sizes.sectors total) (λ x. Some x) group_bytes (IsGroupInOrder c.sizes.sectors) GroupAfter (group_again c.sizes.sectors small.sectors total) None c.groups (ts ++ (rs ++ (ls ++ (ds ++ [])))) is.groups
    (chain_of_ascends (group_at c.sizes.sectors total) (λ x. Some x) group_bytes (IsGroupInOrder c.sizes.sectors) GroupAfter None c.groups (λ x. tt) is.groups_ascend) in
    let t = records_again (triangle_at s total) (λ x. Some x) triangle_bytes (FitsLabelled s) TriangleAfter (triangle_again s small.points many total) None c.triangles (rs ++ (ls ++ (ds ++ []))) each
    (chain_of_ascends (triangle_at s total) (λ x. Some x) triangle_bytes (FitsLabelled s) TriangleAfter None c.triangles (λ x. tt) (λ i j x y lt h g. inner.triangles.ascend i j x.triangle y.triangle lt (got_back c.triangles i x h) (got_back c.triangles j y g))) in
    let r = records_again (ray_at s total) (λ x. Some x) ray_bytes (FitsPairRay s) RayAfter (ray_again s many total) None c.rays (ls ++ (ds ++ [])) rays
    (chain_of_ascends (ray_at s total) (λ x. Some x) ray_bytes (FitsPairRay s) RayAfter None c.rays (λ x. tt) inner.rays_ascend) in
    let l = ap (λ (j : ℕ). lengths_at total j (ls ++ (ds ++ []))) (sym one_each) ∙ lengths_again total c.trees (ds ++ []) short in
    let d = trees_again total c.trees [] trees in
    ap (parts_at c.sizes total) regrouped
    ∙ rw (
      version_again total (sb ++ (count_bytes counts ++ (gs ++ (ts ++ (rs ++ (ls ++ (ds ++ []))))))),
      sizes_again c.sizes small total (count_bytes counts ++ (gs ++ (ts ++ (rs ++ (ls ++ (ds ++ [])))))),
      counts_again c.sizes.points total counts (gs ++ (ts ++ (rs ++ (ls ++ (ds ++ []))))) fit_counts,
      g,
      t,
      r,
      l,
      d,
    ) refl
  where
    in_parts : (h g t r l d : List ℕ) → h ++ g ++ t ++ r ++ l ++ d ≡ h ++ (g ++ (t ++ (r ++ (l ++ (d ++ [])))))
    in_parts h g t r l d = rw (append-nil d) (simp append_assoc)

pub exact_again : (sizes : Sizes) (bytes : List ℕ) (c : ExactParts) → SpellsThree sizes bytes c → exact_at sizes bytes ≡ Ok c
exact_again sizes bytes c s =
    let is : IsTwoInOrder c.sizes (as_two c) = subst (λ (z : Sizes). IsTwoInOrder z (as_two c)) (sym s.sized) s.in_order in
    let small : AreSmall c.sizes = record { sectors = subst (λ (z : Sizes). z.sectors < 2 ^ 16) (sym s.sized) s.sectors; points = s.fits.points; lines = s.fits.lines } in
    let here : exact_at c.sizes (spelling c) ≡ Ok c = parts_again (length (spelling c)) c small is s.one_each s.fits s.lengths in
    subst (λ (z : Sizes). exact_at z bytes ≡ Ok c) s.sized (subst (λ (b : List ℕ). exact_at c.sizes b ≡ Ok c) (sym s.spelled) here)

-- ---- what the call answers
