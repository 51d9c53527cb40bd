-- What the bytes behind the version 2 spell: the parts that are read are spelled so and in order, and parts in order are
-- read again.
use Rattle.std.proofs.Common.{◌≡◌, ℕ, ◌<◌, ◌≤◌, ◌^◌, List, [], ◌++◌, length, Some, None, Ok, refl, sym, ap, subst, ◌∙◌, append_assoc}
use Rattle.std.specs.List.{flat_map}
use Rattle.std.proofs.lemmas.Bool.{eqb-true}
use Rattle.std.proofs.lemmas.List.{append-nil, nil_from_length}
use Rattle.sight_names.specs.Limits.{most_triangles}
use Rattle.sight_names.specs.declared.names.Pair.{Pair}
use Rattle.block_evidence.specs.SightTree.Spelling.{u16}
use Rattle.cert_format.specs.declared.cert.Sizes.{Sizes}
use Rattle.cert_format.specs.Parts.{CertParts}
use Rattle.cert_format.specs.Grammar.{AreSmall, IsOneInOrder, IsPairInRange, FitsFields, triangle_bytes, ray_bytes, pair_bytes, tree_bytes}
use Rattle.cert_format.specs.Grammar as fields
use Rattle.sight_names.specs.Order.{Ascends, PairBefore}
use Rattle.cert_format.specs.Reading.{RecordCounts, triangle_at, ray_at, pair_at, tree_at}
use Rattle.cert_format.proofs.FieldLaws.{IsBytes, bind_ok, passed_ok, Takes, Takes-then}
use Rattle.cert_format.proofs.RecordLaws.{records_take, records_again, ascends_of_chain, chain_of_ascends}
use Rattle.cert_format.proofs.KindLaws.{FitsLabelled, TriangleAfter, triangle_takes, triangle_again, PairAfter, pair_takes, pair_again, FitsPairRay, RayAfter, ray_takes, ray_again}
use Rattle.cert_format.proofs.TreeLaws.{FitsTree, TreeAfter, tree_takes, tree_again}
use Rattle.cert_format.proofs.CountLaws.{few_pairs, few_rays, few_trees}
use Rattle.cert_format.proofs.LimitLaws.{small_of}
use Rattle.cert_format.proofs.WholeLaws.{FitCounts, count_bytes, counts_again, above_carries, pair_carries, source_carries, got_back, triangles_are, sectors_are, labelled_fit, ranges_of, rays_fit, pair_rays_fit, tree_ranges, fields_fit, trees_fit}
use Rattle.cert_format.specs.declared.cert_groups.cert.CertTwo.{CertTwo}
use Rattle.cert_format.specs.CertGroups.Grammar.{IsGroupInOrder, IsTwoInOrder, grouped_sizes, group_bytes}
use Rattle.cert_format.specs.CertGroups.Reading.{PartsTwo, front_two_at, group_at, parts_at, cert_two_of}
use Rattle.cert_format.proofs.CertGroups.GroupOrder.{GroupAfter}
use Rattle.cert_format.proofs.CertGroups.FrontLaws.{counts_in, head_bytes, front_takes}
use Rattle.cert_format.proofs.CertGroups.GroupLaws.{sizes_again, group_count_again, group_again}

-- the spelling without its first two fields
abbrev pub tail_bytes : Sizes → CertTwo → List ℕ
tail_bytes sizes c = u16 sizes.sectors ++ u16 sizes.points ++ u16 sizes.lines ++ u16 (length c.groups) ++ fields.count_bytes (length c.cert.triangles) (length c.cert.rays) (length c.listed) (length c.cert.trees)
    ++ flat_map group_bytes c.groups ++ flat_map triangle_bytes c.cert.triangles ++ flat_map ray_bytes c.cert.rays ++ flat_map pair_bytes c.listed ++ flat_map tree_bytes c.cert.trees

pub record AreSpelledParts (sizes : Sizes) (bytes : List ℕ) (c : CertTwo) : Type 0 where
  pub in_order : IsTwoInOrder sizes c
  pub fits : FitsFields c.cert
  pub spelled : bytes ≡ tail_bytes sizes c

pub none_ascend : Ascends PairBefore []
none_ascend i j x y lt h g = absurd cc

counts_same : (k : RecordCounts) (a b c d : ℕ) → k.triangles ≡ a → k.rays ≡ b → k.listed ≡ c → k.trees ≡ d → k ≡ record { triangles = a; rays = b; listed = c; trees = d }
counts_same k a b c d p q r s = rw (← p, ← q, ← r, ← s) refl

pub parts_take : (sizes : Sizes) (total : ℕ) (bytes : List ℕ) (p : PartsTwo) → AreSmall sizes → IsBytes bytes → parts_at sizes total bytes ≡ Ok p → AreSpelledParts sizes bytes (cert_two_of p)
unfolding parts_at
parts_take sizes total bytes p small fits e =
    let f = bind_ok _ _ p e in
    let t = bind_ok _ _ p f.2 in
    let r = bind_ok _ _ p t.2 in
    let l = bind_ok _ _ p r.2 in
    let d = bind_ok _ _ p l.2 in
    let own : Sizes = f.0.0.sizes in
    let groups : List (List ℕ) = f.0.0.groups in
    let made : PartsTwo = record { sizes = own; groups = groups; triangles = t.0.0; rays = r.0.0; listed = l.0.0; trees = d.0.0 } in
    let q = passed_ok _ _ made p d.2 in
    let tf = front_takes sizes total bytes f.0 fits f.1 in
    let tt' = records_take (triangle_at own total) (λ x. Some x) triangle_bytes (FitsLabelled own) TriangleAfter (triangle_takes own total) f.0.0.counts.triangles None f.0.1 t.0 tf.takes.rest_fits t.1 in
    let tr = records_take (ray_at own total) (λ x. Some x) ray_bytes (FitsPairRay own) RayAfter (ray_takes own total) f.0.0.counts.rays None t.0.1 r.0 tt'.takes.rest_fits r.1 in
    let tl = records_take (pair_at sizes total) (λ x. Some x) pair_bytes (IsPairInRange sizes) PairAfter (pair_takes sizes total) f.0.0.counts.listed None r.0.1 l.0 tr.takes.rest_fits l.1 in
    let td = records_take (tree_at own total) (λ x. Some x.source) tree_bytes (FitsTree own) TreeAfter (tree_takes own total) f.0.0.counts.trees None l.0.1 d.0 tl.takes.rest_fits d.1 in
    let counts : RecordCounts = record { triangles = length t.0.0; rays = length r.0.0; listed = length l.0.0; trees = length d.0.0 } in
    let same : counts_in f.0.0 ≡ counts = counts_same (counts_in f.0.0) (length t.0.0) (length r.0.0) (length l.0.0) (length d.0.0) (sym tt'.count) (sym tr.count) (sym tl.count) (sym td.count) in
    let front : List ℕ = head_bytes sizes groups ++ count_bytes counts ++ flat_map group_bytes groups in
    let e2 : Takes bytes front f.0.1 = subst (λ (x : RecordCounts). Takes bytes (head_bytes sizes groups ++ count_bytes x ++ flat_map group_bytes groups) f.0.1) same tf.takes in
    let e3 = Takes-then bytes front f.0.1 (flat_map triangle_bytes t.0.0) t.0.1 e2 tt'.takes in
    let e4 = Takes-then bytes (front ++ flat_map triangle_bytes t.0.0) t.0.1 (flat_map ray_bytes r.0.0) r.0.1 e3 tr.takes in
    let e5 = Takes-then bytes (front ++ flat_map triangle_bytes t.0.0 ++ flat_map ray_bytes r.0.0) r.0.1 (flat_map pair_bytes l.0.0) l.0.1 e4 tl.takes in
    let e6 = Takes-then bytes (front ++ flat_map triangle_bytes t.0.0 ++ flat_map ray_bytes r.0.0 ++ flat_map pair_bytes l.0.0) l.0.1 (flat_map tree_bytes d.0.0) d.0.1 e5 td.takes in
    let nothing : d.0.1 ≡ [] = nil_from_length d.0.1 (eqb-true _ _ q.0) in
    let whole : bytes ≡ tail_bytes sizes (cert_two_of made) = e6.parts ∙ ap (λ (x : List ℕ). tail_bytes sizes (cert_two_of made) ++ x) nothing ∙ append-nil (tail_bytes sizes (cert_two_of made)) in
    let above = ascends_of_chain (triangle_at own total) (λ x. Some x) triangle_bytes (FitsLabelled own) TriangleAfter (λ x y z. above_carries x.triangle y.triangle z.triangle) None t.0.0 tt'.chain in
    let cert_in_order : IsOneInOrder (cert_two_of made).cert = record {
      few = subst (λ (z : Sizes). length t.0.0 ≤ most_triangles z.points) (sym tf.own) (subst (λ (n : ℕ). n ≤ most_triangles sizes.points) (sym tt'.count) tf.counts.triangles);
      triangles = triangles_are own t.0.0 tt'.fit above;
      sectors = sectors_are own t.0.0 tt'.fit;
      rays = ranges_of own r.0.0 tr.fit;
      rays_ascend = ascends_of_chain (ray_at own total) (λ x. Some x) ray_bytes (FitsPairRay own) RayAfter (λ x y z. pair_carries x.pair y.pair z.pair) None r.0.0 tr.chain;
      listed = tt;
      listed_ascend = none_ascend;
      trees = tree_ranges own d.0.0 td.fit;
      trees_ascend = ascends_of_chain (tree_at own total) (λ x. Some x.source) tree_bytes (FitsTree own) TreeAfter source_carries None d.0.0 td.chain;
    } in
    let in_order : IsTwoInOrder sizes (cert_two_of made) = record {
      few = tf.in_order.few;
      groups = tf.in_order.each;
      groups_ascend = tf.in_order.ascend;
      grouped = tf.own;
      in_order = cert_in_order;
      no_pairs = refl;
      listed = tl.fit;
      listed_ascend = ascends_of_chain (pair_at sizes total) (λ x. Some x) pair_bytes (IsPairInRange sizes) PairAfter pair_carries None l.0.0 tl.chain;
    } in
    let small_own : AreSmall (grouped_sizes sizes groups) = record { sectors = small_of sizes.points (length groups) tf.in_order.few; points = small.points; lines = small.lines } in
    let fits_own : AreSmall own = subst AreSmall (sym tf.own) small_own in
    subst (λ (x : PartsTwo). AreSpelledParts sizes bytes (cert_two_of x)) {x = made} q.1 (record {
      in_order = in_order;
      fits = record { sectors = fits_own.sectors; points = fits_own.points; lines = fits_own.lines; rays = rays_fit own r.0.0 tr.fit; trees = fields_fit own d.0.0 td.fit };
      spelled = whole;
    })

-- the parts of a certificate, with the groups as sectors
abbrev pub parts_of : Sizes → CertTwo → PartsTwo
parts_of sizes c = record { sizes = grouped_sizes sizes c.groups; groups = c.groups; triangles = c.cert.triangles; rays = c.cert.rays; listed = c.listed; trees = c.cert.trees }

pub cert_of_parts : (sizes : Sizes) (c : CertTwo) → IsTwoInOrder sizes c → cert_two_of (parts_of sizes c) ≡ c
cert_of_parts sizes c is = ap with_sizes (sym is.grouped) ∙ sym (ap with_pairs is.no_pairs)
  where
    with_sizes : Sizes → CertTwo
    with_sizes s = record { groups = c.groups; cert = record { sizes = s; triangles = c.cert.triangles; rays = c.cert.rays; listed = []; trees = c.cert.trees }; listed = c.listed }

    with_pairs : List Pair → CertTwo
    with_pairs ps = record { groups = c.groups; cert = record { sizes = c.cert.sizes; triangles = c.cert.triangles; rays = c.cert.rays; listed = ps; trees = c.cert.trees }; listed = c.listed }

pub parts_again : (sizes : Sizes) (total : ℕ) (c : CertTwo) → AreSmall sizes → IsTwoInOrder sizes c → FitsFields c.cert → parts_at sizes total (tail_bytes sizes c) ≡ Ok (parts_of sizes c)
unfolding parts_at front_two_at
parts_again sizes total c small is fits =
    let s = grouped_sizes sizes c.groups in
    let own : CertParts = record { sizes = s; triangles = c.cert.triangles; rays = c.cert.rays; listed = c.cert.listed; trees = c.cert.trees } in
    let inner : IsOneInOrder own = subst (λ (z : Sizes). IsOneInOrder (record { sizes = z; triangles = c.cert.triangles; rays = c.cert.rays; listed = c.cert.listed; trees = c.cert.trees })) is.grouped is.in_order in
    let many : s.sectors < 2 ^ 16 = small_of sizes.points (length c.groups) is.few in
    let counts : RecordCounts = record { triangles = length c.cert.triangles; rays = length c.cert.rays; listed = length c.listed; trees = length c.cert.trees } in
    let fit_counts : FitCounts sizes.points counts = record { triangles = inner.few; rays = few_rays s c.cert.rays many inner.rays inner.rays_ascend; listed = few_pairs sizes c.listed small.sectors is.listed is.listed_ascend; trees = few_trees s c.cert.trees many inner.trees inner.trees_ascend } in
    let sb = u16 sizes.sectors ++ u16 sizes.points ++ u16 sizes.lines in
    let gs = flat_map group_bytes c.groups in
    let ts = flat_map triangle_bytes c.cert.triangles in
    let rs = flat_map ray_bytes c.cert.rays in
    let ps = flat_map pair_bytes c.listed in
    let ds = flat_map tree_bytes c.cert.trees in
    let regrouped : tail_bytes sizes c ≡ sb ++ (u16 (length c.groups) ++ (count_bytes counts ++ (gs ++ (ts ++ (rs ++ (ps ++ (ds ++ []))))))) = in_parts sb (u16 (length c.groups)) (count_bytes counts) gs ts rs ps ds in
    let each = labelled_fit s c.cert.triangles (λ k l h. inner.triangles.each k l.triangle (got_back c.cert.triangles k l h)) inner.sectors in
    let rays = pair_rays_fit s c.cert.rays inner.rays fits.rays in
    let trees = trees_fit s c.cert.trees inner.trees fits.trees in
    let g = records_again (group_at sizes.sectors total) (λ x. Some x) group_bytes (IsGroupInOrder sizes.sectors) GroupAfter (group_again sizes.sectors small.sectors total) None c.groups (ts ++ (rs ++ (ps ++ (ds ++ [])))) is.groups
    (chain_of_ascends (group_at sizes.sectors total) (λ x. Some x) group_bytes (IsGroupInOrder sizes.sectors) GroupAfter None c.groups (λ x. tt) is.groups_ascend) in
    let t = records_again (triangle_at s total) (λ x. Some x) triangle_bytes (FitsLabelled s) TriangleAfter (triangle_again s small.points many total) None c.cert.triangles (rs ++ (ps ++ (ds ++ []))) each
    (chain_of_ascends (triangle_at s total) (λ x. Some x) triangle_bytes (FitsLabelled s) TriangleAfter None c.cert.triangles (λ x. tt) (λ i j x y lt h g. inner.triangles.ascend i j x.triangle y.triangle lt (got_back c.cert.triangles i x h) (got_back c.cert.triangles j y g))) in
    let r = records_again (ray_at s total) (λ x. Some x) ray_bytes (FitsPairRay s) RayAfter (ray_again s many total) None c.cert.rays (ps ++ (ds ++ [])) rays
    (chain_of_ascends (ray_at s total) (λ x. Some x) ray_bytes (FitsPairRay s) RayAfter None c.cert.rays (λ x. tt) inner.rays_ascend) in
    let p = records_again (pair_at sizes total) (λ x. Some x) pair_bytes (IsPairInRange sizes) PairAfter (pair_again sizes small.sectors total) None c.listed (ds ++ []) is.listed
    (chain_of_ascends (pair_at sizes total) (λ x. Some x) pair_bytes (IsPairInRange sizes) PairAfter None c.listed (λ x. tt) is.listed_ascend) in
    let d = records_again (tree_at s total) (λ x. Some x.source) tree_bytes (FitsTree s) TreeAfter (tree_again s many total) None c.cert.trees [] trees
    (chain_of_ascends (tree_at s total) (λ x. Some x.source) tree_bytes (FitsTree s) TreeAfter None c.cert.trees (λ x. tt) inner.trees_ascend) in
    ap (parts_at sizes total) regrouped
    ∙ rw (
      sizes_again sizes small total (u16 (length c.groups) ++ (count_bytes counts ++ (gs ++ (ts ++ (rs ++ (ps ++ (ds ++ []))))))),
      group_count_again sizes.points total (length c.groups) (count_bytes counts ++ (gs ++ (ts ++ (rs ++ (ps ++ (ds ++ [])))))) is.few,
      counts_again sizes.points total counts (gs ++ (ts ++ (rs ++ (ps ++ (ds ++ []))))) fit_counts,
      g,
      t,
      r,
      p,
      d,
    ) refl
  where
    in_parts : (f n k g t r p d : List ℕ) → f ++ n ++ k ++ g ++ t ++ r ++ p ++ d ≡ f ++ (n ++ (k ++ (g ++ (t ++ (r ++ (p ++ (d ++ [])))))))
    in_parts f n k g t r p d = rw (append-nil d) (simp append_assoc)
