-- The fields of version 2 and its groups: what is read is spelled so and in order, and what is spelled so is read.
use Rattle.std.proofs.Common.{◌≡◌, ◌≢◌, ℕ, ◌<◌, ◌≤◌, ◌^◌, ◌⊎◌, inl, inr, true, ◌==◌, ◌||◌, List, [], ◌∷◌, ◌++◌, length, Option, Some, None, Ok, refl, sym, ap, subst, ◌∙◌, append_assoc, arith, codes}
use Rattle.std.specs.List.{flat_map, AllByRecursion}
use Rattle.std.specs.Int.{w16, w32}
use Rattle.std.proofs.lemmas.Bool.{ltb-false, le-ltb, eqb-true, eqb-false, ne_eqb, not-true, or_cases}
use Rattle.std.proofs.lemmas.List.{nil_from_length}
use Rattle.block_evidence.specs.SightTree.Spelling.{u16}
use Rattle.cert_format.specs.declared.cert.Sizes.{Sizes}
use Rattle.cert_format.specs.Grammar.{AreSmall, u32}
use Rattle.cert_format.specs.Reading.{cert_magic, magic_at}
use Rattle.cert_format.proofs.FieldLaws.{IsBytes, bind_ok, passed_ok, Takes, Takes-then, wide16, wide32, number_takes, number_again, below_takes, below_again, known_takes, known_again}
use Rattle.cert_format.proofs.RecordLaws.{records_take, records_again, ascends_of_chain, chain_of_ascends}
use Rattle.cert_format.proofs.TreeLaws.{NumberAfter, number_after_is, number_after_test}
use Rattle.cert_format.proofs.CountLaws.{few_codes}
use Rattle.cert_format.proofs.LimitLaws.{small_of}
use Rattle.cert_format.specs.CertGroups.Grammar.{IsGroupInOrder, group_bytes}
use Rattle.cert_format.specs.CertGroups.Reading.{version_at, group_count_at, size_at, sector_at, sizes_at, group_at}
use Rattle.cert_format.proofs.CertGroups.GroupOrder.{GroupAfter, group_after_is, group_after_test}
use Rattle.sight_names.specs.Limits.{most_triangles}

-- ---- the header

pub version_takes : (total : ℕ) (bytes : List ℕ) (x : ℕ × List ℕ) → IsBytes bytes → version_at total bytes ≡ Ok x → Takes bytes (codes "DSCT" ++ u16 x.0) x.1 × ((x.0 ≡ 1) ⊎ (x.0 ≡ 2))
unfolding version_at magic_at
version_takes total bytes x fits e =
    let m = bind_ok _ _ x e in
    let v = bind_ok _ _ x m.2 in
    let m' = bind_ok _ _ m.0 m.1 in
    let mg = passed_ok _ _ m'.0.1 m.0 m'.2 in
    let vg = passed_ok _ _ v.0 x v.2 in
    let tm = number_takes w32 (2 ^ 32) wide32 total bytes m'.0 fits m'.1 in
    let tm' : Takes bytes (codes "DSCT") m.0 = subst (λ (r : List ℕ). Takes bytes (codes "DSCT") r) {x = m'.0.1} mg.1 (subst (λ (k : ℕ). Takes bytes (u32 k) m'.0.1) {x = m'.0.0} (eqb-true _ _ mg.0) tm.0) in
    let tv = number_takes w16 (2 ^ 16) wide16 total m.0 v.0 tm'.rest_fits v.1 in
    let which : (v.0.0 ≡ 1) ⊎ (v.0.0 ≡ 2) = elim (or_cases _ _ vg.0) [ inl h ↦ inl (eqb-true _ _ h) | inr h ↦ inr (eqb-true _ _ h) ] in
    subst (λ (y : ℕ × List ℕ). Takes bytes (codes "DSCT" ++ u16 y.0) y.1 × ((y.0 ≡ 1) ⊎ (y.0 ≡ 2))) {x = v.0} vg.1
    (Takes-then bytes (codes "DSCT") m.0 (u16 v.0.0) v.0.1 tm' tv.0, which)

pub version_again : (total n : ℕ) (rest : List ℕ) → n < 2 ^ 16 → (n == 1 || n == 2) ≡ true → version_at total (codes "DSCT" ++ (u16 n ++ rest)) ≡ Ok (n, rest)
unfolding version_at magic_at
version_again total n rest lt h =
    rw (
      number_again w32 (2 ^ 32) wide32 total cert_magic (u16 n ++ rest) (omega arith),
      number_again w16 (2 ^ 16) wide16 total n rest lt,
      h,
    ) refl

pub sizes_take : (sizes : Sizes) (total : ℕ) (bytes rest : List ℕ) → IsBytes bytes → sizes_at sizes total bytes ≡ Ok rest → Takes bytes (u16 sizes.sectors ++ u16 sizes.points ++ u16 sizes.lines) rest
unfolding sizes_at
sizes_take sizes total bytes rest fits e =
    let a = bind_ok _ _ rest e in
    let b = bind_ok _ _ rest a.2 in
    let ta = known_takes sizes.sectors total bytes a.0 fits a.1 in
    let tb = known_takes sizes.points total a.0 b.0 ta.rest_fits b.1 in
    let tc = known_takes sizes.lines total b.0 rest tb.rest_fits b.2 in
    Takes-then bytes (u16 sizes.sectors ++ u16 sizes.points) b.0 (u16 sizes.lines) rest (Takes-then bytes (u16 sizes.sectors) a.0 (u16 sizes.points) b.0 ta tb) tc

pub sizes_again : (sizes : Sizes) → AreSmall sizes → (total : ℕ) (rest : List ℕ) → sizes_at sizes total ((u16 sizes.sectors ++ u16 sizes.points ++ u16 sizes.lines) ++ rest) ≡ Ok rest
unfolding sizes_at
sizes_again sizes small total rest =
    rw (
      known_again sizes.sectors total (u16 sizes.points ++ (u16 sizes.lines ++ rest)) small.sectors,
      known_again sizes.points total (u16 sizes.lines ++ rest) small.points,
    ) (known_again sizes.lines total rest small.lines)

pub group_count_takes : (points total : ℕ) (bytes : List ℕ) (x : ℕ × List ℕ) → IsBytes bytes → group_count_at points total bytes ≡ Ok x → Takes bytes (u16 x.0) x.1 × (x.0 ≤ most_triangles points)
unfolding group_count_at
group_count_takes points total bytes x fits e =
    let a = bind_ok _ _ x e in
    let g = passed_ok _ _ a.0 x a.2 in
    let t = number_takes w16 (2 ^ 16) wide16 total bytes a.0 fits a.1 in
    subst (λ (y : ℕ × List ℕ). Takes bytes (u16 y.0) y.1 × (y.0 ≤ most_triangles points)) {x = a.0} g.1 (t.0, ltb-false _ _ (not-true _ g.0))

pub group_count_again : (points total n : ℕ) (rest : List ℕ) → n ≤ most_triangles points → group_count_at points total (u16 n ++ rest) ≡ Ok (n, rest)
unfolding group_count_at
group_count_again points total n rest few = rw (number_again w16 (2 ^ 16) wide16 total n rest (small_of points n few), le-ltb _ _ few) refl

-- ---- groups

size_takes : (total : ℕ) (bytes : List ℕ) (x : ℕ × List ℕ) → IsBytes bytes → size_at total bytes ≡ Ok x → Takes bytes (u16 x.0) x.1 × (x.0 ≢ 0)
unfolding size_at
size_takes total bytes x fits e =
    let a = bind_ok _ _ x e in
    let g = passed_ok _ _ a.0 x a.2 in
    let t = number_takes w16 (2 ^ 16) wide16 total bytes a.0 fits a.1 in
    subst (λ (y : ℕ × List ℕ). Takes bytes (u16 y.0) y.1 × (y.0 ≢ 0)) {x = a.0} g.1 (t.0, eqb-false _ _ (not-true _ g.0))

size_again : (total n : ℕ) (rest : List ℕ) → n < 2 ^ 16 → n ≢ 0 → size_at total (u16 n ++ rest) ≡ Ok (n, rest)
unfolding size_at
size_again total n rest lt some = rw (number_again w16 (2 ^ 16) wide16 total n rest lt, ne_eqb _ _ some) refl

sector_takes : (sectors total : ℕ) (k : Option ℕ) (bytes : List ℕ) (x : ℕ × List ℕ) → IsBytes bytes → sector_at sectors total k bytes ≡ Ok x → Takes bytes (u16 x.0) x.1 × (x.0 < sectors) × NumberAfter k x.0
unfolding sector_at
sector_takes sectors total k bytes x fits e =
    let a = bind_ok _ _ x e in
    let g = passed_ok _ _ a.0 x a.2 in
    let t = below_takes sectors total bytes a.0 fits a.1 in
    subst (λ (y : ℕ × List ℕ). Takes bytes (u16 y.0) y.1 × (y.0 < sectors) × NumberAfter k y.0) {x = a.0} g.1 (t.0, t.1, number_after_is k a.0.0 g.0)

sector_again : (sectors : ℕ) → sectors < 2 ^ 16 → (total : ℕ) (k : Option ℕ) (n : ℕ) (rest : List ℕ) → n < sectors → NumberAfter k n → sector_at sectors total k (u16 n ++ rest) ≡ Ok (n, rest)
unfolding sector_at
sector_again sectors small total k n rest lt after = rw (below_again sectors total n rest small lt, number_after_test k n after) refl

numbers_carry : (x y z : ℕ) → x < y → y < z → x < z
numbers_carry x y z h g = omega (arith, h, g)

pub group_takes : (sectors total : ℕ) (k : Option (List ℕ)) (bytes : List ℕ) (x : List ℕ × List ℕ) → IsBytes bytes → group_at sectors total k bytes ≡ Ok x → Takes bytes (group_bytes x.0) x.1 × IsGroupInOrder sectors x.0 × GroupAfter k x.0
unfolding group_at
group_takes sectors total k bytes x fits e =
    let n = bind_ok _ _ x e in
    let g = bind_ok _ _ x n.2 in
    let p = passed_ok _ _ g.0 x g.2 in
    let t0 = size_takes total bytes n.0 fits n.1 in
    let t1 = records_take (sector_at sectors total) (λ a. Some a) u16 (λ a. a < sectors) NumberAfter (sector_takes sectors total) n.0.0 None n.0.1 g.0 t0.0.rest_fits g.1 in
    let counted : Takes bytes (u16 (length g.0.0)) n.0.1 = subst (λ (j : ℕ). Takes bytes (u16 j) n.0.1) (sym t1.count) t0.0 in
    let both = Takes-then bytes (u16 (length g.0.0)) n.0.1 (flat_map u16 g.0.0) g.0.1 counted t1.takes in
    let in_order : IsGroupInOrder sectors g.0.0 = record {
      some = λ e. t0.1 (sym t1.count ∙ ap length e);
      below = t1.fit;
      ascend = ascends_of_chain (sector_at sectors total) (λ a. Some a) u16 (λ a. a < sectors) NumberAfter numbers_carry None g.0.0 t1.chain;
    } in
    subst (λ (y : List ℕ × List ℕ). Takes bytes (group_bytes y.0) y.1 × IsGroupInOrder sectors y.0 × GroupAfter k y.0) {x = g.0} p.1 (both, in_order, group_after_is k g.0.0 p.0)

-- a group has no more sectors than there are
pub few_sectors : (sectors : ℕ) (g : List ℕ) → IsGroupInOrder sectors g → length g ≤ sectors
few_sectors sectors g is = few_codes (λ (a : ℕ). a) sectors g is.below is.ascend

pub short_groups : (sectors : ℕ) (gs : List (List ℕ)) → sectors < 2 ^ 16 → AllByRecursion (IsGroupInOrder sectors) gs → AllByRecursion (λ (g : List ℕ). length g < 2 ^ 16) gs
short_groups sectors [] small h = tt
short_groups sectors (g ∷ gs) small h = (let few = few_sectors sectors g h.0 in omega (arith, few, small), short_groups sectors gs small h.1)

pub group_again : (sectors : ℕ) → sectors < 2 ^ 16 → (total : ℕ) (k : Option (List ℕ)) (g rest : List ℕ) → IsGroupInOrder sectors g → GroupAfter k g → group_at sectors total k (group_bytes g ++ rest) ≡ Ok (g, rest)
unfolding group_at
group_again sectors small total k g rest is after =
    let many : length g ≢ 0 = λ e. is.some (nil_from_length g e) in
    let chain = chain_of_ascends (sector_at sectors total) (λ a. Some a) u16 (λ a. a < sectors) NumberAfter None g (λ x. tt) is.ascend in
    ap (group_at sectors total k) (append_assoc (u16 (length g)) (flat_map u16 g) rest)
    ∙ rw (
      size_again total (length g) (flat_map u16 g ++ rest) (omega (arith, few_sectors sectors g is, small)) many,
      records_again (sector_at sectors total) (λ a. Some a) u16 (λ a. a < sectors) NumberAfter (sector_again sectors small total) None g rest is.below chain,
      group_after_test k g after,
    ) refl
