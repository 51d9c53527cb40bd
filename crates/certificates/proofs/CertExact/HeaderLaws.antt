-- The fields of the header that other versions don't have: what is read is spelled so, and what is spelled so is read.
use Rattle.std.proofs.Common.{◌≡◌, ℕ, ◌^◌, ◌<◌, ◌≤◌, List, ◌++◌, Ok, refl, subst, arith, codes}
use Rattle.std.specs.Int.{w16, w32}
use Rattle.std.proofs.lemmas.Bool.{ltb-false, le-ltb, eqb-true, not-true}
use Rattle.sight_names.specs.Limits.{most_triangles}
use Rattle.block_evidence.specs.SightTree.Spelling.{u16}
use Rattle.cert_format.specs.Grammar.{u32}
use Rattle.cert_format.specs.Reading.{cert_magic, magic_at, triangle_count_at}
use Rattle.cert_format.proofs.FieldLaws.{IsBytes, bind_ok, passed_ok, ok_is, Takes, Takes-then, wide16, wide32, number_takes, number_again}
use Rattle.cert_format.proofs.LimitLaws.{few_of}
use Rattle.cert_format.proofs.CertGroups.GroupLaws.{group_count_takes, group_count_again}
use Rattle.certificates.specs.declared.cert_exact.cert.CountsThree.{CountsThree}
use Rattle.certificates.specs.CertExact.Reading.{version_at, counts_at}

pub version_takes : (total : ℕ) (bytes rest : List ℕ) → IsBytes bytes → version_at total bytes ≡ Ok rest → Takes bytes (codes "DSCT" ++ u16 3) rest
unfolding version_at magic_at
version_takes total bytes rest fits e =
    let m = bind_ok _ _ rest e in
    let v = bind_ok _ _ rest m.2 in
    let m' = bind_ok _ _ m.0 m.1 in
    let mg = passed_ok _ _ m'.0.1 m.0 m'.2 in
    let vg = passed_ok _ _ v.0.1 rest v.2 in
    let tm = number_takes w32 (2 ^ 32) wide32 total bytes m'.0 fits m'.1 in
    let tm' : Takes bytes (codes "DSCT") m.0 = subst (λ (r : List ℕ). Takes bytes (codes "DSCT") r) {x = m'.0.1} mg.1 (subst (λ (k : ℕ). Takes bytes (u32 k) m'.0.1) {x = m'.0.0} (eqb-true _ _ mg.0) tm.0) in
    let tv = number_takes w16 (2 ^ 16) wide16 total m.0 v.0 tm'.rest_fits v.1 in
    let tv' : Takes m.0 (u16 3) rest = subst (λ (r : List ℕ). Takes m.0 (u16 3) r) {x = v.0.1} vg.1 (subst (λ (k : ℕ). Takes m.0 (u16 k) v.0.1) {x = v.0.0} (eqb-true _ _ vg.0) tv.0) in
    Takes-then bytes (codes "DSCT") m.0 (u16 3) rest tm' tv'

pub version_again : (total : ℕ) (rest : List ℕ) → version_at total (codes "DSCT" ++ (u16 3 ++ rest)) ≡ Ok rest
unfolding version_at magic_at
version_again total rest =
    rw (
      number_again w32 (2 ^ 32) wide32 total cert_magic (u16 3 ++ rest) (omega arith),
      number_again w16 (2 ^ 16) wide16 total 3 rest (omega arith),
    ) refl

pub record FitCounts (points : ℕ) (c : CountsThree) : Type 0 where
  pub groups : c.groups ≤ most_triangles points
  pub triangles : c.triangles ≤ most_triangles points
  pub rays : c.rays < 2 ^ 32

abbrev pub count_bytes : CountsThree → List ℕ
count_bytes c = u16 c.groups ++ u32 c.triangles ++ u32 c.rays

pub counts_take : (points total : ℕ) (bytes : List ℕ) (x : CountsThree × List ℕ) → IsBytes bytes → counts_at points total bytes ≡ Ok x → Takes bytes (count_bytes x.0) x.1 × FitCounts points x.0
unfolding counts_at triangle_count_at
counts_take points total bytes x fits e =
    let g = bind_ok _ _ x e in
    let t = bind_ok _ _ x g.2 in
    let r = bind_ok _ _ x t.2 in
    let made : CountsThree × List ℕ = (record { groups = g.0.0; triangles = t.0.0; rays = r.0.0 }, r.0.1) in
    let tg = group_count_takes points total bytes g.0 fits g.1 in
    let t' = bind_ok _ _ t.0 t.1 in
    let p = passed_ok _ _ t'.0 t.0 t'.2 in
    let t0 = number_takes w32 (2 ^ 32) wide32 total g.0.1 t'.0 tg.0.rest_fits t'.1 in
    let both = subst (λ (y : ℕ × List ℕ). Takes g.0.1 (u32 y.0) y.1 × (y.0 ≤ most_triangles points)) {x = t'.0} p.1 (t0.0, ltb-false _ _ (not-true _ p.0)) in
    let t1 = number_takes w32 (2 ^ 32) wide32 total t.0.1 r.0 both.0.rest_fits r.1 in
    let taken = Takes-then bytes (u16 g.0.0 ++ u32 t.0.0) t.0.1 (u32 r.0.0) r.0.1 (Takes-then bytes (u16 g.0.0) g.0.1 (u32 t.0.0) t.0.1 tg.0 both.0) t1.0 in
    subst (λ (y : CountsThree × List ℕ). Takes bytes (count_bytes y.0) y.1 × FitCounts points y.0) {x = made} (ok_is made x r.2) (taken, record { groups = tg.1; triangles = both.1; rays = t1.1 })

pub counts_again : (points total : ℕ) (c : CountsThree) (rest : List ℕ) → FitCounts points c → counts_at points total (count_bytes c ++ rest) ≡ Ok (c, rest)
unfolding counts_at triangle_count_at
counts_again points total c rest fits =
    rw (
      group_count_again points total c.groups (u32 c.triangles ++ (u32 c.rays ++ rest)) fits.groups,
      number_again w32 (2 ^ 32) wide32 total c.triangles (u32 c.rays ++ rest) (let h = few_of points c.triangles fits.triangles in omega arith),
      le-ltb _ _ fits.triangles,
      number_again w32 (2 ^ 32) wide32 total c.rays rest fits.rays,
    ) refl
