-- The parts that a reader gives behind the front are those of the certificate that is read of the whole.
use Rattle.std.proofs.Common.{◌≡◌, ℕ, ◌+◌, ◌≤◌, Bool, true, false, List, [], ◌∷◌, ◌++◌, map, length, ◌==◌, Result, Ok, Err, Some, None, refl, sym, ap, subst, ◌∙◌, arith}
use Rattle.std.proofs.lemmas.List.{length-append}
use Rattle.sight_names.specs.declared.faults.CertFault.{CertFault}
use Rattle.sight_names.specs.declared.faults.CertFault.TheVariants as faults
use Rattle.sight_names.specs.declared.names.PairRay.{PairRay}
use Rattle.block_evidence.specs.declared.sight_tree.Node.{Node}
use Rattle.cert_format.specs.declared.cert.Sizes.{Sizes}
use Rattle.cert_format.specs.declared.cert.Labelled.{Labelled}
use Rattle.cert_format.specs.Reading.{◌>>=◌, FailsCert, begins_at, passed, triangles_at, rays_at}
use Rattle.cert_format.proofs.FieldLaws.{IsBytes, bind_ok, ok_is, Takes}
use Rattle.cert_format.proofs.Loop.{fails}
use Rattle.cert_format.proofs.RecordLaws.{records_take}
use Rattle.cert_format.specs.CertGroups.Grammar.{IsGroupInOrder, group_bytes}
use Rattle.cert_format.specs.CertGroups.Reading.{sizes_at, groups_at, group_at}
use Rattle.cert_format.proofs.CertGroups.GroupOrder.{GroupAfter}
use Rattle.cert_format.proofs.CertGroups.GroupLaws.{sizes_take, group_takes}
use Rattle.cert_format.proofs.CertGroups.MoreBytes.{IsToldAgain, Stays, with_longer}
use Rattle.certificates.specs.declared.cert_exact.cert.ExactParts.{ExactParts}
use Rattle.certificates.specs.declared.cert_exact.cert.CountsThree.{CountsThree}
use Rattle.certificates.specs.CertExact.Reading.{version_at, counts_at, with_sectors, lengths_at, tree_at, trees_at, parts_at, exact_at}
use Rattle.certificates.proofs.CertExact.HeaderLaws.{version_takes, counts_take}
use Rattle.certificates.specs.declared.exact_parts.front.FrontThree.{FrontThree}
use Rattle.certificates.specs.declared.exact_parts.part.Part.{Part}
use Rattle.certificates.specs.declared.exact_parts.part.Part.TheVariants as parts
use Rattle.certificates.specs.ExactParts.Parts.{tree_parts, ThreeParts, three_parts_of, reading_three_parts}
use Rattle.certificates.specs.ExactParts.Left.{TreesLeft, trees_left, lengths_left, rays_left, left_at, ReaderState, parts_left}
use Rattle.certificates.specs.ExactParts.Steps.{all_awaited}
use Rattle.certificates.specs.ExactParts.Front.{front_at}
use Rattle.certificates.specs.ExactParts.Beginning.{parts_from, IsExactBegun}
use Rattle.certificates.specs.CertParts.Beginning.{cut_at}
use Rattle.certificates.proofs.CertParts.EitherVersion.{cut_is}
use Rattle.certificates.proofs.ExactParts.MoreBytes.{front_stays}

-- ---- behind the front

-- these records, as parts, before what is left
abbrev before : {X : Type 0} → (X → Part) → List X → Result (List Part) CertFault → Result (List Part) CertFault
before part xs left = left >>= λ others. Ok (map part xs ++ others)

abbrev no_trees : TreesLeft
no_trees = record { source = 0; lengths = [] }

-- a tree for each length
same_many : (total : ℕ) (lengths : List ℕ) (bytes : List ℕ) (x : List (List Node) × List ℕ) → trees_at total lengths bytes ≡ Ok x → map (λ (n : ℕ). parts.Length) lengths ≡ map (λ (ns : List Node). parts.Length) x.0
unfolding trees_at
same_many total [] bytes x e =
    let nothing : List (List Node) × List ℕ = ([], bytes) in
    ap (λ (y : List (List Node) × List ℕ). map (λ (ns : List Node). parts.Length) y.0) (ok_is nothing x e)
same_many total (many ∷ lengths) bytes x e =
    let a = bind_ok (tree_at total many bytes) (λ tree. trees_at total lengths tree.1 >>= λ others. Ok (tree.0 ∷ others.0, others.1)) x e in
    let b = bind_ok (trees_at total lengths a.0.1) (λ others. Ok (a.0.0 ∷ others.0, others.1)) x a.2 in
    let made : List (List Node) × List ℕ = (a.0.0 ∷ b.0.0, b.0.1) in
    ap (λ (ps : List Part). parts.Length ∷ ps) (same_many total lengths a.0.1 b.0 b.1) ∙ ap (λ (y : List (List Node) × List ℕ). map (λ (ns : List Node). parts.Length) y.0) (ok_is made x b.2)

module _ (sizes : Sizes) (n : ℕ) (f : FrontThree) where
  abbrev made : List Labelled → List PairRay → List (List Node) → ExactParts
  made ts rs trees = record { sizes = sizes; groups = f.groups; triangles = ts; rays = rs; trees = trees }

  abbrev tell : Result ExactParts CertFault → Result ThreeParts CertFault
  tell read = read >>= λ c. Ok (three_parts_of c)

  abbrev seen : Result (List Part) CertFault → Result ThreeParts CertFault
  seen read = read >>= λ ps. Ok (f.groups, ps)

  abbrev behind_trees : List Labelled → List PairRay → List (List Node) × List ℕ → Result ExactParts CertFault
  behind_trees ts rs d = passed (length d.1 == 0) (faults.Trailing (begins_at n d.1)) (made ts rs d.0)

  abbrev behind_lengths : List Labelled → List PairRay → List ℕ × List ℕ → Result ExactParts CertFault
  behind_lengths ts rs l = trees_at n l.0 l.1 >>= λ d. behind_trees ts rs d

  abbrev behind_rays : List Labelled → List PairRay × List ℕ → Result ExactParts CertFault
  behind_rays ts r = lengths_at n f.counts.groups r.1 >>= λ l. behind_lengths ts r.0 l

  abbrev behind_triangles : List Labelled × List ℕ → Result ExactParts CertFault
  behind_triangles t = rays_at f.sizes n None f.counts.rays t.1 >>= λ r. behind_rays t.0 r

  by_test : (ts : List Labelled) (rs : List PairRay) (ls : List ℕ) (trees : List (List Node)) (b : Bool) (g : CertFault) → map (λ (k : ℕ). parts.Length) ls ≡ map (λ (ns : List Node). parts.Length) trees
      → seen (before (λ t. parts.Triangle t) ts (before (λ r. parts.Ray r) rs (before (λ (k : ℕ). parts.Length) ls (passed b g (tree_parts 0 trees))))) ≡ tell (passed b g (made ts rs trees))
  by_test ts rs ls trees true g many =
      ap (λ (ps : List Part). let all : ThreeParts = (f.groups, map (λ t. parts.Triangle t) ts ++ (map (λ r. parts.Ray r) rs ++ (ps ++ tree_parts 0 trees))) in let read : Result ThreeParts CertFault = Ok all in read) many
  by_test ts rs ls trees false g many = refl

  by_trees : (ts : List Labelled) (rs : List PairRay) (ls : List ℕ) (r : Result (List (List Node) × List ℕ) CertFault) → ((x : List (List Node) × List ℕ) → r ≡ Ok x → map (λ (k : ℕ). parts.Length) ls ≡ map (λ (ns : List Node). parts.Length) x.0)
      → seen (before (λ t. parts.Triangle t) ts (before (λ r. parts.Ray r) rs (before (λ (k : ℕ). parts.Length) ls (r >>= λ d. passed (length d.1 == 0) (faults.Trailing (begins_at n d.1)) (tree_parts 0 d.0)))))
      ≡ tell (r >>= λ d. behind_trees ts rs d)
  by_trees ts rs ls (Ok d) many = by_test ts rs ls d.0 (length d.1 == 0) (faults.Trailing (begins_at n d.1)) (many d refl)
  by_trees ts rs ls (Err g) many = refl

  by_lengths : (ts : List Labelled) (rs : List PairRay) (r : Result (List ℕ × List ℕ) CertFault)
      → seen (before (λ t. parts.Triangle t) ts (before (λ r. parts.Ray r) rs (r >>= λ l. before (λ (k : ℕ). parts.Length) l.0 (trees_left 0 ([] ++ l.0) n l.1)))) ≡ tell (r >>= λ l. behind_lengths ts rs l)
  unfolding trees_left
  by_lengths ts rs (Ok l) = by_trees ts rs l.0 (trees_at n l.0 l.1) (same_many n l.0 l.1)
  by_lengths ts rs (Err g) = refl

  by_rays : (ts : List Labelled) (r : Result (List PairRay × List ℕ) CertFault)
      → seen (before (λ t. parts.Triangle t) ts (r >>= λ y. before (λ r. parts.Ray r) y.0 (lengths_left (all_awaited f) no_trees n y.1))) ≡ tell (r >>= λ y. behind_rays ts y)
  unfolding lengths_left
  by_rays ts (Ok y) = by_lengths ts y.0 (lengths_at n f.counts.groups y.1)
  by_rays ts (Err g) = refl

  by_triangles : (r : Result (List Labelled × List ℕ) CertFault) → seen (r >>= λ t. before (λ t. parts.Triangle t) t.0 (rays_left (all_awaited f) no_trees n t.1)) ≡ tell (r >>= λ t. behind_triangles t)
  unfolding rays_left
  by_triangles (Ok t) = by_rays t.0 (rays_at f.sizes n None f.counts.rays t.1)
  by_triangles (Err g) = refl

  -- what is read behind the front
  abbrev behind_front : List ℕ → Result ExactParts CertFault
  behind_front rest = triangles_at f.sizes n None f.counts.triangles rest >>= λ t. behind_triangles t

  left_behind : (rest : List ℕ) → seen (left_at (all_awaited f) no_trees n rest) ≡ tell (behind_front rest)
  unfolding left_at
  left_behind rest = by_triangles (triangles_at f.sizes n None f.counts.triangles rest)

-- ---- the front

abbrev front_made : Sizes → CountsThree → List (List ℕ) → FrontThree
front_made sizes counts groups = record { sizes = with_sectors sizes counts.groups; groups = groups; counts = counts }

pub with_front : (sizes : Sizes) (n : ℕ) (bytes : List ℕ) (x : FrontThree × List ℕ) → front_at sizes n bytes ≡ Ok x → parts_at sizes n bytes ≡ behind_front sizes n x.0 x.1
unfolding front_at parts_at
with_front sizes n bytes x e =
    let v = bind_ok (version_at n bytes) (λ v. sizes_at sizes n v >>= λ s. counts_at sizes.points n s >>= λ k. groups_at sizes.sectors n None k.0.groups k.1 >>= λ g. Ok (front_made sizes k.0 g.0, g.1)) x e in
    let s = bind_ok (sizes_at sizes n v.0) (λ s. counts_at sizes.points n s >>= λ k. groups_at sizes.sectors n None k.0.groups k.1 >>= λ g. Ok (front_made sizes k.0 g.0, g.1)) x v.2 in
    let k = bind_ok (counts_at sizes.points n s.0) (λ k. groups_at sizes.sectors n None k.0.groups k.1 >>= λ g. Ok (front_made sizes k.0 g.0, g.1)) x s.2 in
    let g = bind_ok (groups_at sizes.sectors n None k.0.0.groups k.0.1) (λ g. Ok (front_made sizes k.0.0 g.0, g.1)) x k.2 in
    let made : FrontThree × List ℕ = (front_made sizes k.0.0 g.0.0, g.0.1) in
    rw (v.1, s.1, k.1, g.1) (ap (λ (y : FrontThree × List ℕ). behind_front sizes n y.0 y.1) {x = made} (ok_is made x g.2))

-- a step that fails
fault_then : {A B C : Type 0} (r : Result A CertFault) (next : A → Result B CertFault) (other : A → Result C CertFault) (f : CertFault) → ((x : A) → next x ≡ Err f → other x ≡ Err f) → (r >>= next) ≡ Err f → (r >>= other) ≡ Err f
fault_then (Ok x) next other f h e = h x e
fault_then (Err g) next other f h e = cc

pub no_front : (sizes : Sizes) (n : ℕ) (bytes : List ℕ) (f : CertFault) → front_at sizes n bytes ≡ Err f → parts_at sizes n bytes ≡ Err f
unfolding front_at parts_at
no_front sizes n bytes f e =
    fault_then (version_at n bytes) _ _ f (λ v e1.
    fault_then (sizes_at sizes n v) _ _ f (λ s e2.
    fault_then (counts_at sizes.points n s) _ _ f (λ k e3.
    fault_then (groups_at sizes.sectors n None k.0.groups k.1) _ _ f (λ g e4. absurd cc) e3) e2) e1) e

-- ---- with more bytes behind

unread : (sizes : Sizes) (bytes : List ℕ) (f : CertFault) → exact_at sizes bytes ≡ Err f → reading_three_parts sizes bytes ≡ Err f
unread sizes bytes f e = rw e refl

module _ (sizes : Sizes) (bytes more : List ℕ) where
  front_again : Stays (with_longer more) (front_at sizes (length bytes) bytes) (front_at sizes (length (bytes ++ more)) (bytes ++ more))
  front_again = subst (λ (n : ℕ). Stays (with_longer more) (front_at sizes (length bytes) bytes) (front_at sizes n (bytes ++ more))) (sym (length-append bytes more)) (front_stays more sizes (length bytes) bytes)

  still_read : (r again : Result (FrontThree × List ℕ) CertFault) (x : FrontThree × List ℕ) → Stays (with_longer more) r again → r ≡ Ok x → again ≡ Ok (with_longer more x)
  still_read r again x s e = subst (λ (y : Result (FrontThree × List ℕ) CertFault). Stays (with_longer more) y again) e s

  still_faulty : (r again : Result (FrontThree × List ℕ) CertFault) (f : CertFault) → Stays (with_longer more) r again → r ≡ Err f → IsToldAgain f again
  still_faulty r again f s e = subst (λ (y : Result (FrontThree × List ℕ) CertFault). Stays (with_longer more) y again) e s

  read_on : (f : FrontThree) (rest : List ℕ) (reader : ReaderState) (given : ℕ) → front_at sizes (length bytes) bytes ≡ Ok (f, rest) → reader ≡ record { awaited = all_awaited f; trees = no_trees; given = given; kept = [] } → given + length rest ≡ length bytes
      → reading_three_parts sizes (bytes ++ more) ≡ parts_from f.groups reader (rest ++ more)
  unfolding parts_left
  read_on f rest reader given e is count =
      let n = length (bytes ++ more) in
      let again : front_at sizes n (bytes ++ more) ≡ Ok (f, rest ++ more) = still_read (front_at sizes (length bytes) bytes) (front_at sizes n (bytes ++ more)) (f, rest) front_again e in
      let counted : given + length (rest ++ more) ≡ n = omega (arith, count, length-append rest more, length-append bytes more) in
      ap (λ (r : Result ExactParts CertFault). r >>= λ c. Ok (three_parts_of c)) (with_front sizes n (bytes ++ more) (f, rest ++ more) again)
      ∙ sym (left_behind sizes n f (rest ++ more))
      ∙ rw (is, counted) refl

  pub fault_again : (f g : CertFault) → Err g ≡ cut_at f → FailsCert f (front_at sizes (length bytes) bytes) → FailsCert g (reading_three_parts sizes (bytes ++ more))
  fault_again (faults.Short at) g cut h = absurd cc
  fault_again (faults.Memory u) g cut h = let same : faults.Memory u ≡ g = cc in subst (λ (k : CertFault). FailsCert k (reading_three_parts sizes (bytes ++ more))) same tt
  fault_again f g cut h =
      let same : f ≡ g = cc in
      let again = still_faulty (front_at sizes (length bytes) bytes) (front_at sizes (length (bytes ++ more)) (bytes ++ more)) f front_again h in
      fails g (reading_three_parts sizes (bytes ++ more)) (subst (λ (k : CertFault). reading_three_parts sizes (bytes ++ more) ≡ Err k) same (unread sizes (bytes ++ more) f (no_front sizes (length (bytes ++ more)) (bytes ++ more) f again)))

front_cut : (sizes : Sizes) (bytes : List ℕ) (at : ℕ) → front_at sizes (length bytes) bytes ≡ Err (faults.Short at) → reading_three_parts sizes bytes ≡ Err (faults.Short at)
front_cut sizes bytes at e = unread sizes bytes (faults.Short at) (no_front sizes (length bytes) bytes (faults.Short at) e)

pub cut_told : (sizes : Sizes) (bytes : List ℕ) (f : CertFault) (at : ℕ) → FailsCert f (front_at sizes (length bytes) bytes) → Ok at ≡ cut_at f → reading_three_parts sizes bytes ≡ Err (faults.Short at)
cut_told sizes bytes f at h cut = front_cut sizes bytes at (subst (λ (g : CertFault). FailsCert g (front_at sizes (length bytes) bytes)) (cut_is f at cut) h)

pub rest_within : (sizes : Sizes) (bytes : List ℕ) (x : FrontThree × List ℕ) → IsBytes bytes → front_at sizes (length bytes) bytes ≡ Ok x → length x.1 ≤ length bytes
unfolding front_at
rest_within sizes bytes x fits e =
    let n = length bytes in
    let v = bind_ok (version_at n bytes) (λ v. sizes_at sizes n v >>= λ s. counts_at sizes.points n s >>= λ k. groups_at sizes.sectors n None k.0.groups k.1 >>= λ g. Ok (front_made sizes k.0 g.0, g.1)) x e in
    let s = bind_ok (sizes_at sizes n v.0) (λ s. counts_at sizes.points n s >>= λ k. groups_at sizes.sectors n None k.0.groups k.1 >>= λ g. Ok (front_made sizes k.0 g.0, g.1)) x v.2 in
    let k = bind_ok (counts_at sizes.points n s.0) (λ k. groups_at sizes.sectors n None k.0.groups k.1 >>= λ g. Ok (front_made sizes k.0 g.0, g.1)) x s.2 in
    let g = bind_ok (groups_at sizes.sectors n None k.0.0.groups k.0.1) (λ g. Ok (front_made sizes k.0.0 g.0, g.1)) x k.2 in
    let made : FrontThree × List ℕ = (front_made sizes k.0.0 g.0.0, g.0.1) in
    let tv = version_takes n bytes v.0 fits v.1 in
    let ts = sizes_take sizes n v.0 s.0 tv.rest_fits s.1 in
    let tk = counts_take sizes.points n s.0 k.0 ts.rest_fits k.1 in
    let tg = records_take (group_at sizes.sectors n) (λ x. Some x) group_bytes (IsGroupInOrder sizes.sectors) GroupAfter (group_takes sizes.sectors n) k.0.0.groups None k.0.1 g.0 tk.0.rest_fits g.1 in
    let l0 = shorter bytes _ v.0 tv in
    let l1 = shorter v.0 _ s.0 ts in
    let l2 = shorter s.0 _ k.0.1 tk.0 in
    let l3 = shorter k.0.1 _ g.0.1 tg.takes in
    omega (arith, l0, l1, l2, l3, ap (λ (y : FrontThree × List ℕ). length y.1) {x = made} (ok_is made x g.2))
  where
    shorter : (bytes text rest : List ℕ) → Takes bytes text rest → length rest ≤ length bytes
    shorter bytes text rest t = omega (arith, ap length t.parts, length-append text rest)

pub begun : (sizes : Sizes) (bytes : List ℕ) (f : FrontThree) (rest : List ℕ) (reader : ReaderState) (given : ℕ) → front_at sizes (length bytes) bytes ≡ Ok (f, rest) → reader ≡ record { awaited = all_awaited f; trees = no_trees; given = given; kept = [] } → given + length rest ≡ length bytes
    → IsExactBegun sizes bytes f.groups reader rest
begun sizes bytes f rest reader given e is count = record { parts = λ more. read_on sizes bytes more f rest reader given e is count; given = omega (arith, ap (λ (s : ReaderState). s.given) is, count) }
