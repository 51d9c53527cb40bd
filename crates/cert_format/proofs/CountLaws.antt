-- Records in order are few enough to be counted in four bytes.
use Rattle.std.proofs.Common.{◌≡◌, ℕ, zero, suc, ◌+◌, ◌*◌, ◌^◌, ◌<◌, ◌≤◌, List, [], ◌∷◌, length, slice_get, Some, refl, subst, arith, inl, inr, zero-lt-suc, suc-le-suc}
use Rattle.std.specs.List.{AllByRecursion}
use Rattle.sight_names.specs.declared.names.Pair.{Pair}
use Rattle.sight_names.specs.declared.names.PairRay.{PairRay}
use Rattle.block_evidence.specs.declared.sight_tree.Tree.{Tree}
use Rattle.cert_format.specs.declared.cert.Sizes.{Sizes}
use Rattle.cert_format.specs.Grammar.{IsPairInRange, IsRayInRange, IsTreeInRange}
use Rattle.sight_names.specs.Order.{Ascends, PairBefore}
use Rattle.math_base.proofs.Options.{some_is_same}

module _ {X : Type 0} (code : X → ℕ) (limit : ℕ) where
  -- numbers below a limit that rise are no more than the limit
  counted : (low : ℕ) (xs : List X) → low ≤ limit → AllByRecursion (λ x. code x < limit) xs → Ascends (λ x y. code x < code y) xs → ((j : ℕ) (y : X) → slice_get xs j ≡ Some y → low ≤ code y) → length xs + low ≤ limit
  counted low [] le below rises above = omega arith
  counted low (x ∷ xs) le below rises above =
      let here : low ≤ code x = above 0 x refl in
      let rest = counted (suc (code x)) xs (omega (arith, below.0)) below.1 (λ i j y z lt h g. rises (suc i) (suc j) y z (suc-le-suc lt) h g) (λ j y h. rises 0 (suc j) x y (zero-lt-suc j) refl h) in
      omega (arith, rest, here)

  pub few_codes : (xs : List X) → AllByRecursion (λ x. code x < limit) xs → Ascends (λ x y. code x < code y) xs → length xs ≤ limit
  few_codes xs below rises = let h = counted 0 xs (omega arith) below rises (λ j y h. omega arith) in omega (arith, h)

abbrev pair_code : Pair → ℕ
pair_code p = p.a * 65536 + p.b

code_rises : (p q : Pair) → p.b < 65536 → PairBefore p q → pair_code p < pair_code q
code_rises p q small (inl lt) = omega (arith, lt, small)
code_rises p q small (inr (e, lt)) = omega (arith, e, lt)

pair_at : (sizes : Sizes) (ps : List Pair) → AllByRecursion (IsPairInRange sizes) ps → (i : ℕ) (p : Pair) → slice_get ps i ≡ Some p → IsPairInRange sizes p
pair_at sizes [] h i p e = absurd cc
pair_at sizes (q ∷ ps) h zero p e = let Q : Pair → Type 0 = λ r. IsPairInRange sizes r in subst Q (some_is_same q p e) h.0
pair_at sizes (q ∷ ps) h (suc i) p e = pair_at sizes ps h.1 i p e

pairs_below : (sizes : Sizes) (ps : List Pair) → sizes.sectors < 2 ^ 16 → AllByRecursion (IsPairInRange sizes) ps → AllByRecursion (λ p. pair_code p < 4294967295) ps
pairs_below sizes [] small h = tt
pairs_below sizes (p ∷ ps) small h = (omega (arith, h.0.0, h.0.1), pairs_below sizes ps small h.1)

pub few_pairs : (sizes : Sizes) (ps : List Pair) → sizes.sectors < 2 ^ 16 → AllByRecursion (IsPairInRange sizes) ps → Ascends PairBefore ps → length ps < 2 ^ 32
few_pairs sizes ps small h ascends =
    let le = few_codes pair_code 4294967295 ps (pairs_below sizes ps small h) (λ i j p q lt e f. code_rises p q (let r = pair_at sizes ps h i p e in omega (arith, r.0, r.1)) (ascends i j p q lt e f)) in
    omega (arith, le)

rays_below : (sizes : Sizes) (rs : List PairRay) → sizes.sectors < 2 ^ 16 → AllByRecursion (IsRayInRange sizes) rs → AllByRecursion (λ r. pair_code r.pair < 4294967295) rs
rays_below sizes [] small h = tt
rays_below sizes (r ∷ rs) small h = (omega (arith, h.0.0.0, h.0.0.1), rays_below sizes rs small h.1)

ray_at : (sizes : Sizes) (rs : List PairRay) → AllByRecursion (IsRayInRange sizes) rs → (i : ℕ) (r : PairRay) → slice_get rs i ≡ Some r → IsPairInRange sizes r.pair
ray_at sizes [] h i p e = absurd cc
ray_at sizes (q ∷ rs) h zero p e = let Q : PairRay → Type 0 = λ r. IsPairInRange sizes r.pair in subst Q (some_is_same q p e) h.0.0
ray_at sizes (q ∷ rs) h (suc i) p e = ray_at sizes rs h.1 i p e

pub few_rays : (sizes : Sizes) (rs : List PairRay) → sizes.sectors < 2 ^ 16 → AllByRecursion (IsRayInRange sizes) rs → Ascends (λ (r s : PairRay). PairBefore r.pair s.pair) rs → length rs < 2 ^ 32
few_rays sizes rs small h ascends =
    let le = few_codes (λ (r : PairRay). pair_code r.pair) 4294967295 rs (rays_below sizes rs small h) (λ i j p q lt e f. code_rises p.pair q.pair (let r = ray_at sizes rs h i p e in omega (arith, r.0, r.1)) (ascends i j p q lt e f)) in
    omega (arith, le)

sources_below : (sizes : Sizes) (ts : List Tree) → sizes.sectors < 2 ^ 16 → AllByRecursion (IsTreeInRange sizes) ts → AllByRecursion (λ t. t.source < 65536) ts
sources_below sizes [] small h = tt
sources_below sizes (t ∷ ts) small h = (omega (arith, h.0.0), sources_below sizes ts small h.1)

pub few_trees : (sizes : Sizes) (ts : List Tree) → sizes.sectors < 2 ^ 16 → AllByRecursion (IsTreeInRange sizes) ts → Ascends (λ (t u : Tree). t.source < u.source) ts → length ts < 2 ^ 32
few_trees sizes ts small h ascends =
    let le = few_codes (λ (t : Tree). t.source) 65536 ts (sources_below sizes ts small h) ascends in
    omega (arith, le)
