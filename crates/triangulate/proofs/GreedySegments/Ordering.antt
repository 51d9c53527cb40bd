-- Sorted pairs are in the order of pairs.
use Rattle.std.proofs.Common.{◌≡◌, ℕ, ◌<◌, ◌≤◌, ◌⊎◌, List, get_or, false, arith, subst, Ordering}
use Rattle.std.specs.Ordering.{nat_cmp, ordering_then, is_lt}
use Rattle.std.specs.Cmp.{IsTotalOrder}
use Rattle.std.specs.List.Sorted.{IsSorted}
use Rattle.std.proofs.lemmas.Cmp.{then_total, on_total, nat_cmp_total}
use Rattle.std.proofs.lemmas.List.Sorted.{sorted_far, ranks_by}
use Rattle.std.proofs.lemmas.Option.{slice_get_within, get_or_from_slice_get}
use Rattle.triangulate.specs.declared.greedy_segments.rounds.PointPair.{PointPair}
use Rattle.triangulate.specs.GreedySegments.Pairs.{ArePointPairsInOrder}

abbrev pair_cmp : PointPair → PointPair → Ordering
pair_cmp p q = ordering_then (nat_cmp p.square q.square) (ordering_then (nat_cmp p.from q.from) (nat_cmp p.to q.to))

pair_cmp_total : IsTotalOrder pair_cmp
pair_cmp_total = then_total (on_total (λ (p : PointPair). p.square) nat_cmp_total) (then_total (on_total (λ (p : PointPair). p.from) nat_cmp_total) (on_total (λ (p : PointPair). p.to) nat_cmp_total))

not_less : (a b c d e f : ℕ) → is_lt (ordering_then (nat_cmp a b) (ordering_then (nat_cmp c d) (nat_cmp e f))) ≡ false → (b < a) ⊎ ((b ≡ a) × ((d < c) ⊎ ((d ≡ c) × (f ≤ e))))
not_less a b c d e f h = grind arith

pub in_order : (pairs : List PointPair) → IsSorted pair_cmp pairs → ArePointPairsInOrder pairs
in_order pairs sorted i j p q lt at_i at_j =
    let h : is_lt (pair_cmp (get_or pairs j p) (get_or pairs i p)) ≡ false = sorted_far (λ x y. is_lt (pair_cmp x y)) (ranks_by pair_cmp_total (λ x. x)) pairs sorted i j p (omega arith) (slice_get_within pairs j q at_j) in
    let k : is_lt (pair_cmp q p) ≡ false = subst (λ (x : PointPair). is_lt (pair_cmp x p) ≡ false) (get_or_from_slice_get pairs j q p at_j)
    (subst (λ (y : PointPair). is_lt (pair_cmp (get_or pairs j p) y) ≡ false) (get_or_from_slice_get pairs i p p at_i) h) in
    not_less q.square p.square q.from p.from q.to p.to k

abbrev pub any_pair : PointPair
any_pair = record { square = 0; from = 0; to = 0 }
