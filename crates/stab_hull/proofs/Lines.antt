-- Lines that split portals: their cone has one, and pairs that are balanced show that there is none.
use Rattle.std.proofs.Common.{◌≡◌, ℕ, suc, List, [], ◌∷◌, Some, refl, sym, ap, ◌∙◌, arith, subst, All, ℤ, pos, ◌≤◌, ◌<ℤ◌, ◌^◌, nat_abs, FitsSigned, w64}
use mir.Syntax.{w32}
use Rattle.std.proofs.lemmas.Int.{ints}
use Rattle.std.proofs.lemmas.List.Elements.{All-contains}
use Rattle.std.proofs.lemmas.Option.{same_Some}
use Rattle.std.specs.Prelude.{slice_get}
use Rattle.std.specs.List.{AllByRecursion}
use Rattle.sight_names.specs.declared.names.Pt.{Pt}
use Rattle.sight_names.specs.declared.names.EndAt.{EndAt}
use Rattle.sight_names.specs.declared.names.EndPair.{EndPair}
use Rattle.sight_names.specs.Point.{point_of, value_at}
use Rattle.sight_names.specs.Splitting.{EndPoints, IsParted, SplitsEnds, IsSplittable, IsEndPairOf, end_of}
use Rattle.sight_names.proofs.Portals.{parted_at}
use Rattle.geom_exact.specs.declared.extreme_lines.cone.Cone.{Cone}
use Rattle.geom_exact.specs.ExtremeLines.Differences.{difference}
use Rattle.geom_exact.specs.ExtremeLines.Spans.{Spans, first_extreme, second_of, end_pair_of, IsCutOf}
use Rattle.geom_exact.proofs.ExtremeLines.Balance.{PartsPair, no_line_parts}
use Rattle.geom_exact.proofs.ExtremeLines.EndsLemmas.{left_place, right_place}
use Rattle.block_evidence.specs.declared.Evidence.{Evidence}
use Rattle.block_evidence.specs.Stuck.{AreCoded, BlocksEnds, IsEvidenceOf}
use Rattle.stab_hull.specs.Answer.{IsBarredBy, IsLineInRange}
use Rattle.stab_hull.specs.Portals.{IsConeOf, ShowsNoLine}
use Rattle.stab_hull.specs.Stacks.{IsHullOf}
use Rattle.stab_hull.proofs.HasCut.{Cuts, has_cut}
use Rattle.stab_hull.proofs.HullLemmas.{cone_of}

each_parted : (a b c : ℤ) (es : List EndPoints) → ((k : ℕ) (p : EndPoints) → slice_get es k ≡ Some p → IsParted a b c p) → SplitsEnds es a b c
each_parted a b c [] h = tt
each_parted a b c (p ∷ es) h = (h 0 p refl, each_parted a b c es (λ k q e. h (suc k) q e))

-- a line that cuts between the ends of a cone of portals splits them
cuts_split : (es : List EndPoints) (k : Cone) (a b c : ℤ) → IsConeOf es k → Cuts k a b c → SplitsEnds es a b c
cuts_split es k a b c h cut = each_parted a b c es (λ i p e. (cut.left p.left (to_right i p e (end_pair_of (first_extreme k)) h.pairs.first) (to_right i p e (end_pair_of (second_of k)) h.pairs.second), cut.right p.right (from_left i p e (end_pair_of (first_extreme k)) h.pairs.first) (from_left i p e (end_pair_of (second_of k)) h.pairs.second)))
  where
    to_right : (i : ℕ) (p : EndPoints) → slice_get es i ≡ Some p → (r : EndPair) → IsEndPairOf es r → Spans k (difference p.left r.right.at)
    to_right i p e r m = let t = right_place es r.right m.right_code m.right in subst (λ (u : Pt). Spans k (difference p.left u)) t.3 (h.spans i t.0 p t.1 e t.2)

    from_left : (i : ℕ) (p : EndPoints) → slice_get es i ≡ Some p → (r : EndPair) → IsEndPairOf es r → Spans k (difference r.left.at p.right)
    from_left i p e r m = let t = left_place es r.left m.left_code m.left in subst (λ (u : Pt). Spans k (difference u p.right)) t.3 (h.spans t.0 i t.1 p t.2 e)

-- so does its middle line
pub line_splits : (es : List EndPoints) (k : Cone) (a b c : ℤ) → IsConeOf es k → IsCutOf k a b c → SplitsEnds es a b c
line_splits es k a b c h cut = cuts_split es k a b c h (record { left = cut.left; right = cut.right })

-- the cone has the difference that its middle line asks for
pub has_corner : (es : List EndPoints) (k : Cone) → IsConeOf es k → Spans k (difference (second_of k).left.at (first_extreme k).right.at)
has_corner es k h =
    let t = left_place es (second_of k).left h.pairs.second.left_code h.pairs.second.left in
    let u = right_place es (first_extreme k).right h.pairs.first.right_code h.pairs.first.right in
    subst (λ (p : Pt). Spans k (difference p (first_extreme k).right.at)) t.3 (subst (λ (p : Pt). Spans k (difference t.1.left p)) u.3 (h.spans t.0 u.0 t.1 u.1 t.2 u.2))

-- so portals with a cone can be split
pub hull_splits : (es : List EndPoints) (ls rs : List EndAt) (cs : List Cone) → IsHullOf es ls rs cs → IsSplittable es
hull_splits es ls rs cs h =
    let k = cone_of es ls rs cs h.cone.0 h h.cone.1 in
    let t = has_cut h.cone.0 (has_corner es h.cone.0 k) in
    (t.0, t.1, t.2, cuts_split es h.cone.0 t.0 t.1 t.2 k t.3)

-- ---- the numbers of a line
pub fits_a : (a : ℤ) → nat_abs a ≤ 2 ^ 30 → FitsSigned w32 a
fits_a a h = omega (arith, ints)

pub fits_c : (c : ℤ) → nat_abs c ≤ 2 ^ 57 → FitsSigned w64 c
fits_c c h = omega (arith, ints)

pub line_is : (es : List EndPoints) (a b c a' b' c' : ℤ) → a ≡ a' → b ≡ b' → c ≡ c' → SplitsEnds es a b c × IsLineInRange a b c → SplitsEnds es a' b' c' × IsLineInRange a' b' c'
line_is es a b c a' b' c' ea eb ec h =
    subst (λ (z : ℤ). SplitsEnds es a' b' z × IsLineInRange a' b' z) ec
    (subst (λ (y : ℤ). SplitsEnds es a' y c × IsLineInRange a' y c) eb
    (subst (λ (x : ℤ). SplitsEnds es x b c × IsLineInRange x b c) ea h))

-- ---- no line
pair_parted : (a b c : ℤ) (es : List EndPoints) (p : EndPair) → SplitsEnds es a b c → IsEndPairOf es p → PartsPair a b c p
pair_parted a b c es p h m =
    let t = left_place es p.left m.left_code m.left in
    let u = right_place es p.right m.right_code m.right in
    (subst (λ (q : Pt). pos 0 <ℤ value_at a b c (point_of q)) t.3 (parted_at a b c es t.0 t.1 h t.2).0, subst (λ (q : Pt). value_at a b c (point_of q) <ℤ pos 0) u.3 (parted_at a b c es u.0 u.1 h u.2).1)

each : {X : Type 0} (P : X → Type 0) (xs : List X) → All P xs → AllByRecursion P xs
each P [] h = tt
each P (x ∷ xs) h = (h 0 x (omega arith), each P xs (λ k d l. h (suc k) d (omega (arith, l))))

each_pair : (a b c : ℤ) (es : List EndPoints) (ps : List EndPair) → SplitsEnds es a b c → AllByRecursion (IsEndPairOf es) ps → AllByRecursion (PartsPair a b c) ps
each_pair a b c es [] h m = tt
each_pair a b c es (p ∷ ps) h m = (pair_parted a b c es p h m.0, each_pair a b c es ps h m.1)

-- balanced pairs of ends show that no line splits the ends
pub shown : (es : List EndPoints) (pairs : List EndPair) → ShowsNoLine es pairs → ¬ IsSplittable es
shown es pairs s (a, b, c, h) = no_line_parts a b c pairs s.balanced (each_pair a b c es pairs h (each (IsEndPairOf es) pairs s.ends))

pub same_end : (es : List EndPoints) (x y : EndAt) → end_of es x.code ≡ Some x → end_of es y.code ≡ Some y → x.code ≡ y.code → x ≡ y
same_end es x y h k e = same_Some x y (sym h ∙ ap (end_of es) e ∙ k)

-- pairs of ends of the same portals
pub coded_of : (es : List EndPoints) (pairs : List EndPair) → All (IsEndPairOf es) pairs → AreCoded pairs
coded_of es pairs h = record {
  lefts = λ k d l. (h k d l).left_code;
  rights = λ k d l. (h k d l).right_code;
  same_lefts = λ p q c d e. same_end es p.left q.left (All-contains (IsEndPairOf es) pairs p h c).left (All-contains (IsEndPairOf es) pairs q h d).left e;
  same_rights = λ p q c d e. same_end es p.right q.right (All-contains (IsEndPairOf es) pairs p h c).right (All-contains (IsEndPairOf es) pairs q h d).right e;
}

-- evidence that is made of pairs that show it
pub shown_barred : (es : List EndPoints) (pairs : List EndPair) (e : Evidence) → ShowsNoLine es pairs → IsEvidenceOf pairs e → ((fs : List EndPoints) → All (IsEndPairOf fs) pairs → BlocksEnds fs e) → IsBarredBy es e
shown_barred es pairs e s i b = record { no_line = shown es pairs s; blocks = b es s.ends; pairs = pairs; evidence = i }
