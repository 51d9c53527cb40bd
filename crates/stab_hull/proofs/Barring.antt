-- A new end that can't be split from an end of an extreme line shows that no line splits the ends.
use Rattle.std.proofs.Common.{◌≡◌, ℕ, ◌+◌, ◌<◌, List, [], ◌∷◌, ◌++◌, length, Some, All, refl, sym, ap, arith, inl, inr, subst, subst₂}
use Rattle.std.proofs.lemmas.Int.{ints}
use Rattle.std.proofs.lemmas.List.Elements.{All-nil, All-cons}
use Rattle.sight_names.specs.declared.limits.TheConstants.{RIGHT_END}
use Rattle.sight_names.specs.declared.names.Pt.{Pt}
use Rattle.sight_names.specs.declared.names.EndAt.{EndAt}
use Rattle.sight_names.specs.declared.names.EndPair.{EndPair}
use Rattle.sight_names.specs.Splitting.{EndPoints, IsEndPairOf, AreBalanced, end_of}
use Rattle.geom_exact.specs.declared.extreme_lines.cone.Cone.TheVariants.{Open}
use Rattle.geom_exact.specs.declared.extreme_lines.wedge.Wedge.{Wedge}
use Rattle.geom_exact.specs.ExtremeLines.Differences.{difference}
use Rattle.geom_exact.specs.ExtremeLines.Spans.{Spans, end_pair_of}
use Rattle.geom_exact.proofs.ExtremeLines.EndsLemmas.{pair_of_more, end_of_more, left_end, right_end, left_place, right_place, left_within, right_within}
use Rattle.geom_exact.proofs.ExtremeLines.Widening.{wedge_meets}
use Rattle.block_evidence.specs.declared.Evidence.{Evidence}
use Rattle.block_evidence.specs.OneTurn.{AreLines, BarsRight, BarsLeft}
use Rattle.block_evidence.specs.Picked.{Picks, both_ends}
use Rattle.block_evidence.proofs.Picking.{some_more, five_among, picks_evidence, picks_block}
use Rattle.stab_hull.specs.Answer.{IsBarredBy}
use Rattle.stab_hull.specs.Barred.{ends_and}
use Rattle.stab_hull.specs.Portals.{IsConeOf}
use Rattle.stab_hull.proofs.Lines.{same_end, shown}
use Rattle.stab_hull.proofs.OneLine.{turn_is, form_left, form_right, right_of_first, left_of_second}
use Rattle.math_base.proofs.Lists.{get_pushed}

module _ (es : List EndPoints) (w : Wedge) (h : IsConeOf es (Open w)) where
  -- the cone has the difference of the left end of the first line and the right end of the second
  corner : Spans (Open w) (difference w.first.left.at w.second.right.at)
  corner =
      let t = left_place es w.first.left h.pairs.first.left_code h.pairs.first.left in
      let u = right_place es w.second.right h.pairs.second.right_code h.pairs.second.right in
      subst₂ (λ (p q : Pt). Spans (Open w) (difference p q)) t.3 u.3 (h.spans t.0 u.0 t.1 u.1 t.2 u.2)

  pub lines : AreLines (end_pair_of w.first) (end_pair_of w.second)
  lines = record {
    first_left = h.pairs.first.left_code;
    second_left = h.pairs.second.left_code;
    first_right = h.pairs.first.right_code;
    second_right = h.pairs.second.right_code;
    same_left = same_end es w.first.left w.second.left h.pairs.first.left h.pairs.second.left;
    same_right = same_end es w.first.right w.second.right h.pairs.first.right h.pairs.second.right;
    right = right_of_first w w.second.right.at corner;
    left = left_of_second w w.first.left.at corner;
  }

  -- the ends have places
  pub left_before : (p : EndPair) → IsEndPairOf es p → p.left.code < length es
  left_before p i = left_within es p.left i.left_code i.left

  pub right_before : (p : EndPair) → IsEndPairOf es p → p.right.code < length es + RIGHT_END
  right_before p i = right_within es p.right i.right_code i.right

  barred : (q : EndPoints) (new : EndAt) (third : EndPair) (e : Evidence) → IsEndPairOf (es ++ q ∷ []) third → AreBalanced (end_pair_of w.first ∷ end_pair_of w.second ∷ third ∷ []) → Picks (both_ends (end_pair_of w.first ∷ end_pair_of w.second ∷ third ∷ [])) e → IsBarredBy (es ++ q ∷ []) e
  barred q new third e i b p = record {
    no_line = shown (es ++ q ∷ []) pairs (record { ends = ends; balanced = b });
    blocks = picks_block pairs e p (es ++ q ∷ []) ends;
    pairs = pairs;
    evidence = picks_evidence pairs e p;
  }
    where
      pairs : List EndPair
      pairs = end_pair_of w.first ∷ end_pair_of w.second ∷ third ∷ []

      ends : All (IsEndPairOf (es ++ q ∷ [])) pairs
      ends = All-cons (IsEndPairOf (es ++ q ∷ [])) (end_pair_of w.first) (end_pair_of w.second ∷ third ∷ []) (pair_of_more es (q ∷ []) (end_pair_of w.first) h.pairs.first)
          (All-cons (IsEndPairOf (es ++ q ∷ [])) (end_pair_of w.second) (third ∷ []) (pair_of_more es (q ∷ []) (end_pair_of w.second) h.pairs.second)
          (All-cons (IsEndPairOf (es ++ q ∷ [])) third [] i (All-nil (IsEndPairOf (es ++ q ∷ [])))))

  pub right_barred : (q : EndPoints) (new : EndAt) (e : Evidence) → new ≡ record { code = length es + RIGHT_END; at = q.right } → BarsRight (end_pair_of w.first) (end_pair_of w.second) new → Picks (ends_and w new) e → IsBarredBy (es ++ q ∷ []) e
  right_barred q new e n b p = barred q new (record { left = w.first.left; right = new }) e (record {
    left_code = h.pairs.first.left_code;
    right_code = (let c = ap (λ (d : EndAt). d.code) n in omega (arith, c));
    left = end_of_more es (q ∷ []) w.first.left.code w.first.left h.pairs.first.left;
    right = there;
  }) (wedge_meets w w.first.left new
      (let t = turn_is w.first w.first.left.at new.at in let z = form_left w.first in let k = b.beyond_first in omega (arith, ints))
      (let t = turn_is w.second w.first.left.at new.at in let k = b.far in omega (arith, ints)))
      (some_more (ends_and w new) (both_ends (end_pair_of w.first ∷ end_pair_of w.second ∷ record { left = w.first.left; right = new } ∷ [])) (Some e) (five_among (end_pair_of w.first ∷ end_pair_of w.second ∷ record { left = w.first.left; right = new } ∷ []) (end_pair_of w.first) (end_pair_of w.first) (end_pair_of w.first) new refl (inr refl)) p)
    where
      there : end_of (es ++ q ∷ []) new.code ≡ Some new
      there = subst (λ (d : EndAt). end_of (es ++ q ∷ []) d.code ≡ Some d) (sym n) (subst (λ (k : ℕ). end_of (es ++ q ∷ []) k ≡ Some (record { code = k; at = q.right })) (omega arith) (right_end (es ++ q ∷ []) (length es) q (get_pushed es q)))

  pub left_barred : (q : EndPoints) (new : EndAt) (e : Evidence) → length es < RIGHT_END → new ≡ record { code = length es; at = q.left } → BarsLeft (end_pair_of w.first) (end_pair_of w.second) new → Picks (ends_and w new) e → IsBarredBy (es ++ q ∷ []) e
  left_barred q new e few n b p = barred q new (record { left = new; right = w.second.right }) e (record {
    left_code = b.coded;
    right_code = h.pairs.second.right_code;
    left = subst (λ (d : EndAt). end_of (es ++ q ∷ []) d.code ≡ Some d) (sym n) (left_end (es ++ q ∷ []) (length es) q few (get_pushed es q));
    right = end_of_more es (q ∷ []) w.second.right.code w.second.right h.pairs.second.right;
  }) (wedge_meets w new w.second.right
      (let t = turn_is w.first new.at w.second.right.at in let k = b.far in omega (arith, ints))
      (let t = turn_is w.second new.at w.second.right.at in let z = form_right w.second in let k = b.beyond_second in omega (arith, ints)))
      (some_more (ends_and w new) (both_ends (end_pair_of w.first ∷ end_pair_of w.second ∷ record { left = new; right = w.second.right } ∷ [])) (Some e) (five_among (end_pair_of w.first ∷ end_pair_of w.second ∷ record { left = new; right = w.second.right } ∷ []) (end_pair_of w.first) (end_pair_of w.first) (end_pair_of w.first) new refl (inl refl)) p)
