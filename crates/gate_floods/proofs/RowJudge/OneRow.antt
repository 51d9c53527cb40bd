-- The first wrong node of a tree that is judged by a row is one, by whatever half-edges and masks of one mesh, and by whatever rows of the same bits.
use Rattle.std.proofs.Common.{◌≡◌, ℕ, zero, suc, ◌<◌, ◌≤◌, ◌/◌, ◌%◌, ◌⊎◌, inl, inr, List, [], ◌∷◌, ◌++◌, Option, Some, None, Bool, true, false, not, length, take, slice_index, refl, sym, ◌∙◌, ap, subst, arith, if◌then◌else◌}
use Rattle.std.specs.Prelude.{◌↔◌, option_and_then}
use Rattle.std.specs.Int.{bit_at}
use Rattle.std.specs.Cmp.{both_ways}
use Rattle.std.specs.List.{slice_get, filter_map, cons_option}
use Rattle.std.proofs.lemmas.Option.{same_Some}
use Rattle.math_base.proofs.Bools.{not_both_values}
use Rattle.math_base.proofs.Numbers.{below_same_or_above, is_told_same, tells_same}
use Rattle.sight_names.specs.declared.names.Side.{Side}
use Rattle.sight_names.specs.declared.names.Triangle.{Triangle}
use Rattle.sight_names.specs.Map.{Map, map_of}
use Rattle.sight_names.specs.Mesh.{IsGoodMesh}
use Rattle.sight_names.specs.Plan.{PlanParts}
use Rattle.sight_names.specs.Points.{Edge}
use Rattle.sight_names.specs.Sequence.{Portal, IsSolidLine, apex, entry_edge, names_it, root_portal, roots}
use Rattle.sight_names.specs.Splitting.{EndPoints}
use Rattle.block_evidence.specs.declared.sight_tree.Node.{Node}
use Rattle.block_evidence.specs.declared.sight_tree.Node.TheVariants.{Open, Blocked}
use Rattle.block_evidence.specs.Stuck.{BlocksEnds}
use Rattle.mesh_shape.specs.declared.half_edges.table.HalfEdge.{HalfEdge}
use Rattle.mesh_shape.specs.HalfEdges.Numbers.{edge}
use Rattle.mesh_shape.specs.HalfEdges.HalfEdges.{portal_into, entering, IsHalfEdge, AreHalfEdges}
use Rattle.mesh_shape.proofs.HalfEdges.Reached.{reached, outside_is}
use Rattle.cert_checker.specs.TreeJudge.Path.{edge_ends}
use Rattle.cert_checker.specs.TreeJudge.Roots.{root_edge, root_edges, way_out_of}
use Rattle.cert_checker.proofs.TreeJudge.OneTree.{one_plain, one_way as ways_agree, plain}
use Rattle.gate_floods.specs.Gates.{IsInMask}
use Rattle.gate_floods.proofs.Flooding.{one_gate}
use Rattle.gate_floods.specs.RowJudge.Masks.{MaskRows}
use Rattle.gate_floods.specs.RowJudge.Words.{both_words, has_bit_in_words, is_away, is_in}
use Rattle.gate_floods.specs.RowJudge.Asked.{Pending, AnswersFirstInRow, AreAnswered, IsFirstWrongInRow, ends_through, leaves, row_left, mask_of_edge, pending_roots, pending_way, row_through, way_asked, ways_through, with_rest}
use Rattle.gate_floods.specs.RowJudge.Laws.{AreHalfEdgeMasks, IsPortalMask}
use Rattle.gate_floods.proofs.RowJudge.Bits.{bit_found, found_bit, in_both, in_each}
use Rattle.gate_floods.proofs.RowJudge.Telling.{one_answer}

-- ---- rows of the same bits

abbrev bit_of : List ℕ → ℕ → ℕ
bit_of row c = bit_at (slice_index row (c / 64)) (c % 64)

abbrev pub HaveSameBits : List ℕ → List ℕ → Type 0
HaveSameBits r s = (c : ℕ) → (bit_of r c ≡ 1) ↔ (bit_of s c ≡ 1)

turned : (r s : List ℕ) → HaveSameBits r s → HaveSameBits s r
turned r s h = λ c. ((h c).1, (h c).0)

both_to : (r s a b : List ℕ) → HaveSameBits r s → HaveSameBits a b → (c : ℕ) → bit_of (both_words r a) c ≡ 1 → bit_of (both_words s b) c ≡ 1
both_to r s a b h m c e = let x = in_each r a c e in in_both s b c ((h c).0 x.0) ((m c).0 x.1)

both_same : (r s a b : List ℕ) → HaveSameBits r s → HaveSameBits a b → HaveSameBits (both_words r a) (both_words s b)
both_same r s a b h m = λ c. (both_to r s a b h m c, both_to s r b a (turned r s h) (turned a b m) c)

has_to : (r s : List ℕ) → HaveSameBits r s → has_bit_in_words r ≡ true → has_bit_in_words s ≡ true
has_to r s h e = let f = found_bit r e in bit_found s f.0 ((h f.0).0 f.1)

has_same : (r s : List ℕ) → HaveSameBits r s → has_bit_in_words r ≡ has_bit_in_words s
has_same r s h = both_ways (has_bit_in_words r) (has_bit_in_words s) (has_to r s h) (has_to s r (turned r s h))

in_to : (r s : List ℕ) (c : ℕ) → HaveSameBits r s → is_in r c ≡ true → is_in s c ≡ true
in_to r s c h e = tells_same (bit_of s c) 1 ((h c).0 (is_told_same (bit_of r c) 1 e))

away_same : (r s : List ℕ) (o : Option ℕ) → HaveSameBits r s → is_away r o ≡ is_away s o
away_same r s None h = refl
away_same r s (Some c) h = ap (λ (b : Bool). not b) (both_ways (is_in r c) (is_in s c) (in_to r s c h) (in_to s r c (turned r s h)))

-- both are no gate's, or both are of the same bits
abbrev AreSameMasks : Option (List ℕ) → Option (List ℕ) → Type 0
AreSameMasks None None = Unit {0}
AreSameMasks None (Some b) = ⊥
AreSameMasks (Some a) None = ⊥
AreSameMasks (Some a) (Some b) = HaveSameBits a b

left_same : (r s : List ℕ) (a b : Option (List ℕ)) → HaveSameBits r s → AreSameMasks a b → HaveSameBits (row_left r a) (row_left s b)
left_same r s None None h m = h
left_same r s None (Some b) h m = absurd m
left_same r s (Some a) None h m = absurd m
left_same r s (Some a) (Some b) h m = both_same r s a b h m

leaves_same : (r s : List ℕ) (a b : Option (List ℕ)) → HaveSameBits r s → AreSameMasks a b → leaves r a ≡ leaves s b
leaves_same r s None None h m = refl
leaves_same r s None (Some b) h m = absurd m
leaves_same r s (Some a) None h m = absurd m
leaves_same r s (Some a) (Some b) h m = has_same (both_words r a) (both_words s b) (both_same r s a b h m)

-- ---- masks

module _ (m : Map) (ts : List Triangle) (ls : List (Option ℕ)) (good : IsGoodMesh m ts ls) (Claims : ℕ → ℕ → Type 0) where
  mask_same : (a b : Option (List ℕ)) (p : Portal) → IsPortalMask m Claims p a → IsPortalMask m Claims p b → AreSameMasks a b
  mask_same None None p h k = tt
  mask_same None (Some b) p h k = h k.0 k.1 k.2
  mask_same (Some a) None p h k = k h.0 h.1 h.2
  mask_same (Some a) (Some b) p h k =
      let o = one_gate m ts ls good h.0 h.1 k.0 k.1 p h.2 k.2 in
      λ c. (
        (λ e. (k.3 c).1 (moved c h.0 k.0 h.1 k.1 o.0 o.1 ((h.3 c).0 e))),
        (λ e. (h.3 c).1 (moved c k.0 h.0 k.1 h.1 (sym o.0) (sym o.1) ((k.3 c).0 e))),
      )
    where
      moved : (c b e d f : ℕ) → b ≡ e → d ≡ f → IsInMask m Claims b d p c → IsInMask m Claims e f p c
      moved c b e d f g h x = subst (λ (n : ℕ). IsInMask m Claims e n p c) h (subst (λ (n : ℕ). IsInMask m Claims n d p c) g x)

  -- ---- half-edges of two plans of the map

  module _ (p q : PlanParts) (of_p : map_of p ≡ m) (of_q : map_of q ≡ m) (xs ys : List HalfEdge) (f : AreHalfEdges p ts ls xs) (g : AreHalfEdges q ts ls ys) (ms ns : MaskRows) (masks : AreHalfEdgeMasks m Claims xs ms) (masks_too : AreHalfEdgeMasks m Claims ys ns) (source : ℕ) where
    one_way : (d : Edge) → entering ts xs d ≡ entering ts ys d
    one_way = ways_agree m ts ls good p q of_p of_q xs ys f g

    -- what a walk reads of the half-edge that one enters by is the same of both
    record AreAlike (i : ℕ) (x y : HalfEdge) : Type 0 where
      same : plain x ≡ plain y
      left : Edge
      left_way : x.left_way ≡ entering ts xs left
      right : Edge
      right_way : x.right_way ≡ entering ts xs right
      mask : AreSameMasks (mask_of_edge ms i) (mask_of_edge ns i)

    alike_here : (d : Edge) (i : ℕ) (x y : HalfEdge) → slice_get xs i ≡ Some x → slice_get ys i ≡ Some y → IsHalfEdge p ts ls xs d x → IsHalfEdge q ts ls ys d y → ¬ IsSolidLine (map_of p) (portal_into x) → ¬ IsSolidLine (map_of q) (portal_into y) → AreAlike i x y
    alike_here d i x y here there u v open_ open_too = record {
      same = one_plain m ts ls good p q of_p of_q d x y xs ys u v one_way;
      left = edge x.left x.apex;
      left_way = u.left_way;
      right = edge x.apex x.right;
      right_way = u.right_way;
      mask = mask_same (mask_of_edge ms i) (mask_of_edge ns i) (portal_into x) (masks i x here (subst (λ (n : Map). ¬ IsSolidLine n (portal_into x)) of_p open_))
          (subst (λ (r : Portal). IsPortalMask m Claims r (mask_of_edge ns i)) (v.portal ∙ sym u.portal) (masks_too i y there (subst (λ (n : Map). ¬ IsSolidLine n (portal_into y)) of_q open_too)));
    }

    sector_same : {i : ℕ} {x y : HalfEdge} → AreAlike i x y → x.sector ≡ y.sector
    sector_same a = ap (λ (z : HalfEdge). z.sector) a.same

    ends_same : {i : ℕ} {x y : HalfEdge} → AreAlike i x y → edge_ends x ≡ edge_ends y
    ends_same a = ap edge_ends a.same

    alike : (d : Edge) (i : ℕ) (x y : HalfEdge) → entering ts xs d ≡ Some i → slice_get xs i ≡ Some x → slice_get ys i ≡ Some y → AreAlike i x y
    alike d i x y e here there =
        let r = reached p ts ls xs f d i e in
        let s = reached q ts ls ys g d i (sym (one_way d) ∙ e) in
        let a : r.x ≡ x = same_Some r.x x (sym r.at ∙ here) in
        let b : s.x ≡ y = same_Some s.x y (sym s.at ∙ there) in
        subst (λ (z : HalfEdge). AreAlike i x z) b (subst (λ (z : HalfEdge). AreAlike i z s.x) a (alike_here d i r.x s.x r.at s.at r.is s.is r.no_wall s.no_wall))

    there_too : (d : Edge) (i : ℕ) → entering ts xs d ≡ Some i → (y : HalfEdge) × (slice_get ys i ≡ Some y)
    there_too d i e = let s = reached q ts ls ys g d i (sym (one_way d) ∙ e) in (s.x, s.at)

    there_first : (d : Edge) (i : ℕ) → entering ts xs d ≡ Some i → (x : HalfEdge) × (slice_get xs i ≡ Some x)
    there_first d i e = let s = reached p ts ls xs f d i e in (s.x, s.at)

    -- ---- what is to be asked

    abbrev with_row : Pending → List ℕ → Pending
    with_row a row = record { path = a.path; row = row; edge = a.edge }

    -- the same half-edge is to be asked, which some way leads to, with a row of the same bits
    record IsSame (a b : Pending) : Type 0 where
      other : List ℕ
      is : b ≡ with_row a other
      row : HaveSameBits a.row other
      entry : Edge
      entered : entering ts xs entry ≡ Some a.edge

    abbrev AreSame : List Pending → List Pending → Type 0
    AreSame [] [] = Unit {0}
    AreSame [] (b ∷ bs) = ⊥
    AreSame (a ∷ fs) [] = ⊥
    AreSame (a ∷ fs) (b ∷ bs) = IsSame a b × AreSame fs bs

    joined : (fs bs cs ds : List Pending) → AreSame fs bs → AreSame cs ds → AreSame (fs ++ cs) (bs ++ ds)
    joined [] [] cs ds h k = k
    joined [] (b ∷ bs) cs ds h k = absurd h
    joined (a ∷ fs) [] cs ds h k = absurd h
    joined (a ∷ fs) (b ∷ bs) cs ds h k = (h.0, joined fs bs cs ds h.1 k)

    module _ (path : List EndPoints) (r s : List ℕ) (same : HaveSameBits r s) where
      step : (d : Edge) (i : ℕ) → entering ts xs d ≡ Some i → (k l : Bool) → k ≡ l → AreSame (pending_way path r (let o : Option ℕ = if k then Some i else None in o)) (pending_way path s (let o : Option ℕ = if l then Some i else None in o))
      step d i e true true h = (record { other = s; is = refl; row = same; entry = d; entered = e }, tt)
      step d i e true false h = absurd (not_both_values true refl h)
      step d i e false true h = absurd (not_both_values false h refl)
      step d i e false false h = tt

      abbrev here_way : ℕ → Bool → List Pending
      here_way i b = pending_way path r (option_and_then (with_rest ms r) (let o : Option ℕ = if b then None else Some i in o))

      abbrev there_way : ℕ → Bool → List Pending
      there_way i b = pending_way path s (option_and_then (with_rest ns s) (let o : Option ℕ = if b then None else Some i in o))

      by_sector : (d : Edge) (i : ℕ) → entering ts xs d ≡ Some i → (x y : HalfEdge) → AreAlike i x y → (b c : Bool) → b ≡ c → AreSame (here_way i b) (there_way i c)
      by_sector d i e x y a true true h = tt
      by_sector d i e x y a true false h = absurd (not_both_values true refl h)
      by_sector d i e x y a false true h = absurd (not_both_values false h refl)
      by_sector d i e x y a false false h = step d i e (leaves r (mask_of_edge ms i)) (leaves s (mask_of_edge ns i)) (leaves_same r s (mask_of_edge ms i) (mask_of_edge ns i) same a.mask)

      way_same : (d : Edge) → AreSame (pending_way path r (way_asked xs ms source r (entering ts xs d))) (pending_way path s (way_asked ys ns source s (entering ts ys d)))
      way_same d = subst (λ (o : Option ℕ). AreSame (pending_way path r (way_asked xs ms source r (entering ts xs d))) (pending_way path s (way_asked ys ns source s o))) (one_way d) (at (entering ts xs d) refl)
        where
          at : (o : Option ℕ) → entering ts xs d ≡ o → AreSame (pending_way path r (way_asked xs ms source r o)) (pending_way path s (way_asked ys ns source s o))
          at None e = tt
          at (Some i) e =
              let x = there_first d i e in
              let y = there_too d i e in
              let a = alike d i x.0 y.0 e x.1 y.1 in
              let here : pending_way path r (way_asked xs ms source r (Some i)) ≡ here_way i (names_it x.0.sector source) = ap (λ (o : Option ℕ). pending_way path r (option_and_then (with_rest ms r) o)) (outside_is xs source i x.0 x.1) in
              let there : pending_way path s (way_asked ys ns source s (Some i)) ≡ there_way i (names_it y.0.sector source) = ap (λ (o : Option ℕ). pending_way path s (option_and_then (with_rest ns s) o)) (outside_is ys source i y.0 y.1) in
              subst (λ (w : List Pending). AreSame w (pending_way path s (way_asked ys ns source s (Some i)))) (sym here)
              (subst (λ (w : List Pending). AreSame (here_way i (names_it x.0.sector source)) w) (sym there)
              (by_sector d i e x.0 y.0 a (names_it x.0.sector source) (names_it y.0.sector source) (ap (λ (o : Option ℕ). names_it o source) (sector_same a))))

    module _ (r s : List ℕ) (same : HaveSameBits r s) where
      one_root : (o : Option Portal) → AreSame (pending_way [] r (option_and_then (with_rest ms r) (option_and_then (λ (w : Portal). way_out_of ts xs source (entry_edge w)) o)))
          (pending_way [] s (option_and_then (with_rest ns s) (option_and_then (λ (w : Portal). way_out_of ts ys source (entry_edge w)) o)))
      one_root None = tt
      one_root (Some w) = way_same [] r s same (entry_edge w)

      head_here : (o : Option ℕ) (es : List ℕ) → pending_roots ms r (cons_option o es) ≡ pending_way [] r (option_and_then (with_rest ms r) o) ++ pending_roots ms r es
      head_here None es = refl
      head_here (Some i) es = refl

      head_there : (o : Option ℕ) (es : List ℕ) → pending_roots ns s (cons_option o es) ≡ pending_way [] s (option_and_then (with_rest ns s) o) ++ pending_roots ns s es
      head_there None es = refl
      head_there (Some i) es = refl

      roots_same : (ss : List Side) → AreSame (pending_roots ms r (filter_map (root_edge ts xs m source) ss)) (pending_roots ns s (filter_map (root_edge ts ys m source) ss))
      roots_same [] = tt
      roots_same (w ∷ ss) =
          subst (λ (z : List Pending). AreSame z (pending_roots ns s (filter_map (root_edge ts ys m source) (w ∷ ss)))) (sym (head_here (root_edge ts xs m source w) (filter_map (root_edge ts xs m source) ss)))
          (subst (λ (z : List Pending). AreSame (pending_way [] r (option_and_then (with_rest ms r) (root_edge ts xs m source w)) ++ pending_roots ms r (filter_map (root_edge ts xs m source) ss)) z) (sym (head_there (root_edge ts ys m source w) (filter_map (root_edge ts ys m source) ss)))
          (joined _ _ _ _ (one_root (root_portal m w)) (roots_same ss)))

    -- ---- answers

    abbrev Here : List Pending → Node → List Pending → Type 0
    Here fs n cs = AnswersFirstInRow xs ms source fs n cs

    abbrev There : List Pending → Node → List Pending → Type 0
    There bs n ds = AnswersFirstInRow ys ns source bs n ds

    ways_same : (a : Pending) (s : List ℕ) → HaveSameBits a.row s → (x y : HalfEdge) → AreAlike a.edge x y → AreSame (ways_through xs ms source a x) (ways_through ys ns source (with_row a s) y)
    ways_same a s same x y w =
        subst (λ (o : Option ℕ). AreSame (ways_through xs ms source a x) (pending_way (ends_through (with_row a s) y) after_too (way_asked ys ns source after_too o) ++ pending_way (ends_through (with_row a s) y) after_too (way_asked ys ns source after_too y.right_way))) (sym (sym (ap (λ (z : HalfEdge). z.left_way) w.same) ∙ w.left_way ∙ one_way w.left))
        (subst (λ (o : Option ℕ). AreSame (ways_through xs ms source a x) (pending_way (ends_through (with_row a s) y) after_too (way_asked ys ns source after_too (entering ts ys w.left)) ++ pending_way (ends_through (with_row a s) y) after_too (way_asked ys ns source after_too o))) (sym (sym (ap (λ (z : HalfEdge). z.right_way) w.same) ∙ w.right_way ∙ one_way w.right))
        (subst (λ (o : Option ℕ). AreSame (pending_way ends after (way_asked xs ms source after o) ++ pending_way ends after (way_asked xs ms source after x.right_way)) there) (sym w.left_way)
        (subst (λ (o : Option ℕ). AreSame (pending_way ends after (way_asked xs ms source after (entering ts xs w.left)) ++ pending_way ends after (way_asked xs ms source after o)) there) (sym w.right_way)
        (subst (λ (z : List EndPoints). AreSame (pending_way ends after (way_asked xs ms source after (entering ts xs w.left)) ++ pending_way ends after (way_asked xs ms source after (entering ts xs w.right)))
        (pending_way z after_too (way_asked ys ns source after_too (entering ts ys w.left)) ++ pending_way z after_too (way_asked ys ns source after_too (entering ts ys w.right)))) (ap (λ (e : EndPoints). a.path ++ e ∷ []) (ends_same w))
        (joined _ _ _ _ (way_same ends after after_too rows w.left) (way_same ends after after_too rows w.right))))))
      where
        ends : List EndPoints
        ends = ends_through a x

        after : List ℕ
        after = row_through ms a

        after_too : List ℕ
        after_too = row_through ns (with_row a s)

        there : List Pending
        there = pending_way (ends_through (with_row a s) y) after_too (way_asked ys ns source after_too (entering ts ys w.left)) ++ pending_way (ends_through (with_row a s) y) after_too (way_asked ys ns source after_too (entering ts ys w.right))

        rows : HaveSameBits after after_too
        rows = left_same a.row s (mask_of_edge ms a.edge) (mask_of_edge ns a.edge) same w.mask

    same_first : (b c : Pending) (rb rc us : List Pending) → us ≡ b ∷ rb → us ≡ c ∷ rc → b ≡ c
    same_first b c rb rc us e h = cc

    same_rest : (b c : Pending) (rb rc us : List Pending) → us ≡ b ∷ rb → us ≡ c ∷ rc → rb ≡ rc
    same_rest b c rb rc us e h = cc

    -- the node answers for both, and the same is to be asked behind it
    step_on : (n : Node) (a b : Pending) (ra rb ds : List Pending) → IsSame a b → AreSame ra rb → There (b ∷ rb) n ds → (cs : List Pending) × Here (a ∷ ra) n cs × AreSame cs ds
    step_on Open a b ra rb ds one more (c, rc, y, ec, yc, away, ed) =
        let x = there_first one.entry a.edge one.entered in
        let cb : c ≡ with_row a one.other = sym (same_first b c rb rc (b ∷ rb) refl ec) ∙ one.is in
        let yb : slice_get ys a.edge ≡ Some y = subst (λ (z : Pending). slice_get ys z.edge ≡ Some y) cb yc in
        let w = alike one.entry a.edge x.0 y one.entered x.1 yb in
        let away_too : is_away (row_through ns (with_row a one.other)) y.sector ≡ true = subst (λ (z : Pending). is_away (row_through ns z) y.sector ≡ true) cb away in
        let rows : HaveSameBits (row_through ms a) (row_through ns (with_row a one.other)) = left_same a.row one.other (mask_of_edge ms a.edge) (mask_of_edge ns a.edge) one.row w.mask in
        let here : is_away (row_through ms a) x.0.sector ≡ true = away_same (row_through ms a) (row_through ns (with_row a one.other)) x.0.sector rows ∙ ap (is_away (row_through ns (with_row a one.other))) (sector_same w) ∙ away_too in
        let behind : ds ≡ ways_through ys ns source (with_row a one.other) y ++ rb = ed ∙ ap (λ (z : Pending). ways_through ys ns source z y ++ rc) cb ∙ ap (λ (us : List Pending). ways_through ys ns source (with_row a one.other) y ++ us) (sym (same_rest b c rb rc (b ∷ rb) refl ec)) in
        (ways_through xs ms source a x.0 ++ ra, (a, ra, x.0, refl, x.1, here, refl), subst (AreSame (ways_through xs ms source a x.0 ++ ra)) (sym behind) (joined _ _ _ _ (ways_same a one.other one.row x.0 y w) more))
    step_on (Blocked e) a b ra rb ds one more (c, rc, y, ec, yc, blocks, ed) =
        let x = there_first one.entry a.edge one.entered in
        let cb : c ≡ with_row a one.other = sym (same_first b c rb rc (b ∷ rb) refl ec) ∙ one.is in
        let yb : slice_get ys a.edge ≡ Some y = subst (λ (z : Pending). slice_get ys z.edge ≡ Some y) cb yc in
        let w = alike one.entry a.edge x.0 y one.entered x.1 yb in
        let there : BlocksEnds (ends_through (with_row a one.other) y) e = subst (λ (z : Pending). BlocksEnds (ends_through z y) e) cb blocks in
        let here : BlocksEnds (ends_through a x.0) e = subst (λ (z : EndPoints). BlocksEnds (a.path ++ z ∷ []) e) (sym (ends_same w)) there in
        (ra, (a, ra, x.0, refl, x.1, here, refl), subst (AreSame ra) (sym (ed ∙ sym (same_rest b c rb rc (b ∷ rb) refl ec))) more)

    -- a node that answers for the one list answers for the other, and the same is to be asked behind it
    moves : (n : Node) (fs bs ds : List Pending) → AreSame fs bs → There bs n ds → (cs : List Pending) × Here fs n cs × AreSame cs ds
    moves n fs [] ds h t = absurd (none_asked n ds t)
      where
        none_asked : (n : Node) (ds : List Pending) → There [] n ds → ⊥
        none_asked Open ds (c, rc, y, ec, yc, away, ed) = cc
        none_asked (Blocked e) ds (c, rc, y, ec, yc, blocks, ed) = cc
    moves n [] (b ∷ bs) ds h t = absurd h
    moves n (a ∷ fs) (b ∷ bs) ds h t = step_on n a b fs bs ds h.0 h.1 t

    -- the same is to be asked behind nodes that answer for both
    all_on : (nodes : List Node) (fs bs cs ds : List Pending) → AreSame fs bs → AreAnswered xs ms source fs nodes cs → AreAnswered ys ns source bs nodes ds → AreSame cs ds
    all_on [] fs bs cs ds h here there = subst (λ (us : List Pending). AreSame us ds) (sym here) (subst (AreSame fs) (sym there) h)
    all_on (n ∷ nodes) fs bs cs ds h (us, one, more) (vs, other, rest) =
        let s = moves n fs bs vs h other in
        all_on nodes us vs cs ds (subst (λ (ws : List Pending). AreSame ws vs) (one_answer xs ms source n fs s.0 us s.1 one) s.2) more rest

    -- a node below k of those that answer
    record IsPassed (nodes : List Node) (j : ℕ) (bs : List Pending) : Type 0 where
      node : Node
      there : slice_get nodes j ≡ Some node
      left : List Pending
      before : AreAnswered ys ns source bs (take j nodes) left
      behind : List Pending
      answers : There left node behind

    passed : (nodes : List Node) (j k : ℕ) (bs last : List Pending) → j < k → k ≤ length nodes → AreAnswered ys ns source bs (take k nodes) last → IsPassed nodes j bs
    passed [] j k bs last l few h = absurd (omega (arith, l, few))
    passed (n ∷ nodes) j zero bs last l few h = absurd (omega (arith, l))
    passed (n ∷ nodes) zero (suc k) bs last l few (rs, one, more) = record { node = n; there = refl; left = bs; before = refl; behind = rs; answers = one }
    passed (n ∷ nodes) (suc j) (suc k) bs last l few (rs, one, more) =
        let r = passed nodes j k rs last (omega (arith, l)) (omega (arith, few)) more in
        record { node = r.node; there = r.there; left = r.left; before = (rs, one, r.before); behind = r.behind; answers = r.answers }

    no_later : (nodes : List Node) (fs bs : List Pending) (j k : ℕ) → AreSame fs bs → j < k → IsFirstWrongInRow xs ms source fs nodes j → IsFirstWrongInRow ys ns source bs nodes k → ⊥
    no_later nodes fs bs j k h l u v =
        let r = passed nodes j k bs v.left l v.within v.before in
        let s = moves r.node u.left r.left r.behind (all_on (take j nodes) fs bs u.left r.left h u.before r.before) r.answers in
        u.wrong r.node r.there s.0 s.1

    no_later_wrong : (nodes : List Node) (r s : List ℕ) (j k : ℕ) → HaveSameBits r s → j < k → IsFirstWrongInRow xs ms source (pending_roots ms r (root_edges ts xs m source)) nodes j → IsFirstWrongInRow ys ns source (pending_roots ns s (root_edges ts ys m source)) nodes k → ⊥
    no_later_wrong nodes r s j k h l u v = no_later nodes _ _ j k (roots_same r s h (roots m source)) l u v

  -- the first wrong node is one
  pub one_first_wrong : (p q : PlanParts) → map_of p ≡ m → map_of q ≡ m → (xs ys : List HalfEdge) → AreHalfEdges p ts ls xs → AreHalfEdges q ts ls ys → (ms ns : MaskRows) → AreHalfEdgeMasks m Claims xs ms → AreHalfEdgeMasks m Claims ys ns
      → (source : ℕ) (nodes : List Node) (r s : List ℕ) (j k : ℕ) → HaveSameBits r s → IsFirstWrongInRow xs ms source (pending_roots ms r (root_edges ts xs m source)) nodes j → IsFirstWrongInRow ys ns source (pending_roots ns s (root_edges ts ys m source)) nodes k → j ≡ k
  one_first_wrong p q of_p of_q xs ys f g ms ns masks masks_too source nodes r s j k h u v = by (below_same_or_above j k)
    where
      by : (j < k) ⊎ (j ≡ k) ⊎ (k < j) → j ≡ k
      by (inl l) = absurd (no_later_wrong p q of_p of_q xs ys f g ms ns masks masks_too source nodes r s j k h l u v)
      by (inr (inl e)) = e
      by (inr (inr l)) = absurd (no_later_wrong q p of_q of_p ys xs g f ns ms masks_too masks source nodes s r k j (turned r s h) l v u)
