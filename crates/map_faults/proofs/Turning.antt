-- Turns round a point have one end, and the torn corners of one line after the other.
use Rattle.std.proofs.Common.{◌≡◌, ◌≢◌, ℕ, ◌+◌, ◌<◌, ◌≤◌, ◌⊎◌, inl, inr, ◌↔◌, List, [], ◌∷◌, ◌++◌, Option, Some, None, length, Bool, true, false, IsTrue, Contains, refl, sym, ◌∙◌, ap, subst, arith, slice_get}
use mathlib.Core.Bool.{beq}
use Rattle.std.proofs.lemmas.List.{length-append}
use Rattle.std.proofs.lemmas.Option.{none-some, same_Some, slice_get_within}
use Rattle.std.proofs.lemmas.Bool.{true≢false, false≢true}
use Rattle.math_base.proofs.Lists.{contains_none, contains_append, contains_left, contains_right, contains_one, contains_here, length_pushed}
use Rattle.math_base.proofs.Numbers.{below_or_last}
use Rattle.sight_names.specs.declared.names.Side.{Side}
use Rattle.sight_names.specs.declared.names.Triangle.{Triangle}
use Rattle.sight_names.specs.declared.plan.Line.{Line}
use Rattle.sight_names.specs.Plan.{PlanParts}
use Rattle.sight_names.specs.Map.{Map, map_of}
use Rattle.sight_names.specs.Points.{Edge}
use Rattle.sight_names.specs.Sequence.{apex}
use Rattle.mesh_shape.specs.Faults.{IsSideBefore}
use Rattle.mesh_shape.specs.HalfEdges.Numbers.{edge}
use Rattle.mesh_shape.specs.HalfEdges.Kinds.{edge_at, portal_on}
use Rattle.map_faults.specs.declared.tears.Tear.{Tear}
use Rattle.map_faults.specs.EdgeSides.{side_by}
use Rattle.map_faults.specs.Tears.{IsBorder, TurnsRound, IsTurnWithin, DoesName, DoDiffer, IsTorn, IsTear, IsTearBefore, AreTearsOf, AreTearsBy, AddsTear, AddsTears}
use Rattle.map_faults.proofs.Ordered.{one_behind}

-- ---- the turn, edge by edge

module _ (ts : List Triangle) (ss : List (Option Side)) (point : ℕ) where
  -- one turns from x across the edges to these points, which are no borders, to the edge to y
  abbrev pub IsWay : ℕ → List ℕ → ℕ → Type 0
  IsWay x [] y = x ≡ y
  IsWay x (z ∷ zs) y = (apex ts (portal_on (edge x point)) ≡ Some z) × (¬ IsBorder ts ss (edge point z)) × IsWay z zs y

  way_on : (x : ℕ) (zs : List ℕ) (y z : ℕ) → IsWay x zs y → apex ts (portal_on (edge y point)) ≡ Some z → ¬ IsBorder ts ss (edge point z) → IsWay x (zs ++ z ∷ []) z
  way_on x [] y z e at free = (ap (λ (u : ℕ). apex ts (portal_on (edge u point))) e ∙ at, free, refl)
  way_on x (u ∷ zs) y z h at free = (h.0, h.1, way_on u zs y z h.2 at free)

  way_ends : (x : ℕ) (zs : List ℕ) (y w : ℕ) → IsWay x zs y → apex ts (portal_on (edge y point)) ≡ Some w → IsBorder ts ss (edge point w) → TurnsRound ts ss point x zs w
  way_ends x [] y w e at border = (ap (λ (u : ℕ). apex ts (portal_on (edge u point))) e ∙ at, border)
  way_ends x (u ∷ zs) y w h at border = (h.0, h.1, way_ends u zs y w h.2 at border)

  -- each turn goes this way first
  record GoesOn (zs ys : List ℕ) (y w : ℕ) : Type 0 where
    rest : List ℕ
    whole : ys ≡ zs ++ rest
    turn : TurnsRound ts ss point y rest w

  goes_on : (x : ℕ) (zs : List ℕ) (y : ℕ) (ys : List ℕ) (w : ℕ) → IsWay x zs y → TurnsRound ts ss point x ys w → GoesOn zs ys y w
  goes_on x [] y ys w e turn = record { rest = ys; whole = refl; turn = subst (λ (u : ℕ). TurnsRound ts ss point u ys w) e turn }
  goes_on x (z ∷ zs) y [] w h turn = absurd (h.1 (subst (λ (u : ℕ). IsBorder ts ss (edge point u)) (same_Some w z (sym turn.0 ∙ h.0)) turn.1))
  goes_on x (z ∷ zs) y (u ∷ ys) w h turn =
      let e = same_Some u z (sym turn.0 ∙ h.0) in
      let r = goes_on z zs y ys w h.2 (subst (λ (v : ℕ). TurnsRound ts ss point v ys w) e turn.2) in
      record { rest = r.rest; whole = ap (λ (v : ℕ). v ∷ ys) e ∙ ap (λ (vs : List ℕ). z ∷ vs) r.whole; turn = r.turn }

  -- so many steps lead to y
  pub record IsAfter (x n y : ℕ) : Type 0 where
    pub zs : List ℕ
    pub len : length zs ≡ n
    pub way : IsWay x zs y

  pub none_after : (x : ℕ) → IsAfter x 0 x
  none_after x = record { zs = []; len = refl; way = refl }

  pub more_after : (x n y z : ℕ) → IsAfter x n y → apex ts (portal_on (edge y point)) ≡ Some z → ¬ IsBorder ts ss (edge point z) → IsAfter x (n + 1) z
  more_after x n y z h at free = record { zs = h.zs ++ z ∷ []; len = let a = h.len in let b = length_pushed h.zs z in omega arith; way = way_on x h.zs y z h.way at free }

  pub turn_found : (x n y w : ℕ) → n < length ts → IsAfter x n y → apex ts (portal_on (edge y point)) ≡ Some w → IsBorder ts ss (edge point w) → (ys : List ℕ) × IsTurnWithin ts ss point x ys w
  turn_found x n y w lt h at border = (h.zs, (way_ends x h.zs y w h.way at border, let a = h.len in omega arith))

  pub no_turn_out : (x n y : ℕ) → IsAfter x n y → apex ts (portal_on (edge y point)) ≡ None → (ys : List ℕ) (w : ℕ) → ¬ IsTurnWithin ts ss point x ys w
  no_turn_out x n y h at ys w t = go r.rest r.turn
    where
      r : GoesOn h.zs ys y w
      r = goes_on x h.zs y ys w h.way t.0

      go : (rest : List ℕ) → TurnsRound ts ss point y rest w → ⊥
      go [] turn = none-some w (sym at ∙ turn.0)
      go (u ∷ rest) turn = none-some u (sym at ∙ turn.0)

  pub no_turn_long : (x n y : ℕ) → IsAfter x n y → length ts ≤ n → (ys : List ℕ) (w : ℕ) → ¬ IsTurnWithin ts ss point x ys w
  no_turn_long x n y h past ys w t =
      let r = goes_on x h.zs y ys w h.way t.0 in
      let a = ap (λ (vs : List ℕ). length vs) r.whole in
      let b = both h.zs r.rest in
      let c = h.len in
      let d = t.1 in
      omega arith
    where
      both : (us vs : List ℕ) → length (us ++ vs) ≡ length us + length vs
      both us vs = length-append us vs

  one_turn : (x : ℕ) (ys zs : List ℕ) (w v : ℕ) → TurnsRound ts ss point x ys w → TurnsRound ts ss point x zs v → w ≡ v
  one_turn x [] [] w v h g = same_Some w v (sym h.0 ∙ g.0)
  one_turn x [] (z ∷ zs) w v h g = absurd (g.1 (subst (λ (u : ℕ). IsBorder ts ss (edge point u)) (same_Some w z (sym h.0 ∙ g.0)) h.1))
  one_turn x (y ∷ ys) [] w v h g = absurd (h.1 (subst (λ (u : ℕ). IsBorder ts ss (edge point u)) (same_Some v y (sym g.0 ∙ h.0)) g.1))
  one_turn x (y ∷ ys) (z ∷ zs) w v h g = one_turn y ys zs w v h.2 (subst (λ (u : ℕ). TurnsRound ts ss point u zs v) (same_Some z y (sym g.0 ∙ h.0)) g.2)

-- ---- one corner

pub same_bool : (b c : Bool) → beq b c ≡ true → b ≡ c
same_bool true true e = refl
same_bool false false e = refl
same_bool true false e = absurd (false≢true e)
same_bool false true e = absurd (false≢true e)

pub other_bool : (b c : Bool) → beq b c ≡ false → b ≢ c
other_bool true true e d = true≢false e
other_bool false false e d = true≢false e
other_bool true false e d = true≢false d
other_bool false true e d = false≢true d

abbrev pub torn : Side → ℕ → ℕ → ℕ → Tear
torn side from point to = record { side = side; from = from; point = point; to = to }

module _ (m : Map) (ts : List Triangle) (ss : List (Option Side)) (side : Side) (from point : ℕ) where
  -- the turn doesn't end
  pub not_torn_without : (old : List Tear) → ((ys : List ℕ) (w : ℕ) → ¬ IsTurnWithin ts ss point from ys w) → AddsTear m ts ss side from point old old
  not_torn_without old none = inr (λ to t. none t.way to t.turn, refl)

  differ_or_not : (b c : Bool) (B C : Type 0) → (IsTrue b ↔ B) → (IsTrue c ↔ C) → b ≢ c → (B × ¬ C) ⊎ ((¬ B) × C)
  differ_or_not true true B C h g n = absurd (n refl)
  differ_or_not false false B C h g n = absurd (n refl)
  differ_or_not true false B C h g n = inl (h.0 refl, λ c. false≢true (g.1 c))
  differ_or_not false true B C h g n = inr (λ b. false≢true (h.1 b), g.0 refl)

  alike : (b c : Bool) (B C : Type 0) → (IsTrue b ↔ B) → (IsTrue c ↔ C) → b ≡ c → (B × ¬ C) ⊎ ((¬ B) × C) → ⊥
  alike b c B C h g e (inl d) = d.1 (g.0 (sym e ∙ h.1 d.0))
  alike b c B C h g e (inr d) = d.0 (h.0 (e ∙ g.1 d.1))

  -- both name a sector or none does
  pub not_torn_alike : (old : List Tear) (to : ℕ) (b c : Bool) → (ys : List ℕ) × IsTurnWithin ts ss point from ys to → (IsTrue b ↔ DoesName m (Some side)) → (IsTrue c ↔ DoesName m (side_by ts ss (edge point to))) → b ≡ c → AddsTear m ts ss side from point old old
  not_torn_alike old to b c turn h g e = inr (λ w t. alike b c (DoesName m (Some side)) (DoesName m (side_by ts ss (edge point to))) h g e (subst (λ (v : ℕ). DoDiffer m (Some side) (side_by ts ss (edge point v))) (one_turn ts ss point from t.way turn.0 w to t.turn.0 turn.1.0) t.differ), refl)

  pub is_torn : (old new : List Tear) (to : ℕ) (b c : Bool) → (ys : List ℕ) × IsTurnWithin ts ss point from ys to → (IsTrue b ↔ DoesName m (Some side)) → (IsTrue c ↔ DoesName m (side_by ts ss (edge point to))) → b ≢ c → new ≡ old ++ torn side from point to ∷ [] → AddsTear m ts ss side from point old new
  is_torn old new to b c turn h g n e = inl (to, record { way = turn.0; turn = turn.1; differ = differ_or_not b c (DoesName m (Some side)) (DoesName m (side_by ts ss (edge point to))) h g n }, e)

-- ---- line after line

abbrev side_of : ℕ → Bool → Side
side_of i left = record { line = i; left = left }

pub no_tears : (p : PlanParts) (ts : List Triangle) (ss : List (Option Side)) → AreTearsOf (λ s. s.line < 0) p ts ss []
no_tears p ts ss = record {
  each = λ t c. absurd (contains_none t c);
  all = λ t lt. absurd (let h : t.side.line < 0 = lt in omega arith);
  among = λ t c. absurd (contains_none t c);
  ascend = λ i j x y lt a b. absurd (none-some x a);
}

tears_so : (D E : Side → Type 0) (p : PlanParts) (ts : List Triangle) (ss : List (Option Side)) (tears : List Tear) → ((s : Side) → D s → E s) → ((t : Tear) → E t.side → IsTear p ts ss t → D t.side) → AreTearsOf D p ts ss tears → AreTearsOf E p ts ss tears
tears_so D E p ts ss tears wider back h = record { each = h.each; all = λ t e is. h.all t (back t e is) is; among = λ t c. wider t.side (h.among t c); ascend = h.ascend }

-- one side more
side_added : (D E : Side → Type 0) (p : PlanParts) (ts : List Triangle) (ss : List (Option Side)) (i : ℕ) (l : Line) (left : Bool) (from point : ℕ) (old new : List Tear) → slice_get p.lines i ≡ Some (Some l) → edge_at l left ≡ edge from point
    → ((s : Side) → D s → E s) → ((s : Side) → E s → D s ⊎ (s ≡ side_of i left)) → E (side_of i left) → ((s : Side) → D s → IsSideBefore s (side_of i left))
    → AddsTear (map_of p) ts ss (record { line = i; left = left }) from point old new → AreTearsOf D p ts ss old → AreTearsOf E p ts ss new
side_added D E p ts ss i l left from point old new is along wider next here before adds h = go adds
  where
    side : Side
    side = record { line = i; left = left }

    -- the tear at this side
    same_from : (t : Tear) (k : Line) → t.side ≡ side → slice_get p.lines t.side.line ≡ Some (Some k) → edge_at k t.side.left ≡ edge t.from t.point → edge t.from t.point ≡ edge from point
    same_from t k e at on =
        let f : k ≡ l = same_Some k l (same_Some (Some k) (Some l) (sym at ∙ ap (λ (s : Side). slice_get p.lines s.line) e ∙ is)) in
        sym on ∙ ap (λ (s : Side). edge_at k s.left) e ∙ ap (λ (x : Line). edge_at x left) f ∙ along

    as_torn : (t : Tear) → t.side ≡ side → edge t.from t.point ≡ edge from point → t ≡ torn side from point t.to
    as_torn t e f = joined t.side side t.from from t.point point t.to e (ap (λ (x : Edge). x.from) f) (ap (λ (x : Edge). x.to) f)
      where
        joined : (s s' : Side) (a a' b b' c : ℕ) → s ≡ s' → a ≡ a' → b ≡ b' → torn s a b c ≡ torn s' a' b' c
        joined s s' a a' b b' c x y z = cc

    go : AddsTear (map_of p) ts ss side from point old new → AreTearsOf E p ts ss new
    go (inr g) = subst (AreTearsOf E p ts ss) (sym g.1) (record {
      each = h.each;
      all = λ t e w. elim (next t.side e) as (λ _. Contains old t) [
        | inl d ↦ h.all t d w
        | inr s ↦ absurd (g.0 t.to (subst (IsTorn (map_of p) ts ss) (as_torn t s (same_from t w.line s w.is w.along)) w.torn))
      ];
      among = λ t c. wider t.side (h.among t c);
      ascend = h.ascend;
    })
    go (inl g) = let new_one = torn side from point g.0 in subst (AreTearsOf E p ts ss) (sym g.2) (record {
      each = λ t c. elim (contains_append t old (new_one ∷ []) c) as (λ _. IsTear p ts ss t) [
        | inl before ↦ h.each t before
        | inr one ↦ subst (IsTear p ts ss) (contains_one t new_one one) (record { line = l; is = is; along = along; torn = g.1 })
      ];
      all = λ t e w. elim (next t.side e) as (λ _. Contains (old ++ new_one ∷ []) t) [
        | inl d ↦ contains_left t old (new_one ∷ []) (h.all t d w)
        | inr s ↦
            let same = as_torn t s (same_from t w.line s w.is w.along) in
            let again = subst (IsTorn (map_of p) ts ss) same w.torn in
            let to = one_turn ts ss point from again.way g.1.way t.to g.0 again.turn.0 g.1.turn.0 in
            contains_right t old (new_one ∷ []) (subst (λ (x : Tear). Contains (new_one ∷ []) x) (sym (same ∙ ap (torn side from point) to)) (contains_here new_one []))
      ];
      among = λ t c. elim (contains_append t old (new_one ∷ []) c) as (λ _. E t.side) [
        | inl before_it ↦ wider t.side (h.among t before_it)
        | inr one ↦ subst (λ (x : Tear). E x.side) (contains_one t new_one one) here
      ];
      ascend = one_behind IsTearBefore old new_one h.ascend (λ t c. before t.side (h.among t c));
    })

pub line_added : (p : PlanParts) (ts : List Triangle) (ss : List (Option Side)) (i : ℕ) (l : Line) (old new : List Tear) → slice_get p.lines i ≡ Some (Some l) → AddsTears (map_of p) ts ss i l old new → AreTearsOf (λ s. s.line < i) p ts ss old → AreTearsOf (λ s. s.line < i + 1) p ts ss new
line_added p ts ss i l old new is adds h =
    let one = side_added (λ s. s.line < i) (λ s. (s.line < i) ⊎ (s ≡ side_of i false)) p ts ss i l false l.b l.a old adds.middle is refl (λ s lt. inl lt) (λ s e. e) (inr refl) (λ s lt. inl lt) adds.right h in
    side_added (λ s. (s.line < i) ⊎ (s ≡ side_of i false)) (λ s. s.line < i + 1) p ts ss i l true l.a l.b adds.middle new is refl wider last (let g : i < i + 1 = omega arith in g) before adds.left one
  where
    wider : (s : Side) → (s.line < i) ⊎ (s ≡ side_of i false) → s.line < i + 1
    wider s (inl lt) = omega arith
    wider s (inr e) = let g = ap (λ (x : Side). x.line) e in omega arith

    before : (s : Side) → (s.line < i) ⊎ (s ≡ side_of i false) → IsSideBefore s (side_of i true)
    before s (inl lt) = inl lt
    before s (inr e) = inr (ap (λ (x : Side). x.line) e, ap (λ (x : Side). x.left) e, refl)

    last : (s : Side) → s.line < i + 1 → ((s.line < i) ⊎ (s ≡ side_of i false)) ⊎ (s ≡ side_of i true)
    last s lt = elim (below_or_last s.line i lt) as (λ _. ((s.line < i) ⊎ (s ≡ side_of i false)) ⊎ (s ≡ side_of i true)) [ inl below ↦ inl (inl below) | inr same ↦ which s.line s.left same ]
      where
        which : (k : ℕ) (left : Bool) → k ≡ i → ((k < i) ⊎ (side_of k left ≡ side_of i false)) ⊎ (side_of k left ≡ side_of i true)
        which k true e = inr (ap (λ (n : ℕ). side_of n true) e)
        which k false e = inl (inr (ap (λ (n : ℕ). side_of n false) e))

pub no_line_added : (p : PlanParts) (ts : List Triangle) (ss : List (Option Side)) (i : ℕ) (tears : List Tear) → slice_get p.lines i ≡ Some None → AreTearsOf (λ s. s.line < i) p ts ss tears → AreTearsOf (λ s. s.line < i + 1) p ts ss tears
no_line_added p ts ss i tears none h = tears_so (λ s. s.line < i) (λ s. s.line < i + 1) p ts ss tears (λ s lt. let g : s.line < i + 1 = omega arith in g) (λ t lt w. elim (below_or_last t.side.line i lt) as (λ _. t.side.line < i) [
  | inl below ↦ below
  | inr same ↦ absurd (none-some w.line (same_Some None (Some w.line) (sym none ∙ ap (slice_get p.lines) (sym same) ∙ w.is)))
]) h

pub all_added : (p : PlanParts) (ts : List Triangle) (ss : List (Option Side)) (n : ℕ) (tears : List Tear) → length p.lines ≤ n → AreTearsOf (λ s. s.line < n) p ts ss tears → AreTearsBy p ts ss tears
all_added p ts ss n tears past h = tears_so (λ s. s.line < n) (λ s. Unit {0}) p ts ss tears (λ s lt. tt) (λ t e w. let lt = within p.lines t.side.line (Some w.line) w.is in let g : t.side.line < n = omega arith in g) h
  where
    within : (ls : List (Option Line)) (k : ℕ) (o : Option Line) → slice_get ls k ≡ Some o → k < length ls
    within ls k o e = slice_get_within ls k o e
