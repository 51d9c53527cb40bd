-- What is found: a sight ray leads there, and the row that was wanted has it.
use Rattle.std.proofs.Common.{◌≡◌, ◌≢◌, ℕ, ◌<◌, ◌≤◌, inl, inr, List, [], ◌∷◌, ◌++◌, Option, Some, None, Bool, true, false, Contains, length, slice_get, if◌then◌else◌, refl, sym, ◌∙◌, ap, subst, arith, ℤ}
use Rattle.std.specs.Prelude.{option_and_then}
use Rattle.std.proofs.lemmas.List.Elements.{All-push}
use Rattle.std.proofs.lemmas.Option.{slice_get_within}
use Rattle.math_base.proofs.Bools.{not_both_values}
use Rattle.math_base.proofs.Lists.{last_pushed, contains_pushed}
use Rattle.math_base.proofs.Options.{some_is_same, none_is_not_some}
use Rattle.sight_names.proofs.Lists.{contains_of_get}
use Rattle.sight_names.proofs.PlanMap.{plan_is_map}
use Rattle.sight_names.specs.declared.names.Side.{Side}
use Rattle.sight_names.specs.Map.{map_of, Names}
use Rattle.sight_names.specs.Mesh.{label_of}
use Rattle.sight_names.specs.Ray.{IsSightRay}
use Rattle.sight_names.specs.Sequence.{entry_edge}
use Rattle.sight_names.specs.Splitting.{EndPoints, SplitsEnds}
use Rattle.mesh_base.specs.SightLaws.Laws.{IsOpenRay}
use Rattle.sight_lift.proofs.Back.{ray_of_sequence}
use Rattle.stab_hull.specs.Answer.{IsLineInRange}
use Rattle.mesh_shape.specs.declared.half_edges.table.HalfEdge.{HalfEdge}
use Rattle.mesh_shape.specs.HalfEdges.HalfEdges.{portal_into}
use Rattle.mesh_shape.specs.HalfEdges.Kinds.{IsEnteredAt, IsPassableAt}
use Rattle.portal_walk.specs.Sides.{ArrivesAt, IsArrival}
use Rattle.portal_walk.specs.Walk.{half_edge_ends}
use Rattle.portal_walk.proofs.Lists.{get_more}
use Rattle.pair_budget.specs.declared.results.Reached.{Reached}
use Rattle.pair_budget.specs.Walked.{IsReachedFrom}
use Rattle.gate_floods.specs.declared.row_judge.follow.RowFollow.{RowFollow}
use Rattle.gate_floods.specs.declared.row_judge.walk.RowWalk.{RowWalk}
use Rattle.gate_floods.specs.RowJudge.Words.{row_in_words, is_in, is_away}
use Rattle.gate_floods.specs.RowJudge.Asked.{Pending}
use Rattle.gate_floods.specs.RowJudge.Judged.{StandsAt}
use Rattle.cert_checker.proofs.SightRays.{open_is_sight}
use Rattle.row_trees.specs.Finding.{had_in, wanted_in, IsAlong}
use Rattle.row_trees.specs.Walkable.{Scene, Search, IsWalkable}
use Rattle.row_trees.specs.Thinner.{IsRowWithin, IsPresent, AreThinner, SameButRows, AreThinned}
use Rattle.row_trees.specs.Left.{most, weight}
use Rattle.row_trees.specs.Going.{GoesOnByRoot, IsToCome, IsTried}
use Rattle.row_trees.proofs.Thin.{out_of, away_of, within_through}
use Rattle.row_trees.proofs.Thinning.{all_thinned, weight_thinned, stands_thinned}
use Rattle.row_trees.proofs.Coming.{label_at}
use Rattle.row_trees.proofs.Going.{HeadOf, head_of, come_thinned}

-- ---- the sector that is wanted

had_some : (rows : List ℕ) (w at : ℕ) (o : Option ℕ) (to : ℕ) → had_in rows w at o ≡ Some to → (o ≡ Some to) × (is_in (row_in_words rows w at) to ≡ true)
had_some rows w at None to e = absurd (none_is_not_some to e)
had_some rows w at (Some b) to e = by (is_in (row_in_words rows w at) b) refl
  where
    by : (t : Bool) → is_in (row_in_words rows w at) b ≡ t → ◌≡◌ {A = Option ℕ} (Some b) (Some to) × (is_in (row_in_words rows w at) to ≡ true)
    by true h =
        let same : b ≡ to = some_is_same b to (sym (ap (λ (d : Bool). let o : Option ℕ = if d then Some b else None in o) h) ∙ e) in
        (ap (λ (n : ℕ). let o : Option ℕ = Some n in o) same, subst (λ (n : ℕ). is_in (row_in_words rows w at) n ≡ true) same h)
    by false h = absurd (none_is_not_some to (sym (ap (λ (d : Bool). let o : Option ℕ = if d then Some b else None in o) h) ∙ e))

pub wanted_some : (rows : List ℕ) (w at : ℕ) (x : HalfEdge) (to : ℕ) → wanted_in rows w at x ≡ Some to → (x.sector ≡ Some to) × (is_in (row_in_words rows w at) to ≡ true)
wanted_some rows w at x to e = by x.entered refl
  where
    by : (o : Option Side) → x.entered ≡ o → (x.sector ≡ Some to) × (is_in (row_in_words rows w at) to ≡ true)
    by None h = absurd (none_is_not_some to (sym (ap (option_and_then (λ (d : Side). had_in rows w at x.sector)) h) ∙ e))
    by (Some d) h = had_some rows w at x.sector to (sym (ap (option_and_then (λ (d : Side). had_in rows w at x.sector)) h) ∙ e)

had_none : (rows : List ℕ) (w at : ℕ) (o : Option ℕ) → had_in rows w at o ≡ None → is_away (row_in_words rows w at) o ≡ true
had_none rows w at None e = refl
had_none rows w at (Some b) e = by (is_in (row_in_words rows w at) b) refl
  where
    by : (t : Bool) → is_in (row_in_words rows w at) b ≡ t → is_away (row_in_words rows w at) (Some b) ≡ true
    by true h = absurd (none_is_not_some b (sym e ∙ ap (λ (d : Bool). let o : Option ℕ = if d then Some b else None in o) h))
    by false h = away_of (row_in_words rows w at) b h

-- where none is wanted, the row doesn't have the sector; behind a half-edge of no line it never does
pub wanted_none : (rows : List ℕ) (w at : ℕ) (x : HalfEdge) → (x.entered ≡ None → is_away (row_in_words rows w at) x.sector ≡ true) → wanted_in rows w at x ≡ None → is_away (row_in_words rows w at) x.sector ≡ true
wanted_none rows w at x away e = by x.entered refl
  where
    by : (o : Option Side) → x.entered ≡ o → is_away (row_in_words rows w at) x.sector ≡ true
    by None h = away h
    by (Some d) h = had_none rows w at x.sector (sym (ap (option_and_then (λ (d : Side). had_in rows w at x.sector)) h) ∙ e)

pub away_in : (row : List ℕ) (o : Option ℕ) (c : ℕ) → o ≡ Some c → is_in row c ≡ false → is_away row o ≡ true
away_in row o c e h = ap (is_away row) e ∙ away_of row c h

-- ---- none is found twice

pub once_more : (found : List Reached) (r : Reached) → ((i j : ℕ) (a b : Reached) → i < j → slice_get found i ≡ Some a → slice_get found j ≡ Some b → a.to ≢ b.to) → ((q : Reached) → Contains found q → q.to ≢ r.to)
    → (i j : ℕ) (a b : Reached) → i < j → slice_get (found ++ r ∷ []) i ≡ Some a → slice_get (found ++ r ∷ []) j ≡ Some b → a.to ≢ b.to
once_more found r once other i j a b l e f = elim (get_more found r i a e) as (λ _. a.to ≢ b.to) [
  | inl g ↦ elim (get_more found r j b f) as (λ _. a.to ≢ b.to) [
    | inl h ↦ absurd (no i j (length found) g.0 h.0 l)
    | inr h ↦ (let w : j < length found = slice_get_within found j b h in absurd (beyond i j (length found) g.0 w l))
  ]
  | inr g ↦ elim (get_more found r j b f) as (λ _. a.to ≢ b.to) [
    | inl h ↦ (λ same. other a (contains_of_get found a i g) (same ∙ ap (λ (q : Reached). q.to) h.1))
    | inr h ↦ once i j a b l g h
  ]
]
  where
    no : (i j n : ℕ) → i ≡ n → j ≡ n → i < j → ⊥
    no i j n e f l = omega (arith, e, f, l)

    beyond : (i j n : ℕ) → i ≡ n → j < n → i < j → ⊥
    beyond i j n e f l = omega (arith, e, f, l)

module _ (c : Scene) (s : Search) where
  -- ---- a ray through the sequence

  module _ (w : IsWalkable s.ground c.edges c.roots c.firsts s.source) (root : ℕ) (ends : List EndPoints) (x : HalfEdge) (on : GoesOnByRoot c s root ends x) (label : label_of s.ground.labels x.triangle ≡ x.sector) (to : ℕ) (sector : x.sector ≡ Some to) (r : Reached) (along : IsAlong c.edges (Some root) x to r)
      (splits : SplitsEnds (ends ++ half_edge_ends x ∷ []) r.ray.a r.ray.b r.ray.c) (range : IsLineInRange r.ray.a r.ray.b r.ray.c) where
    first : on.sequence.root ≡ r.ray.first
    first = some_is_same on.sequence.root r.ray.first (sym on.leaves ∙ along.first)

    arrival : IsArrival s.ground.plan s.ground.labels x.triangle r.ray.last
    arrival = subst (ArrivesAt s.ground.plan s.ground.labels x.triangle) along.last on.comes.entry.arrives

    at : IsPassableAt s.ground.plan (entry_edge (portal_into x)) r.ray.last
    at = subst (IsEnteredAt s.ground.plan (portal_into x)) along.last on.comes.entry.entered

    sector_is : arrival.sector ≡ r.to
    sector_is = some_is_same arrival.sector r.to (sym arrival.label ∙ label ∙ sector ∙ ap (λ (n : ℕ). let o : Option ℕ = Some n in o) (sym along.to_it))

    pub reached_from : IsReachedFrom s.ground.plan s.source r
    reached_from = record {
      within = subst (λ (n : ℕ). n < s.ground.plan.sectors) sector_is arrival.exists;
      other = λ same. on.comes.entry.outside (arrival.label ∙ ap (λ (n : ℕ). let o : Option ℕ = Some n in o) (sector_is ∙ same));
      first = subst (λ (d : Side). d.line < length s.ground.plan.lines) first on.exit.within;
      last = arrival.within;
      from = subst (λ (d : Side). Names (map_of s.ground.plan) d s.source) first on.exit.names;
      to_it = subst (Names (map_of s.ground.plan) r.ray.last) sector_is arrival.names;
      range = record { a = range.a_in; b = range.b_in; c = range.c_in };
    }

    open_ray : IsOpenRay (map_of s.ground.plan) r.ray
    open_ray = subst (λ (d : Side). IsOpenRay (map_of s.ground.plan) (record { first = d; last = r.ray.last; a = r.ray.a; b = r.ray.b; c = r.ray.c })) first
        (ray_of_sequence (map_of s.ground.plan) (plan_is_map s.ground.plan w.plan) s.ground.triangles s.ground.labels w.good s.source on.sequence (on.comes.before ++ portal_into x ∷ []) on.comes.sequence r.ray.a r.ray.b r.ray.c
        (subst (λ (es : List EndPoints). SplitsEnds es r.ray.a r.ray.b r.ray.c) on.comes.ends splits) (portal_into x) (last_pushed (portal_into x) on.comes.before None) r.ray.last at.line at.is_line (sym at.edge))

    pub sight_ray : IsSightRay (map_of s.ground.plan) r.ray s.source r.to
    sight_ray = open_is_sight (map_of s.ground.plan) r.ray s.source r.to open_ray reached_from.range reached_from.from reached_from.to_it

  -- ---- what is needed for the ray

  -- ---- what isn't wanted

  pub none_wanted : (root : ℕ) (ends : List EndPoints) (w : RowWalk) (found : List Reached) (x : HalfEdge) (n : ℕ) → IsTried c s root ends w found x n → wanted_in w.rows.items c.masks.width w.follow.row x ≡ None → is_away (row_in_words w.rows.items c.masks.width w.follow.row) x.sector ≡ true
  none_wanted root ends w found x n t =
      let h = head_of c s root ends w found x n t in
      wanted_none w.rows.items c.masks.width w.follow.row x (λ none. subst (λ (row : List ℕ). is_away row x.sector ≡ true) h.row_is (h.away none))

  -- ---- what was found before, and this sector

  pub found_more : (root : ℕ) (ends : List EndPoints) (old new : RowWalk) (found : List Reached) (x : HalfEdge) (n : ℕ) (t : IsTried c s root ends old found x n) (to : ℕ) → (x.sector ≡ Some to) × (is_in (row_in_words old.rows.items c.masks.width old.follow.row) to ≡ true)
      → (r : Reached) → IsAlong c.edges (Some root) x to r → SplitsEnds (ends ++ half_edge_ends x ∷ []) r.ray.a r.ray.b r.ray.c → IsLineInRange r.ray.a r.ray.b r.ray.c
      → SameButRows old new → AreThinner old.rows.items new.rows.items → is_in (row_in_words new.rows.items c.masks.width 0) to ≡ false → IsPresent c.masks.width new → IsTried c s root ends new (found ++ r ∷ []) x n
  found_more root ends old new found x n t to (sector, has) r along splits range same thinner gone here = record {
    going = record {
      walkable = t.going.walkable;
      source_is = same.source ∙ t.going.source_is;
      first = m.0;
      asked = m.1;
      at = m.2;
      each = all_thinned (IsToCome c s root ends) (come_thinned c s root ends) t.going.asked m.1 m.3 t.going.each;
      fewer = let l : weight (most c) m.1 ≤ weight (most c) t.going.asked = weight_thinned (most c) t.going.asked m.1 m.3 in let k : weight (most c) t.going.asked < n = t.going.fewer in below (weight (most c) m.1) (weight (most c) t.going.asked) n l k;
      kept = within_through m.0 t.going.first s.row m.4 t.going.kept;
      gone = λ q there. elim (contains_pushed found r q there) as (λ _. is_in m.0 q.to ≡ false) [
        | inl before ↦ out_of m.0 t.going.first q.to m.4 (t.going.gone q before)
        | inr now ↦ subst (λ (k : ℕ). is_in m.0 k ≡ false) (sym along.to_it ∙ ap (λ (q : Reached). q.to) now) (subst (λ (row : List ℕ). is_in row to ≡ false) m.2.base gone)
      ];
      whole = λ none. absurd (not_empty found r none);
      seen = record {
        reached = record { each = All-push (IsReachedFrom s.ground.plan s.source) found r t.going.seen.reached.each from; once = once_more found r t.going.seen.reached.once other };
        sight = All-push (λ (q : Reached). IsSightRay (map_of s.ground.plan) q.ray s.source q.to) found r t.going.seen.sight sight;
      };
      wanted = record {
        each = All-push (λ (q : Reached). (is_in s.row q.to ≡ true) × (q.to ≢ s.source)) found r t.going.wanted.each (subst (λ (k : ℕ). is_in s.row k ≡ true) (sym along.to_it) (t.going.kept to in_first), from.other);
        once = once_more found r t.going.wanted.once other;
      };
    };
    number = t.number;
    is_asked = ap (λ (f : RowFollow). f.asked) same.follow ∙ t.is_asked;
    there = t.there;
    depth = ap (λ (f : RowFollow). f.depth) same.follow ∙ t.depth;
    begun = t.begun;
    present = here;
  }
    where
      h : HeadOf c s root ends old x t.going.asked
      h = head_of c s root ends old found x n t

      label : label_of s.ground.labels x.triangle ≡ x.sector
      label = label_at c s t.going.walkable h.head.edge x h.number_is h.there

      from : IsReachedFrom s.ground.plan s.source r
      from = reached_from t.going.walkable root ends x h.goes_on label to sector r along splits range

      sight : IsSightRay (map_of s.ground.plan) r.ray s.source r.to
      sight = sight_ray t.going.walkable root ends x h.goes_on label to sector r along splits range

      m : (later : List ℕ) × (qs : List Pending) × StandsAt c.masks later c.roots new qs × AreThinned t.going.asked qs × IsRowWithin later t.going.first
      m = stands_thinned c.masks t.going.first c.roots old new t.going.asked same thinner t.going.at

      in_first : is_in t.going.first to ≡ true
      in_first = subst (λ (row : List ℕ). is_in row to ≡ true) t.going.at.base (t.present to has)

      other : (q : Reached) → Contains found q → q.to ≢ r.to
      other q there e = not_both_values (is_in t.going.first to) in_first (subst (λ (k : ℕ). is_in t.going.first k ≡ false) (e ∙ along.to_it) (t.going.gone q there))

      below : (a b n : ℕ) → a ≤ b → b < n → a < n
      below a b n l k = omega (arith, l, k)

      not_empty : (xs : List Reached) (y : Reached) → xs ++ y ∷ [] ≡ [] → ⊥
      not_empty [] y e = cc
      not_empty (z ∷ xs) y e = cc

pub split_along : (es fs : List EndPoints) (a b d x y z : ℤ) → es ≡ fs → x ≡ a → y ≡ b → z ≡ d → SplitsEnds es a b d → SplitsEnds fs x y z
split_along es fs a b d x y z e f g h s = rw (sym e, f, g, h) s

pub range_along : (a b d x y z : ℤ) → x ≡ a → y ≡ b → z ≡ d → IsLineInRange a b d → IsLineInRange x y z
range_along a b d x y z f g h s = rw (f, g, h) s
