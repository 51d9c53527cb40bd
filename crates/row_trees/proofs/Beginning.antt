-- A walk by a row before its first half-edge.
use Rattle.std.proofs.Common.{◌≡◌, ℕ, ◌+◌, List, [], ◌∷◌, ◌++◌, Option, Some, None, Bool, true, false, inl, Contains, if◌then◌else◌, refl, sym, ap, subst, arith}
use Rattle.std.specs.List.{AllByRecursion}
use Rattle.std.proofs.lemmas.Option.{none-some}
use Rattle.std.proofs.lemmas.List.Elements.{All-nil}
use Rattle.math_base.proofs.Lists.{contains_none}
use Rattle.sight_names.specs.Map.{map_of}
use Rattle.sight_names.specs.Ray.{IsSightRay}
use Rattle.sight_names.specs.Sequence.{roots}
use Rattle.sight_names.specs.Splitting.{EndPoints}
use Rattle.cert_checker.specs.TreeJudge.Roots.{root_edges}
use Rattle.cert_checker.specs.TreeJudge.Walked.{begun}
use Rattle.pair_budget.specs.declared.results.Reached.{Reached}
use Rattle.pair_budget.specs.Walked.{IsReachedFrom}
use Rattle.gate_floods.specs.declared.row_judge.walk.RowWalk.{RowWalk}
use Rattle.gate_floods.specs.RowJudge.Words.{is_in}
use Rattle.gate_floods.specs.RowJudge.Asked.{Pending, pending_way, pending_roots, with_rest, leaves, mask_of_edge}
use Rattle.gate_floods.specs.RowJudge.Judged.{IsTreeWalkedInRow, StandsAt}
use Rattle.row_trees.specs.Made.{AreFoundSeen, AreWanted}
use Rattle.row_trees.specs.Walkable.{Scene, Search, IsWalkable}
use Rattle.row_trees.specs.Left.{most, weight, row_walk_left}
use Rattle.row_trees.specs.Going.{IsToCome, IsGoing}
use Rattle.row_trees.proofs.Coming.{IsRootBy, all_roots}
use Rattle.row_trees.proofs.Weights.{remaining_is}

module _ (c : Scene) (s : Search) (w : IsWalkable s.ground c.edges c.roots c.firsts s.source) (root : ℕ) (ends : List EndPoints) where
  root_comes : (e : ℕ) → IsRootBy c s w e → IsToCome c s root ends (record { path = []; row = s.row; edge = e })
  root_comes e r = record {
    edge = r.edge;
    there = r.there;
    goes_on = r.goes_on;
    number_is = r.number_is;
    joins = inl refl;
    front = refl;
    short = omega arith;
    away = λ none. absurd (r.lined none);
    within = λ k h. h;
  }

  rest_is : (e : ℕ) (b : Bool) → leaves s.row (mask_of_edge c.masks e) ≡ b → with_rest c.masks s.row e ≡ (let o : Option ℕ = if b then Some e else None in o)
  rest_is e b h = ap (λ (d : Bool). let o : Option ℕ = if d then Some e else None in o) h

  all_come : (es : List ℕ) → AllByRecursion (IsRootBy c s w) es → AllByRecursion (IsToCome c s root ends) (pending_roots c.masks s.row es)
  all_come [] h = tt
  all_come (e ∷ es) h = by (leaves s.row (mask_of_edge c.masks e)) refl (all_come es h.1)
    where
      by : (b : Bool) → leaves s.row (mask_of_edge c.masks e) ≡ b → AllByRecursion (IsToCome c s root ends) (pending_roots c.masks s.row es) → AllByRecursion (IsToCome c s root ends) (pending_way [] s.row (with_rest c.masks s.row e) ++ pending_roots c.masks s.row es)
      by true f later = subst (λ (o : Option ℕ). AllByRecursion (IsToCome c s root ends) (pending_way [] s.row o ++ pending_roots c.masks s.row es)) (sym (rest_is e true f)) (root_comes e h.0, later)
      by false f later = subst (λ (o : Option ℕ). AllByRecursion (IsToCome c s root ends) (pending_way [] s.row o ++ pending_roots c.masks s.row es)) (sym (rest_is e false f)) later

  none_seen : (found : List Reached) → found ≡ [] → AreFoundSeen s.ground.plan s.source found
  none_seen found e = subst (AreFoundSeen s.ground.plan s.source) (sym e) (record {
    reached = record { each = All-nil (IsReachedFrom s.ground.plan s.source); once = λ i j a b l f g. absurd (none-some a f) };
    sight = All-nil (λ (r : Reached). IsSightRay (map_of s.ground.plan) r.ray s.source r.to);
  })

  none_wanted : (found : List Reached) → found ≡ [] → AreWanted s.row s.source found
  none_wanted found e = subst (AreWanted s.row s.source) (sym e) (record {
    each = All-nil (λ (r : Reached). (is_in s.row r.to ≡ true) × ¬ (r.to ≡ s.source));
    once = λ i j a b l f g. absurd (none-some a f);
  })

  pub going_begun : (walk : RowWalk) (found : List Reached) → found ≡ [] → IsTreeWalkedInRow c.edges c.masks s.row c.roots c.firsts (begun s.source) walk → IsGoing c s root ends walk found (row_walk_left c walk + 1)
  going_begun walk found none walked = go (walked.each es (w.roots_are.chains s.source w.within))
    where
      es : List ℕ
      es = root_edges s.ground.triangles c.edges (map_of s.ground.plan) s.source

      first_asked : AllByRecursion (IsToCome c s root ends) (pending_roots c.masks s.row es)
      first_asked = all_come es (all_roots c s w (roots (map_of s.ground.plan) s.source) (λ side h. h))

      go : (ps : List Pending) × (ps ≡ pending_roots c.masks s.row es) × StandsAt c.masks s.row c.roots walk ps → IsGoing c s root ends walk found (row_walk_left c walk + 1)
      go (ps, e, at) = record {
        walkable = w;
        source_is = walked.source_is;
        first = s.row;
        asked = ps;
        at = at;
        each = subst (AllByRecursion (IsToCome c s root ends)) (sym e) first_asked;
        fewer = let r : row_walk_left c walk ≡ weight (most c) ps = remaining_is c s.row walk ps at in omega (arith, r);
        kept = λ k h. h;
        gone = λ r there. absurd (contains_none r (subst (λ (rs : List Reached). Contains rs r) none there));
        whole = λ _. refl;
        seen = none_seen found none;
        wanted = none_wanted found none;
      }
