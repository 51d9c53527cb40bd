-- From groups to sectors: the answer over the map of groups tells of the sectors, and what a build of the map says of them.
use Rattle.std.proofs.Common.{◌≡◌, ◌≢◌, ℕ, ◌<◌, ◌↔◌, inl, inr, List, [], Option, Some, None, MatchOption, slice_get, refl, sym, ap, ◌∙◌, subst}
use Rattle.std.proofs.lemmas.Option.{MatchOption-at_none, MatchOption-at_some}
use Rattle.math_base.proofs.Numbers.{below_or_above}
use Rattle.sight_names.specs.declared.names.Ask.{Ask}
use Rattle.sight_names.specs.declared.names.Budget.{Budget}
use Rattle.sight_names.specs.declared.names.Pair.{Pair}
use Rattle.sight_names.specs.declared.names.Ray.{Ray}
use Rattle.sight_names.specs.declared.names.Side.{Side}
use Rattle.sight_names.specs.declared.names.Triangle.{Triangle}
use Rattle.sight_names.specs.Found.{IsListedOver}
use Rattle.sight_names.specs.Groups.{AreGroups, HasClosedFaces, IsInGroup, IsListedByGroups}
use Rattle.sight_names.specs.Map.{Map, IsMap, Names, map_of, named}
use Rattle.sight_names.specs.Mesh.{IsGoodMesh, IsMeshOf}
use Rattle.sight_names.specs.Plan.{PlanParts, IsPlan}
use Rattle.sight_names.specs.Sees.{Sees}
use Rattle.sight_names.specs.Sound.{IsSound}
use Rattle.mesh_base.proofs.SightLaws.SightLaws.{sees_itself, sight_sees}
use Rattle.reject_bits.specs.Parts.{Rejects}
use Rattle.pair_budget.proofs.Connected.{connected_back}
use Rattle.face_groups.proofs.GroupsBase.GroupLaws.{HasLists}
use Rattle.face_groups.proofs.GroupsBase.Listing.{IsListedOfGroups}
use Rattle.face_groups.proofs.GroupsBase.OneGrouped.{listed_is as listed_by_groups}
use Rattle.face_groups.proofs.GroupsBase.Ordered.{at_contains, one_place}
use Rattle.face_groups.proofs.GroupsBase.SamePoints.{mesh_alike}
use Rattle.triangulate.proofs.GroupLaws.WholeLaws.{each_has_list, groups_are_map, groups_are_sound, sectors_see_by_groups}
use Rattle.group_job.specs.declared.build.GroupBuilt.{GroupBuilt}
use Rattle.group_job.specs.Built.{DecidesByGroups, WalkedMap}
use Rattle.group_job.specs.Sectors.{AreListed}
use Rattle.group_job.proofs.KeptFaces.{good_mesh}
use Rattle.group_job.proofs.OneWalk.{budget_of_map, same_budget}
use Rattle.pair_answer.specs.declared.answer.PairAnswer.{PairAnswer}
use Rattle.pair_answer.specs.declared.answer.PairAnswer.TheVariants as answer
use Rattle.pair_answer.specs.Answer.{AnswersPair, AreTouching, IsAnswerFor, IsAnswerOver, IsRayOfGroups}
use Rattle.pair_answer.specs.Between.{AreApart, IsAnswerBetween}
use Rattle.pair_answer.specs.Laws.{IsSaidByBuild, AnswerTellsSight}
use Rattle.pair_answer.specs.Places.{ArePlacesOf}

-- ---- listed pairs, in either order

over_back : (g : Map) (ts : List Triangle) (ls : List (Option ℕ)) (budget : Budget) (f k : ℕ) → IsListedOver g ts ls budget f k → IsListedOver g ts ls budget k f
over_back g ts ls budget f k l = record { differ = λ e. l.differ (sym e); connected = connected_back g f k l.connected; not_found = l.not_found_back; not_found_back = l.not_found; spent = l.spent_too; spent_too = l.spent }

pub listed_back : (m : Map) (budget : Budget) (a b : ℕ) → IsListedByGroups m budget a b → IsListedByGroups m budget b a
listed_back m budget a b l = record {
  groups = l.groups;
  are_groups = l.are_groups;
  grouped = l.grouped;
  is_grouped = l.is_grouped;
  triangles = l.triangles;
  labels = l.labels;
  mesh = l.mesh;
  labelled = l.labelled;
  differ = λ e. l.differ (sym e);
  some = let s = l.some in (s.1, s.0, s.3, s.2, over_back l.grouped l.triangles l.labels budget s.0 s.1 s.4);
  none = λ f k hf hk. let n = l.none k f hk hf in (λ e. n.0 (sym e), n.2, n.1);
}

module _ (p : PlanParts) (plan : IsPlan p) (faces : HasClosedFaces (map_of p)) (ask : Ask) (groups : List (List ℕ)) (are : AreGroups (map_of p) groups) (w : WalkedMap (map_of p) ask groups) where
  mesh : IsMeshOf (map_of p) w.triangles
  mesh = mesh_alike w.g (map_of p) (sym w.grouped.lines) w.triangles w.mesh

  pub is_map : IsMap w.g
  is_map = groups_are_map p plan faces w.triangles mesh groups are w.g w.grouped

  pub sound : IsSound w.g
  sound = groups_are_sound p plan faces w.triangles mesh groups are w.g w.grouped

  pub good : IsGoodMesh w.g w.triangles w.labels
  good = good_mesh p plan faces groups are w.g w.grouped w.triangles w.mesh w.labels w.labelled

  lists : HasLists (map_of p)
  lists = each_has_list p plan faces w.triangles mesh

  sees_by : (a b : ℕ) → Sees (map_of p) a b ↔ ((f k : ℕ) × IsInGroup groups a f × IsInGroup groups b k × Sees w.g f k)
  sees_by = sectors_see_by_groups p plan faces w.triangles mesh groups are w.g w.grouped

  listed_is : (a b : ℕ) → IsListedByGroups (map_of p) w.budget a b ↔ IsListedOfGroups groups w.g w.triangles w.labels w.budget a b
  listed_is = listed_by_groups (map_of p) groups are lists w.g w.grouped sound.agree w.triangles w.labels w.mesh w.labelled w.budget

  -- a side names the group
  named_group : (f : ℕ) (at : List ℕ) → slice_get groups f ≡ Some at → (s : Side) × Names w.g s f
  named_group f at there =
      let e = (are.exactly at).0 (at_contains groups at (f, there)) in
      go e.1 e.0 (w.grouped.names e.1 e.2 at e.3 e.4) (named w.g e.1) refl
    where
      go : (s : Side) → at ≢ [] → MatchOption (named w.g s) (at ≡ []) (λ k. slice_get groups k ≡ Some at) → (o : Option ℕ) → named w.g s ≡ o → (s : Side) × Names w.g s f
      go s some x None e = absurd (some (MatchOption-at_none (at ≡ []) (λ k. slice_get groups k ≡ Some at) e x))
      go s some x (Some k) e = (s, e ∙ ap (λ (n : ℕ). Some n) (one_place (map_of p) groups are k f at (MatchOption-at_some (at ≡ []) (λ k. slice_get groups k ≡ Some at) k e x) there))

  module _ (a b : ℕ) where
    touching_see : AreTouching groups a b → Sees (map_of p) a b
    touching_see (f, ha, hb) = (sees_by a b).1 (f, f, ha, hb, (sees_itself w.g f is_map sound.ends).1 (named_group f ha.0 ha.1))

    ray_sees : (ray : Ray) → IsRayOfGroups (map_of p) ask groups w a b ray → Sees (map_of p) a b
    ray_sees ray r = (sees_by a b).1 (r.f, r.k, r.from, r.to, sight_sees w.g ray r.f r.k is_map sound.ends r.sight)

    -- ---- the answer

    module _ (from to : List ℕ) (of_a : ArePlacesOf groups a from) (of_b : ArePlacesOf groups b to) (apart : AreApart from to) where
      untouched : ¬ AreTouching groups a b
      untouched (f, ha, hb) = apart f ((of_a f).1 ha) ((of_b f).1 hb)

      pub answers : (given : PairAnswer) → IsAnswerBetween w.g w.triangles w.labels w.budget from to given → IsAnswerOver (map_of p) ask groups w a b given
      answers (answer.Sight ray) h = (untouched, record { f = h.f; k = h.k; from = (of_a h.f).0 h.start; to = (of_b h.k).0 h.stop; sight = h.sight; found = h.found })
      answers answer.Blind h = (
        λ s. let x = (sees_by a b).0 s in h.0 x.0 x.1 ((of_a x.0).1 x.2) ((of_b x.1).1 x.3) x.4,
        λ l. let y = ((listed_is a b).0 l).some in h.1 y.0 y.1 ((of_a y.0).1 y.2) ((of_b y.1).1 y.3) y.4,
      )
      answers answer.Listed h =
          let s = h.1 in
          let ha = (of_a s.0).0 s.2 in
          (listed_is a b).1 (record {
            differ = λ e. untouched (s.0, ha, subst (λ (x : ℕ). IsInGroup groups x s.0) e ha);
            some = (s.0, s.1, ha, (of_b s.1).0 s.3, s.4);
            none = λ f k hf hk. let n = h.0 f k ((of_a f).1 hf) ((of_b k).1 hk) in (λ e. untouched (f, hf, subst (λ (x : ℕ). IsInGroup groups b x) (sym e) hk), n.0, n.1);
          })
      answers answer.Touch h = absurd h
      answers (answer.NoSector k) h = absurd h

    -- ---- what a build says

    module _ (built : GroupBuilt) (d : DecidesByGroups (map_of p) ask built) where
      same : w.budget ≡ d.budget
      same = same_budget (map_of p) ask w.budget d.budget (budget_of_map (map_of p) groups w.g w.grouped ask w.budget w.is_budget) d.is_budget

      theirs : IsListedByGroups (map_of p) w.budget a b → IsListedByGroups (map_of p) d.budget a b
      theirs l = subst (λ (x : Budget). IsListedByGroups (map_of p) x a b) same l

      by_list : AreListed built.listed a b → IsListedByGroups (map_of p) w.budget a b
      by_list l = subst (λ (x : Budget). IsListedByGroups (map_of p) x a b) (sym same) (go l)
        where
          go : AreListed built.listed a b → IsListedByGroups (map_of p) d.budget a b
          go (inl c) = ((d.listed (record { a = a; b = b })).0 c).1
          go (inr c) = listed_back (map_of p) d.budget b a ((d.listed (record { a = b; b = a })).0 c).1

      in_list : IsListedByGroups (map_of p) w.budget a b → AreListed built.listed a b
      in_list l = elim (below_or_above a b l.differ) as (λ _. AreListed built.listed a b) [
        | inl lt ↦ inl ((d.listed (record { a = a; b = b })).1 (lt, theirs l))
        | inr gt ↦ inr ((d.listed (record { a = b; b = a })).1 (gt, listed_back (map_of p) d.budget a b (theirs l)))
      ]

      -- what is found isn't listed
      unlisted_found : (ray : Ray) → IsRayOfGroups (map_of p) ask groups w a b ray → ¬ IsListedByGroups (map_of p) w.budget a b
      unlisted_found ray r l = let n = ((listed_is a b).0 l).none r.f r.k r.from r.to in elim r.found as (λ _. ⊥) [ inl h ↦ n.1 h | inr h ↦ n.2 h ]

      unlisted_touching : AreTouching groups a b → ¬ IsListedByGroups (map_of p) w.budget a b
      unlisted_touching (f, ha, hb) l = (((listed_is a b).0 l).none f f ha hb).0 refl

      module _ (low : a < p.sectors) (low_too : b < p.sectors) where
        clear_seen : Sees (map_of p) a b → ¬ Rejects built.table a b
        clear_seen s bit = ((d.bits a b low low_too).0 bit).0 s

        pub said : (given : PairAnswer) → IsAnswerOver (map_of p) ask groups w a b given → IsSaidByBuild built (record { a = a; b = b }) given
        said (answer.Sight ray) h = (clear_seen (ray_sees ray h.1), λ l. unlisted_found ray h.1 (by_list l))
        said answer.Blind h = ((d.bits a b low low_too).1 (h.0, λ l. h.1 (subst (λ (x : Budget). IsListedByGroups (map_of p) x a b) (sym same) l)), λ l. h.1 (by_list l))
        said answer.Touch h = (clear_seen (touching_see h), λ l. unlisted_touching h (by_list l))
        said answer.Listed h = (λ bit. ((d.bits a b low low_too).0 bit).1 (theirs h), in_list h)
        said (answer.NoSector k) h = absurd h

    pub tells : (given : PairAnswer) → IsAnswerOver (map_of p) ask groups w a b given → AnswerTellsSight (map_of p) (record { a = a; b = b }) given
    tells (answer.Sight ray) h = ray_sees ray h.1
    tells answer.Blind h = h.0
    tells answer.Touch h = touching_see h
    tells answer.Listed h = tt
    tells (answer.NoSector k) h = tt

-- ---- the laws

pub answers_tell : (p : PlanParts) (ask : Ask) (pair : Pair) (given : PairAnswer) → IsPlan p → HasClosedFaces (map_of p) → IsAnswerFor (map_of p) ask pair given → AnswerTellsSight (map_of p) pair given
answers_tell p ask pair given plan faces h = go given h
  where
    by : (x : PairAnswer) → AnswersPair (map_of p) ask pair x → AnswerTellsSight (map_of p) pair x
    by x k = tells p plan faces ask k.groups k.are_groups k.walked pair.a pair.b x k.is

    go : (x : PairAnswer) → IsAnswerFor (map_of p) ask pair x → AnswerTellsSight (map_of p) pair x
    go (answer.Sight ray) k = by (answer.Sight ray) k
    go answer.Blind k = by answer.Blind k
    go answer.Touch k = by answer.Touch k
    go answer.Listed k = tt
    go (answer.NoSector n) k = tt

pub answers_said : (p : PlanParts) (ask : Ask) (pair : Pair) (given : PairAnswer) (built : GroupBuilt) → IsPlan p → HasClosedFaces (map_of p) → DecidesByGroups (map_of p) ask built → IsAnswerFor (map_of p) ask pair given → IsSaidByBuild built pair given
answers_said p ask pair given built plan faces d h = go given h
  where
    by : (x : PairAnswer) → AnswersPair (map_of p) ask pair x → IsSaidByBuild built pair x
    by x k = said p plan faces ask k.groups k.are_groups k.walked pair.a pair.b built d k.first k.second x k.is

    go : (x : PairAnswer) → IsAnswerFor (map_of p) ask pair x → IsSaidByBuild built pair x
    go (answer.Sight ray) k = by (answer.Sight ray) k
    go answer.Blind k = by answer.Blind k
    go answer.Touch k = by answer.Touch k
    go answer.Listed k = by answer.Listed k
    go (answer.NoSector n) k = tt
