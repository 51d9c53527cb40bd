-- What the sequences that a build goes by tell of sight.
use Rattle.std.proofs.Common.{◌≡◌, ◌≢◌, ℕ, zero, suc, ◌<◌, ◌≤◌, ◌⊎◌, inl, inr, List, [], ◌∷◌, ◌++◌, slice_get, Contains, Option, Some, None, refl, sym, ap, ◌∙◌, subst, arith, Bool, true, false}
use Rattle.std.specs.Prelude.{option_and_then}
use Rattle.std.proofs.lemmas.Option.{slice_get_within}
use Rattle.sight_names.specs.declared.names.Budget.{Budget}
use Rattle.sight_names.specs.declared.names.Budget.TheVariants.{Of, Full}
use Rattle.sight_names.specs.declared.names.PairRay.{PairRay}
use Rattle.sight_names.specs.declared.names.Ray.{Ray}
use Rattle.sight_names.specs.declared.names.Side.{Side}
use Rattle.sight_names.specs.declared.names.Triangle.{Triangle}
use Rattle.sight_names.specs.Found.{Found, Spent, Reaches}
use Rattle.sight_names.specs.Map.{Map, MapLine, IsMap, Names, map_of, sector_on}
use Rattle.sight_names.specs.Mesh.{IsGoodMesh}
use Rattle.sight_names.specs.Plan.{PlanParts, IsPlan}
use Rattle.sight_names.specs.Ray.{IsSightRay}
use Rattle.sight_names.specs.Sees.{Sees}
use Rattle.sight_names.specs.Sequence.{Sequence}
use Rattle.sight_names.specs.Sound.{LinesMeetAtEnds}
use Rattle.sight_names.proofs.Laws.{sees_sym, sees_names}
use Rattle.sight_names.proofs.Lists.{get_of_contains}
use Rattle.sight_names.proofs.PlanMap.{plan_is_map}
use Rattle.mesh_base.specs.SightLaws.Laws.{IsOpenRay}
use Rattle.mesh_base.proofs.SightLaws.SightLaws.{sight_sees, sees_itself, turned_sight}
use Rattle.sight_lift.proofs.Back.{ray_of_sequence}
use Rattle.sight_lift.proofs.LiftLaws.{sight_is_lifted, sight_connects}
use Rattle.sight_lift.proofs.SequenceLaws.All.{stand_in_order}
use Rattle.reject_bits.specs.Parts.{Rejects}
use Rattle.cert_format.specs.Parts.{CertParts}
use Rattle.cert_format.specs.Accepted.{HasRay, IsNamed}
use Rattle.cert_checker.proofs.SightRays.{open_is_sight}
use Rattle.pair_budget.specs.declared.results.Reached.{Reached}
use Rattle.pair_budget.specs.declared.results.SourceResult.{SourceResult}
use Rattle.pair_budget.specs.declared.results.Verdicts.{Verdicts}
use Rattle.pair_budget.specs.Decide.{AreResults, IsFoundBy, IsRayOfResults, turned_ray}
use Rattle.pair_budget.specs.Decided.{DecidesOver, IsUnseen}
use Rattle.pair_budget.specs.Through.{IsRayThrough}
use Rattle.pair_budget.proofs.FoundSectorsLaws.{reached_by}
use Rattle.sight_workers.specs.declared.view.Task.{Task}
use Rattle.sight_workers.specs.Teams.{AreWalked}
use Rattle.group_job.specs.Results.{AreWalkVerdicts}
use Rattle.group_job.specs.Sight.{AreAllThrough, IsFoundAlong, IsRayAlong, AreRaysAlong, HasSightRays, TellsWhoSees}
use Rattle.group_job.proofs.VerdictLaws.{cert_rays, both_bits_of}
use Rattle.math_base.proofs.Numbers.{same_below_or_above, below_or_not}
use Rattle.math_base.proofs.Lists.{last_pushed}
use Rattle.mesh_shape.proofs.HalfEdges.EachLine.{same_or_not}

-- ---- the rays

module _ (p : PlanParts) (plan : IsPlan p) (ts : List Triangle) (ls : List (Option ℕ)) (good : IsGoodMesh (map_of p) ts ls) where
  open_ray : (source : ℕ) (r : Reached) → IsRayThrough p ts ls source r → IsOpenRay (map_of p) r.ray
  open_ray source r h =
      subst (λ (s : Side). IsOpenRay (map_of p) (record { first = s; last = r.ray.last; a = r.ray.a; b = r.ray.b; c = r.ray.c })) h.leaves
      (ray_of_sequence (map_of p) (plan_is_map p plan) ts ls good source h.sequence (h.before ++ h.last ∷ []) h.is r.ray.a r.ray.b r.ray.c h.splits h.last (last_pushed h.last h.before None) r.ray.last h.arrives.line h.arrives.is_line (sym h.arrives.edge))

  found_sight : (source : ℕ) (r : Reached) → IsFoundAlong p ts ls source r → IsSightRay (map_of p) r.ray source r.to
  found_sight source r h = open_is_sight (map_of p) r.ray source r.to (open_ray source r h.is_through) h.is_reached.range h.is_reached.from h.is_reached.to_it

  -- a ray that a walk found, or such a ray turned round, is a sight ray of its pair
  pub sight_ray_along : (r : PairRay) → IsRayAlong p ts ls r → IsSightRay (map_of p) r.ray r.pair.a r.pair.b
  sight_ray_along r (inl (x, found, to, is)) = subst (λ (s : Ray). IsSightRay (map_of p) s r.pair.a r.pair.b) is (subst (λ (n : ℕ). IsSightRay (map_of p) x.ray r.pair.a n) to (found_sight r.pair.a x found))
  sight_ray_along r (inr (x, found, to, is)) =
      subst (λ (s : Ray). IsSightRay (map_of p) s r.pair.a r.pair.b) (sym is) (turned_sight (map_of p) x.ray r.pair.b r.pair.a (subst (λ (n : ℕ). IsSightRay (map_of p) x.ray r.pair.b n) to (found_sight r.pair.b x found)))

pub walks_through : (t : Task) (rs : List SourceResult) → AreWalked t rs → AreAllThrough t.plan t.mesh.triangles t.labels rs
walks_through t rs walked k r h = (walked k r h).through

module _ (p : PlanParts) (ts : List Triangle) (ls : List (Option ℕ)) (rs : List SourceResult) (are : AreResults p rs) (through : AreAllThrough p ts ls rs) where
  found_along : (a b : ℕ) (ray : Ray) → IsFoundBy rs a b ray → (x : Reached) × IsFoundAlong p ts ls a x × (x.to ≡ b) × (x.ray ≡ ray)
  found_along a b ray (w, x, h, c, to, is) = (x, record { is_reached = reached_by p rs are a w x h c; is_through = through a w h x c }, to, is)

  pub ray_along : (r : PairRay) → IsRayOfResults rs r → IsRayAlong p ts ls r
  ray_along r (inl h) = inl (found_along r.pair.a r.pair.b r.ray h)
  ray_along r (inr (ray, h, e)) = let f = found_along r.pair.b r.pair.a ray h in inr (f.0, f.1, f.2, e ∙ ap turned_ray (sym f.3))

-- ---- sectors that no walk found

module _ (m : Map) (is_map : IsMap m) (ends : LinesMeetAtEnds m) (ts : List Triangle) (ls : List (Option ℕ)) (good : IsGoodMesh m ts ls) where
  place : (a b : ℕ) (s : Sequence) → Reaches m ts ls a s b → (i : ℕ) × (slice_get (stand_in_order m ts ls a good).all i ≡ Some s)
  place a b s r =
      let o = stand_in_order m ts ls a good in
      let c = (o.are.exactly s).1 (r.0, r.1, r.2) in
      (c.0, get_of_contains o.all s c.0 c.1 c.2)

  -- where a sequence reaches a sector that isn't found, the budget ran out before it
  spent_if_missed : (budget : Budget) (a b : ℕ) (s : Sequence) → Reaches m ts ls a s b → ¬ Found m ts ls a b budget → Spent m ts ls a budget
  spent_if_missed Full a b s r missed = let i = place a b s r in absurd (missed (((stand_in_order m ts ls a good).found b Full).1 (i.0, s, i.1, tt, r)))
  spent_if_missed (Of n) a b s r missed = at (place a b s r) (below_or_not (place a b s r).0 n)
    where
      at : (i : (k : ℕ) × (slice_get (stand_in_order m ts ls a good).all k ≡ Some s)) → (i.0 < n) ⊎ (n ≤ i.0) → Spent m ts ls a (Of n)
      at i (inl l) = absurd (missed (((stand_in_order m ts ls a good).found b (Of n)).1 (i.0, s, i.1, l, r)))
      at i (inr l) = ((stand_in_order m ts ls a good).spent n).1 (let w = slice_get_within (stand_in_order m ts ls a good).all i.0 s i.1 in omega arith)

  -- sectors that see each other, of which neither is found, are listed
  unseen_blind : (budget : Budget) (a b : ℕ) → a ≢ b → IsUnseen m ts ls budget a b → ¬ Sees m a b
  unseen_blind budget a b differ h sees =
      let there = (sight_is_lifted m ts ls a b is_map ends good differ).0 sees in
      let back = (sight_is_lifted m ts ls b a is_map ends good (λ e. differ (sym e))).0 (sees_sym m a b sees) in
      h.not_listed (record {
        differ = differ;
        connected = sight_connects m ts ls a b is_map good sees;
        not_found = h.not_found;
        not_found_back = h.not_found_back;
        spent = spent_if_missed budget a b there.0 there.1 h.not_found;
        spent_too = spent_if_missed budget b a back.0 back.1 h.not_found_back;
      })

-- ---- sectors that a side names

-- this side of this line names the sector
abbrev NamesIt : List (Option MapLine) → ℕ → ℕ → Bool → Type 0
NamesIt lines a i left = option_and_then (λ (l : MapLine). sector_on l left) (option_and_then (λ (l : Option MapLine). l) (slice_get lines i)) ≡ Some a

named_or_not : (lines : List (Option MapLine)) (a : ℕ) → ((i : ℕ) × (left : Bool) × NamesIt lines a i left) ⊎ ((i : ℕ) (left : Bool) → ¬ NamesIt lines a i left)
named_or_not [] a = inr (λ i left e. absurd cc)
named_or_not (l ∷ lines) a = at (same_or_not (option_and_then (λ (k : MapLine). sector_on k false) l) a) (same_or_not (option_and_then (λ (k : MapLine). sector_on k true) l) a) (named_or_not lines a)
  where
    at : (option_and_then (λ (k : MapLine). sector_on k false) l ≡ Some a) ⊎ (option_and_then (λ (k : MapLine). sector_on k false) l ≢ Some a) → (option_and_then (λ (k : MapLine). sector_on k true) l ≡ Some a) ⊎ (option_and_then (λ (k : MapLine). sector_on k true) l ≢ Some a)
        → ((i : ℕ) × (left : Bool) × NamesIt lines a i left) ⊎ ((i : ℕ) (left : Bool) → ¬ NamesIt lines a i left) → ((i : ℕ) × (left : Bool) × NamesIt (l ∷ lines) a i left) ⊎ ((i : ℕ) (left : Bool) → ¬ NamesIt (l ∷ lines) a i left)
    at (inl e) y rest = inl (zero, false, e)
    at (inr x) (inl e) rest = inl (zero, true, e)
    at (inr x) (inr y) (inl r) = inl (suc r.0, r.1, r.2)
    at (inr x) (inr y) (inr none) = inr all_not
      where
        all_not : (i : ℕ) (left : Bool) → ¬ NamesIt (l ∷ lines) a i left
        all_not zero false = x
        all_not zero true = y
        all_not (suc i) left = none i left

pub is_named_or_not : (m : Map) (a : ℕ) → IsNamed m a ⊎ ¬ IsNamed m a
is_named_or_not m a = at (named_or_not m.lines a)
  where
    at : ((i : ℕ) × (left : Bool) × NamesIt m.lines a i left) ⊎ ((i : ℕ) (left : Bool) → ¬ NamesIt m.lines a i left) → IsNamed m a ⊎ ¬ IsNamed m a
    at (inl (i, left, e)) = inl (record { line = i; left = left }, e)
    at (inr none) = inr (λ n. none n.0.line n.0.left n.1)

-- ---- what the build tells

module _ (p : PlanParts) (plan : IsPlan p) (ends : LinesMeetAtEnds (map_of p)) (ts : List Triangle) (ls : List (Option ℕ)) (good : IsGoodMesh (map_of p) ts ls) (budget : Budget) (v : Verdicts) (are : AreWalkVerdicts p budget v) (over : DecidesOver (map_of p) ts ls budget p.sectors v.table v.listed)
    (along : AreRaysAlong p ts ls v.rays) (cert : CertParts) (rays : cert.rays ≡ v.rays) where
  pub has_sight_rays : HasSightRays (map_of p) cert
  has_sight_rays r c = sight_ray_along p plan ts ls good r (along r (subst (λ (rs : List PairRay). Contains rs r) rays c))

  abbrev IsListed : ℕ → ℕ → Type 0
  IsListed a b = Contains v.listed (record { a = a; b = b })

  blind : (a b : ℕ) → a < p.sectors → b < p.sectors → Rejects v.table a b → ¬ Sees (map_of p) a b
  blind a b low_a low_b bit sees = by ((over.bits a b low_a low_b).0 bit)
    where
      by : ((a ≡ b) × ¬ ((s : Side) × Names (map_of p) s a)) ⊎ ((a ≢ b) × IsUnseen (map_of p) ts ls budget a b) → ⊥
      by (inl h) = h.1 (sees_names (map_of p) a b sees)
      by (inr h) = unseen_blind (map_of p) (plan_is_map p plan) ends ts ls good budget a b h.0 h.1 sees

  ray_sees : (a b : ℕ) → HasRay cert a b → Sees (map_of p) a b
  ray_sees a b (r, c, pair) =
      sight_sees (map_of p) r.ray a b (plan_is_map p plan) ends
      (subst (λ (k : ℕ). IsSightRay (map_of p) r.ray k b) (ap (λ (q : _). q.a) pair) (subst (λ (k : ℕ). IsSightRay (map_of p) r.ray r.pair.a k) (ap (λ (q : _). q.b) pair) (has_sight_rays r c)))

  seen_up : (a b : ℕ) → a < b → b < p.sectors → ¬ Rejects v.table a b → ¬ IsListed a b → Sees (map_of p) a b
  seen_up a b order low clear unlisted = ray_sees a b ((cert_rays p budget v are cert rays a b order (subst (λ (n : ℕ). b < n) (sym are.table.sectors) low)).1 (clear, unlisted))

  itself : (a : ℕ) → a < p.sectors → ¬ Rejects v.table a a → Sees (map_of p) a a
  itself a low clear = by (is_named_or_not (map_of p) a)
    where
      by : IsNamed (map_of p) a ⊎ ¬ IsNamed (map_of p) a → Sees (map_of p) a a
      by (inl n) = (sees_itself (map_of p) a (plan_is_map p plan) ends).1 n
      by (inr none) = absurd (clear ((over.bits a a low low).1 (inl (refl, none))))

  pub tells_who_sees : TellsWhoSees (map_of p) v.table v.listed
  tells_who_sees = record { blind = blind; seen = λ a b low_a low_b clear up down. seen a b low_a low_b clear up down (same_below_or_above a b) }
    where
      back : (a b : ℕ) → a < p.sectors → b < p.sectors → ¬ Rejects v.table a b → ¬ Rejects v.table b a
      back a b low_a low_b clear bit = clear (both_bits_of p budget v are b a (subst (λ (n : ℕ). b < n) (sym are.table.sectors) low_b) (subst (λ (n : ℕ). a < n) (sym are.table.sectors) low_a) bit)

      seen : (a b : ℕ) → a < p.sectors → b < p.sectors → ¬ Rejects v.table a b → ¬ IsListed a b → ¬ IsListed b a → (a ≡ b) ⊎ ((a < b) ⊎ (b < a)) → Sees (map_of p) a b
      seen a b low_a low_b clear up down (inl e) = subst (λ (k : ℕ). Sees (map_of p) a k) e (itself a low_a (subst (λ (k : ℕ). ¬ Rejects v.table a k) (sym e) clear))
      seen a b low_a low_b clear up down (inr (inl l)) = seen_up a b l low_b clear up
      seen a b low_a low_b clear up down (inr (inr l)) = sees_sym (map_of p) b a (seen_up b a l low_a (back a b low_a low_b clear) down)
