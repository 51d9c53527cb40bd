-- The table of sectors: which bits the groups and the rays between them set, and the table that has the others.
use Rattle.std.proofs.Common.{◌≡◌, ℕ, ◌<◌, ◌⊎◌, inl, inr, List, length, map, Option, Some, None, Contains, get_or, refl, sym, ap, ◌∙◌, subst, arith}
use Rattle.std.specs.Prelude.{option_map}
use Rattle.std.specs.List.{slice_get}
use Rattle.std.proofs.lemmas.Option.{none-some, same_Some, slice_get-get_or, slice_get-map, slice_get_within}
use Rattle.math_base.proofs.Lists.{all_at, contains_map}
use Rattle.sight_names.specs.declared.names.Pair.{Pair}
use Rattle.sight_names.specs.declared.names.PairRay.{PairRay}
use Rattle.sight_names.specs.Groups.{IsInGroup}
use Rattle.sight_names.specs.Plan.{PlanParts}
use Rattle.face_groups.proofs.GroupsBase.Ordered.{at_contains, contains_at}
use Rattle.reject_bits.specs.Parts.{HasOtherBits, Rejects, TableParts}
use Rattle.cert_format.specs.Accepted.{HasRay}
use Rattle.cert_format.specs.CertGroups.Grammar.{IsGroupInOrder, grouped_sizes}
use Rattle.cert_format.specs.Grammar.{IsRayInRange}
use Rattle.cert_format.specs.declared.cert.Sizes.{Sizes}
use Rattle.cert_checker.specs.AcceptedGroups.Accepted.{AreGroupsJoined, IsGroupedSeen}
use Rattle.certificates.specs.declared.cert_exact.cert.ExactParts.{ExactParts}
use Rattle.certificates.specs.CertExact.Grammar.{as_two}
use Rattle.group_job.specs.Marks.{OfSteps, SetsMore}
use Rattle.group_job.specs.Sectors.{AreListedByGroups, AreOfSectors, ArePairsBelow}
use Rattle.group_job.proofs.Following.{set_or_clear}
use Rattle.group_job.proofs.Marks.{sets_as}
use Rattle.exact_checker.specs.Judged.{IsThreeFor}
use Rattle.found_rays.specs.Lines.{pair_of_ray}
use Rattle.exact_job.specs.Table.{AreInOneGroup, IsTableOfGroups}

-- ---- the sectors of the i-th group with each other

abbrev pub OwnStep : List (List ℕ) → ℕ → ℕ → ℕ → Type 0
OwnStep groups i c d = IsInGroup groups c i × IsInGroup groups d i

pub own_step : (groups : List (List ℕ)) (i : ℕ) (own : List ℕ) (old new : TableParts) → slice_get groups i ≡ Some own → SetsMore (λ c d. Contains own c × Contains own d) old new → SetsMore (OwnStep groups i) old new
own_step groups i own old new at = sets_as (λ c d. Contains own c × Contains own d) (OwnStep groups i) old new
    (λ c d h. ((own, at, h.0), (own, at, h.1)))
    (λ c d h. (here c h.0, here d h.1))
  where
    here : (c : ℕ) → IsInGroup groups c i → Contains own c
    here c h = subst (λ (xs : List ℕ). Contains xs c) (same_Some h.0 own (sym h.1 ∙ at)) h.2

pub own_set : (groups : List (List ℕ)) (old new : TableParts) → SetsMore (OfSteps (OwnStep groups) (length groups)) old new → SetsMore (AreInOneGroup groups) old new
own_set groups old new = sets_as (OfSteps (OwnStep groups) (length groups)) (AreInOneGroup groups) old new
    (λ c d w. (w.0, w.2.0, w.2.1))
    (λ c d h. (h.0, slice_get_within groups h.0 h.1.0 h.1.1, (h.1, h.2)))

-- ---- the pair of the i-th ray

pub pair_there : (rays : List PairRay) (i : ℕ) (d : PairRay) → i < length rays → slice_get (map pair_of_ray rays) i ≡ Some (get_or rays i d).pair
pair_there rays i d lt = slice_get-map pair_of_ray rays i ∙ ap (option_map pair_of_ray) (slice_get-get_or rays i d lt)

pub pair_low : (n : ℕ) (rays : List PairRay) (i : ℕ) (d : PairRay) → ArePairsBelow n (map pair_of_ray rays) → i < length rays → ((get_or rays i d).pair.a < n) × ((get_or rays i d).pair.b < n)
pair_low n rays i d below lt = let q = (get_or rays i d).pair in below q (at_contains (map pair_of_ray rays) q (i, pair_there rays i d lt))

-- a ray for a pair of theirs
ray_of : (rays : List PairRay) (q : Pair) → Contains (map pair_of_ray rays) q → (r : PairRay) × Contains rays r × (r.pair ≡ q)
ray_of rays q w = let x = contains_at (map pair_of_ray rays) q w in go x.0 (sym (slice_get-map pair_of_ray rays x.0) ∙ x.1) (slice_get rays x.0) refl
  where
    go : (i : ℕ) → option_map pair_of_ray (slice_get rays i) ≡ Some q → (o : Option PairRay) → slice_get rays i ≡ o → (r : PairRay) × Contains rays r × (r.pair ≡ q)
    go i at None e = absurd (none-some q (sym (ap (option_map pair_of_ray) e) ∙ at))
    go i at (Some r) e = (r, at_contains rays r (i, e), same_Some r.pair q (sym (ap (option_map pair_of_ray) e) ∙ at))

-- ---- groups and rays of a certificate

module _ (p : PlanParts) (c : ExactParts) (h : IsThreeFor p c) where
  pub of_sectors : AreOfSectors p.sectors c.groups
  of_sectors f a w =
      let g = all_at (IsGroupInOrder h.two.sizes.sectors) c.groups h.two.in_order.groups f w.0 w.1 in
      let x = contains_at w.0 a w.2 in
      subst (λ (n : ℕ). a < n) h.two.sectors (all_at (λ b. b < h.two.sizes.sectors) w.0 g.below x.0 a x.1)

  ranges : (r : PairRay) → Contains c.rays r → IsRayInRange (grouped_sizes h.two.sizes c.groups) r
  ranges r w =
      let x = contains_at c.rays r w in
      subst (λ (s : Sizes). IsRayInRange s r) h.two.in_order.grouped (all_at (IsRayInRange (as_two c).cert.sizes) c.rays h.two.in_order.in_order.rays x.0 r x.1)

  pub pairs_below : ArePairsBelow (length c.groups) (map pair_of_ray c.rays)
  pairs_below q w =
      let r = ray_of c.rays q w in
      let x = ranges r.0 r.1 in
      let up = x.0.0 in
      let low = x.0.1 in
      (subst (λ (v : Pair). v.a < length c.groups) r.2 (omega (arith, up, low)), subst (λ (v : Pair). v.b < length c.groups) r.2 low)

-- ---- what the bits tell

module _ (c : ExactParts) (clear own seen t : TableParts) (none : (a b : ℕ) → ¬ Rejects clear a b) (first : SetsMore (AreInOneGroup c.groups) clear own) (more : SetsMore (AreListedByGroups (map pair_of_ray c.rays) c.groups) own seen) (others : HasOtherBits seen t) where
  abbrev AreMarked : ℕ → ℕ → Type 0
  AreMarked a b = AreInOneGroup c.groups a b ⊎ AreListedByGroups (map pair_of_ray c.rays) c.groups a b

  listed : (f k : ℕ) → HasRay (as_two c).cert f k → Contains (map pair_of_ray c.rays) (record { a = f; b = k })
  listed f k w = subst (λ (q : Pair). Contains (map pair_of_ray c.rays) q) w.2 (contains_map pair_of_ray c.rays w.0 w.1)

  to_seen : (a b : ℕ) → AreMarked a b → IsGroupedSeen (as_two c) a b
  to_seen a b (inl w) = (w.0, w.0, w.1, w.2, inl refl)
  to_seen a b (inr w) = elim w.4 as (λ _. IsGroupedSeen (as_two c) a b) [
    | inl l ↦ (w.0, w.1, w.2, w.3, inr (inl (ray_of c.rays (record { a = w.0; b = w.1 }) l)))
    | inr l ↦ (w.0, w.1, w.2, w.3, inr (inr (ray_of c.rays (record { a = w.1; b = w.0 }) l)))
  ]

  marked : (a b f k : ℕ) → IsInGroup c.groups a f → IsInGroup c.groups b k → AreGroupsJoined (as_two c).cert f k → AreMarked a b
  marked a b f k ha hb (inl e) = inl (f, ha, subst (IsInGroup c.groups b) (sym e) hb)
  marked a b f k ha hb (inr (inl w)) = inr (f, k, ha, hb, inl (listed f k w))
  marked a b f k ha hb (inr (inr w)) = inr (f, k, ha, hb, inr (listed k f w))

  module _ (a b : ℕ) (la : a < t.n) (lb : b < t.n) where
    low : (x : ℕ) → x < t.n → x < clear.n
    low x l = let e = others.sectors_are in let f = more.sectors in let g = first.sectors in omega (arith, l, e, f, g)

    low_own : (x : ℕ) → x < t.n → x < own.n
    low_own x l = let e = others.sectors_are in let f = more.sectors in omega (arith, l, e, f)

    low_seen : (x : ℕ) → x < t.n → x < seen.n
    low_seen x l = let e = others.sectors_are in omega (arith, l, e)

    to_bit : AreMarked a b → Rejects seen a b
    to_bit (inl w) = (more.bits a b (low_own a la) (low_own b lb)).1 (inl ((first.bits a b (low a la) (low b lb)).1 (inr w)))
    to_bit (inr w) = (more.bits a b (low_own a la) (low_own b lb)).1 (inr w)

    of_bit : Rejects seen a b → AreMarked a b
    of_bit r = elim ((more.bits a b (low_own a la) (low_own b lb)).0 r) as (λ _. AreMarked a b) [
      | inl o ↦ elim ((first.bits a b (low a la) (low b lb)).0 o) as (λ _. AreMarked a b) [ inl z ↦ absurd (none a b z) | inr w ↦ inl w ]
      | inr w ↦ inr w
    ]

    set_not_seen : Rejects t a b → ¬ IsGroupedSeen (as_two c) a b
    set_not_seen bit s = (others.bits a b (low_seen a la) (low_seen b lb)).0 bit (to_bit (marked a b s.0 s.1 s.2 s.3 s.4))

    clear_seen : ¬ Rejects t a b → IsGroupedSeen (as_two c) a b
    clear_seen free = elim (set_or_clear seen a b) as (λ _. IsGroupedSeen (as_two c) a b) [
      | inl bit ↦ to_seen a b (of_bit bit)
      | inr not ↦ absurd (free ((others.bits a b (low_seen a la) (low_seen b lb)).1 not))
    ]

  pub table_is : IsTableOfGroups (as_two c) t
  table_is = record { set = λ a b la lb. set_not_seen a b la lb; clear = λ a b la lb. clear_seen a b la lb }
