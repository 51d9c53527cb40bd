-- What a build over the map of groups tells of pairs of groups.
use Rattle.std.proofs.Common.{◌≡◌, ◌≢◌, ℕ, ◌<◌, ◌↔◌, inl, inr, List, [], length, slice_get, Option, Some, None, MatchOption, refl, sym, ap, ◌∙◌, subst, arith}
use Rattle.std.proofs.lemmas.Option.{MatchOption-at_some, MatchOption-at_none}
use Rattle.math_base.proofs.Numbers.{below_or_above}
use Rattle.sight_names.specs.declared.names.Ask.{Ask}
use Rattle.sight_names.specs.declared.names.Budget.{Budget}
use Rattle.sight_names.specs.declared.names.Side.{Side}
use Rattle.sight_names.specs.declared.names.Triangle.{Triangle}
use Rattle.sight_names.specs.Plan.{PlanParts}
use Rattle.sight_names.specs.Map.{Map, IsMap, map_of, named}
use Rattle.sight_names.specs.Sees.{Sees}
use Rattle.sight_names.specs.Sound.{NamesAgree}
use Rattle.sight_names.specs.Mesh.{IsGoodMesh, IsMeshOf}
use Rattle.sight_names.specs.Found.{Found, IsListedOver}
use Rattle.sight_names.specs.Groups.{IsGroupedMap, IsInGroup}
use Rattle.reject_bits.specs.Parts.{Rejects}
use Rattle.cert_format.specs.Accepted.{IsNamed}
use Rattle.pair_budget.proofs.Connected.{connected_back}
use Rattle.face_groups.proofs.GroupsBase.GroupLaws.{HasLists}
use Rattle.face_groups.proofs.GroupsBase.Ordered.{at_contains, one_place}
use Rattle.face_groups.proofs.GroupsBase.SamePoints.{mesh_alike}
use Rattle.triangulate.proofs.GroupLaws.WholeLaws.{each_has_list, groups_are_map, groups_are_sound}
use Rattle.group_job.specs.declared.walked.Built.{Built}
use Rattle.group_job.specs.Sectors.{AreClear, AreListed}
use Rattle.group_job.specs.Walked.{AreWalkedGroups}
use Rattle.group_job.specs.declared.grouped.MapOfGroups.{MapOfGroups}
use Rattle.group_job.proofs.Finding.{found_sees}
use Rattle.group_job.proofs.Following.{in_table, set_or_clear}

module _ (p : PlanParts) (ask : Ask) (mg : MapOfGroups) (budget : Budget) (b : Built) (h : AreWalkedGroups p ask mg budget b) where
  abbrev pub g : Map
  g = map_of mg.plan

  abbrev pub ts : List Triangle
  ts = mg.faces.mesh.triangles

  abbrev pub ls : List (Option ℕ)
  ls = mg.faces.labels

  pub mesh_too : IsMeshOf (map_of p) ts
  mesh_too = mesh_alike g (map_of p) (sym h.grouped.map.lines) ts h.grouped.faces.mesh

  pub is_map : IsMap g
  is_map = groups_are_map p h.grouped.plan h.grouped.closed ts mesh_too mg.groups h.grouped.groups g h.grouped.map

  pub lists : HasLists (map_of p)
  lists = each_has_list p h.grouped.plan h.grouped.closed ts mesh_too

  pub agree : (k : Map) → IsGroupedMap (map_of p) mg.groups k → NamesAgree k
  agree k is = (groups_are_sound p h.grouped.plan h.grouped.closed ts mesh_too mg.groups h.grouped.groups k is).agree

  pub good : IsGoodMesh g ts ls
  good = h.grouped.faces.good

  pub count : b.table.n ≡ length mg.groups
  count = h.built.sectors ∙ h.grouped.map.sectors

  pub low : (f : ℕ) → f < length mg.groups → f < mg.plan.sectors
  low f lf = subst (λ (n : ℕ). f < n) (sym h.grouped.map.sectors) lf

  pub in_groups : (f a : ℕ) → IsInGroup mg.groups a f → f < length mg.groups
  in_groups f a = in_table mg.groups (length mg.groups) f a refl

  -- a side names the group
  named_group : (f : ℕ) (at : List ℕ) → slice_get mg.groups f ≡ Some at → IsNamed g f
  named_group f at there =
      let e = (h.grouped.groups.exactly at).0 (at_contains mg.groups at (f, there)) in
      go e.1 e.0 (h.grouped.map.names e.1 e.2 at e.3 e.4) (named g e.1) refl
    where
      go : (s : Side) → at ≢ [] → MatchOption (named g s) (at ≡ []) (λ k. slice_get mg.groups k ≡ Some at) → (o : Option ℕ) → named g s ≡ o → IsNamed g f
      go s some x None e = absurd (some (MatchOption-at_none (at ≡ []) (λ k. slice_get mg.groups k ≡ Some at) e x))
      go s some x (Some k) e = (s, e ∙ ap (λ (n : ℕ). Some n) (one_place (map_of p) mg.groups h.grouped.groups k f at (MatchOption-at_some (at ≡ []) (λ k. slice_get mg.groups k ≡ Some at) k e x) there))

  -- so its own bit is clear
  pub own_clear : (f a : ℕ) → IsInGroup mg.groups a f → ¬ Rejects b.table f f
  own_clear f a ha bit = (h.built.diagonal f (low f (in_groups f a ha))).0 bit (named_group f ha.0 ha.1)

  listed_back : (f k : ℕ) → IsListedOver g ts ls budget f k → IsListedOver g ts ls budget k f
  listed_back f k l = record { differ = λ e. l.differ (sym e); connected = connected_back g f k l.connected; not_found = l.not_found_back; not_found_back = l.not_found; spent = l.spent_too; spent_too = l.spent }

  pub listed_over : (f k : ℕ) → AreListed b.listed f k → IsListedOver g ts ls budget f k
  listed_over f k (inl c) = ((h.built.decides.listed (record { a = f; b = k })).0 c).1
  listed_over f k (inr c) = listed_back k f ((h.built.decides.listed (record { a = k; b = f })).0 c).1

  pub over_listed : (f k : ℕ) → IsListedOver g ts ls budget f k → AreListed b.listed f k
  over_listed f k l = elim (below_or_above f k l.differ) as (λ _. AreListed b.listed f k) [
    | inl lt ↦ inl ((h.built.decides.listed (record { a = f; b = k })).1 (lt, l))
    | inr gt ↦ inr ((h.built.decides.listed (record { a = k; b = f })).1 (gt, listed_back f k l))
  ]

  pub own_unlisted : (f : ℕ) → ¬ AreListed b.listed f f
  own_unlisted f l = (listed_over f f l).differ refl

  pub pair_sees : (f k : ℕ) → f < length mg.groups → k < length mg.groups → ¬ Rejects b.table f k → ¬ AreListed b.listed f k → Sees g f k
  pair_sees f k lf lk clear none = h.built.sight.seen f k (low f lf) (low k lk) clear (λ c. none (inl c)) (λ c. none (inr c))

  pub found_seen : (f k : ℕ) → Found g ts ls f k budget → Sees g f k
  found_seen f k = found_sees g ts ls good f k budget is_map h.grouped.faces.sound.ends

  pub blind_pair : (f k : ℕ) → f < length mg.groups → k < length mg.groups → Rejects b.table f k → ¬ Sees g f k
  blind_pair f k lf lk = h.built.sight.blind f k (low f lf) (low k lk)

  -- different groups of which neither is found from the other and that aren't listed
  pub unseen_set : (f k : ℕ) → f < length mg.groups → k < length mg.groups → f ≢ k → ¬ Found g ts ls f k budget → ¬ Found g ts ls k f budget → ¬ AreListed b.listed f k → Rejects b.table f k
  unseen_set f k lf lk differ none back unlisted = (h.built.decides.bits f k (low f lf) (low k lk)).1 (inr (differ, record { not_found = none; not_found_back = back; not_listed = λ l. unlisted (over_listed f k l) }))

  pub set_unlisted : (f k : ℕ) → f < length mg.groups → k < length mg.groups → Rejects b.table f k → ¬ IsListedOver g ts ls budget f k
  set_unlisted f k lf lk bit l = elim ((h.built.decides.bits f k (low f lf) (low k lk)).0 bit) as (λ _. ⊥) [ inl own ↦ l.differ own.0 | inr u ↦ u.1.not_listed l ]

  -- the bits of listed groups are clear
  pub listed_are_clear : AreClear b.table b.listed
  listed_are_clear q c =
      let l = listed_over q.a q.b (inl c) in
      let x = h.built.below q c in
      let lb : q.b < length mg.groups = subst (λ (n : ℕ). q.b < n) h.grouped.map.sectors x.1 in
      let la : q.a < length mg.groups = less q.a q.b (length mg.groups) x.0 lb in
      (λ bit. set_unlisted q.a q.b la lb bit l, λ bit. set_unlisted q.b q.a lb la bit (listed_back q.a q.b l))
    where
      less : (x y n : ℕ) → x < y → y < n → x < n
      less x y n lt ln = omega (arith, lt, ln)

  pub set_exactly : (f k : ℕ) → f < length mg.groups → k < length mg.groups → Rejects b.table f k ↔ (¬ Sees g f k × ¬ IsListedOver g ts ls budget f k)
  set_exactly f k lf lk = (
    λ bit. (blind_pair f k lf lk bit, set_unlisted f k lf lk bit),
    λ x. elim (set_or_clear b.table f k) as (λ _. Rejects b.table f k) [
      | inl bit ↦ bit
      | inr clear ↦ absurd (x.0 (pair_sees f k lf lk clear (λ l. x.1 (listed_over f k l))))
    ],
  )

  pub clear_back : (f k : ℕ) → f < length mg.groups → k < length mg.groups → ¬ Rejects b.table f k → ¬ Rejects b.table k f
  clear_back f k lf lk clear bit = clear (h.built.symmetric k f (subst (λ (n : ℕ). k < n) (sym count) lk) (subst (λ (n : ℕ). f < n) (sym count) lf) bit)
