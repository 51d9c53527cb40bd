-- From groups to sectors: which pairs of sectors are listed, and which have their bit set.
use Rattle.std.proofs.Common.{◌≡◌, ◌≢◌, ℕ, ◌<◌, sym, ◌∙◌, subst, ◌↔◌, List, length, Option, Some, Contains}
use Rattle.std.proofs.lemmas.Option.{slice_get_within, same_Some}
use Rattle.sight_names.specs.declared.names.Triangle.{Triangle}
use Rattle.sight_names.specs.declared.names.Budget.{Budget}
use Rattle.sight_names.specs.Map.{Map, MapLine}
use Rattle.sight_names.specs.Mesh.{side_edge, triangle_at}
use Rattle.sight_names.specs.Sees.{Sees}
use Rattle.sight_names.specs.Found.{Found, IsListedOver}
use Rattle.sight_names.specs.Groups.{AreGroups, IsGroupedMap, IsInGroup}
use Rattle.sight_names.proofs.Laws.{sees_sym}
use Rattle.mesh_base.proofs.GoodMesh.{found_at}
use Rattle.face_groups.specs.declared.tri_sectors.faces.Walls.{Walls}
use Rattle.face_groups.proofs.TriSectors.FaceRegion.{Ground}
use Rattle.face_groups.proofs.GroupsBase.Ordered.{at_contains}
use Rattle.face_groups.proofs.GroupsBase.FaceSectors.{NamedAreSealed, at_side, face_sees, named_are_sectors}
use Rattle.face_groups.proofs.GroupsBase.GroupLaws.{HasLists, sees_by_groups}

-- ---- listed, over given groups with their map and its mesh

pub record IsListedOfGroups (groups : List (List ℕ)) (g : Map) (ts : List Triangle) (ls : List (Option ℕ)) (budget : Budget) (a b : ℕ) : Type 0 where
  pub differ : a ≢ b
  pub some : (f k : ℕ) × IsInGroup groups a f × IsInGroup groups b k × IsListedOver g ts ls budget f k
  pub none : (f k : ℕ) → IsInGroup groups a f → IsInGroup groups b k → (f ≢ k) × ¬ Found g ts ls f k budget × ¬ Found g ts ls k f budget

module _ (m : Map) (ts : List Triangle) (ws : List Walls) (fs : List ℕ) (d : Ground m ts ws fs) (sealed : NamedAreSealed m ts ws fs)
    (groups : List (List ℕ)) (are : AreGroups m groups) (g : Map) (is : IsGroupedMap m groups g) (lists : HasLists m) where
  -- two sectors of one group see each other
  pub one_group_sees : (k a b : ℕ) → IsInGroup groups a k → IsInGroup groups b k → Sees m a b
  one_group_sees k a b ha hb =
      let e = (are.exactly ha.0).0 (at_contains groups ha.0 (k, ha.1)) in
      let same : hb.0 ≡ ha.0 = same_Some hb.0 ha.0 (sym hb.1 ∙ ha.1) in
      let has : Contains ha.0 b = subst (λ (xs : List ℕ). Contains xs b) same hb.2 in
      let w = (e.4.exactly a).0 ha.2 in
      let r = at_side m ts ws fs d sealed e.1 w.0 a w.1 w.2 in
      let there : triangle_at ts (side_edge m e.2 e.1.left) ≡ Some r.k = subst (λ (x : MapLine). triangle_at ts (side_edge m x e.1.left) ≡ Some r.k) (same_Some w.1.line e.2 (sym w.1.is ∙ e.3)) r.there in
      let on = (named_are_sectors m ts ws fs d sealed e.1 e.2 r.k ha.0 e.3 there).1 e.4 in
      let u = found_at ts (side_edge m e.2 e.1.left) r.k there in
      face_sees m ts ws fs d sealed r.k a b u.0 u.1 ((on.exactly a).0 ha.2) ((on.exactly b).0 has)

  module _ (us : List Triangle) (ls : List (Option ℕ)) (budget : Budget) (found_sees : (f k : ℕ) → Found g us ls f k budget → Sees g f k) where
    -- sectors that don't see each other are listed exactly where groups that contain them are
    pub listed_where_blind : (a b : ℕ) → ¬ Sees m a b → IsListedOfGroups groups g us ls budget a b ↔ ((f k : ℕ) × IsInGroup groups a f × IsInGroup groups b k × IsListedOver g us ls budget f k)
    listed_where_blind a b blind = (λ h. h.some, back)
      where
        sees_of : (f k : ℕ) → IsInGroup groups a f → IsInGroup groups b k → Sees g f k → ⊥
        sees_of f k ha hb s = blind ((sees_by_groups m ts ws fs d sealed groups are g is lists a b).1 (f, k, ha, hb, s))

        turned : (f k : ℕ) → Sees g k f → Sees g f k
        turned f k s = sees_sym g k f s

        back : (f k : ℕ) × IsInGroup groups a f × IsInGroup groups b k × IsListedOver g us ls budget f k → IsListedOfGroups groups g us ls budget a b
        back (f, k, ha, hb, listed) = record {
          differ = λ e. blind (one_group_sees f a b ha (subst (λ (x : ℕ). IsInGroup groups x f) e ha));
          some = (f, k, ha, hb, listed);
          none = λ f' k' ha' hb'. (
            λ e. blind (one_group_sees f' a b ha' (subst (λ (x : ℕ). IsInGroup groups b x) (sym e) hb')),
            λ h. sees_of f' k' ha' hb' (found_sees f' k' h),
            λ h. sees_of f' k' ha' hb' (turned f' k' (found_sees k' f' h)),
          );
        }

    -- where the bits of groups are set exactly where they neither see each other nor are listed, a pair of sectors of which
    -- the bits of all groups are set is one that neither sees each other nor is listed
    pub set_by_groups : (Set : ℕ → ℕ → Type 0) → ((f k : ℕ) → f < length groups → k < length groups → Set f k ↔ (¬ Sees g f k × ¬ IsListedOver g us ls budget f k))
        → (a b : ℕ) → ((f k : ℕ) → IsInGroup groups a f → IsInGroup groups b k → Set f k) ↔ (¬ Sees m a b × ¬ IsListedOfGroups groups g us ls budget a b)
    set_by_groups Set bits a b = (there, back)
      where
        bit : (f k : ℕ) → IsInGroup groups a f → IsInGroup groups b k → Set f k ↔ (¬ Sees g f k × ¬ IsListedOver g us ls budget f k)
        bit f k ha hb = bits f k (slice_get_within groups f ha.0 ha.1) (slice_get_within groups k hb.0 hb.1)

        there : ((f k : ℕ) → IsInGroup groups a f → IsInGroup groups b k → Set f k) → ¬ Sees m a b × ¬ IsListedOfGroups groups g us ls budget a b
        there all = (
          λ s. let w = (sees_by_groups m ts ws fs d sealed groups are g is lists a b).0 s in ((bit w.0 w.1 w.2 w.3).0 (all w.0 w.1 w.2 w.3)).0 w.4,
          λ h. let w = h.some in ((bit w.0 w.1 w.2 w.3).0 (all w.0 w.1 w.2 w.3)).1 w.4,
        )

        back : ¬ Sees m a b × ¬ IsListedOfGroups groups g us ls budget a b → (f k : ℕ) → IsInGroup groups a f → IsInGroup groups b k → Set f k
        back (blind, unlisted) f k ha hb = (bit f k ha hb).1 (
          λ s. blind ((sees_by_groups m ts ws fs d sealed groups are g is lists a b).1 (f, k, ha, hb, s)),
          λ h. unlisted ((listed_where_blind a b blind).1 (f, k, ha, hb, h)),
        )
