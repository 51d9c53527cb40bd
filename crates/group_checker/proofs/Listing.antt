-- The groups against the lists of the faces, and the groups that are used.
use Rattle.std.proofs.Common.{◌≡◌, ℕ, zero, suc, ◌<◌, ◌↔◌, List, [], ◌∷◌, Option, Some, None, length, get_or, slice_index_or, Bool, true, false, refl, sym, ◌∙◌, ap, subst, arith}
use Rattle.std.specs.List.{slice_get}
use Rattle.std.proofs.lemmas.Bool.{false≢true}
use Rattle.std.proofs.lemmas.Option.{slice_get-get_or, slice_get_within, same_Some}
use Rattle.sight_names.specs.declared.names.Side.{Side}
use Rattle.sight_names.specs.declared.names.Triangle.{Triangle}
use Rattle.sight_names.specs.Map.{Map}
use Rattle.sight_names.specs.Mesh.{label_of}
use Rattle.mesh_shape.specs.Faults.{IsFirstAgainst}
use Rattle.mesh_shape.specs.Search.{IsSearch, IsSideSearch}
use Rattle.face_groups.specs.TriSectors.Classes.{class_of}
use Rattle.face_groups.specs.TriSectors.Sides.{IsSealedAt}
use Rattle.cert_checker.specs.TreeJudge.Marks.{IsFlagSet, HasNoMark}
use Rattle.face_groups.specs.GroupsBase.Named.{AreNamedAt}
use Rattle.face_groups.proofs.GroupsBase.Ordered.{ascending_same}
use Rattle.face_groups.specs.Verdict.{AreFaceNames}
use Rattle.face_groups.proofs.TriSectors.GoodLabels.{label_within}
use Rattle.group_checker.specs.Meshes.{HasTriangleAt}
use Rattle.group_checker.specs.Lists.{AreGroupLabels, IsListRight, IsUsedGroup, IsUsedBelow, IsGroupOf, HasItsList}

-- ---- searches in other words

pub search_moved : (P Q : ℕ → Type 0) → ((k : ℕ) → P k → Q k) → ((k : ℕ) → Q k → P k) → (r : Option ℕ) → IsSearch P r → IsSearch Q r
search_moved P Q to back None h = λ k. to k (h k)
search_moved P Q to back (Some k) h = record { against = λ q. h.against (back k q); before = λ j l. to j (h.before j l) }

side_search_moved : (P Q : Side → Type 0) → ((s : Side) → P s → Q s) → ((s : Side) → Q s → P s) → (r : Option Side) → IsSideSearch P r → IsSideSearch Q r
side_search_moved P Q to back None h = λ s. to s (h s)
side_search_moved P Q to back (Some s) h = record { against = λ q. h.against (back s q); before = λ j l. to j (h.before j l) }

index_marks : (os : List Bool) (f : ℕ) → slice_index_or os f false ≡ true → slice_get os f ≡ Some true
index_marks [] f e = absurd (false≢true e)
index_marks (b ∷ os) zero e = ap (λ (x : Bool). Some x) e
index_marks (b ∷ os) (suc f) e = index_marks os f e

-- where no face counts as open, an open side is one without a triangle
pub open_is_bare : (m : Map) (ts : List Triangle) (fs : List ℕ) (os : List Bool) (n : ℕ) → HasNoMark n os → (r : Option Side) → IsSideSearch (IsSealedAt m ts fs os) r → IsSideSearch (HasTriangleAt m ts) r
open_is_bare m ts fs os n none r h = side_search_moved (IsSealedAt m ts fs os) (HasTriangleAt m ts) (λ s sealed l a at named. let w = sealed l a at named in (w.0, w.1)) (λ s has l a at named. let w = has l a at named in (w.0, w.1, closed (class_of fs w.0))) r h
  where
    marked : (f : ℕ) → slice_index_or os f false ≡ true → ⊥
    marked f e = let w = index_marks os f e in none.none f (let l = slice_get_within os f true w in let k = none.len in omega (arith, l, k)) w

    closed : (f : ℕ) → slice_index_or os f false ≡ false
    closed f = go (slice_index_or os f false) refl
      where
        go : (b : Bool) → slice_index_or os f false ≡ b → slice_index_or os f false ≡ false
        go false e = e
        go true e = absurd (marked f e)

-- ---- lists

group_of : (groups : List (List ℕ)) (o : Option ℕ) (f : ℕ) (names : List ℕ) → o ≡ Some f → IsGroupOf groups o names → slice_get groups f ≡ Some names
group_of groups o f names e h = subst (λ (x : Option ℕ). IsGroupOf groups x names) e h

of_label : (groups : List (List ℕ)) (o : Option ℕ) (names : List ℕ) → ((f : ℕ) → o ≡ Some f → slice_get groups f ≡ Some names) → IsGroupOf groups o names
of_label groups None names h = tt
of_label groups (Some f) names h = h f refl

module _ (m : Map) (ts : List Triangle) (groups : List (List ℕ)) (ls : List (Option ℕ)) (labels : AreGroupLabels (length groups) ts ls) (lists : List (List ℕ)) (len : length lists ≡ length ts) (are : AreFaceNames m ts lists) where
  list_right : (k : ℕ) → HasItsList groups ls lists k → IsListRight m ts groups ls k
  list_right k h f at label there =
      let lt = label_within ls k f label in
      let n = labels.one_each in
      let here = slice_get-get_or lists k [] (omega (arith, lt, n, len)) in
      subst (AreNamedAt m ts k) (same_Some (get_or lists k []) at (sym (group_of groups (label_of ls k) f (get_or lists k []) label (h (get_or lists k []) here)) ∙ there)) (are k (get_or lists k []) here)

  list_own : (k : ℕ) → IsListRight m ts groups ls k → HasItsList groups ls lists k
  list_own k right names here = of_label groups (label_of ls k) names at
    where
      at : (f : ℕ) → label_of ls k ≡ Some f → slice_get groups f ≡ Some names
      at f label =
          let there = slice_get-get_or groups f [] (labels.below k f label) in
          let a = right f (get_or groups f []) label there in
          let b = are k names here in
          there ∙ ap (λ (xs : List ℕ). Some xs) (ascending_same (get_or groups f []) names a.ascend b.ascend (λ x. ((λ h. (b.exactly x).1 ((a.exactly x).0 h)), (λ h. (a.exactly x).1 ((b.exactly x).0 h)))))

  pub lists_told : (given : List (List ℕ)) → given ≡ lists → (r : Option ℕ) → IsSearch (HasItsList groups ls given) r → IsSearch (IsListRight m ts groups ls) r
  lists_told given same r h = search_moved (HasItsList groups ls lists) (IsListRight m ts groups ls) list_right list_own r (subst (λ (xs : List (List ℕ)). IsSearch (HasItsList groups ls xs) r) same h)

pub used_told : (n : ℕ) (ls : List (Option ℕ)) (marks : List Bool) → length marks ≡ n → ((f : ℕ) → f < n → IsFlagSet marks f ↔ IsUsedBelow (length ls) ls f) → (r : Option ℕ) → IsSearch (λ f. f < length marks → IsFlagSet marks f) r → IsSearch (IsUsedGroup n ls) r
used_told n ls marks len is r h = search_moved (λ f. f < length marks → IsFlagSet marks f) (IsUsedGroup n ls) (λ f marked lt. (is f lt).0 (marked (omega (arith, lt, len)))) (λ f used lt. let l : f < n = omega (arith, lt, len) in (is f l).1 (used l)) r h

-- ---- where a search ends

pub found : (P : ℕ → Type 0) (o : Option ℕ) (k : ℕ) → o ≡ Some k → IsSearch P o → IsFirstAgainst P k
found P o k e h = subst (IsSearch P) e h

pub all_found : (P : ℕ → Type 0) (o : Option ℕ) → o ≡ None → IsSearch P o → (k : ℕ) → P k
all_found P o e h = subst (IsSearch P) e h

pub used_of : (n : ℕ) (xs ls : List (Option ℕ)) (o : Option ℕ) → xs ≡ ls → IsSearch (IsUsedGroup n xs) o → IsSearch (IsUsedGroup n ls) o
used_of n xs ls o e h = subst (λ (ys : List (Option ℕ)). IsSearch (IsUsedGroup n ys) o) e h
