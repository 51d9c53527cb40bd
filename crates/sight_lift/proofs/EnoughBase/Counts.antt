-- How many stabbable sequences start at a root and at a source; so with a budget of so many nothing is spent, and nothing
-- is listed.
use Rattle.std.proofs.Common.{◌≡◌, ℕ, ◌+◌, ◌*◌, ◌<◌, ◌≤◌, arith, refl, sym, ◌∙◌, subst, List, ◌∷◌, length, Option}
use Rattle.std.specs.List.{AllByRecursion}
use Rattle.sight_names.specs.declared.names.Side.{Side}
use Rattle.sight_names.specs.declared.names.Triangle.{Triangle}
use Rattle.sight_names.specs.declared.names.Budget.TheVariants.{Of}
use Rattle.sight_names.specs.Map.{Map}
use Rattle.sight_names.specs.Points.{points_of}
use Rattle.sight_names.specs.Mesh.{AreTriangles, IsPlainMesh, IsMeshOf}
use Rattle.sight_names.specs.Sequence.{Sequence}
use Rattle.sight_names.specs.Found.{SequenceBefore, IsStabbableSequence, HasPlace, Spent, IsListedOver, IsListed}
use Rattle.sight_names.proofs.Lists.{contains_of_get}
use Rattle.sight_names.proofs.OneMesh.{one_mesh}
use Rattle.sight_names.specs.Enough.{passable_lines, enough_of}
use Rattle.sight_names.proofs.OnePlace.{before_irreflexive}
use Rattle.plane_base.proofs.Every.{all_weaker}
use Rattle.sight_lift.proofs.EnoughBase.Few.{Differ, few}
use Rattle.sight_lift.proofs.EnoughBase.Numbers.{digit_below, same_digits}
use Rattle.sight_lift.proofs.EnoughBase.Ranks.{RootLine, root_line, root_rank, root_rank_below, one_root}
use Rattle.sight_lift.proofs.EnoughBase.Orders.{ascending_differ}
use Rattle.sight_lift.proofs.EnoughBase.Depth.{AllTurn}
use Rattle.sight_lift.proofs.EnoughBase.Sources.{stabbed, IsCode, code_of, code_tells}
use Rattle.math_base.proofs.Lists.{all_of}

module _ (m : Map) (ts : List Triangle) (ls : List (Option ℕ)) (are : AreTriangles (length (points_of m)) ts) (turns : AllTurn m ts) where
  -- at most so many start at one root
  abbrev pub at_root : ℕ
  at_root = length (points_of m) * length (points_of m) * length ts

  -- and so many at one source
  abbrev pub at_source : ℕ
  at_source = passable_lines m * length (points_of m) * length (points_of m) * length ts

  -- ---- of one root

  abbrev IsRootCode : Side → Sequence → ℕ → Type 0
  IsRootCode r s c = (s.root ≡ r) × IsCode m ts s c

  pub few_at_root : (a : ℕ) (r : Side) (xs : List Sequence) → Differ xs → AllByRecursion (λ s. (s.root ≡ r) × IsStabbableSequence m ts ls a s) xs → length xs ≤ at_root
  few_at_root a r xs d h = few (IsRootCode r) at_root (λ s t c g k. code_tells m ts s t c (g.0 ∙ sym k.0) g.1 k.1) xs
      (all_weaker (λ s. (s.root ≡ r) × IsStabbableSequence m ts ls a s) (λ s. (c : ℕ) × (c < at_root) × IsRootCode r s c) (λ s k. let c = code_of m ts are turns s (stabbed m ts ls a s k.1) in (c.0, c.1, (k.0, c.2))) xs h) d

  -- ---- of one source

  pub record IsSourceCode (a : ℕ) (s : Sequence) (code : ℕ) : Type 0 where
    pub root : RootLine m a s.root
    pub rest : ℕ
    pub small : rest < at_root
    pub of_root : IsCode m ts s rest
    pub is : code ≡ root_rank m s.root * at_root + rest

  source_code : (a : ℕ) (s : Sequence) → IsStabbableSequence m ts ls a s → (c : ℕ) × (c < at_source) × IsSourceCode a s c
  source_code a s h =
      let c = code_of m ts are turns s (stabbed m ts ls a s h) in
      let r = root_line m a s.root h.1.root in
      (root_rank m s.root * at_root + c.0, bound (passable_lines m) (length (points_of m)) (length ts) (root_rank m s.root * at_root + c.0) (digit_below (passable_lines m) at_root (root_rank m s.root) c.0 (root_rank_below m a s.root r) c.1), record { root = r; rest = c.0; small = c.1; of_root = c.2; is = refl })
    where
      bound : (l v t c : ℕ) → c < l * (v * v * t) → c < l * v * v * t
      bound l v t c h = omega (arith, h)

  source_code_tells : (a : ℕ) (s t : Sequence) (c : ℕ) → IsSourceCode a s c → IsSourceCode a t c → s ≡ t
  source_code_tells a s t c g h =
      let d = same_digits at_root (root_rank m s.root) g.rest (root_rank m t.root) h.rest g.small h.small (sym g.is ∙ h.is) in
      code_tells m ts s t g.rest (one_root m a s.root t.root g.root h.root d.0) g.of_root (subst (IsCode m ts t) (sym d.1) h.of_root)

  -- the stabbable sequences of a source, in any list without repetition
  pub few_of_source : (a : ℕ) (xs : List Sequence) → Differ xs → AllByRecursion (IsStabbableSequence m ts ls a) xs → length xs ≤ at_source
  few_of_source a xs d h = few (IsSourceCode a) at_source (source_code_tells a) xs (all_weaker (IsStabbableSequence m ts ls a) (λ s. (c : ℕ) × (c < at_source) × IsSourceCode a s c) (source_code a) xs h) d

  -- ---- no budget of so many is spent

  -- a place of a stabbable sequence is below the bound
  pub place_below : (a : ℕ) (s : Sequence) (n : ℕ) → IsStabbableSequence m ts ls a s → HasPlace m ts ls a s n → n < at_source
  place_below a s n is p =
      let d : Differ (s ∷ p.before) = (
        all_of (λ t. ¬ (s ≡ t)) p.before (λ t c e. before_irreflexive s (subst (λ (x : Sequence). SequenceBefore x s) (sym e) ((p.exactly t).0 c).1)),
        ascending_differ p.before p.ascend,
      ) in
      let h : AllByRecursion (IsStabbableSequence m ts ls a) (s ∷ p.before) = (is, all_of (IsStabbableSequence m ts ls a) p.before (λ t c. ((p.exactly t).0 c).0)) in
      let b = few_of_source a (s ∷ p.before) d h in
      let c = p.count in
      omega (arith, b, c)

  pub never_spent : (a n : ℕ) → at_source ≤ n → Spent m ts ls a (Of n) → ⊥
  never_spent a n h (s, is, p) = let k = place_below a s n is p in omega (arith, h, k)

  enough_is : at_source ≤ enough_of m ts
  enough_is = omega arith

  pub enough_spends_none : (a : ℕ) → Spent m ts ls a (Of (enough_of m ts)) → ⊥
  enough_spends_none a h = never_spent a (enough_of m ts) enough_is h

  pub enough_lists_none : (a b : ℕ) → IsListedOver m ts ls (Of (enough_of m ts)) a b → ⊥
  enough_lists_none a b h = enough_spends_none a h.spent

-- over a plain mesh, whoever made it
pub plain_lists_none : (m : Map) (ts : List Triangle) (ls : List (Option ℕ)) → IsPlainMesh m ts → (a b : ℕ) → IsListedOver m ts ls (Of (enough_of m ts)) a b → ⊥
plain_lists_none m ts ls plain a b h = enough_lists_none m ts ls plain.triangles plain.turn a b h

-- over the map's own mesh
pub mesh_turns : (m : Map) (ts : List Triangle) → IsMeshOf m ts → AllTurn m ts
mesh_turns m ts h k t e = ((h.exactly t).0 (contains_of_get ts t k e)).turn

pub own_lists_none : (m : Map) (ts : List Triangle) → IsMeshOf m ts → (a b : ℕ) → IsListed m (Of (enough_of m ts)) a b → ⊥
own_lists_none m ts mesh a b h =
    let same : h.triangles ≡ ts = one_mesh m h.triangles ts h.mesh mesh in
    enough_lists_none m h.triangles h.labels h.mesh.triangles (mesh_turns m h.triangles h.mesh) a b
    (subst (λ (us : List Triangle). IsListedOver m h.triangles h.labels (Of (enough_of m us)) a b) (sym same) h.listed)
