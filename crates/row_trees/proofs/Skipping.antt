-- A half-edge that is left without an answer.
use Rattle.std.proofs.Common.{◌≡◌, ℕ, ◌+◌, ◌<◌, ◌≤◌, inr, List, ◌∷◌, ◌++◌, Option, Some, None, IsSome, length, take, refl, sym, ◌∙◌, ap, subst, arith}
use Rattle.cert_checker.specs.declared.tree_judge.roots.Root.{Root}
use Rattle.cert_checker.specs.TreeJudge.Path.{path_ends}
use Rattle.gate_floods.specs.RowJudge.Masks.{MaskRows}
use Rattle.gate_floods.specs.declared.row_judge.follow.Wait.{Wait}
use Rattle.gate_floods.specs.declared.row_judge.follow.RowFollow.{RowFollow}
use Rattle.gate_floods.specs.declared.row_judge.walk.RowWalk.{RowWalk}
use Rattle.gate_floods.specs.RowJudge.Words.{row_in_words}
use Rattle.gate_floods.specs.RowJudge.Asked.{Pending, pending_way, pending_roots}
use Rattle.gate_floods.specs.RowJudge.Path.{IsRowWalkAt, TakesNext, with_asked}
use Rattle.gate_floods.specs.RowJudge.Judged.{StandsAt}
use Rattle.row_trees.specs.Walkable.{Scene}
use Rattle.row_trees.specs.Thinner.{IsRowWithin, AreThinned}
use Rattle.row_trees.specs.Left.{most, weight, weight_at, row_walk_left}
use Rattle.row_trees.proofs.Thin.{within_through}
use Rattle.row_trees.proofs.Thinning.{tail_same, no_head, thinned_same, thinned_through, weight_thinned}
use Rattle.row_trees.proofs.Weights.{remaining_is, weighs}
use Rattle.row_trees.proofs.Going.{present, asks_first}

module _ (ms : MaskRows) (first : List ℕ) (roots : List Root) (w : RowWalk) where
  pub skipped : (waits : List Wait) (f : RowFollow) (asked : Option ℕ) (p : Pending) (rest : List Pending) → StandsAt ms first roots w (p ∷ rest) → TakesNext ms first roots w.path.items w.rows.items w.waits.items w.follow waits f asked → IsRowWalkAt ms first roots w.path.items w.rows.items waits (with_asked f asked) rest
  skipped waits f asked p rest at takes = by w.follow.asked refl
    where
      by : (o : Option ℕ) → w.follow.asked ≡ o → IsRowWalkAt ms first roots w.path.items w.rows.items waits (with_asked f asked) rest
      by None e = absurd (no_head p rest (p ∷ rest) (at.last e) refl)
      by (Some i) e = subst (IsRowWalkAt ms first roots w.path.items w.rows.items waits (with_asked f asked)) (sym (tail_same p (present ms w i) rest (at.ways ++ pending_roots ms first at.es) (p ∷ rest) refl (asks_all i e))) (takes.next at.es at.ways at.chain at.base at.waiting at.depth_room at.row_room)
        where
          asks_all : (i : ℕ) → w.follow.asked ≡ Some i → p ∷ rest ≡ present ms w i ∷ (at.ways ++ pending_roots ms first at.es)
          asks_all i e = at.all ∙ ap (λ (o : Option ℕ). pending_way (path_ends (take w.follow.depth w.path.items)) (row_in_words w.rows.items ms.width w.follow.row) o ++ (at.ways ++ pending_roots ms first at.es)) e

  -- something is asked
  pub some_asked : (ps : List Pending) → StandsAt ms first roots w ps → IsSome w.follow.asked → (p : Pending) × (rest : List Pending) × (ps ≡ p ∷ rest)
  some_asked ps at some = by w.follow.asked refl
    where
      none : w.follow.asked ≡ None → ⊥
      none e = no (subst IsSome e some)
        where
          no : IsSome {T = ℕ} None → ⊥
          no h = cc

      by : (o : Option ℕ) → w.follow.asked ≡ o → (p : Pending) × (rest : List Pending) × (ps ≡ p ∷ rest)
      by None e = absurd (none e)
      by (Some i) e = let a = asks_first ms first roots w ps i at e in (present ms w i, a.rest, a.all)

-- from one walk to a later one: some of what was to be asked is still, with rows that have no more
abbrev pub HasThinned : MaskRows → List Root → RowWalk → RowWalk → Type 0
HasThinned ms roots old new = (first : List ℕ) (ps : List Pending) → StandsAt ms first roots old ps → (later : List ℕ) × (qs : List Pending) × StandsAt ms later roots new qs × AreThinned ps qs × IsRowWithin later first

pub both_thinned : (ms : MaskRows) (roots : List Root) (old mid new : RowWalk) → HasThinned ms roots old mid → HasThinned ms roots mid new → HasThinned ms roots old new
both_thinned ms roots old mid new f g first ps at =
    let a = f first ps at in
    let b = g a.0 a.1 a.2 in
    (b.0, b.1, b.2, thinned_through ps a.1 b.1 a.3 b.3, within_through b.0 a.0 first b.4 a.4)

pub skip_thinned : (ms : MaskRows) (roots : List Root) (old new : RowWalk) → IsSome old.follow.asked → ((first : List ℕ) (p : Pending) (rest : List Pending) → StandsAt ms first roots old (p ∷ rest) → StandsAt ms first roots new rest) → HasThinned ms roots old new
skip_thinned ms roots old new some step first ps at =
    let a = some_asked ms first roots old ps at some in
    (first, a.1, step first a.0 a.1 (subst (StandsAt ms first roots old) a.2 at), subst (λ (us : List Pending). AreThinned us a.1) (sym a.2) (inr (thinned_same a.1)), λ c h. h)

-- less is left
pub less_left : (c : Scene) (old mid new : RowWalk) (first : List ℕ) (ps : List Pending) → StandsAt c.masks first c.roots old ps → IsSome old.follow.asked → ((first : List ℕ) (p : Pending) (rest : List Pending) → StandsAt c.masks first c.roots old (p ∷ rest) → StandsAt c.masks first c.roots mid rest) → HasThinned c.masks c.roots mid new → row_walk_left c new < row_walk_left c old
less_left c old mid new first ps at some step thins =
    let a = some_asked c.masks first c.roots old ps at some in
    let m : StandsAt c.masks first c.roots mid a.1 = step first a.0 a.1 (subst (StandsAt c.masks first c.roots old) a.2 at) in
    let b = thins first a.1 m in
    let x : row_walk_left c old ≡ weight (most c) ps = remaining_is c first old ps at in
    let y : row_walk_left c new ≡ weight (most c) b.1 = remaining_is c b.0 new b.1 b.2 in
    let l : weight (most c) b.1 ≤ weight (most c) a.1 = weight_thinned (most c) a.1 b.1 b.3 in
    let e : weight (most c) ps ≡ weight_at (most c) (length a.0.path) + weight (most c) a.1 = ap (weight (most c)) a.2 in
    let p : 0 < weight_at (most c) (length a.0.path) = weighs (most c) (length a.0.path) in
    less (row_walk_left c old) (weight (most c) ps) (row_walk_left c new) (weight (most c) b.1) (weight (most c) a.1) (weight_at (most c) (length a.0.path)) x y l e p
  where
    less : (a b d e f g : ℕ) → a ≡ b → d ≡ e → e ≤ f → b ≡ g + f → 0 < g → d < a
    less a b d e f g x y l h p = omega (arith, x, y, l, h, p)
