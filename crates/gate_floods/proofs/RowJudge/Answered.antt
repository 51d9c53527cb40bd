-- A node that answers isn't refused, whatever nodes came before it.
use Rattle.std.proofs.Common.{◌≡◌, ℕ, ◌<◌, ◌≤◌, List, Bool, true, false, length, take, refl, sym, subst, arith}
use Rattle.std.specs.Prelude.{IfOk, Result, Ok, Err}
use Rattle.block_evidence.specs.declared.sight_tree.Node.{Node}
use Rattle.mesh_shape.specs.declared.half_edges.table.HalfEdge.{HalfEdge}
use Rattle.cert_checker.specs.declared.tree_judge.roots.Root.{Root}
use Rattle.cert_checker.specs.declared.tree_judge.trees.Frame.{Frame}
use Rattle.gate_floods.specs.RowJudge.Masks.{MaskRows}
use Rattle.gate_floods.specs.declared.row_judge.follow.Wait.{Wait}
use Rattle.gate_floods.specs.declared.row_judge.follow.RowFollow.{RowFollow}
use Rattle.gate_floods.specs.declared.row_judge.walk.RowWalk.{RowWalk}
use Rattle.gate_floods.specs.RowJudge.Asked.{Pending, AnswersFirstInRow}
use Rattle.gate_floods.specs.RowJudge.Path.{IsRowWalkAt, HasAnswered, HasRefused}
use Rattle.gate_floods.specs.RowJudge.Judged.{StandsAt}
use Rattle.gate_floods.proofs.RowJudge.Telling.{one_answer}
use Rattle.gate_floods.proofs.RowJudge.Walking.{at_same}

-- the walk with a path that is longer by a place
module _ (xs : List HalfEdge) (ms : MaskRows) (first : List ℕ) (roots : List Root) (w : RowWalk) (path : List Frame) (kept : w.follow.depth ≤ length w.path.items → (w.follow.depth < length path) × (take w.follow.depth path ≡ take w.follow.depth w.path.items)) (n : Node) where
  longer : (ps : List Pending) → StandsAt ms first roots w ps → IsRowWalkAt ms first roots path w.rows.items w.waits.items w.follow ps
  longer ps at = let k = kept at.depth_room in at_same ms first roots w.path.items path w.rows.items w.waits.items w.follow ps (let l : w.follow.depth < length path = k.0 in omega (arith, l)) k.1 at

  module _ (after : List Frame) (rows : List ℕ) (waits : List Wait) (f : RowFollow) where
    pub right : HasAnswered xs ms w.source first roots n path w.rows.items w.waits.items w.follow after rows waits f → (ps qs : List Pending) → StandsAt ms first roots w ps → AnswersFirstInRow xs ms w.source ps n qs → IsRowWalkAt ms first roots after rows waits f qs
    right answered ps qs at answer = go (answered.next ps (longer ps at))
      where
        go : (us : List Pending) × AnswersFirstInRow xs ms w.source ps n us × IsRowWalkAt ms first roots after rows waits f us → IsRowWalkAt ms first roots after rows waits f qs
        go (us, also, there) = subst (λ (os : List Pending). IsRowWalkAt ms first roots after rows waits f os) (one_answer xs ms w.source n ps us qs also answer) there

    pub if_right : {E : Type 0} (path_new : List Frame) (r : Result Bool E) → after ≡ path_new
        → IfOk r (λ yes. yes ≡ true → HasAnswered xs ms w.source first roots n path w.rows.items w.waits.items w.follow path_new rows waits f)
        → IfOk r (λ yes. yes ≡ false → w.follow.depth < length path → HasRefused xs ms w.source first roots n path w.rows.items w.waits.items w.follow)
        → (ps qs : List Pending) → StandsAt ms first roots w ps → AnswersFirstInRow xs ms w.source ps n qs → IfOk r (λ yes. (yes ≡ true) × IsRowWalkAt ms first roots after rows waits f qs)
    if_right path_new (Ok true) back h g ps qs at answer = (refl, right (subst (λ (fs : List Frame). HasAnswered xs ms w.source first roots n path w.rows.items w.waits.items w.follow fs rows waits f) (sym back) (h refl)) ps qs at answer)
    if_right path_new (Ok false) back h g ps qs at answer = absurd ((g refl (kept at.depth_room).0).none ps qs (longer ps at) answer)
    if_right path_new (Err e) back h g ps qs at answer = h
