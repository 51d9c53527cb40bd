-- A node that is answered by a step: it answers for the half-edge that the step is.
use Rattle.std.proofs.Common.{◌≡◌, ◌↔◌, ℕ, ◌+◌, ◌<◌, ◌≤◌, List, [], ◌∷◌, ◌++◌, Option, Some, true, false, IsTrue, length, take, refl, subst, arith}
use Rattle.std.specs.List.{slice_get}
use Rattle.std.proofs.lemmas.Option.{slice_get_within}
use Rattle.sight_names.specs.Splitting.{EndPoints}
use Rattle.block_evidence.specs.declared.Evidence.{Evidence}
use Rattle.block_evidence.specs.Stuck.{BlocksEnds}
use Rattle.block_evidence.specs.declared.sight_tree.Node.{Node}
use Rattle.block_evidence.specs.declared.sight_tree.Node.TheVariants.{Open, Blocked}
use Rattle.reject_bits.specs.Parts.{TableParts}
use Rattle.mesh_shape.specs.declared.half_edges.table.HalfEdge.{HalfEdge}
use Rattle.cert_checker.specs.declared.tree_judge.roots.Root.{Root}
use Rattle.cert_checker.specs.declared.tree_judge.steps.Step.{Step}
use Rattle.cert_checker.specs.declared.tree_judge.trees.Frame.{Frame}
use Rattle.cert_checker.specs.declared.tree_judge.trees.Wait.{Wait}
use Rattle.cert_checker.specs.declared.tree_judge.trees.Follow.{Follow}
use Rattle.cert_checker.specs.TreeJudge.Path.{path_ends, edge_ends, PutsAt, with_asked, TakesNext, EntersThrough}
use Rattle.cert_checker.specs.TreeJudge.Steps.{code_told, step_ends, AreSteps, IsStepOf, NotesCode}
use Rattle.cert_checker.specs.TreeJudge.Walked.{FollowsAt}
use Rattle.cert_checker.specs.TreeJudge.Whole.{HasAnswered, HasRefused}
use Rattle.cert_checker.proofs.TreeJudge.Following.{opened, blocked, refused_ends}
use Rattle.cert_checker.proofs.TreeJudge.Stepping.{step_at, told_is}
use Rattle.cert_checker.proofs.TreeJudge.Walking.{follows_next}

module _ (xs : List HalfEdge) (roots : List Root) (source : ℕ) (steps : List Step) (path middle : List Frame) (waits : List Wait) (at : Follow) (asked : ℕ) (s : Step) (are : AreSteps xs steps) (few : length steps ≤ 4294967296) (there : slice_get steps asked ≡ Some s) (put : PutsAt path at.depth (step_ends s) middle) where
  near : asked < 4294967296
  near = let l : asked < length steps = slice_get_within steps asked s there in omega (arith, l, few)

  found : (x : HalfEdge) × (slice_get xs asked ≡ Some x) × IsStepOf xs x s
  found = step_at xs steps asked s are (omega (arith, near)) there

  put_edge : PutsAt path at.depth (edge_ends found.0) middle
  put_edge = subst (λ (es : EndPoints). PutsAt path at.depth es middle) (let e : step_ends s ≡ edge_ends found.0 = λ i. record { left = found.2.left_at i; right = found.2.right_at i } in e) put

  -- an open node
  pub opened_by_step : (new : List Wait) (g : Follow) (next : ℕ) (t u : TableParts) → ((x : HalfEdge) → IsStepOf xs x s → EntersThrough xs roots source middle waits at x new g (code_told next)) → NotesCode source s.sector t u
      → HasAnswered xs roots source Open path waits (with_asked at (code_told asked)) t middle new (with_asked g (code_told next)) u
  opened_by_step new g next t u enters notes =
      let way = enters found.0 found.2 in
      opened xs roots source path waits (with_asked at (code_told asked)) middle new asked g (code_told next) found.0 t u (told_is asked near) found.1 put_edge (record { next = way.next; depth = way.depth }) (notes found.0.sector found.2.sector found.2.below)

  -- a blocked one
  pub blocked_by_step : (g : Follow) (next : ℕ) (e : Evidence) (t : TableParts) → BlocksEnds (path_ends (take (at.depth + 1) middle)) e → TakesNext roots middle waits at g (code_told next)
      → HasAnswered xs roots source (Blocked e) path waits (with_asked at (code_told asked)) t middle waits (with_asked g (code_told next)) t
  blocked_by_step g next e t blocks takes = blocked xs roots source path waits (with_asked at (code_told asked)) middle asked g (code_told next) found.0 e t (told_is asked near) found.1 put_edge blocks (record { next = takes.next; depth = takes.depth })

  -- one whose ends show nothing
  pub refused_by_step : (e : Evidence) → (IsTrue false ↔ BlocksEnds (path_ends (take (at.depth + 1) middle)) e) → HasRefused xs roots source (Blocked e) path waits (with_asked at (code_told asked))
  refused_by_step e fails = refused_ends xs roots source path waits (with_asked at (code_told asked)) middle asked found.0 e (told_is asked near) found.1 put_edge fails

-- ---- nodes one behind the other

module _ (xs : List HalfEdge) (roots : List Root) (firsts : List (Option ℕ)) (source : ℕ) (path : List Frame) (waits : List Wait) (f : Follow) (old : TableParts) (ns : List Node) (n : Node) (path_now : List Frame) (waits_now : List Wait) (f_now : Follow) (new : TableParts) (so_far : FollowsAt xs roots firsts source path waits f old path_now waits_now f_now new false ns) (room : f_now.depth < length path_now) (equal : length waits_now ≡ length path_now) where
  pub follows_answered : (path_new : List Frame) (waits_new : List Wait) (f_new : Follow) (more : TableParts) → f_new.depth ≤ length path_new → f_new.depth ≤ length waits_new → HasAnswered xs roots source n path_now waits_now f_now new path_new waits_new f_new more
      → FollowsAt xs roots firsts source path waits f old path_new waits_new f_new more false (ns ++ n ∷ [])
  follows_answered path_new waits_new f_new more within to_wait answered = follows_next xs roots firsts source path waits f old ns n path_now path_new waits_now waits_new f_now f_new new more false true refl so_far room equal (λ _. within) (λ _. to_wait) (λ _. answered) (λ e. absurd (cc))

  pub follows_refused : (path_new : List Frame) (waits_new : List Wait) (f_new : Follow) (more : TableParts) → HasRefused xs roots source n path_now waits_now f_now → FollowsAt xs roots firsts source path waits f old path_new waits_new f_new more true (ns ++ n ∷ [])
  follows_refused path_new waits_new f_new more refused = record { on = λ e. absurd (cc); some = told_wrong.some; refused = told_wrong.refused }
    where
      told_wrong : FollowsAt xs roots firsts source path waits f old path_now waits_now f_now new true (ns ++ n ∷ [])
      told_wrong = follows_next xs roots firsts source path waits f old ns n path_now path_now waits_now waits_now f_now f_now new new false false refl so_far room equal (λ h. h) (λ h. h) (λ e. absurd (cc)) (λ _ _ _. refused)
