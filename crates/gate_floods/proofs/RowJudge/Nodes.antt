-- A walk with a row that is asked for nodes one behind the other: what it says of all of them.
use Rattle.std.proofs.Common.{◌≡◌, ℕ, ◌+◌, ◌-◌, ◌<◌, List, [], ◌∷◌, ◌++◌, Option, length, Bool, true, false, not, IsTrue, refl, sym, ◌∙◌, ap, subst, arith}
use Rattle.std.proofs.lemmas.List.{append-nil, length-append, length_push}
use Rattle.std.proofs.Math.Seq.{take-append_seam}
use Rattle.block_evidence.specs.declared.sight_tree.Node.{Node}
use Rattle.block_evidence.specs.declared.sight_tree.Tree.{Tree}
use Rattle.mesh_shape.specs.declared.half_edges.table.HalfEdge.{HalfEdge}
use Rattle.cert_checker.specs.declared.tree_judge.roots.Root.{Root}
use Rattle.cert_checker.specs.declared.tree_judge.trees.Frame.{Frame}
use Rattle.cert_checker.specs.TreeJudge.Walked.{with_node, with_nodes}
use Rattle.cert_checker.proofs.TreeJudge.Walking.{with_more}
use Rattle.gate_floods.specs.RowJudge.Masks.{MaskRows}
use Rattle.gate_floods.specs.declared.row_judge.follow.Wait.{Wait}
use Rattle.gate_floods.specs.declared.row_judge.follow.RowFollow.{RowFollow}
use Rattle.gate_floods.specs.RowJudge.Asked.{Pending, pending_roots, AnswersFirstInRow, AreAnswered, IsFirstWrongInRow}
use Rattle.gate_floods.specs.RowJudge.Path.{IsRowWalkAt, HasAnswered, HasRefused}
use Rattle.gate_floods.specs.RowJudge.Judged.{IsWalkedAt, IsFirstWrongFrom, FollowsAt}
use Rattle.gate_floods.proofs.RowJudge.Walking.{answered_more, node_behind, one_node}

with_none : (t : Tree) → with_nodes [] t ≡ t
with_none t = ap (λ (ns : List Node). let u : Tree = record { source = t.source; nodes = ns } in u) (append-nil t.nodes)

-- ---- one node

module _ (xs : List HalfEdge) (ms : MaskRows) (first : List ℕ) (roots : List Root) (firsts : List (Option ℕ)) (t : Tree) (source : ℕ) (path : List Frame) (rows : List ℕ) (waits : List Wait) (f : RowFollow) (walked : IsWalkedAt xs ms first roots firsts t source path rows waits f) (n : Node) where
  abbrev Before : List ℕ → Type 0
  Before es = (ps : List Pending) × AreAnswered xs ms t.source (pending_roots ms first es) t.nodes ps × IsRowWalkAt ms first roots path rows waits f ps

  -- it answers
  pub goes_on : (path_new : List Frame) (rows_new : List ℕ) (waits_new : List Wait) (f_new : RowFollow) → HasAnswered xs ms source first roots n path rows waits f path_new rows_new waits_new f_new → IsWalkedAt xs ms first roots firsts (with_node n t) source path_new rows_new waits_new f_new
  goes_on path_new rows_new waits_new f_new answered = record { source_is = walked.source_is; each = λ es c. go es (walked.each es c) }
    where
      of : HasAnswered xs ms t.source first roots n path rows waits f path_new rows_new waits_new f_new
      of = subst (λ (s : ℕ). HasAnswered xs ms s first roots n path rows waits f path_new rows_new waits_new f_new) walked.source_is answered

      go : (es : List ℕ) → Before es → (ps : List Pending) × AreAnswered xs ms t.source (pending_roots ms first es) (t.nodes ++ n ∷ []) ps × IsRowWalkAt ms first roots path_new rows_new waits_new f_new ps
      go es (ps, before, at) = on (of.next ps at)
        where
          on : (qs : List Pending) × AnswersFirstInRow xs ms t.source ps n qs × IsRowWalkAt ms first roots path_new rows_new waits_new f_new qs
              → (ps : List Pending) × AreAnswered xs ms t.source (pending_roots ms first es) (t.nodes ++ n ∷ []) ps × IsRowWalkAt ms first roots path_new rows_new waits_new f_new ps
          on (qs, answer, behind) = (qs, answered_more xs ms t.source t.nodes n (pending_roots ms first es) ps qs before answer, behind)

  -- it doesn't
  pub refuses : HasRefused xs ms source first roots n path rows waits f → IsFirstWrongFrom xs ms first roots firsts (with_node n t) (length t.nodes)
  refuses refused = record { wrong = λ es c. go es (walked.each es c) }
    where
      of : HasRefused xs ms t.source first roots n path rows waits f
      of = subst (λ (s : ℕ). HasRefused xs ms s first roots n path rows waits f) walked.source_is refused

      go : (es : List ℕ) → Before es → IsFirstWrongInRow xs ms t.source (pending_roots ms first es) (t.nodes ++ n ∷ []) (length t.nodes)
      go es (ps, before, at) = record {
        left = ps;
        within = let l : length (t.nodes ++ n ∷ []) ≡ length t.nodes + 1 = length-append t.nodes (n ∷ []) in omega (arith, l);
        before = subst (λ (ns : List Node). AreAnswered xs ms t.source (pending_roots ms first es) ns ps) (sym (take-append_seam t.nodes (n ∷ []))) before;
        wrong = λ k e qs answer. of.none ps qs at (subst (λ (j : Node). AnswersFirstInRow xs ms t.source ps j qs) (sym (one_node n k (sym (node_behind t.nodes n) ∙ e))) answer);
        missing = λ e. absurd (let l : length (t.nodes ++ n ∷ []) ≡ length t.nodes + 1 = length-append t.nodes (n ∷ []) in omega (arith, l, e));
      }

-- ---- more of them

module _ (xs : List HalfEdge) (ms : MaskRows) (roots : List Root) (firsts : List (Option ℕ)) (source : ℕ) (path : List Frame) (rows : List ℕ) (waits : List Wait) (f : RowFollow) where
  -- before the first of them
  pub follows_none : FollowsAt xs ms roots firsts source path rows waits f path rows waits f false []
  follows_none = record { on = λ _ first t w. subst (λ (u : Tree). IsWalkedAt xs ms first roots firsts u source path rows waits f) (sym (with_none t)) w; some = λ e. absurd (cc); refused = λ e. absurd (cc) }

  module _ (ns : List Node) (n : Node) (path_now : List Frame) (rows_now : List ℕ) (waits_now : List Wait) (f_now : RowFollow) (so_far : FollowsAt xs ms roots firsts source path rows waits f path_now rows_now waits_now f_now false ns) where
    abbrev Answered : List Frame → List ℕ → List Wait → RowFollow → Type 0
    Answered path_new rows_new waits_new f_new = (first : List ℕ) → HasAnswered xs ms source first roots n path_now rows_now waits_now f_now path_new rows_new waits_new f_new

    abbrev Refused : Type 0
    Refused = (first : List ℕ) → HasRefused xs ms source first roots n path_now rows_now waits_now f_now

    -- the next one answers
    pub follows_more : (path_new : List Frame) (rows_new : List ℕ) (waits_new : List Wait) (f_new : RowFollow) → Answered path_new rows_new waits_new f_new → FollowsAt xs ms roots firsts source path rows waits f path_new rows_new waits_new f_new false (ns ++ n ∷ [])
    follows_more path_new rows_new waits_new f_new answered = record {
      on = λ _ first t w. subst (λ (u : Tree). IsWalkedAt xs ms first roots firsts u source path_new rows_new waits_new f_new) (with_more t ns n)
          (goes_on xs ms first roots firsts (with_nodes ns t) source path_now rows_now waits_now f_now (so_far.on refl first t w) n path_new rows_new waits_new f_new (answered first));
      some = λ e. absurd (cc);
      refused = λ e. absurd (cc);
    }

    -- or it doesn't
    pub follows_wrong : (path_new : List Frame) (rows_new : List ℕ) (waits_new : List Wait) (f_new : RowFollow) → Refused → FollowsAt xs ms roots firsts source path rows waits f path_new rows_new waits_new f_new true (ns ++ n ∷ [])
    follows_wrong path_new rows_new waits_new f_new refused = record {
      on = λ e. absurd (cc);
      some = λ _. let h : length (ns ++ n ∷ []) ≡ length ns + 1 = length_push ns n in omega (arith, h);
      refused = λ _ first t w.
          let h : length (ns ++ n ∷ []) ≡ length ns + 1 = length_push ns n in
          let k : length (t.nodes ++ ns) ≡ length t.nodes + length ns = length-append t.nodes ns in
          let at : length (t.nodes ++ ns) ≡ length t.nodes + length (ns ++ n ∷ []) - 1 = omega (arith, h, k) in
          subst (IsFirstWrongFrom xs ms first roots firsts (with_nodes (ns ++ n ∷ []) t)) at (subst (λ (u : Tree). IsFirstWrongFrom xs ms first roots firsts u (length (t.nodes ++ ns))) (with_more t ns n)
          (refuses xs ms first roots firsts (with_nodes ns t) source path_now rows_now waits_now f_now (so_far.on refl first t w) n (refused first)));
    }

    -- the same of one of the steps that a node may take
    pub follows_step : (path_new path_last : List Frame) (rows_new rows_last : List ℕ) (waits_new waits_last : List Wait) (f_new f_last : RowFollow) (result answers told : Bool)
        → path_last ≡ path_new → rows_last ≡ rows_new → waits_last ≡ waits_new → f_last ≡ f_new → answers ≡ result → answers ≡ told → f_now.depth < length path_now
        → ((first : List ℕ) → result ≡ true → HasAnswered xs ms source first roots n path_now rows_now waits_now f_now path_new rows_new waits_new f_new)
        → ((first : List ℕ) → result ≡ false → f_now.depth < length path_now → HasRefused xs ms source first roots n path_now rows_now waits_now f_now) → FollowsAt xs ms roots firsts source path rows waits f path_last rows_last waits_last f_last (not told) (ns ++ n ∷ [])
    follows_step path_new path_last rows_new rows_last waits_new waits_last f_new f_last result answers told e g h k is here room answered refused = moved (by told (sym is ∙ here))
      where
        Last : List Frame → List ℕ → List Wait → RowFollow → Type 0
        Last fs us ws d = FollowsAt xs ms roots firsts source path rows waits f fs us ws d (not told) (ns ++ n ∷ [])

        moved : Last path_new rows_new waits_new f_new → Last path_last rows_last waits_last f_last
        moved w = subst (λ (d : RowFollow). Last path_last rows_last waits_last d) (sym k) (subst (λ (ws : List Wait). Last path_last rows_last ws f_new) (sym h)
            (subst (λ (us : List ℕ). Last path_last us waits_new f_new) (sym g) (subst (λ (fs : List Frame). Last fs rows_new waits_new f_new) (sym e) w)))

        by : (b : Bool) → result ≡ b → FollowsAt xs ms roots firsts source path rows waits f path_new rows_new waits_new f_new (not b) (ns ++ n ∷ [])
        by true told_so = follows_more path_new rows_new waits_new f_new (λ first. answered first told_so)
        by false told_so = follows_wrong path_new rows_new waits_new f_new (λ first. refused first told_so room)

-- a step over rows that are lent as words
module _ (xs : List HalfEdge) (ms : MaskRows) (source : ℕ) (roots : List Root) (n : Node) (path : List Frame) (slice rows : List ℕ) (waits : List Wait) (f : RowFollow) (result : Bool) (same : slice ≡ rows) where
  pub answered_over : (path_new : List Frame) (waits_new : List Wait) (f_new : RowFollow) → ((from : ℕ) (first : List ℕ) → IsTrue result → HasAnswered xs ms from first roots n path slice waits f path_new slice waits_new f_new)
      → (first : List ℕ) → result ≡ true → HasAnswered xs ms source first roots n path rows waits f path_new rows waits_new f_new
  answered_over path_new waits_new f_new h first e = subst (λ (us : List ℕ). HasAnswered xs ms source first roots n path us waits f path_new us waits_new f_new) same (h source first e)

  pub refused_over : ((from : ℕ) (first : List ℕ) → result ≡ false → f.depth < length path → HasRefused xs ms from first roots n path slice waits f) → (first : List ℕ) → result ≡ false → f.depth < length path → HasRefused xs ms source first roots n path rows waits f
  refused_over h first e room = subst (λ (us : List ℕ). HasRefused xs ms source first roots n path us waits f) same (h source first e room)

-- a path that is equal
pub same_path : (xs : List HalfEdge) (ms : MaskRows) (roots : List Root) (firsts : List (Option ℕ)) (source : ℕ) (path other : List Frame) (rows : List ℕ) (waits : List Wait) (f : RowFollow) (path_new other_new : List Frame) (rows_new : List ℕ) (waits_new : List Wait) (f_new : RowFollow) (wrong : Bool) (ns : List Node)
    → path ≡ other → other_new ≡ path_new → FollowsAt xs ms roots firsts source path rows waits f path_new rows_new waits_new f_new wrong ns → FollowsAt xs ms roots firsts source other rows waits f other_new rows_new waits_new f_new wrong ns
same_path xs ms roots firsts source path other rows waits f path_new other_new rows_new waits_new f_new wrong ns e g w = subst (λ (fs : List Frame). FollowsAt xs ms roots firsts source other rows waits f fs rows_new waits_new f_new wrong ns) (sym g)
    (subst (λ (fs : List Frame). FollowsAt xs ms roots firsts source fs rows waits f path_new rows_new waits_new f_new wrong ns) e w)
