-- What is told of a tree: that it keeps by rows, or its first wrong node.
use Rattle.std.proofs.Common.{◌≡◌, ◌≢◌, ℕ, zero, suc, ◌<◌, ◌≤◌, List, [], ◌∷◌, ◌++◌, Option, Some, None, length, take, refl, sym, ◌∙◌, ap, subst, arith}
use Rattle.std.specs.List.{slice_get}
use Rattle.std.specs.Prelude.{IfOk, Result, Ok, Err}
use Rattle.sight_names.specs.declared.names.Triangle.{Triangle}
use Rattle.sight_names.specs.Plan.{PlanParts}
use Rattle.sight_names.specs.Map.{map_of}
use Rattle.block_evidence.specs.declared.sight_tree.Node.{Node}
use Rattle.block_evidence.specs.declared.sight_tree.Node.TheVariants.{Open, Blocked}
use Rattle.block_evidence.specs.declared.sight_tree.Tree.{Tree}
use Rattle.mesh_shape.specs.declared.half_edges.table.HalfEdge.{HalfEdge}
use Rattle.mesh_shape.specs.HalfEdges.HalfEdges.{AreOfGoodMesh}
use Rattle.cert_checker.specs.declared.tree_judge.roots.Root.{Root}
use Rattle.cert_checker.specs.TreeJudge.Roots.{root_edges}
use Rattle.gate_floods.specs.RowJudge.Masks.{MaskRows}
use Rattle.gate_floods.specs.RowJudge.Asked.{Pending, pending_roots, ways_through, AnswersFirstInRow, AreAnswered, IsFirstWrongInRow}
use Rattle.gate_floods.specs.RowJudge.Judged.{TellsTree}
use Rattle.gate_floods.specs.RowJudge.Laws.{IsRowGround, TellsByRows}
use Rattle.gate_floods.proofs.RowJudge.Trees.{keeps, kept_answers}
use Rattle.math_base.proofs.Options.{one_value}

module _ (xs : List HalfEdge) (ms : MaskRows) (source : ℕ) where
  first_same : (p q : Pending) (ps qs us : List Pending) → us ≡ p ∷ ps → us ≡ q ∷ qs → p ≡ q
  first_same p q ps qs us e f = cc

  rest_same : (p q : Pending) (ps qs us : List Pending) → us ≡ p ∷ ps → us ≡ q ∷ qs → ps ≡ qs
  rest_same p q ps qs us e f = cc

  -- what is asked behind a node is one
  pub one_answer : (n : Node) (ps qs us : List Pending) → AnswersFirstInRow xs ms source ps n qs → AnswersFirstInRow xs ms source ps n us → qs ≡ us
  one_answer Open ps qs us (p, rest, x, first, is, away, e) (q, more, y, also, this, away_too, g) = e ∙ (λ i. ways_through xs ms source (same i) (found i) ++ rest_same p q rest more ps first also i) ∙ sym g
    where
      same : p ≡ q
      same = first_same p q rest more ps first also

      found : x ≡ y
      found = one_value (slice_get xs p.edge) x y is (ap (λ (r : Pending). slice_get xs r.edge) same ∙ this)
  one_answer (Blocked d) ps qs us (p, rest, x, first, is, blocks, e) (q, more, y, also, this, stuck, g) = e ∙ rest_same p q rest more ps first also ∙ sym g

  refuted : (ns : List Node) (k : ℕ) (ps left : List Pending) → k ≤ length ns → AreAnswered xs ms source ps (take k ns) left → AreAnswered xs ms source ps ns [] → ((n : Node) → slice_get ns k ≡ Some n → (qs : List Pending) → ¬ AnswersFirstInRow xs ms source left n qs) → (k ≡ length ns → left ≢ []) → ⊥
  refuted [] zero ps left l before whole wrong missing = missing refl (before ∙ sym whole)
  refuted [] (suc k) ps left l before whole wrong missing = omega (arith, l)
  refuted (n ∷ ns) zero ps left l before (rs, answer, behind) wrong missing = wrong n refl rs (subst (λ (us : List Pending). AnswersFirstInRow xs ms source us n rs) (sym before) answer)
  refuted (n ∷ ns) (suc k) ps left l (us, first, before) (rs, answer, behind) wrong missing = refuted ns k us left (omega (arith, l)) before (subst (λ (qs : List Pending). AreAnswered xs ms source qs ns []) (one_answer n ps rs us answer first) behind) wrong (λ h. missing (ap suc h))

  not_whole : (ps : List Pending) (ns : List Node) (k : ℕ) → IsFirstWrongInRow xs ms source ps ns k → AreAnswered xs ms source ps ns [] → ⊥
  not_whole ps ns k w all = refuted ns k ps w.left w.within w.before all w.wrong w.missing

module _ (p : PlanParts) (ts : List Triangle) (ls : List (Option ℕ)) (xs : List HalfEdge) (roots : List Root) (firsts : List (Option ℕ)) (ms : MaskRows) (Claims : ℕ → ℕ → Type 0) (Keeps : ℕ → Type 0) (row : List ℕ) (g : IsRowGround p ts ls xs roots firsts ms Claims Keeps row) where
  abbrev mesh : AreOfGoodMesh p ts xs
  mesh = record { labels = ls; plan = g.plan; good = g.good; edges = g.edges }

  pub tells_by_rows : (t : Tree) → t.source < p.sectors → (o : Option ℕ) → TellsTree xs ms row roots firsts t o → TellsByRows (map_of p) ts ls xs ms Claims Keeps row t o
  tells_by_rows t low None whole = keeps p ts xs mesh g.named ms Claims Keeps g.masks t.source row g.kept t.nodes (whole.whole (root_edges ts xs (map_of p) t.source) (g.roots_are.chains t.source low))
  tells_by_rows t low (Some k) wrong =
      let node : IsFirstWrongInRow xs ms t.source (pending_roots ms row (root_edges ts xs (map_of p) t.source)) t.nodes k = wrong.wrong (root_edges ts xs (map_of p) t.source) (g.roots_are.chains t.source low) in
      record {
        not_kept = λ h. not_whole xs ms t.source (pending_roots ms row (root_edges ts xs (map_of p) t.source)) t.nodes k node (kept_answers p ts xs mesh g.named ms Claims Keeps g.masks t.source row g.kept t.nodes h);
        node = node;
      }

pub all_ok : {A E : Type 0} (P Q : A → Type 0) (r : Result A E) → IfOk r P → ((x : A) → P x → Q x) → IfOk r Q
all_ok P Q (Ok x) h f = f x h
all_ok P Q (Err e) h f = h
