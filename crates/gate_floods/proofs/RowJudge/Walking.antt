-- A walk with a row whose nodes come one by one.
use Rattle.std.proofs.Common.{◌≡◌, ℕ, ◌+◌, ◌<◌, ◌≤◌, List, [], ◌∷◌, ◌++◌, Option, Some, length, take, Bool, true, false, refl, sym, ◌∙◌, ap, subst, arith}
use Rattle.std.specs.List.{slice_get}
use Rattle.std.specs.Prelude.{IfOk, Result, Ok, Err}
use Rattle.std.proofs.lemmas.List.{append-nil, length-append}
use Rattle.std.proofs.Math.Seq.{take-append_seam}
use Rattle.block_evidence.specs.declared.sight_tree.Node.{Node}
use Rattle.block_evidence.specs.declared.sight_tree.Tree.{Tree}
use Rattle.mesh_shape.specs.declared.half_edges.table.HalfEdge.{HalfEdge}
use Rattle.cert_checker.specs.declared.tree_judge.roots.Root.{Root}
use Rattle.cert_checker.specs.declared.tree_judge.trees.Frame.{Frame}
use Rattle.cert_checker.specs.TreeJudge.Roots.{first_at}
use Rattle.cert_checker.specs.TreeJudge.Path.{path_ends, IsRootChain}
use Rattle.cert_checker.specs.TreeJudge.Walked.{begun, with_node}
use Rattle.gate_floods.specs.RowJudge.Masks.{MaskRows}
use Rattle.gate_floods.specs.declared.row_judge.follow.Wait.{Wait}
use Rattle.gate_floods.specs.declared.row_judge.follow.RowFollow.{RowFollow}
use Rattle.gate_floods.specs.declared.row_judge.walk.RowWalk.{RowWalk}
use Rattle.gate_floods.specs.RowJudge.Words.{row_in_words}
use Rattle.gate_floods.specs.RowJudge.Asked.{Pending, pending_way, pending_roots, AnswersFirstInRow, AreAnswered, IsFirstWrongInRow}
use Rattle.gate_floods.specs.RowJudge.Path.{IsRowWalkAt, HasAnswered, HasRefused, StandsBefore}
use Rattle.gate_floods.specs.RowJudge.Judged.{IsTreeWalkedInRow, IsFirstWrongFrom}
use Rattle.gate_floods.proofs.RowJudge.Waiting.{waiting_same}

-- one more node answers
pub answered_more : (xs : List HalfEdge) (ms : MaskRows) (source : ℕ) (ns : List Node) (n : Node) (ps qs rs : List Pending) → AreAnswered xs ms source ps ns qs → AnswersFirstInRow xs ms source qs n rs → AreAnswered xs ms source ps (ns ++ n ∷ []) rs
answered_more xs ms source [] n ps qs rs e answer = (rs, subst (λ (os : List Pending). AnswersFirstInRow xs ms source os n rs) e answer, refl)
answered_more xs ms source (k ∷ ns) n ps qs rs (os, first, rest) answer = (os, first, answered_more xs ms source ns n os qs rs rest answer)

-- what is still to be asked depends on the open portals of the path alone
pub at_same : (ms : MaskRows) (first : List ℕ) (roots : List Root) (path other : List Frame) (rows : List ℕ) (waits : List Wait) (f : RowFollow) (ps : List Pending) → f.depth ≤ length other → take f.depth other ≡ take f.depth path → IsRowWalkAt ms first roots path rows waits f ps → IsRowWalkAt ms first roots other rows waits f ps
at_same ms first roots path other rows waits f ps l e a = record {
  es = a.es;
  ways = a.ways;
  chain = a.chain;
  base = a.base;
  waiting = waiting_same path other rows rows ms.width waits f.depth f.row a.ways e refl a.waiting;
  depth_room = l;
  row_room = a.row_room;
  all = subst (λ (fs : List Frame). ps ≡ pending_way (path_ends fs) (row_in_words rows ms.width f.row) f.asked ++ (a.ways ++ pending_roots ms first a.es)) (sym e) a.all;
  last = a.last;
}

pub node_behind : (done : List Node) (n : Node) → slice_get (done ++ n ∷ []) (length done) ≡ Some n
node_behind [] n = refl
node_behind (k ∷ done) n = node_behind done n

pub one_node : (n k : Node) → ◌≡◌ {A = Option Node} (Some n) (Some k) → n ≡ k
one_node n k h = cc

module _ (xs : List HalfEdge) (ms : MaskRows) (first : List ℕ) (roots : List Root) (firsts : List (Option ℕ)) where
  -- before the first node
  pub walk_begun : (w : RowWalk) (source : ℕ) → w.source ≡ source → row_in_words w.rows.items ms.width 0 ≡ first → ms.width ≤ length w.rows.items → StandsBefore ms first roots (first_at firsts source) w.path.items w.rows.items w.waits.items w.follow → IsTreeWalkedInRow xs ms first roots firsts (begun source) w
  walk_begun w source is base room stands = record {
    source_is = is;
    each = λ es c. (pending_roots ms first es, refl, stands.start es c base room);
  }

  -- the walk with a path that is longer by a place
  module _ (t : Tree) (w : RowWalk) (walked : IsTreeWalkedInRow xs ms first roots firsts t w) (path : List Frame) (kept : w.follow.depth ≤ length w.path.items → (w.follow.depth < length path) × (take w.follow.depth path ≡ take w.follow.depth w.path.items)) where
    record StandsThere (es : List ℕ) : Type 0 where
      room : w.follow.depth < length path
      ps : List Pending
      before : AreAnswered xs ms t.source (pending_roots ms first es) t.nodes ps
      at : IsRowWalkAt ms first roots path w.rows.items w.waits.items w.follow ps

    there : (es : List ℕ) → IsRootChain roots (first_at firsts t.source) es → StandsThere es
    there es c = go (walked.each es c)
      where
        go : (ps : List Pending) × AreAnswered xs ms t.source (pending_roots ms first es) t.nodes ps × IsRowWalkAt ms first roots w.path.items w.rows.items w.waits.items w.follow ps → StandsThere es
        go (ps, answered, at) = let k = kept at.depth_room in record { room = k.0; ps = ps; before = answered; at = at_same ms first roots w.path.items path w.rows.items w.waits.items w.follow ps (let l : w.follow.depth < length path = k.0 in omega (arith, l)) k.1 at }

    pub walk_answered : (n : Node) (v : RowWalk) → v.source ≡ w.source → HasAnswered xs ms w.source first roots n path w.rows.items w.waits.items w.follow v.path.items v.rows.items v.waits.items v.follow → IsTreeWalkedInRow xs ms first roots firsts (with_node n t) v
    walk_answered n v same answered = record {
      source_is = same ∙ walked.source_is;
      each = λ es c. go es (there es c);
    }
      where
        of : HasAnswered xs ms t.source first roots n path w.rows.items w.waits.items w.follow v.path.items v.rows.items v.waits.items v.follow
        of = subst (λ (s : ℕ). HasAnswered xs ms s first roots n path w.rows.items w.waits.items w.follow v.path.items v.rows.items v.waits.items v.follow) walked.source_is answered

        go : (es : List ℕ) → StandsThere es → (ps : List Pending) × AreAnswered xs ms t.source (pending_roots ms first es) (t.nodes ++ n ∷ []) ps × IsRowWalkAt ms first roots v.path.items v.rows.items v.waits.items v.follow ps
        go es s = on (of.next s.ps s.at)
          where
            on : (qs : List Pending) × AnswersFirstInRow xs ms t.source s.ps n qs × IsRowWalkAt ms first roots v.path.items v.rows.items v.waits.items v.follow qs
                → (ps : List Pending) × AreAnswered xs ms t.source (pending_roots ms first es) (t.nodes ++ n ∷ []) ps × IsRowWalkAt ms first roots v.path.items v.rows.items v.waits.items v.follow ps
            on (qs, answer, behind) = (qs, answered_more xs ms t.source t.nodes n (pending_roots ms first es) s.ps qs s.before answer, behind)

    pub walk_refused : (n : Node) → (w.follow.depth < length path → HasRefused xs ms w.source first roots n path w.rows.items w.waits.items w.follow) → IsFirstWrongFrom xs ms first roots firsts (with_node n t) (length t.nodes)
    walk_refused n refused = record { wrong = λ es c. let h = there es c in go es (subst (λ (s : ℕ). HasRefused xs ms s first roots n path w.rows.items w.waits.items w.follow) walked.source_is (refused h.room)) h }
      where
        go : (es : List ℕ) → HasRefused xs ms t.source first roots n path w.rows.items w.waits.items w.follow → StandsThere es → IsFirstWrongInRow xs ms t.source (pending_roots ms first es) (t.nodes ++ n ∷ []) (length t.nodes)
        go es r s = record {
          left = s.ps;
          within = let l : length (t.nodes ++ n ∷ []) ≡ length t.nodes + 1 = length-append t.nodes (n ∷ []) in omega (arith, l);
          before = subst (λ (ns : List Node). AreAnswered xs ms t.source (pending_roots ms first es) ns s.ps) (sym (take-append_seam t.nodes (n ∷ []))) s.before;
          wrong = λ k e qs answer. r.none s.ps qs s.at (subst (λ (j : Node). AnswersFirstInRow xs ms t.source s.ps j qs) (sym (one_node n k (sym (node_behind t.nodes n) ∙ e))) answer);
          missing = λ e. absurd (let l : length (t.nodes ++ n ∷ []) ≡ length t.nodes + 1 = length-append t.nodes (n ∷ []) in omega (arith, l, e));
        }

    -- the same of what a call gives
    pub if_answered : {E : Type 0} (n : Node) (v : RowWalk) (path_new : List Frame) (r : Result Bool E) → v.source ≡ w.source → v.path.items ≡ path_new
        → IfOk r (λ yes. yes ≡ true → HasAnswered xs ms w.source first roots n path w.rows.items w.waits.items w.follow path_new v.rows.items v.waits.items v.follow) → IfOk r (λ yes. yes ≡ true → IsTreeWalkedInRow xs ms first roots firsts (with_node n t) v)
    if_answered n v path_new (Ok b) same back h = λ right. walk_answered n v same (subst (λ (fs : List Frame). HasAnswered xs ms w.source first roots n path w.rows.items w.waits.items w.follow fs v.rows.items v.waits.items v.follow) (sym back) (h right))
    if_answered n v path_new (Err e) same back h = h

    pub if_refused : {E : Type 0} (n : Node) (r : Result Bool E) → IfOk r (λ yes. yes ≡ false → w.follow.depth < length path → HasRefused xs ms w.source first roots n path w.rows.items w.waits.items w.follow) → IfOk r (λ yes. yes ≡ false → IsFirstWrongFrom xs ms first roots firsts (with_node n t) (length t.nodes))
    if_refused n (Ok b) h = λ wrong. walk_refused n (h wrong)
    if_refused n (Err e) h = h

-- ---- a tree whose first nodes have come

node_there : (done rest : List Node) (n : Node) → slice_get (done ++ n ∷ rest) (length done) ≡ Some n
node_there [] rest n = refl
node_there (k ∷ done) rest n = node_there done rest n

longer : (done rest : List Node) (n : Node) → length (done ++ n ∷ rest) ≡ length done + length rest + 1
longer done rest n = let l : length (done ++ n ∷ rest) ≡ length done + length (n ∷ rest) = length-append done (n ∷ rest) in omega (arith, l)

module _ (xs : List HalfEdge) (ms : MaskRows) (first : List ℕ) (roots : List Root) (firsts : List (Option ℕ)) (t : Tree) where
  wrong_longer : (ps : List Pending) (done rest : List Node) (n : Node) → IsFirstWrongInRow xs ms t.source ps (done ++ n ∷ []) (length done) → IsFirstWrongInRow xs ms t.source ps (done ++ n ∷ rest) (length done)
  wrong_longer ps done rest n f = record {
    left = f.left;
    within = let l : length (done ++ n ∷ rest) ≡ length done + length rest + 1 = longer done rest n in omega (arith, l);
    before = subst (λ (ns : List Node). AreAnswered xs ms t.source ps ns f.left) (take-append_seam done (n ∷ []) ∙ sym (take-append_seam done (n ∷ rest))) f.before;
    wrong = λ k e. f.wrong k (node_there done [] n ∙ sym (node_there done rest n) ∙ e);
    missing = λ e. absurd (let l : length (done ++ n ∷ rest) ≡ length done + length rest + 1 = longer done rest n in omega (arith, l, e));
  }

  -- the next node is the first wrong one of the tree
  pub wrong_of : (done rest : List Node) (n : Node) (number : ℕ) → t.nodes ≡ done ++ n ∷ rest → length done ≡ number → IsFirstWrongFrom xs ms first roots firsts (with_node n (record { source = t.source; nodes = done })) (length done) → IsFirstWrongFrom xs ms first roots firsts t number
  wrong_of done rest n number split told f = record {
    wrong = λ es c. subst (λ (k : ℕ). IsFirstWrongInRow xs ms t.source (pending_roots ms first es) t.nodes k) told (subst (λ (ns : List Node). IsFirstWrongInRow xs ms t.source (pending_roots ms first es) ns (length done)) (sym split) (wrong_longer (pending_roots ms first es) done rest n (f.wrong es c)));
  }

  -- all nodes have come
  all_come : (done rest : List Node) → t.nodes ≡ done ++ rest → rest ≡ [] → done ≡ t.nodes
  all_come done rest split none = sym (split ∙ ap (λ (ns : List Node). done ++ ns) none ∙ append-nil done)

  pub missing_of : (done rest : List Node) → t.nodes ≡ done ++ rest → rest ≡ [] → IsFirstWrongFrom xs ms first roots firsts (record { source = t.source; nodes = done }) (length done) → IsFirstWrongFrom xs ms first roots firsts t (length t.nodes)
  missing_of done rest split none f = record { wrong = λ es c. subst (λ (ns : List Node). IsFirstWrongInRow xs ms t.source (pending_roots ms first es) ns (length ns)) (all_come done rest split none) (f.wrong es c) }
