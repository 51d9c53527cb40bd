-- A walk whose nodes come one by one: what it says of the nodes so far, and of the next one.
use Rattle.std.proofs.Common.{◌≡◌, ℕ, ◌+◌, ◌-◌, ◌<◌, ◌≤◌, List, [], ◌∷◌, ◌++◌, Option, length, map, take, Bool, true, false, not, IsTrue, refl, sym, ◌∙◌, ap, subst, arith}
use Rattle.std.proofs.lemmas.List.{append-nil, append_assoc, length-append, length_push}
use Rattle.block_evidence.specs.declared.sight_tree.Node.{Node}
use Rattle.block_evidence.specs.declared.sight_tree.Tree.{Tree}
use Rattle.reject_bits.specs.Parts.{TableParts}
use Rattle.mesh_shape.specs.declared.half_edges.table.HalfEdge.{HalfEdge}
use Rattle.cert_checker.specs.declared.tree_judge.roots.Root.{Root}
use Rattle.cert_checker.specs.declared.tree_judge.trees.Frame.{Frame}
use Rattle.cert_checker.specs.declared.tree_judge.trees.Wait.{Wait}
use Rattle.cert_checker.specs.declared.tree_judge.trees.Follow.{Follow}
use Rattle.cert_checker.specs.TreeJudge.Roots.{first_at}
use Rattle.cert_checker.specs.TreeJudge.Path.{Pending, root_pending, IsWalkAt}
use Rattle.cert_checker.specs.TreeJudge.Whole.{AreAnswered, Notes, HasAnswered, HasRefused, IsFirstWrongFrom}
use Rattle.cert_checker.specs.TreeJudge.Walked.{with_node, with_nodes, IsWalkedAt, FollowsAt}
use Rattle.cert_checker.proofs.TreeJudge.Ways.{at_same}
use Rattle.cert_checker.proofs.TreeJudge.Answering.{IsFollowed, follows_more, wrong_node}

module _ (xs : List HalfEdge) (roots : List Root) (firsts : List (Option ℕ)) (t : Tree) (old : TableParts) where
  abbrev first : Option ℕ
  first = first_at firsts t.source

  before_node : (n : Node) (new : TableParts) (source : ℕ) (path other : List Frame) (waits others : List Wait) (f : Follow) → take f.depth other ≡ take f.depth path → take f.depth others ≡ take f.depth waits → IsWalkedAt xs roots firsts t old new source path waits f
      → IsFollowed xs roots first t.source (t.nodes ++ n ∷ []) (n ∷ []) (length t.nodes) other others f old new
  before_node n new source path other waits others f e i w = record { done = t.nodes; split = refl; count = refl; depth = w.depth; each = λ es c. go es (w.each es c) }
    where
      go : (es : List ℕ) → (ps : List Pending) × (sectors : List ℕ) × AreAnswered xs t.source (map root_pending es) t.nodes ps sectors × IsWalkAt roots path waits f ps × Notes t.source sectors old new
          → (ps : List Pending) × (sectors : List ℕ) × AreAnswered xs t.source (map root_pending es) t.nodes ps sectors × IsWalkAt roots other others f ps × Notes t.source sectors old new
      go es (ps, sectors, answered, at, notes) = (ps, sectors, answered, at_same roots path other waits others f ps e i at, notes)

  -- the next node answers
  pub walk_goes_on : (n : Node) (new more : TableParts) (source : ℕ) (path other path_new : List Frame) (waits others waits_new : List Wait) (f f_new : Follow) → IsWalkedAt xs roots firsts t old new source path waits f
      → (f.depth ≤ length path → take f.depth other ≡ take f.depth path) → (f.depth ≤ length waits → take f.depth others ≡ take f.depth waits)
      → (f.depth ≤ length path → f_new.depth ≤ length path_new) → (f.depth ≤ length waits → f_new.depth ≤ length waits_new)
      → (source ≡ t.source → HasAnswered xs roots t.source n other others f new path_new waits_new f_new more) → IsWalkedAt xs roots firsts (with_node n t) old more source path_new waits_new f_new
  walk_goes_on n new more source path other path_new waits others waits_new f f_new w kept kept_waits room to_wait answered = record {
    source_is = w.source_is;
    room = room w.room;
    room_to_wait = to_wait w.room_to_wait;
    depth = λ es c. let h : length (t.nodes ++ n ∷ []) ≡ length t.nodes + 1 = length_push t.nodes n in let d : f_new.depth ≤ length t.nodes + 1 = after.depth es c in omega (arith, h, d);
    each = λ es c. subst (λ (ns : List Node). (ps : List Pending) × (sectors : List ℕ) × AreAnswered xs t.source (map root_pending es) ns ps sectors × IsWalkAt roots path_new waits_new f_new ps × Notes t.source sectors old more) all (after.each es c);
  }
    where
      after : IsFollowed xs roots first t.source (t.nodes ++ n ∷ []) [] (length t.nodes + 1) path_new waits_new f_new old more
      after = follows_more xs roots first t.source (t.nodes ++ n ∷ []) old n [] (length t.nodes) other path_new others waits_new f f_new new more (before_node n new source path other waits others f (kept w.room) (kept_waits w.room_to_wait) w) (answered w.source_is)

      all : after.done ≡ t.nodes ++ n ∷ []
      all = sym (after.split ∙ append-nil after.done)

  -- the next node doesn't
  pub walk_refuses : (n : Node) (new : TableParts) (source : ℕ) (path other : List Frame) (waits others : List Wait) (f : Follow) → IsWalkedAt xs roots firsts t old new source path waits f
      → (f.depth ≤ length path → take f.depth other ≡ take f.depth path) → (f.depth ≤ length waits → take f.depth others ≡ take f.depth waits) → (source ≡ t.source → HasRefused xs roots t.source n other others f) → IsFirstWrongFrom xs roots first (with_node n t) (length t.nodes)
  walk_refuses n new source path other waits others f w kept kept_waits refused = record { wrong = wrong_node xs roots first t.source (t.nodes ++ n ∷ []) old n [] (length t.nodes) other others f new (before_node n new source path other waits others f (kept w.room) (kept_waits w.room_to_wait) w) (λ _. refused w.source_is) }

-- ---- nodes one behind the other

pub with_more : (t : Tree) (ns : List Node) (n : Node) → with_node n (with_nodes ns t) ≡ with_nodes (ns ++ n ∷ []) t
with_more t ns n = ap (λ (us : List Node). let u : Tree = record { source = t.source; nodes = us } in u) (append_assoc t.nodes ns (n ∷ []))

module _ (xs : List HalfEdge) (roots : List Root) (firsts : List (Option ℕ)) (source : ℕ) (path : List Frame) (waits : List Wait) (f : Follow) (old : TableParts) where
  -- the next one answers, or it doesn't
  pub follows_next : (ns : List Node) (n : Node) (path_now path_new : List Frame) (waits_now waits_new : List Wait) (f_now f_new : Follow) (new more : TableParts) (wrong yes : Bool) → wrong ≡ false → FollowsAt xs roots firsts source path waits f old path_now waits_now f_now new wrong ns
      → f_now.depth < length path_now → length waits_now ≡ length path_now → (f_now.depth ≤ length path_now → f_new.depth ≤ length path_new) → (f_now.depth ≤ length waits_now → f_new.depth ≤ length waits_new)
      → (IsTrue yes → HasAnswered xs roots source n path_now waits_now f_now new path_new waits_new f_new more) → (yes ≡ false → f_now.depth < length path_now → f_now.depth < length waits_now → HasRefused xs roots source n path_now waits_now f_now)
      → FollowsAt xs roots firsts source path waits f old path_new waits_new f_new more (not yes) (ns ++ n ∷ [])
  follows_next ns n path_now path_new waits_now waits_new f_now f_new new more wrong true so_far w room equal within to_wait answered refused = record {
    on = λ _ t begun v. subst (λ (u : Tree). IsWalkedAt xs roots firsts u begun more source path_new waits_new f_new) (with_more t ns n)
        (walk_goes_on xs roots firsts (with_nodes ns t) begun n new more source path_now path_now path_new waits_now waits_now waits_new f_now f_new (w.on so_far t begun v) (λ _. refl) (λ _. refl) within to_wait
        (λ e. subst (λ (s : ℕ). HasAnswered xs roots s n path_now waits_now f_now new path_new waits_new f_new more) e (answered refl)));
    some = λ e. absurd (cc);
    refused = λ e. absurd (cc);
  }
  follows_next ns n path_now path_new waits_now waits_new f_now f_new new more wrong false so_far w room equal within to_wait answered refused = record {
    on = λ e. absurd (cc);
    some = λ _. let h : length (ns ++ n ∷ []) ≡ length ns + 1 = length_push ns n in omega (arith, h);
    refused = λ _ t begun v.
        let h : length (ns ++ n ∷ []) ≡ length ns + 1 = length_push ns n in
        let k : length (t.nodes ++ ns) ≡ length t.nodes + length ns = length-append t.nodes ns in
        let at : length (t.nodes ++ ns) ≡ length t.nodes + length (ns ++ n ∷ []) - 1 = omega (arith, h, k) in
        subst (IsFirstWrongFrom xs roots (first_at firsts t.source) (with_nodes (ns ++ n ∷ []) t)) at (subst (λ (u : Tree). IsFirstWrongFrom xs roots (first_at firsts t.source) u (length (t.nodes ++ ns))) (with_more t ns n)
        (walk_refuses xs roots firsts (with_nodes ns t) begun n new source path_now path_now waits_now waits_now f_now (w.on so_far t begun v) (λ _. refl) (λ _. refl)
        (λ e. subst (λ (s : ℕ). HasRefused xs roots s n path_now waits_now f_now) e (refused refl room (omega (arith, room, equal))))));
  }

-- buffers that are equal
pub same_buffers : (xs : List HalfEdge) (roots : List Root) (firsts : List (Option ℕ)) (source : ℕ) (path other : List Frame) (waits others : List Wait) (f : Follow) (old : TableParts) (path_new other_new : List Frame) (waits_new others_new : List Wait) (f_new : Follow) (new : TableParts) (wrong : Bool) (ns : List Node)
    → path ≡ other → waits ≡ others → other_new ≡ path_new → others_new ≡ waits_new → FollowsAt xs roots firsts source path waits f old path_new waits_new f_new new wrong ns → FollowsAt xs roots firsts source other others f old other_new others_new f_new new wrong ns
same_buffers xs roots firsts source path other waits others f old path_new other_new waits_new others_new f_new new wrong ns e g h k w = subst (λ (us : List Wait). FollowsAt xs roots firsts source other others f old other_new us f_new new wrong ns) (sym k)
    (subst (λ (fs : List Frame). FollowsAt xs roots firsts source other others f old fs waits_new f_new new wrong ns) (sym h)
    (subst (λ (us : List Wait). FollowsAt xs roots firsts source other us f old path_new waits_new f_new new wrong ns) g
    (subst (λ (fs : List Frame). FollowsAt xs roots firsts source fs waits f old path_new waits_new f_new new wrong ns) e w)))
