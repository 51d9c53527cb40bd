-- Nodes that answer one after another, as far as the loop over them has come.
use Rattle.std.proofs.Common.{◌≡◌, ℕ, ◌+◌, ◌<◌, ◌≤◌, List, [], ◌∷◌, ◌++◌, Option, Some, None, length, map, take, refl, sym, ◌∙◌, ap, subst, arith}
use Rattle.std.specs.List.{slice_get}
use Rattle.std.proofs.lemmas.List.{append_assoc, append-nil, length-append, take_all}
use Rattle.std.proofs.lemmas.Option.{slice_get_within}
use Rattle.std.proofs.Math.Seq.{take-append_seam}
use Rattle.block_evidence.specs.declared.sight_tree.Node.{Node}
use Rattle.reject_bits.specs.Parts.{TableParts}
use Rattle.mesh_shape.specs.declared.half_edges.table.HalfEdge.{HalfEdge}
use Rattle.cert_checker.specs.declared.tree_judge.roots.Root.{Root}
use Rattle.cert_checker.specs.declared.tree_judge.trees.Frame.{Frame}
use Rattle.cert_checker.specs.declared.tree_judge.trees.Wait.{Wait}
use Rattle.cert_checker.specs.declared.tree_judge.trees.Follow.{Follow}
use Rattle.cert_checker.specs.TreeJudge.Path.{path_ends, Pending, pending_way, IsRootChain, root_pending, IsWalkAt}
use Rattle.cert_checker.specs.TreeJudge.Whole.{AnswersFirst, AreAnswered, IsFirstWrongNode, Notes, HasAnswered, HasRefused}
use Rattle.cert_checker.proofs.TreeJudge.Noting.{notes_more}

-- one more node answers
answered_more : (xs : List HalfEdge) (source : ℕ) (ns : List Node) (n : Node) (ps qs rs : List Pending) (here more : List ℕ) → AreAnswered xs source ps ns qs here → AnswersFirst xs source qs n rs more → AreAnswered xs source ps (ns ++ n ∷ []) rs (here ++ more)
answered_more xs source [] n ps qs rs here more (e, f) answer = (rs, more, [], subst (λ (os : List Pending). AnswersFirst xs source os n rs more) e answer, (refl, refl), ap (λ (ss : List ℕ). ss ++ more) f ∙ sym (append-nil more))
answered_more xs source (k ∷ ns) n ps qs rs here more (os, some, others, first, rest, e) answer = (os, some, others ++ more, first, answered_more xs source ns n os qs rs others more rest answer, ap (λ (ss : List ℕ). ss ++ more) e ∙ append_assoc some others more)

-- the first so many nodes have answered
pub record IsFollowed (xs : List HalfEdge) (roots : List Root) (first : Option ℕ) (source : ℕ) (nodes rest : List Node) (number : ℕ) (path : List Frame) (waits : List Wait) (f : Follow) (old new : TableParts) : Type 0 where
  pub done : List Node
  pub split : nodes ≡ done ++ rest
  pub count : length done ≡ number
  pub depth : (es : List ℕ) → IsRootChain roots first es → f.depth ≤ number
  pub each : (es : List ℕ) → IsRootChain roots first es → (ps : List Pending) × (sectors : List ℕ) × AreAnswered xs source (map root_pending es) done ps sectors × IsWalkAt roots path waits f ps × Notes source sectors old new

module _ (xs : List HalfEdge) (roots : List Root) (first : Option ℕ) (source : ℕ) (nodes : List Node) (old : TableParts) where
  pub follows_more : (n : Node) (rest : List Node) (number : ℕ) (path path_new : List Frame) (waits waits_new : List Wait) (f f_new : Follow) (t u : TableParts) → IsFollowed xs roots first source nodes (n ∷ rest) number path waits f old t
      → HasAnswered xs roots source n path waits f t path_new waits_new f_new u → IsFollowed xs roots first source nodes rest (number + 1) path_new waits_new f_new old u
  follows_more n rest number path path_new waits waits_new f f_new t u w a = record {
    done = w.done ++ n ∷ [];
    split = w.split ∙ sym (append_assoc w.done (n ∷ []) rest);
    count = let h : length (w.done ++ n ∷ []) ≡ length w.done + 1 = length-append w.done (n ∷ []) in omega (arith, h, w.count);
    depth = λ es c. let k : f.depth ≤ number = w.depth es c in let d : f_new.depth ≤ f.depth + 1 = nested es (w.each es c) in omega (arith, k, d);
    each = λ es c. go es (w.each es c);
  }
    where
      nested : (es : List ℕ) → (ps : List Pending) × (sectors : List ℕ) × AreAnswered xs source (map root_pending es) w.done ps sectors × IsWalkAt roots path waits f ps × Notes source sectors old t → f_new.depth ≤ f.depth + 1
      nested es (ps, sectors, answered, at, notes) = a.depth at.nested

      go : (es : List ℕ) → (ps : List Pending) × (sectors : List ℕ) × AreAnswered xs source (map root_pending es) w.done ps sectors × IsWalkAt roots path waits f ps × Notes source sectors old t
          → (ps : List Pending) × (sectors : List ℕ) × AreAnswered xs source (map root_pending es) (w.done ++ n ∷ []) ps sectors × IsWalkAt roots path_new waits_new f_new ps × Notes source sectors old u
      go es (ps, sectors, answered, at, notes) = on (a.next ps at)
        where
          on : (qs : List Pending) × (more : List ℕ) × AnswersFirst xs source ps n qs more × IsWalkAt roots path_new waits_new f_new qs × Notes source more t u
              → (ps : List Pending) × (sectors : List ℕ) × AreAnswered xs source (map root_pending es) (w.done ++ n ∷ []) ps sectors × IsWalkAt roots path_new waits_new f_new ps × Notes source sectors old u
          on (qs, more, answer, behind, noted) = (qs, sectors ++ more, answered_more xs source w.done n (map root_pending es) ps qs sectors more answered answer, behind, notes_more source sectors more old t u notes noted)

  first_done : (done rest : List Node) (number : ℕ) → nodes ≡ done ++ rest → length done ≡ number → take number nodes ≡ done
  first_done done rest number e h = ap (take number) e ∙ subst (λ (k : ℕ). take k (done ++ rest) ≡ done) h (take-append_seam done rest)

  within : (done rest : List Node) (number : ℕ) → nodes ≡ done ++ rest → length done ≡ number → number ≤ length nodes
  within done rest number e h = let k : length nodes ≡ length done + length rest = ap length e ∙ length-append done rest in omega (arith, k, h)

  node_behind : (done : List Node) (n : Node) (rest : List Node) → slice_get (done ++ n ∷ rest) (length done) ≡ Some n
  node_behind [] n rest = refl
  node_behind (k ∷ done) n rest = node_behind done n rest

  -- the next node doesn't answer
  pub wrong_node : (n : Node) (rest : List Node) (number : ℕ) (path : List Frame) (waits : List Wait) (f : Follow) (t : TableParts) → IsFollowed xs roots first source nodes (n ∷ rest) number path waits f old t
      → (f.depth ≤ number → HasRefused xs roots source n path waits f) → (es : List ℕ) → IsRootChain roots first es → IsFirstWrongNode xs source (map root_pending es) nodes number
  wrong_node n rest number path waits f t w r es c = go (w.each es c)
    where
      here : slice_get nodes number ≡ Some n
      here = subst (λ (k : ℕ). slice_get nodes k ≡ Some n) w.count (ap (λ (ns : List Node). slice_get ns (length w.done)) w.split ∙ node_behind w.done n rest)

      same : (k : Node) → slice_get nodes number ≡ Some k → n ≡ k
      same k e = one (sym here ∙ e)
        where
          one : ◌≡◌ {A = Option Node} (Some n) (Some k) → n ≡ k
          one h = cc

      go : (ps : List Pending) × (sectors : List ℕ) × AreAnswered xs source (map root_pending es) w.done ps sectors × IsWalkAt roots path waits f ps × Notes source sectors old t → IsFirstWrongNode xs source (map root_pending es) nodes number
      go (ps, sectors, answered, at, notes) = record {
        left = ps;
        sectors = sectors;
        within = within w.done (n ∷ rest) number w.split w.count;
        before = subst (λ (ns : List Node). AreAnswered xs source (map root_pending es) ns ps sectors) (sym (first_done w.done (n ∷ rest) number w.split w.count)) answered;
        wrong = λ k e qs more answer. (r (w.depth es c)).none ps qs more at (subst (λ (j : Node). AnswersFirst xs source ps j qs more) (sym (same k e)) answer);
        missing = λ e. absurd (let l : number < length nodes = slice_get_within nodes number n here in omega (arith, l, e));
      }

  -- no node is left, and something is still asked
  pub missing_node : (rest : List Node) (number place : ℕ) (path : List Frame) (waits : List Wait) (f : Follow) (t : TableParts) → rest ≡ [] → IsFollowed xs roots first source nodes rest number path waits f old t
      → f.asked ≡ Some place → (es : List ℕ) → IsRootChain roots first es → IsFirstWrongNode xs source (map root_pending es) nodes (length nodes)
  missing_node rest number place path waits f t e w asked es c = go (w.each es c)
    where
      all : nodes ≡ w.done
      all = w.split ∙ ap (λ (ns : List Node). w.done ++ ns) e ∙ append-nil w.done

      past : (k : Node) → slice_get nodes (length nodes) ≡ Some k → ⊥
      past k h = let l : length nodes < length nodes = slice_get_within nodes (length nodes) k h in omega (arith, l)

      some : (ps : List Pending) → IsWalkAt roots path waits f ps → ps ≡ [] → ⊥
      some ps at h = nothing (sym (ap (λ (o : Option ℕ). pending_way (path_ends (take f.depth path)) o ++ (at.ways ++ map root_pending at.es)) asked) ∙ sym at.all ∙ h)
        where
          nothing : {p : Pending} {qs : List Pending} → ◌≡◌ {A = List Pending} (p ∷ qs) [] → ⊥
          nothing q = cc

      go : (ps : List Pending) × (sectors : List ℕ) × AreAnswered xs source (map root_pending es) w.done ps sectors × IsWalkAt roots path waits f ps × Notes source sectors old t → IsFirstWrongNode xs source (map root_pending es) nodes (length nodes)
      go (ps, sectors, answered, at, notes) = record {
        left = ps;
        sectors = sectors;
        within = omega arith;
        before = subst (λ (ns : List Node). AreAnswered xs source (map root_pending es) ns ps sectors) (sym all ∙ sym (take_all (length nodes) nodes (omega arith))) answered;
        wrong = λ k h qs more answer. past k h;
        missing = λ h. some ps at;
      }

  -- no node is left, and nothing is asked any more
  pub all_answered : (rest : List Node) (number : ℕ) (path : List Frame) (waits : List Wait) (f : Follow) (t : TableParts) → rest ≡ [] → IsFollowed xs roots first source nodes rest number path waits f old t
      → f.asked ≡ None → (es : List ℕ) → IsRootChain roots first es → (sectors : List ℕ) × AreAnswered xs source (map root_pending es) nodes [] sectors × Notes source sectors old t
  all_answered rest number path waits f t e w asked es c = go (w.each es c)
    where
      all : nodes ≡ w.done
      all = w.split ∙ ap (λ (ns : List Node). w.done ++ ns) e ∙ append-nil w.done

      go : (ps : List Pending) × (sectors : List ℕ) × AreAnswered xs source (map root_pending es) w.done ps sectors × IsWalkAt roots path waits f ps × Notes source sectors old t
          → (sectors : List ℕ) × AreAnswered xs source (map root_pending es) nodes [] sectors × Notes source sectors old t
      go (ps, sectors, answered, at, notes) = (sectors, subst (λ (ns : List Node). AreAnswered xs source (map root_pending es) ns [] sectors) (sym all) (subst (λ (qs : List Pending). AreAnswered xs source (map root_pending es) w.done qs sectors) (at.last asked) answered), notes)
