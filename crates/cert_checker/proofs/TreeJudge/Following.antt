-- A walk that follows a tree: what each node answers, and what is still to be asked behind it.
use Rattle.std.proofs.Common.{◌≡◌, ◌↔◌, ℕ, ◌+◌, ◌≤◌, IsTrue, false, List, [], ◌∷◌, ◌++◌, Option, Some, None, map, take, refl, sym, ◌∙◌, ap, subst, arith}
use Rattle.std.specs.List.{slice_get}
use Rattle.sight_names.specs.Splitting.{EndPoints}
use Rattle.block_evidence.specs.declared.Evidence.{Evidence}
use Rattle.block_evidence.specs.Stuck.{BlocksEnds}
use Rattle.block_evidence.specs.declared.sight_tree.Node.TheVariants.{Open, Blocked}
use Rattle.reject_bits.specs.Parts.{TableParts}
use Rattle.mesh_shape.specs.declared.half_edges.table.HalfEdge.{HalfEdge}
use Rattle.cert_checker.specs.declared.tree_judge.roots.Root.{Root}
use Rattle.cert_checker.specs.declared.tree_judge.trees.Frame.{Frame}
use Rattle.cert_checker.specs.declared.tree_judge.trees.Wait.{Wait}
use Rattle.cert_checker.specs.declared.tree_judge.trees.Follow.{Follow}
use Rattle.cert_checker.specs.TreeJudge.Path.{list_of, path_ends, edge_ends, PutsAt, Pending, pending_way, root_pending, IsWalkAt, with_asked, ways_behind, TakesNext, EntersThrough}
use Rattle.cert_checker.specs.TreeJudge.Whole.{ends_through, ways_through, Notes, HasAnswered, HasRefused, StandsBefore}
use Rattle.cert_checker.proofs.TreeJudge.Ways.{waiting_same}
use Rattle.math_base.proofs.Options.{one_value}
use Rattle.cert_checker.proofs.TreeJudge.Noting.{notes_none}

abbrev pub at_first : Option ℕ → Follow
at_first first = record { depth = 0; root = first; asked = None; waiting = 0 }

pub stands : (roots : List Root) (path : List Frame) (waits : List Wait) (new : Follow) (first asked : Option ℕ) → TakesNext roots path waits (at_first first) new asked → StandsBefore roots first path waits (with_asked new asked)
stands roots path waits new first asked t = record { start = λ es c. t.next es [] c refl }

same_first : (p q : Pending) (ps qs us : List Pending) → us ≡ p ∷ ps → us ≡ q ∷ qs → p ≡ q
same_first p q ps qs us e f = cc

module _ (xs : List HalfEdge) (roots : List Root) (source : ℕ) (path : List Frame) (waits : List Wait) (f : Follow) where
  -- the half-edge that is asked, behind the present path
  abbrev present : ℕ → Pending
  present place = record { path = path_ends (take f.depth path); edge = place }

  -- what is to be asked behind it
  abbrev others : {ps : List Pending} → IsWalkAt roots path waits f ps → List Pending
  others a = a.ways ++ map root_pending a.es

  present_first : (ps : List Pending) (place : ℕ) → f.asked ≡ Some place → (a : IsWalkAt roots path waits f ps) → ps ≡ present place ∷ others a
  present_first ps place e a = a.all ∙ ap (λ (o : Option ℕ). pending_way (path_ends (take f.depth path)) o ++ others a) e

  -- ---- a node that answers

  pub opened : (middle : List Frame) (new : List Wait) (place : ℕ) (f_new : Follow) (asked : Option ℕ) (x : HalfEdge) (t u : TableParts) → f.asked ≡ Some place → slice_get xs place ≡ Some x → PutsAt path f.depth (edge_ends x) middle
      → EntersThrough xs roots source middle waits f x new f_new asked → Notes source (list_of x.sector) t u → HasAnswered xs roots source Open path waits f t middle new (with_asked f_new asked) u
  opened middle new place f_new asked x t u e is put enters notes = record {
    next = λ ps a. (
      ways_through xs source (present place) x ++ others a,
      list_of x.sector,
      (present place, others a, x, present_first ps place e a, is, refl, refl),
      subst (λ (es : List EndPoints). IsWalkAt roots middle new (with_asked f_new asked) (ways_behind xs source es x ++ others a)) put.put
          (enters.next a.es a.ways a.chain (waiting_same path middle waits waits f.depth f.waiting a.ways put.kept refl a.nested a.waiting) a.nested),
      notes,
    );
    depth = enters.depth;
  }

  pub blocked : (middle : List Frame) (place : ℕ) (f_new : Follow) (asked : Option ℕ) (x : HalfEdge) (e : Evidence) (t : TableParts) → f.asked ≡ Some place → slice_get xs place ≡ Some x → PutsAt path f.depth (edge_ends x) middle
      → BlocksEnds (path_ends (take (f.depth + 1) middle)) e → TakesNext roots middle waits f f_new asked → HasAnswered xs roots source (Blocked e) path waits f t middle waits (with_asked f_new asked) t
  blocked middle place f_new asked x e t h is put blocks takes = record {
    next = λ ps a. (
      others a,
      [],
      (present place, others a, x, present_first ps place h a, is, subst (λ (es : List EndPoints). BlocksEnds es e) put.put blocks, refl, refl),
      takes.next a.es a.ways a.chain (waiting_same path middle waits waits f.depth f.waiting a.ways put.kept refl a.nested a.waiting),
      notes_none source t,
    );
    depth = λ n. let d : f_new.depth ≤ f.waiting = takes.depth in omega (arith, d, n);
  }

  -- ---- a node that doesn't

  -- the ends show nothing
  untrue : IsTrue false → ⊥
  untrue e = cc

  pub refused_ends : (middle : List Frame) (place : ℕ) (x : HalfEdge) (e : Evidence) → f.asked ≡ Some place → slice_get xs place ≡ Some x → PutsAt path f.depth (edge_ends x) middle → (IsTrue false ↔ BlocksEnds (path_ends (take (f.depth + 1) middle)) e) → HasRefused xs roots source (Blocked e) path waits f
  refused_ends middle place x e h is put fails = record { none = λ ps qs sectors a (p, rest, y, first, at, blocks, left, here). go ps rest p y a first at blocks }
    where
      go : (ps rest : List Pending) (p : Pending) (y : HalfEdge) → IsWalkAt roots path waits f ps → ps ≡ p ∷ rest → slice_get xs p.edge ≡ Some y → BlocksEnds (ends_through p y) e → ⊥
      go ps rest p y a first at blocks = untrue (fails.1 (subst (λ (es : List EndPoints). BlocksEnds es e) (sym put.put) (subst (λ (z : HalfEdge). BlocksEnds (ends_through (present place) z) e) found (subst (λ (q : Pending). BlocksEnds (ends_through q y) e) same blocks))))
        where
          same : p ≡ present place
          same = same_first p (present place) rest (others a) ps first (present_first ps place h a)

          found : y ≡ x
          found = one_value (slice_get xs place) y x (ap (λ (q : Pending). slice_get xs q.edge) (sym same) ∙ at) is
