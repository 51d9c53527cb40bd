-- A walk with a row that follows a tree: what each node answers, and what is still to be asked behind it.
use Rattle.std.proofs.Common.{◌≡◌, ◌↔◌, ℕ, ◌+◌, ◌≤◌, IsTrue, true, false, List, ◌∷◌, ◌++◌, Option, Some, take, length, refl, sym, ◌∙◌, ap, subst, arith}
use Rattle.std.specs.List.{slice_get}
use Rattle.std.specs.Prelude.{option_map}
use Rattle.sight_names.specs.Splitting.{EndPoints}
use Rattle.block_evidence.specs.declared.Evidence.{Evidence}
use Rattle.block_evidence.specs.Stuck.{BlocksEnds}
use Rattle.block_evidence.specs.declared.sight_tree.Node.TheVariants.{Open, Blocked}
use Rattle.mesh_shape.specs.declared.half_edges.table.HalfEdge.{HalfEdge}
use Rattle.cert_checker.specs.declared.tree_judge.roots.Root.{Root}
use Rattle.cert_checker.specs.declared.tree_judge.trees.Frame.{Frame}
use Rattle.cert_checker.specs.TreeJudge.Path.{path_ends, edge_ends, PutsAt}
use Rattle.gate_floods.specs.RowJudge.Masks.{MaskRows}
use Rattle.gate_floods.specs.declared.row_judge.follow.Wait.{Wait}
use Rattle.gate_floods.specs.declared.row_judge.follow.RowFollow.{RowFollow}
use Rattle.gate_floods.specs.RowJudge.Words.{row_in_words, both_words, is_away}
use Rattle.gate_floods.specs.RowJudge.Asked.{mask_place, row_left, Pending, pending_way, pending_roots, ends_through, ways_behind, ways_through}
use Rattle.gate_floods.specs.RowJudge.Path.{HasPassed, HasRoomFor, AreWaiting, IsRowWalkAt, with_asked, TakesNext, EntersThrough, HasAnswered, HasRefused}
use Rattle.gate_floods.proofs.RowJudge.Waiting.{row_same, waiting_same, waiting_more, put_room}
use Rattle.math_base.proofs.Options.{one_value}

-- ---- the row behind a half-edge

pub passed_gate : (ms : MaskRows) (rows mid new : List ℕ) (row edge place : ℕ) → mask_place ms.places edge ≡ Some place → HasRoomFor rows row ms.width mid true → length new ≡ length mid → take (row + ms.width) new ≡ take (row + ms.width) mid
    → row_in_words new ms.width (row + ms.width) ≡ both_words (row_in_words mid ms.width row) (row_in_words ms.words ms.width place) → HasPassed ms rows row edge new (row + ms.width)
passed_gate ms rows mid new row edge place is (there, room, before) len kept put = record {
  there = put ∙ ap (λ (us : List ℕ). both_words us (row_in_words ms.words ms.width place)) (row_same rows mid ms.width row row (omega arith) before)
      ∙ ap (λ (o : Option ℕ). row_left (row_in_words rows ms.width row) (option_map (row_in_words ms.words ms.width) o)) (sym is);
  kept = kept ∙ before;
  after = omega arith;
  room = λ l. omega (arith, room, len);
}

-- ---- nodes

same_first : (p q : Pending) (ps qs us : List Pending) → us ≡ p ∷ ps → us ≡ q ∷ qs → p ≡ q
same_first p q ps qs us e f = cc

module _ (xs : List HalfEdge) (ms : MaskRows) (source : ℕ) (first : List ℕ) (roots : List Root) (path : List Frame) (rows : List ℕ) (waits : List Wait) (f : RowFollow) where
  -- the half-edge that is asked, behind the present path
  abbrev present : ℕ → Pending
  present place = record { path = path_ends (take f.depth path); row = row_in_words rows ms.width f.row; edge = place }

  abbrev At : List Pending → Type 0
  At ps = IsRowWalkAt ms first roots path rows waits f ps

  -- what is to be asked behind it
  abbrev others : {ps : List Pending} → IsRowWalkAt ms first roots path rows waits f ps → List Pending
  others a = a.ways ++ pending_roots ms first a.es

  present_first : (ps : List Pending) (place : ℕ) → f.asked ≡ Some place → (a : At ps) → ps ≡ present place ∷ others a
  present_first ps place e a = a.all ∙ ap (λ (o : Option ℕ). pending_way (path_ends (take f.depth path)) (row_in_words rows ms.width f.row) o ++ (a.ways ++ pending_roots ms first a.es)) e

  -- behind the half-edge, the walk one portal further on
  abbrev pub further : ℕ → RowFollow
  further at = record { depth = f.depth + 1; row = at; root = f.root; asked = f.asked }

  pub opened : (middle : List Frame) (rows' : List ℕ) (new : List Wait) (place at : ℕ) (f_new : RowFollow) (asked : Option ℕ) (x : HalfEdge) → f.asked ≡ Some place → slice_get xs place ≡ Some x → PutsAt path f.depth (edge_ends x) middle
      → HasPassed ms rows f.row place rows' at → is_away (row_in_words rows' ms.width at) x.sector ≡ true → EntersThrough xs ms source first roots middle rows' waits (further at) x new f_new asked
      → HasAnswered xs ms source first roots Open path rows waits f middle rows' new (with_asked f_new asked)
  opened middle rows' new place at f_new asked x e is put passed away enters = record {
    next = λ ps a. (
      ways_through xs ms source (present place) x ++ others a,
      (present place, others a, x, present_first ps place e a, is, subst (λ (us : List ℕ). is_away us x.sector ≡ true) passed.there away, refl),
      subst (λ (us : List ℕ). IsRowWalkAt ms first roots middle rows' new (with_asked f_new asked) (ways_behind xs ms source (ends_through (present place) x) us x ++ others a)) passed.there
          (subst (λ (es : List EndPoints). IsRowWalkAt ms first roots middle rows' new (with_asked f_new asked) (ways_behind xs ms source es (row_in_words rows' ms.width at) x ++ others a)) put.put
          (enters.next a.es a.ways a.chain (base a) (waiting a) (put_room path middle f.depth (edge_ends x) a.depth_room put) (passed.room a.row_room))),
    );
  }
    where
      base : {ps : List Pending} → IsRowWalkAt ms first roots path rows waits f ps → row_in_words rows' ms.width 0 ≡ first
      base a = row_same rows rows' ms.width 0 f.row (omega arith) passed.kept ∙ a.base

      waiting : {ps : List Pending} → (a : IsRowWalkAt ms first roots path rows waits f ps) → AreWaiting middle rows' ms.width waits (f.depth + 1) at a.ways
      waiting a = waiting_more middle rows' ms.width waits f.depth (f.depth + 1) f.row at a.ways (omega arith) passed.after (waiting_same path middle rows rows' ms.width waits f.depth f.row a.ways put.kept passed.kept a.waiting)

  pub blocked : (middle : List Frame) (new : List Wait) (place : ℕ) (f_new : RowFollow) (asked : Option ℕ) (x : HalfEdge) (e : Evidence) → f.asked ≡ Some place → slice_get xs place ≡ Some x → PutsAt path f.depth (edge_ends x) middle
      → BlocksEnds (path_ends (take (f.depth + 1) middle)) e → TakesNext ms first roots middle rows waits f new f_new asked → HasAnswered xs ms source first roots (Blocked e) path rows waits f middle rows new (with_asked f_new asked)
  blocked middle new place f_new asked x e h is put blocks takes = record {
    next = λ ps a. (
      others a,
      (present place, others a, x, present_first ps place h a, is, subst (λ (es : List EndPoints). BlocksEnds es e) put.put blocks, refl),
      takes.next a.es a.ways a.chain a.base (waiting_same path middle rows rows ms.width waits f.depth f.row a.ways put.kept refl a.waiting)
          (let l : f.depth + 1 ≤ length middle = put_room path middle f.depth (edge_ends x) a.depth_room put in omega (arith, l)) a.row_room,
    );
  }

  -- ---- a node that doesn't answer

  untrue : IsTrue false → ⊥
  untrue e = cc

  -- the ends show nothing
  pub refused_ends : (middle : List Frame) (place : ℕ) (x : HalfEdge) (e : Evidence) → f.asked ≡ Some place → slice_get xs place ≡ Some x → PutsAt path f.depth (edge_ends x) middle → (IsTrue false ↔ BlocksEnds (path_ends (take (f.depth + 1) middle)) e)
      → HasRefused xs ms source first roots (Blocked e) path rows waits f
  refused_ends middle place x e h is put fails = record { none = λ ps qs a (p, rest, y, first_is, at, blocks, left). go ps rest p y a first_is at blocks }
    where
      go : (ps rest : List Pending) (p : Pending) (y : HalfEdge) → IsRowWalkAt ms first roots path rows waits f ps → ps ≡ p ∷ rest → slice_get xs p.edge ≡ Some y → BlocksEnds (ends_through p y) e → ⊥
      go ps rest p y a first_is at blocks = untrue (fails.1 (subst (λ (es : List EndPoints). BlocksEnds es e) (sym put.put) (subst (λ (z : HalfEdge). BlocksEnds (ends_through (present place) z) e) found (subst (λ (q : Pending). BlocksEnds (ends_through q y) e) same blocks))))
        where
          same : p ≡ present place
          same = same_first p (present place) rest (others a) ps first_is (present_first ps place h a)

          found : y ≡ x
          found = one_value (slice_get xs place) y x (ap (λ (q : Pending). slice_get xs q.edge) (sym same) ∙ at) is
