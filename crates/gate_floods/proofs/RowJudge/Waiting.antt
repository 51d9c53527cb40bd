-- The right ways that wait, on a path and rows whose first ones are as they were; and what is asked next.
use Rattle.std.proofs.Common.{◌≡◌, ℕ, ◌+◌, ◌≤◌, min, List, [], ◌∷◌, ◌++◌, Option, Some, None, length, take, drop, refl, sym, ◌∙◌, ap, subst, arith}
use Rattle.std.proofs.lemmas.List.{take-take, drop-take, length-take, length-append, length-map}
use Rattle.sight_names.specs.Splitting.{EndPoints}
use Rattle.mesh_shape.specs.declared.half_edges.table.HalfEdge.{HalfEdge}
use Rattle.cert_checker.specs.declared.tree_judge.roots.Root.{Root}
use Rattle.cert_checker.specs.declared.tree_judge.trees.Frame.{Frame}
use Rattle.cert_checker.specs.TreeJudge.Path.{portal_ends, path_ends, PutsAt, IsRootChain}
use Rattle.math_base.proofs.Options.{some_is_not_none}
use Rattle.gate_floods.specs.RowJudge.Masks.{MaskRows}
use Rattle.gate_floods.specs.declared.row_judge.follow.Wait.{Wait}
use Rattle.gate_floods.specs.declared.row_judge.follow.RowFollow.{RowFollow}
use Rattle.gate_floods.specs.RowJudge.Words.{row_in_words}
use Rattle.gate_floods.specs.RowJudge.Asked.{Pending, pending_way, pending_roots, way_asked}
use Rattle.gate_floods.specs.RowJudge.Path.{AsksRoot, waiting_way, AreWaiting, IsRowWalkAt, with_asked, TakesNext, EntersThrough, StandsBefore}

-- ---- the first portals and rows alone count

pub row_same : (rows other : List ℕ) (w at r : ℕ) → at ≤ r → take (r + w) other ≡ take (r + w) rows → row_in_words other w at ≡ row_in_words rows w at
row_same rows other w at r l e = sym (drop-take at w other) ∙ ap (drop at) (sym (take-take (at + w) (r + w) other (omega (arith, l))) ∙ ap (take (at + w)) e ∙ take-take (at + w) (r + w) rows (omega (arith, l))) ∙ drop-take at w rows

pub waiting_same : (path other : List Frame) (rows rows' : List ℕ) (w : ℕ) (waits : List Wait) (d r : ℕ) (ps : List Pending) → take d other ≡ take d path → take (r + w) rows' ≡ take (r + w) rows → AreWaiting path rows w waits d r ps → AreWaiting other rows' w waits d r ps
waiting_same path other rows rows' w waits d r [] e f h = h
waiting_same path other rows rows' w waits d r (p ∷ ps) e f (front, x, split, low, low_too, this, more) = (front, x, split, low, low_too, this ∙ same, waiting_same path other rows rows' w front x.depth x.row ps fewer fewer_rows more)
  where
    fewer : take x.depth other ≡ take x.depth path
    fewer = sym (take-take x.depth d other low) ∙ ap (take x.depth) e ∙ take-take x.depth d path low

    fewer_rows : take (x.row + w) rows' ≡ take (x.row + w) rows
    fewer_rows = sym (take-take (x.row + w) (r + w) rows' (omega (arith, low_too))) ∙ ap (take (x.row + w)) f ∙ take-take (x.row + w) (r + w) rows (omega (arith, low_too))

    same : waiting_way path rows w x ≡ waiting_way other rows' w x
    same = λ i. record { path = path_ends (sym fewer i); row = sym (row_same rows rows' w x.row r low_too f) i; edge = x.way }

pub waiting_more : (path : List Frame) (rows : List ℕ) (w : ℕ) (waits : List Wait) (d e r s : ℕ) (ps : List Pending) → d ≤ e → r ≤ s → AreWaiting path rows w waits d r ps → AreWaiting path rows w waits e s ps
waiting_more path rows w waits d e r s [] l m h = h
waiting_more path rows w waits d e r s (p ∷ ps) l m (front, x, split, low, low_too, this, more) = (front, x, split, (omega (arith, l, low)), (omega (arith, m, low_too)), this, more)

-- a portal that is put has room
pub put_room : (path middle : List Frame) (d : ℕ) (ends : EndPoints) → d ≤ length path → PutsAt path d ends middle → d + 1 ≤ length middle
put_room path middle d ends l put =
    let a : length (path_ends (take (d + 1) middle)) ≡ length (path_ends (take d path)) + 1 = ap (λ (es : List EndPoints). length es) put.put ∙ length-append (path_ends (take d path)) (ends ∷ []) in
    let b : length (path_ends (take (d + 1) middle)) ≡ length (take (d + 1) middle) = length-map (take (d + 1) middle) portal_ends in
    let c : length (path_ends (take d path)) ≡ length (take d path) = length-map (take d path) portal_ends in
    let e : length (take (d + 1) middle) ≡ min (d + 1) (length middle) = length-take (d + 1) middle in
    let f : length (take d path) ≡ min d (length path) = length-take d path in
    omega (arith, a, b, c, e, f, l)

-- ---- the last of the ways

not_nil : (xs : List Wait) (x : Wait) → [] ≡ xs ++ x ∷ [] → ⊥
not_nil [] x e = cc
not_nil (y ∷ xs) x e = cc

head_same : (x y : Wait) (xs ys : List Wait) → x ∷ xs ≡ y ∷ ys → x ≡ y
head_same x y xs ys e = cc

tail_same : (x y : Wait) (xs ys : List Wait) → x ∷ xs ≡ y ∷ ys → xs ≡ ys
tail_same x y xs ys e = cc

last_same : (xs ys : List Wait) (x y : Wait) → xs ++ x ∷ [] ≡ ys ++ y ∷ [] → (xs ≡ ys) × (x ≡ y)
last_same [] [] x y e = (refl, head_same x y [] [] e)
last_same [] (z ∷ ys) x y e = absurd (not_nil ys y (tail_same x z [] (ys ++ y ∷ []) e))
last_same (z ∷ xs) [] x y e = absurd (not_nil xs x (sym (tail_same z y (xs ++ x ∷ []) [] e)))
last_same (z ∷ xs) (u ∷ ys) x y e = let r = last_same xs ys x y (tail_same z u (xs ++ x ∷ []) (ys ++ y ∷ []) e) in ((λ i. head_same z u (xs ++ x ∷ []) (ys ++ y ∷ []) e i ∷ r.0 i), r.1)

module _ (ms : MaskRows) (first : List ℕ) (roots : List Root) (path : List Frame) (rows : List ℕ) where
  -- ---- a way is asked

  abbrev pub on_way : RowFollow → Wait → RowFollow
  on_way old w = record { depth = w.depth; row = w.row; root = old.root; asked = old.asked }

  pub takes_way : (waits front : List Wait) (old : RowFollow) (w : Wait) → waits ≡ front ++ w ∷ [] → TakesNext ms first roots path rows waits old front (on_way old w) (Some w.way)
  takes_way waits front old w is = record { next = λ es ws c base h d r. go es ws c base h d r }
    where
      go : (es : List ℕ) (ws : List Pending) → IsRootChain roots old.root es → row_in_words rows ms.width 0 ≡ first → AreWaiting path rows ms.width waits old.depth old.row ws → old.depth ≤ length path → old.row + ms.width ≤ length rows
          → IsRowWalkAt ms first roots path rows front (with_asked (on_way old w) (Some w.way)) (ws ++ pending_roots ms first es)
      go es [] c base h d r = absurd (not_nil front w (sym h ∙ is))
      go es (p ∷ ws) c base (others, x, split, low, low_too, this, more) d r =
          let same = last_same others front x w (sym split ∙ is) in
          subst (λ (y : Wait). IsRowWalkAt ms first roots path rows front (with_asked (on_way old y) (Some y.way)) (p ∷ (ws ++ pending_roots ms first es))) same.1
          (subst (λ (ys : List Wait). IsRowWalkAt ms first roots path rows ys (with_asked (on_way old x) (Some x.way)) (p ∷ (ws ++ pending_roots ms first es))) same.0 (record {
            es = es;
            ways = ws;
            chain = c;
            base = base;
            waiting = more;
            depth_room = omega (arith, low, d);
            row_room = omega (arith, low_too, r);
            all = ap (λ (u : Pending). u ∷ (ws ++ pending_roots ms first es)) this;
            last = λ n. absurd (some_is_not_none x.way n);
          }))

  -- ---- no way waits, and a root is asked, if there is one

  abbrev pub on_root : RowFollow → Option ℕ → RowFollow
  on_root old next = record { depth = 0; row = 0; root = next; asked = old.asked }

  pub takes_root : (waits new : List Wait) (old : RowFollow) (row : List ℕ) (asked next : Option ℕ) → waits ≡ [] → new ≡ [] → row ≡ row_in_words rows ms.width 0 → ((es : List ℕ) → IsRootChain roots old.root es → AsksRoot ms row roots es asked next) → TakesNext ms first roots path rows waits old new (on_root old next) asked
  takes_root waits new old row asked next none gone same asks = record { next = λ es ws c base h d r. go es ws c base h d r }
    where
      by : (es rest : List ℕ) → IsRootChain roots next rest → pending_roots ms first es ≡ pending_way [] first asked ++ pending_roots ms first rest → (asked ≡ None → pending_roots ms first rest ≡ []) → row_in_words rows ms.width 0 ≡ first → ms.width ≤ length rows → IsRowWalkAt ms first roots path rows new (with_asked (on_root old next) asked) (pending_roots ms first es)
      by es rest c all last base room = record {
        es = rest;
        ways = [];
        chain = c;
        base = base;
        waiting = gone;
        depth_room = omega arith;
        row_room = omega (arith, room);
        all = all ∙ ap (λ (u : List ℕ). pending_way [] u asked ++ pending_roots ms first rest) (sym base);
        last = λ n. all ∙ ap (λ (o : Option ℕ). pending_way [] first o ++ pending_roots ms first rest) n ∙ last n;
      }

      go : (es : List ℕ) (ws : List Pending) → IsRootChain roots old.root es → row_in_words rows ms.width 0 ≡ first → AreWaiting path rows ms.width waits old.depth old.row ws → old.depth ≤ length path → old.row + ms.width ≤ length rows
          → IsRowWalkAt ms first roots path rows new (with_asked (on_root old next) asked) (ws ++ pending_roots ms first es)
      go es [] c base h d r =
          let a = subst (λ (u : List ℕ). AsksRoot ms u roots es asked next) (same ∙ base) (asks es c) in
          by es a.rest a.chain a.all a.last base (omega (arith, r))
      go es (p ∷ ws) c base (others, x, split, low, low_too, this, more) d r = absurd (not_nil others x (sym none ∙ split))

  -- ---- the ways behind a half-edge

  module _ (xs : List HalfEdge) (source : ℕ) (f : RowFollow) (x : HalfEdge) (waits : List Wait) where
    abbrev ends : List EndPoints
    ends = path_ends (take f.depth path)

    abbrev row : List ℕ
    row = row_in_words rows ms.width f.row

    -- with one of the ways, or none
    abbrev behind : Option ℕ → Option ℕ → List Pending → List Pending
    behind left right ps = (pending_way ends row left ++ pending_way ends row right) ++ ps

    abbrev pub the_wait : ℕ → Wait
    the_wait right = record { depth = f.depth; row = f.row; way = right }

    -- both are asked: the right one waits
    pub enters_both : (new : List Wait) (left right : ℕ) → new ≡ waits ++ the_wait right ∷ [] → Some left ≡ way_asked xs ms source row x.left_way → Some right ≡ way_asked xs ms source row x.right_way → EntersThrough xs ms source first roots path rows waits f x new f (Some left)
    enters_both new left right is l r = record {
      next = λ es ws c base h d room. record {
        es = es;
        ways = record { path = ends; row = row; edge = right } ∷ ws;
        chain = c;
        base = base;
        waiting = (waits, the_wait right, is, omega arith, omega arith, refl, h);
        depth_room = d;
        row_room = room;
        all = sym (λ i. behind (l i) (r i) (ws ++ pending_roots ms first es));
        last = λ e. absurd (some_is_not_none left e);
      };
    }

    pub enters_none : (new : List Wait) (f_new : RowFollow) (asked : Option ℕ) → None ≡ way_asked xs ms source row x.left_way → None ≡ way_asked xs ms source row x.right_way → TakesNext ms first roots path rows waits f new f_new asked → EntersThrough xs ms source first roots path rows waits f x new f_new asked
    enters_none new f_new asked l r t = record {
      next = λ es ws c base h d room. subst (IsRowWalkAt ms first roots path rows new (with_asked f_new asked)) (λ i. behind (l i) (r i) (ws ++ pending_roots ms first es)) (t.next es ws c base h d room);
    }

  abbrev pub at_first : Option ℕ → RowFollow
  at_first root = record { depth = 0; row = 0; root = root; asked = None }

  pub stands : (waits new : List Wait) (f : RowFollow) (root asked : Option ℕ) → waits ≡ [] → TakesNext ms first roots path rows waits (at_first root) new f asked → StandsBefore ms first roots root path rows new (with_asked f asked)
  stands waits new f root asked none t = record { start = λ es c base room. t.next es [] c base none (omega arith) (omega (arith, room)) }
