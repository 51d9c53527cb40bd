-- What is asked behind a half-edge: its left way, its right way, and then what was still to be asked.
use Rattle.std.proofs.Common.{◌≡◌, ℕ, ◌+◌, ◌<◌, ◌≤◌, List, ◌∷◌, ◌++◌, Option, Some, None, length, map, set, take, refl, sym, ◌∙◌, ap, subst, arith}
use Rattle.std.proofs.lemmas.List.{take-set, append_assoc}
use Rattle.sight_names.specs.Splitting.{EndPoints}
use Rattle.mesh_shape.specs.declared.half_edges.table.HalfEdge.{HalfEdge}
use Rattle.mesh_shape.specs.HalfEdges.HalfEdges.{way_outside}
use Rattle.cert_checker.specs.declared.tree_judge.roots.Root.{Root}
use Rattle.cert_checker.specs.declared.tree_judge.trees.Frame.{Frame}
use Rattle.cert_checker.specs.declared.tree_judge.trees.Wait.{Wait}
use Rattle.cert_checker.specs.declared.tree_judge.trees.Follow.{Follow}
use Rattle.cert_checker.specs.TreeJudge.Path.{path_ends, ways_behind, IsRootChain, IsWaiting, Pending, pending_way, root_pending, IsWalkAt, with_asked, EntersThrough, TakesNext}
use Rattle.cert_checker.specs.TreeJudge.Steps.{LetsWait}
use Rattle.cert_checker.proofs.TreeJudge.Ways.{waiting_same, waits_at}
use Rattle.math_base.proofs.Options.{some_is_not_none}

-- one portal more is open
abbrev pub deeper : Follow → ℕ → Follow
deeper f waiting = record { depth = f.depth + 1; root = f.root; asked = f.asked; waiting = waiting }

module _ (xs : List HalfEdge) (roots : List Root) (source : ℕ) (path : List Frame) (waits : List Wait) (f : Follow) (x : HalfEdge) where
  -- the ends of the open portals and of the half-edge's own
  abbrev ends : List EndPoints
  ends = path_ends (take (f.depth + 1) path)

  -- with one of the ways, or none
  abbrev behind : Option ℕ → Option ℕ → List Pending → List Pending
  behind left right ps = (pending_way ends left ++ pending_way ends right) ++ ps

  -- both lead on: the left one is asked, the right one waits
  pub enters_both : (left right : ℕ) (w : Wait) → f.depth < length path → f.depth < length waits → w.way ≡ right → w.before ≡ f.waiting → Some left ≡ way_outside xs source x.left_way → Some right ≡ way_outside xs source x.right_way
      → EntersThrough xs roots source path waits f x (set waits f.depth w) (deeper f (f.depth + 1)) (Some left)
  enters_both left right w near room way before l r = record {
    next = λ es ws c h n. record {
      es = es;
      ways = record { path = ends; edge = right } ∷ ws;
      chain = c;
      waiting = (
        w,
        (f.depth, refl, waits_at waits f.depth w room),
        omega (arith, near),
        ap (λ (e : ℕ). let u : Pending = record { path = ends; edge = e } in u) (sym way),
        omega (arith, before, n),
        subst (λ (k : ℕ). IsWaiting path (set waits f.depth w) k ws) (sym before) (waiting_same path path waits (set waits f.depth w) f.depth f.waiting ws refl (take-set waits f.depth w) n h),
      );
      nested = omega arith;
      all = sym (λ i. behind (l i) (r i) (ws ++ map root_pending es));
      last = λ e. absurd (some_is_not_none left e);
    };
    depth = λ _. omega arith;
  }

-- ---- by a step: the right way waits first

module _ (xs : List HalfEdge) (source : ℕ) (waits : List Wait) (f : Follow) (x : HalfEdge) where
  pub lets_wait : (right : ℕ) (w : Wait) → f.depth < length waits → w.way ≡ right → w.before ≡ f.waiting → Some right ≡ way_outside xs source x.right_way → LetsWait xs source x waits f (set waits f.depth w) (record { depth = f.depth; root = f.root; asked = f.asked; waiting = f.depth + 1 })
  lets_wait right w room way before r = record {
    waiting = λ path ws near n h. subst (λ (o : Option ℕ). IsWaiting path (set waits f.depth w) (f.depth + 1) (pending_way (path_ends (take (f.depth + 1) path)) o ++ ws)) r (
      w,
      (f.depth, refl, waits_at waits f.depth w room),
      omega (arith, near),
      ap (λ (e : ℕ). let u : Pending = record { path = path_ends (take (f.depth + 1) path); edge = e } in u) (sym way),
      omega (arith, before, n),
      subst (λ (k : ℕ). IsWaiting path (set waits f.depth w) k ws) (sym before) (waiting_same path path waits (set waits f.depth w) f.depth f.waiting ws refl (take-set waits f.depth w) n h),
    );
    nested = λ _. omega arith;
    depth = refl;
    root = refl;
  }

module _ (xs : List HalfEdge) (roots : List Root) (source : ℕ) (path : List Frame) (waits waits_new : List Wait) (f g : Follow) (x : HalfEdge) where
  -- the right way, if it leads out of the source
  abbrev waits_behind : List Pending
  waits_behind = pending_way (path_ends (take (f.depth + 1) path)) (way_outside xs source x.right_way)

  -- the left one is asked
  pub enters_by_left : (left : ℕ) → f.depth < length path → LetsWait xs source x waits f waits_new g → Some left ≡ way_outside xs source x.left_way → EntersThrough xs roots source path waits f x waits_new (record { depth = g.depth + 1; root = g.root; asked = g.asked; waiting = g.waiting }) (Some left)
  enters_by_left left near w l = record {
    next = λ es ws c h n. record {
      es = es;
      ways = waits_behind ++ ws;
      chain = subst (λ (o : Option ℕ). IsRootChain roots o es) (sym w.root) c;
      waiting = w.waiting path ws near n h;
      nested = let a : g.waiting ≤ f.depth + 1 = w.nested n in omega (arith, a, w.depth);
      all = first (ws ++ map root_pending es) ∙ ap (λ (us : List Pending). let u : Pending = record { path = path_ends (take (f.depth + 1) path); edge = left } in u ∷ us) (sym (append_assoc waits_behind ws (map root_pending es))) ∙ ap (λ (d : ℕ). let u : Pending = record { path = path_ends (take (d + 1) path); edge = left } in u ∷ ((waits_behind ++ ws) ++ map root_pending es)) (sym w.depth);
      last = λ e. absurd (some_is_not_none left e);
    };
    depth = λ _. omega (arith, w.depth);
  }
    where
      first : (ps : List Pending) → ways_behind xs source (path_ends (take (f.depth + 1) path)) x ++ ps ≡ (let u : Pending = record { path = path_ends (take (f.depth + 1) path); edge = left } in u ∷ (waits_behind ++ ps))
      first ps = ap (λ (o : Option ℕ). (pending_way (path_ends (take (f.depth + 1) path)) o ++ waits_behind) ++ ps) (sym l)

  -- or the last one that waits, or a root
  pub enters_by_next : (new : Follow) (asked : Option ℕ) → f.depth < length path → LetsWait xs source x waits f waits_new g → None ≡ way_outside xs source x.left_way → TakesNext roots path waits_new g new asked → EntersThrough xs roots source path waits f x waits_new new asked
  enters_by_next new asked near w l t = record {
    next = λ es ws c h n. subst (IsWalkAt roots path waits_new (with_asked new asked)) (append_assoc waits_behind ws (map root_pending es) ∙ ap (λ (o : Option ℕ). (pending_way (path_ends (take (f.depth + 1) path)) o ++ waits_behind) ++ (ws ++ map root_pending es)) l)
        (t.next es (waits_behind ++ ws) (subst (λ (o : Option ℕ). IsRootChain roots o es) (sym w.root) c) (w.waiting path ws near n h));
    depth = λ n. let a : g.waiting ≤ f.depth + 1 = w.nested n in let d : new.depth ≤ g.waiting = t.depth in omega (arith, a, d);
  }
