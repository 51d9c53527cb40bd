-- What is still to be asked by a walk out of whose rows bits were taken.
use Rattle.std.proofs.Common.{◌≡◌, ℕ, ◌+◌, ◌≤◌, inl, inr, List, [], ◌∷◌, ◌++◌, Option, Some, None, Bool, true, false, length, take, if◌then◌else◌, refl, sym, ◌∙◌, ap, subst, arith}
use Rattle.std.specs.List.{AllByRecursion}
use Rattle.math_base.proofs.Bools.{not_both_values}
use Rattle.sight_names.specs.Splitting.{EndPoints}
use Rattle.cert_checker.specs.declared.tree_judge.roots.Root.{Root}
use Rattle.cert_checker.specs.declared.tree_judge.trees.Frame.{Frame}
use Rattle.cert_checker.specs.TreeJudge.Path.{path_ends}
use Rattle.gate_floods.specs.RowJudge.Masks.{MaskRows}
use Rattle.gate_floods.specs.declared.row_judge.follow.Wait.{Wait}
use Rattle.gate_floods.specs.declared.row_judge.follow.RowFollow.{RowFollow}
use Rattle.gate_floods.specs.declared.row_judge.walk.RowWalk.{RowWalk}
use Rattle.gate_floods.specs.RowJudge.Words.{row_in_words}
use Rattle.gate_floods.specs.RowJudge.Asked.{Pending, pending_way, pending_roots, with_rest, leaves, mask_of_edge}
use Rattle.gate_floods.specs.RowJudge.Path.{waiting_way, AreWaiting, IsRowWalkAt}
use Rattle.gate_floods.specs.RowJudge.Judged.{StandsAt}
use Rattle.row_trees.specs.Thinner.{IsRowWithin, AreThinner, SameButRows, IsThinned, AreThinned}
use Rattle.row_trees.specs.Left.{weight, weight_at}
use Rattle.row_trees.proofs.Thin.{thinner_row, leaves_more}

-- ---- lists of what is to be asked

pub thinned_same : (ps : List Pending) → AreThinned ps ps
thinned_same [] = refl
thinned_same (p ∷ ps) = inl (p, ps, refl, record { path = refl; edge = refl; row = λ c h. h }, thinned_same ps)

one_through : (p q r : Pending) → IsThinned p q → IsThinned q r → IsThinned p r
one_through p q r f g = record { path = g.path ∙ f.path; edge = g.edge ∙ f.edge; row = λ c h. f.row c (g.row c h) }

pub tail_same : (p q : Pending) (ps qs us : List Pending) → us ≡ p ∷ ps → us ≡ q ∷ qs → ps ≡ qs
tail_same p q ps qs us e f = cc

pub no_head : (p : Pending) (ps us : List Pending) → us ≡ [] → us ≡ p ∷ ps → ⊥
no_head p ps us e f = cc

pub thinned_through : (ps qs rs : List Pending) → AreThinned ps qs → AreThinned qs rs → AreThinned ps rs
thinned_through [] qs rs f g = subst (λ (us : List Pending). AreThinned us rs) f g
thinned_through (p ∷ ps) qs rs (inr f) g = inr (thinned_through ps qs rs f g)
thinned_through (p ∷ ps) qs rs (inl (q, rest, e, t, m)) g = on (subst (λ (us : List Pending). AreThinned us rs) e g) (λ us n. thinned_through ps rest us m n)
  where
    on : AreThinned (q ∷ rest) rs → ((us : List Pending) → AreThinned rest us → AreThinned ps us) → AreThinned (p ∷ ps) rs
    on (inl (r, more, h, u, n)) later = inl (r, more, h, one_through p q r t u, later more n)
    on (inr n) later = inr (later rs n)

thinned_join : (ps qs us vs : List Pending) → AreThinned ps qs → AreThinned us vs → AreThinned (ps ++ us) (qs ++ vs)
thinned_join [] qs us vs f g = subst (λ (os : List Pending). AreThinned us (os ++ vs)) (sym f) g
thinned_join (p ∷ ps) qs us vs (inl (q, rest, e, t, m)) g = inl (q, rest ++ vs, ap (λ (os : List Pending). os ++ vs) e, t, thinned_join ps rest us vs m g)
thinned_join (p ∷ ps) qs us vs (inr m) g = inr (thinned_join ps qs us vs m g)

pub all_thinned : (P : Pending → Type 0) → ((p q : Pending) → IsThinned p q → P p → P q) → (ps qs : List Pending) → AreThinned ps qs → AllByRecursion P ps → AllByRecursion P qs
all_thinned P keep [] qs f h = subst (AllByRecursion P) (sym f) h
all_thinned P keep (p ∷ ps) qs (inl (q, rest, e, t, m)) h = subst (AllByRecursion P) (sym e) (keep p q t h.0, all_thinned P keep ps rest m h.1)
all_thinned P keep (p ∷ ps) qs (inr m) h = all_thinned P keep ps qs m h.1

pub weight_thinned : (d : ℕ) (ps qs : List Pending) → AreThinned ps qs → weight d qs ≤ weight d ps
weight_thinned d [] qs f = let e : weight d qs ≡ 0 = ap (weight d) f in omega (arith, e)
weight_thinned d (p ∷ ps) qs (inl (q, rest, e, t, m)) =
    let a : weight d qs ≡ weight_at d (length q.path) + weight d rest = ap (weight d) e in
    let b : weight_at d (length q.path) ≡ weight_at d (length p.path) = ap (λ (es : List EndPoints). weight_at d (length es)) t.path in
    let l : weight d rest ≤ weight d ps = weight_thinned d ps rest m in
    most (weight d qs) (weight_at d (length q.path)) (weight_at d (length p.path)) (weight d rest) (weight d ps) a b l
  where
    most : (x y z u v : ℕ) → x ≡ y + u → y ≡ z → u ≤ v → x ≤ z + v
    most x y z u v a b l = omega (arith, a, b, l)
weight_thinned d (p ∷ ps) qs (inr m) = let l : weight d qs ≤ weight d ps = weight_thinned d ps qs m in more (weight d qs) (weight d ps) (weight_at d (length p.path)) l
  where
    more : (x y z : ℕ) → x ≤ y → x ≤ z + y
    more x y z l = omega (arith, l)

-- ---- the roots, and the ways that wait

rest_if : (ms : MaskRows) (row : List ℕ) (e : ℕ) (b : Bool) → leaves row (mask_of_edge ms e) ≡ b → with_rest ms row e ≡ (let o : Option ℕ = if b then Some e else None in o)
rest_if ms row e b h = ap (λ (c : Bool). let o : Option ℕ = if c then Some e else None in o) h

one_root : (ms : MaskRows) (first later : List ℕ) → IsRowWithin later first → (e : ℕ) (us vs : List Pending) → AreThinned us vs → AreThinned (pending_way [] first (with_rest ms first e) ++ us) (pending_way [] later (with_rest ms later e) ++ vs)
one_root ms first later in' e us vs m = by (leaves first (mask_of_edge ms e)) (leaves later (mask_of_edge ms e)) refl refl
  where
    put : (b c : Bool) → leaves first (mask_of_edge ms e) ≡ b → leaves later (mask_of_edge ms e) ≡ c
        → AreThinned (pending_way [] first (let o : Option ℕ = if b then Some e else None in o) ++ us) (pending_way [] later (let o : Option ℕ = if c then Some e else None in o) ++ vs)
        → AreThinned (pending_way [] first (with_rest ms first e) ++ us) (pending_way [] later (with_rest ms later e) ++ vs)
    put b c f g h = subst (λ (o : Option ℕ). AreThinned (pending_way [] first o ++ us) (pending_way [] later (with_rest ms later e) ++ vs)) (sym (rest_if ms first e b f))
        (subst (λ (o : Option ℕ). AreThinned (pending_way [] first (let o : Option ℕ = if b then Some e else None in o) ++ us) (pending_way [] later o ++ vs)) (sym (rest_if ms later e c g)) h)

    by : (b c : Bool) → leaves first (mask_of_edge ms e) ≡ b → leaves later (mask_of_edge ms e) ≡ c → AreThinned (pending_way [] first (with_rest ms first e) ++ us) (pending_way [] later (with_rest ms later e) ++ vs)
    by true true f g = put true true f g (inl (record { path = []; row = later; edge = e }, vs, refl, record { path = refl; edge = refl; row = in' }, m))
    by true false f g = put true false f g (inr m)
    by false true f g = absurd (not_both_values (leaves first (mask_of_edge ms e)) (leaves_more later first (mask_of_edge ms e) in' g) f)
    by false false f g = put false false f g m

roots_thinned : (ms : MaskRows) (first later : List ℕ) → IsRowWithin later first → (es : List ℕ) → AreThinned (pending_roots ms first es) (pending_roots ms later es)
roots_thinned ms first later in' [] = refl
roots_thinned ms first later in' (e ∷ es) = one_root ms first later in' e (pending_roots ms first es) (pending_roots ms later es) (roots_thinned ms first later in' es)

waiting_thinned : (path : List Frame) (rows thin : List ℕ) → AreThinner rows thin → (w : ℕ) (waits : List Wait) (d r : ℕ) (ps : List Pending) → AreWaiting path rows w waits d r ps → (qs : List Pending) × AreWaiting path thin w waits d r qs × AreThinned ps qs
waiting_thinned path rows thin t w waits d r [] h = ([], h, refl)
waiting_thinned path rows thin t w waits d r (p ∷ ps) (front, x, split, low, low_too, this, more) =
    let m = waiting_thinned path rows thin t w front x.depth x.row ps more in
    let q : Pending = waiting_way path thin w x in (
      q ∷ m.0,
      (front, x, split, low, low_too, refl, m.1),
      inl (
        q,
        m.0,
        refl,
        record {
          path = sym (ap (λ (u : Pending). u.path) this);
          edge = sym (ap (λ (u : Pending). u.edge) this);
          row = subst (λ (u : Pending). IsRowWithin q.row u.row) (sym this) (thinner_row rows thin t w x.row);
        },
        m.2,
      ),
    )

asked_thinned : (ends : List EndPoints) (row thin : List ℕ) → IsRowWithin thin row → (o : Option ℕ) → AreThinned (pending_way ends row o) (pending_way ends thin o)
asked_thinned ends row thin in' None = refl
asked_thinned ends row thin in' (Some i) = inl (record { path = ends; row = thin; edge = i }, [], refl, record { path = refl; edge = refl; row = in' }, refl)

-- ---- the walk

at_thinned : (ms : MaskRows) (first : List ℕ) (roots : List Root) (path : List Frame) (rows thin : List ℕ) (waits : List Wait) (f : RowFollow) (ps : List Pending) → AreThinner rows thin → IsRowWalkAt ms first roots path rows waits f ps
    → (qs : List Pending) × IsRowWalkAt ms (row_in_words thin ms.width 0) roots path thin waits f qs × AreThinned ps qs
at_thinned ms first roots path rows thin waits f ps t a = (
  qs,
  record {
    es = a.es;
    ways = m.0;
    chain = a.chain;
    base = refl;
    waiting = m.1;
    depth_room = a.depth_room;
    row_room = let l : length thin ≡ length rows = t.len in let k : f.row + ms.width ≤ length rows = a.row_room in omega (arith, l, k);
    all = refl;
    last = λ none. subst (λ (us : List Pending). AreThinned us qs) (a.last none) thinned;
  },
  thinned,
)
  where
    later : List ℕ
    later = row_in_words thin ms.width 0

    m : (qs : List Pending) × AreWaiting path thin ms.width waits f.depth f.row qs × AreThinned a.ways qs
    m = waiting_thinned path rows thin t ms.width waits f.depth f.row a.ways a.waiting

    qs : List Pending
    qs = pending_way (path_ends (take f.depth path)) (row_in_words thin ms.width f.row) f.asked ++ (m.0 ++ pending_roots ms later a.es)

    thinned : AreThinned ps qs
    thinned = subst (λ (us : List Pending). AreThinned us qs) (sym a.all)
        (thinned_join (pending_way (path_ends (take f.depth path)) (row_in_words rows ms.width f.row) f.asked) (pending_way (path_ends (take f.depth path)) (row_in_words thin ms.width f.row) f.asked) (a.ways ++ pending_roots ms first a.es) (m.0 ++ pending_roots ms later a.es)
        (asked_thinned (path_ends (take f.depth path)) (row_in_words rows ms.width f.row) (row_in_words thin ms.width f.row) (thinner_row rows thin t ms.width f.row) f.asked)
        (thinned_join a.ways m.0 (pending_roots ms first a.es) (pending_roots ms later a.es) m.2 (roots_thinned ms first later (subst (IsRowWithin later) a.base (thinner_row rows thin t ms.width 0)) a.es)))

-- the walk with thinner rows
pub stands_thinned : (ms : MaskRows) (first : List ℕ) (roots : List Root) (old new : RowWalk) (ps : List Pending) → SameButRows old new → AreThinner old.rows.items new.rows.items → StandsAt ms first roots old ps
    → (later : List ℕ) × (qs : List Pending) × StandsAt ms later roots new qs × AreThinned ps qs × IsRowWithin later first
stands_thinned ms first roots old new ps same t a =
    let m = at_thinned ms first roots old.path.items old.rows.items new.rows.items old.waits.items old.follow ps t a in (
      row_in_words new.rows.items ms.width 0,
      m.0,
      rw (same.path, same.waits, same.follow) m.1,
      m.2,
      subst (IsRowWithin (row_in_words new.rows.items ms.width 0)) a.base (thinner_row old.rows.items new.rows.items t ms.width 0),
    )
