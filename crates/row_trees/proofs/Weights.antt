-- How much a walk may still try is told by its state, and becomes less with each step.
use Rattle.std.proofs.Common.{◌≡◌, ℕ, zero, suc, ◌+◌, ◌-◌, ◌*◌, ◌^◌, ◌<◌, ◌≤◌, List, [], ◌∷◌, ◌++◌, Option, Some, None, length, take, refl, ◌∙◌, ap, arith}
use Rattle.std.proofs.lemmas.List.{length-map, length-take-le}
use Rattle.std.proofs.Math.Nat.{pow-suc}
use Rattle.sight_names.specs.Splitting.{EndPoints}
use Rattle.cert_checker.specs.declared.tree_judge.roots.Root.{Root}
use Rattle.cert_checker.specs.declared.tree_judge.trees.Frame.{Frame}
use Rattle.cert_checker.specs.TreeJudge.Path.{portal_ends, path_ends, IsRootChain}
use Rattle.gate_floods.specs.declared.row_judge.follow.Wait.{Wait}
use Rattle.gate_floods.specs.declared.row_judge.walk.RowWalk.{RowWalk}
use Rattle.gate_floods.specs.RowJudge.Words.{row_in_words}
use Rattle.gate_floods.specs.RowJudge.Asked.{Pending, pending_way, pending_roots}
use Rattle.gate_floods.specs.RowJudge.Path.{AreWaiting}
use Rattle.gate_floods.specs.RowJudge.Judged.{StandsAt}
use Rattle.gate_floods.proofs.RowJudge.Roots.{chain_short}
use Rattle.row_trees.specs.Walkable.{Scene}
use Rattle.row_trees.specs.Left.{most, weight, weight_at, weight_of_asked, weight_of_waits, root_then, root_at_then, chain_of, row_walk_left}

-- ---- a chain of roots, by its places

pub chain_is : (roots : List Root) (n : ℕ) (o : Option ℕ) (es : List ℕ) → length es ≤ n → IsRootChain roots o es → chain_of roots n o ≡ es
chain_is roots zero o [] l c = refl
chain_is roots zero o (e ∷ es) l c = absurd (omega (arith, l))
chain_is roots (suc n) o [] l c = ap (chain_of roots (suc n)) c
chain_is roots (suc n) o (e ∷ es) l (k, r, at, is, same, more) =
    ap (λ (q : Option ℕ). root_at_then roots q (λ next. chain_of roots n next)) at
    ∙ ap (λ (q : Option Root). root_then q (λ next. chain_of roots n next)) is
    ∙ ap (λ (j : ℕ). j ∷ chain_of roots n r.next) same
    ∙ ap (λ (fs : List ℕ). e ∷ fs) (chain_is roots n r.next es (omega (arith, l)) more)

-- ---- weights

pub weight_join : (d : ℕ) (ps qs : List Pending) → weight d (ps ++ qs) ≡ weight d ps + weight d qs
weight_join d [] qs = omega arith
weight_join d (p ∷ ps) qs = let e : weight d (ps ++ qs) ≡ weight d ps + weight d qs = weight_join d ps qs in sums (weight_at d (length p.path)) (weight d (ps ++ qs)) (weight d ps) (weight d qs) e
  where
    sums : (x y u v : ℕ) → y ≡ u + v → x + y ≡ (x + u) + v
    sums x y u v e = omega (arith, e)

waits_join : (d : ℕ) (ws vs : List Wait) → weight_of_waits d (ws ++ vs) ≡ weight_of_waits d ws + weight_of_waits d vs
waits_join d [] vs = omega arith
waits_join d (w ∷ ws) vs = let e : weight_of_waits d (ws ++ vs) ≡ weight_of_waits d ws + weight_of_waits d vs = waits_join d ws vs in sums (weight_at d w.depth) (weight_of_waits d (ws ++ vs)) (weight_of_waits d ws) (weight_of_waits d vs) e
  where
    sums : (x y u v : ℕ) → y ≡ u + v → x + y ≡ (x + u) + v
    sums x y u v e = omega (arith, e)

-- the first portals of a path that is long enough
pub front_long : (path : List Frame) (k : ℕ) → k ≤ length path → length (path_ends (take k path)) ≡ k
front_long path k l = length-map (take k path) portal_ends ∙ length-take-le k path l

waits_weigh : (d : ℕ) (path : List Frame) (rows : List ℕ) (w : ℕ) (waits : List Wait) (depth r : ℕ) (ps : List Pending) → depth ≤ length path → AreWaiting path rows w waits depth r ps → weight_of_waits d waits ≡ weight d ps
waits_weigh d path rows w waits depth r [] l h = ap (weight_of_waits d) h
waits_weigh d path rows w waits depth r (p ∷ ps) l (front, x, split, low, low_too, this, more) =
    let rest : weight_of_waits d front ≡ weight d ps = waits_weigh d path rows w front x.depth x.row ps (omega (arith, l, low)) more in
    let both : weight_of_waits d waits ≡ weight_of_waits d front + weight_of_waits d (x ∷ []) = ap (weight_of_waits d) split ∙ waits_join d front (x ∷ []) in
    let here : weight_at d (length p.path) ≡ weight_at d x.depth = ap (weight_at d) (ap (λ (q : Pending). length q.path) this ∙ front_long path x.depth (omega (arith, l, low))) in
    sums (weight_of_waits d waits) (weight_of_waits d front) (weight_at d x.depth) (weight_at d (length p.path)) (weight d ps) both here rest
  where
    sums : (a b c e f : ℕ) → a ≡ b + (c + 0) → e ≡ c → b ≡ f → a ≡ e + f
    sums a b c e f g h k = omega (arith, g, h, k)

asked_weighs : (d : ℕ) (ends : List EndPoints) (row : List ℕ) (depth : ℕ) (o : Option ℕ) → length ends ≡ depth → weight d (pending_way ends row o) ≡ weight_of_asked d depth o
asked_weighs d ends row depth None e = refl
asked_weighs d ends row depth (Some i) e = let f : weight_at d (length ends) ≡ weight_at d depth = ap (weight_at d) e in omega (arith, f)

-- what the state says is what is still to be asked
pub remaining_is : (s : Scene) (first : List ℕ) (w : RowWalk) (ps : List Pending) → StandsAt s.masks first s.roots w ps → row_walk_left s w ≡ weight (most s) ps
remaining_is s first w ps a =
    let asked : weight d now ≡ weight_of_asked d w.follow.depth w.follow.asked = asked_weighs d (path_ends (take w.follow.depth w.path.items)) (row_in_words w.rows.items s.masks.width w.follow.row) w.follow.depth w.follow.asked (front_long w.path.items w.follow.depth a.depth_room) in
    let waits : weight_of_waits d w.waits.items ≡ weight d a.ways = waits_weigh d w.path.items w.rows.items s.masks.width w.waits.items w.follow.depth w.follow.row a.ways a.depth_room a.waiting in
    let chain : chain_of s.roots (length s.roots) w.follow.root ≡ a.es = chain_is s.roots (length s.roots) w.follow.root a.es (chain_short s.roots w.follow.root a.es a.chain) a.chain in
    let rest : weight d (pending_roots s.masks (row_in_words w.rows.items s.masks.width 0) (chain_of s.roots (length s.roots) w.follow.root)) ≡ weight d later = λ i. weight d (pending_roots s.masks (a.base i) (chain i)) in
    let all : weight d ps ≡ weight d now + (weight d a.ways + weight d later) = ap (weight d) a.all ∙ weight_join d now (a.ways ++ later) ∙ ap (λ (n : ℕ). weight d now + n) (weight_join d a.ways later) in
    sums (weight d now) (weight_of_asked d w.follow.depth w.follow.asked) (weight_of_waits d w.waits.items) (weight d a.ways) (weight d (pending_roots s.masks (row_in_words w.rows.items s.masks.width 0) (chain_of s.roots (length s.roots) w.follow.root))) (weight d later) (weight d ps) asked waits rest all
  where
    d : ℕ
    d = most s

    now : List Pending
    now = pending_way (path_ends (take w.follow.depth w.path.items)) (row_in_words w.rows.items s.masks.width w.follow.row) w.follow.asked

    later : List Pending
    later = pending_roots s.masks first a.es

    sums : (a b c e f g h : ℕ) → a ≡ b → c ≡ e → f ≡ g → h ≡ a + (e + g) → b + (c + f) ≡ h
    sums a b c e f g h i j k l = omega (arith, i, j, k, l)

-- ---- a step

pub weighs : (d k : ℕ) → 0 < weight_at d k
weighs d k = positive (d - k)
  where
    positive : (n : ℕ) → 0 < 3 ^ n
    positive zero = omega arith
    positive (suc n) = let e : 3 ^ suc n ≡ 3 ^ n * 3 = pow-suc 3 n in let l : 0 < 3 ^ n = positive n in omega (arith, e, l)

-- the two ways behind a half-edge weigh less than itself
pub ways_weigh_less : (d k : ℕ) → k < d → weight_at d (k + 1) + weight_at d (k + 1) < weight_at d k
ways_weigh_less d k l =
    let e : d - k ≡ suc (d - (k + 1)) = omega (arith, l) in
    let f : weight_at d k ≡ 3 ^ (d - (k + 1)) * 3 = ap (λ (n : ℕ). 3 ^ n) e ∙ pow-suc 3 (d - (k + 1)) in
    let p : 0 < weight_at d (k + 1) = weighs d (k + 1) in
    less (weight_at d k) (weight_at d (k + 1)) f p
  where
    less : (x y : ℕ) → x ≡ y * 3 → 0 < y → y + y < x
    less x y e l = omega (arith, e, l)
