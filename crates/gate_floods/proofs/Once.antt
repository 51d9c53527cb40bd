-- Of a list of nodes at most one beginning is a tree that keeps by rows: nodes are read in one pass.
use Rattle.std.proofs.Common.{◌≡◌, ℕ, List, [], ◌∷◌, ◌++◌, Option, Some, None, inl, inr, sym, ap, ◌∙◌, subst}
use Rattle.std.specs.List.{last_or}
use Rattle.std.proofs.lemmas.List.{append_assoc}
use Rattle.sight_names.specs.declared.names.Side.{Side}
use Rattle.sight_names.specs.declared.names.Triangle.{Triangle}
use Rattle.sight_names.specs.Map.{Map}
use Rattle.sight_names.specs.Mesh.{label_of}
use Rattle.sight_names.specs.Sequence.{Portal, Left, Right, way_out, apex, roots}
use Rattle.block_evidence.specs.declared.Evidence.{Evidence}
use Rattle.block_evidence.specs.declared.sight_tree.Node.{Node}
use Rattle.block_evidence.specs.declared.sight_tree.Node.TheVariants.{Open, Blocked}
use Rattle.block_evidence.specs.SightTree.WholeTree.{HasNoNode, HasNode}
use Rattle.math_base.proofs.Options.{some_is_same}
use Rattle.gate_floods.specs.Rows.{AnswersUnskipped, no_node, skipped, blocked, open_node, RootsAsked, IsEmptyRow, HasRow, EntersNone}
use Rattle.gate_floods.specs.Exact.{IsClaimedBlind, IsOwned}
use Rattle.gate_floods.specs.Laws.{TreesAreReadOnce}

same_tail : (x y : Node) (xs ys : List Node) → x ∷ xs ≡ y ∷ ys → xs ≡ ys
same_tail x y xs ys e = cc

same_head : (x y : Node) (xs ys : List Node) → x ∷ xs ≡ y ∷ ys → x ≡ y
same_head x y xs ys e = cc

not_blocked : (e : Evidence) (xs ys : List Node) → Blocked e ∷ xs ≡ Open ∷ ys → ⊥
not_blocked e xs ys h = cc

both : (ns us rest ms vs more : List Node) → ns ≡ us → ms ≡ vs → ns ++ rest ≡ ms ++ more → us ++ rest ≡ vs ++ more
both ns us rest ms vs more e f h = sym (ap (λ (xs : List Node). xs ++ rest) e) ∙ h ∙ ap (λ (xs : List Node). xs ++ more) f

module _ (m : Map) (ts : List Triangle) (ls : List (Option ℕ)) (a : ℕ) (Skips Asks Enters : List Portal → Type 0) (never : (ps : List Portal) → Skips ps → Asks ps → ⊥) where
  abbrev Answered : List Portal → List Node → Type 0
  Answered ps ns = AnswersUnskipped m ts ls a Skips Asks Enters ps ns

  clash : (ps : List Portal) (p q : Portal) (k : ℕ) → last_or None ps ≡ Some p → HasNoNode m ts ls a p → HasNode m ts ls a ps q k → ⊥
  clash ps p q k last none has = by (subst (HasNoNode m ts ls a) (some_is_same p q (sym last ∙ has.last)) none)
    where
      by : HasNoNode m ts ls a q → ⊥
      by (inl wall) = has.no_wall wall
      by (inr (j, into, label)) = has.outside (ap (label_of ls) (some_is_same k j (sym has.entered ∙ into)) ∙ label)

  once : (ps : List Portal) (ns rest ms more : List Node) → Answered ps ns → Answered ps ms → ns ++ rest ≡ ms ++ more → (ns ≡ ms) × (rest ≡ more)
  once ps ns rest ms more (no_node p last none e) (no_node q last2 none2 f) h = (e ∙ sym f, both ns [] rest ms [] more e f h)
  once ps ns rest ms more (no_node p last none e) (skipped q k2 has2 skips2 f) h = absurd (clash ps p q k2 last none has2)
  once ps ns rest ms more (no_node p last none e) (blocked q k2 e2 has2 asks2 blocks2 f) h = absurd (clash ps p q k2 last none has2)
  once ps ns rest ms more (no_node p last none e) (open_node q k2 t2 left2 right2 has2 asks2 enters2 third2 l2 r2 f) h = absurd (clash ps p q k2 last none has2)
  once ps ns rest ms more (skipped p k has skips f) (no_node q last2 none2 g) h = absurd (clash ps q p k last2 none2 has)
  once ps ns rest ms more (skipped p k has skips f) (skipped q k2 has2 skips2 g) h = (f ∙ sym g, both ns [] rest ms [] more f g h)
  once ps ns rest ms more (skipped p k has skips f) (blocked q k2 e2 has2 asks2 blocks2 g) h = absurd (never ps skips asks2)
  once ps ns rest ms more (skipped p k has skips f) (open_node q k2 t2 left2 right2 has2 asks2 enters2 third2 l2 r2 g) h = absurd (never ps skips asks2)
  once ps ns rest ms more (blocked p k e has asks blocks f) (no_node q last2 none2 g) h = absurd (clash ps q p k last2 none2 has)
  once ps ns rest ms more (blocked p k e has asks blocks f) (skipped q k2 has2 skips2 g) h = absurd (never ps skips2 asks)
  once ps ns rest ms more (blocked p k e has asks blocks f) (blocked q k2 e2 has2 asks2 blocks2 g) h =
      let x = both ns (Blocked e ∷ []) rest ms (Blocked e2 ∷ []) more f g h in
      (f ∙ ap (λ (n : Node). n ∷ []) (same_head (Blocked e) (Blocked e2) rest more x) ∙ sym g, same_tail (Blocked e) (Blocked e2) rest more x)
  once ps ns rest ms more (blocked p k e has asks blocks f) (open_node q k2 t2 left2 right2 has2 asks2 enters2 third2 l2 r2 g) h = absurd (not_blocked e rest ((left2 ++ right2) ++ more) (both ns (Blocked e ∷ []) rest ms (Open ∷ (left2 ++ right2)) more f g h))
  once ps ns rest ms more (open_node p k t left right has asks enters third l r f) (no_node q last2 none2 g) h = absurd (clash ps q p k last2 none2 has)
  once ps ns rest ms more (open_node p k t left right has asks enters third l r f) (skipped q k2 has2 skips2 g) h = absurd (never ps skips2 asks)
  once ps ns rest ms more (open_node p k t left right has asks enters third l r f) (blocked q k2 e2 has2 asks2 blocks2 g) h = absurd (not_blocked e2 more ((left ++ right) ++ rest) (sym (both ns (Open ∷ (left ++ right)) rest ms (Blocked e2 ∷ []) more f g h)))
  once ps ns rest ms more (open_node p k t left right has asks enters third l r f) (open_node q k2 t2 left2 right2 has2 asks2 enters2 third2 l2 r2 g) h =
      let same : q ≡ p = some_is_same q p (sym has2.last ∙ has.last) in
      let tip : t2 ≡ t = some_is_same t2 t (sym third2 ∙ ap (apex ts) same ∙ third) in
      let x = same_tail Open Open ((left ++ right) ++ rest) ((left2 ++ right2) ++ more) (both ns (Open ∷ (left ++ right)) rest ms (Open ∷ (left2 ++ right2)) more f g h) in
      let y : left ++ (right ++ rest) ≡ left2 ++ (right2 ++ more) = sym (append_assoc left right rest) ∙ x ∙ append_assoc left2 right2 more in
      let l3 : Answered (ps ++ way_out p Left t ∷ []) left2 = subst (λ (z : ℕ). Answered (ps ++ way_out p Left z ∷ []) left2) tip (subst (λ (z : Portal). Answered (ps ++ way_out z Left t2 ∷ []) left2) same l2) in
      let r3 : Answered (ps ++ way_out p Right t ∷ []) right2 = subst (λ (z : ℕ). Answered (ps ++ way_out p Right z ∷ []) right2) tip (subst (λ (z : Portal). Answered (ps ++ way_out z Right t2 ∷ []) right2) same r2) in
      let u = once (ps ++ way_out p Left t ∷ []) left (right ++ rest) left2 (right2 ++ more) l l3 y in
      let v = once (ps ++ way_out p Right t ∷ []) right rest right2 more r r3 u.1 in
      (f ∙ ap (λ (xs : List Node). Open ∷ (xs ++ right)) u.0 ∙ ap (λ (xs : List Node). Open ∷ (left2 ++ xs)) v.0 ∙ sym g, v.1)

  pub roots_once : (ss : List Side) (ns rest ms more : List Node) → RootsAsked m ts ls a Skips Asks Enters ss ns → RootsAsked m ts ls a Skips Asks Enters ss ms → ns ++ rest ≡ ms ++ more → (ns ≡ ms) × (rest ≡ more)
  roots_once [] ns rest ms more e f h = (e ∙ sym f, both ns [] rest ms [] more e f h)
  roots_once (s ∷ ss) ns rest ms more (p, front, back, is, f, here, behind) (q, front2, back2, is2, g, here2, behind2) h =
      let same : q ≡ p = some_is_same q p (sym is2 ∙ is) in
      let x : front ++ (back ++ rest) ≡ front2 ++ (back2 ++ more) = sym (append_assoc front back rest) ∙ both ns (front ++ back) rest ms (front2 ++ back2) more f g h ∙ append_assoc front2 back2 more in
      let u = once (p ∷ []) front (back ++ rest) front2 (back2 ++ more) here (subst (λ (z : Portal). Answered (z ∷ []) front2) same here2) x in
      let v = roots_once ss back rest back2 more behind behind2 u.1 in
      (f ∙ ap (λ (xs : List Node). xs ++ back) u.0 ∙ ap (λ (xs : List Node). front2 ++ xs) v.0 ∙ sym g, v.1)

pub trees_are_read_once : TreesAreReadOnce
trees_are_read_once rank g ts ls cert f ns rest ms more h k e =
    (roots_once g ts ls f (IsEmptyRow g (IsClaimedBlind g cert) (IsOwned rank (IsClaimedBlind g cert) f)) (HasRow g (IsClaimedBlind g cert) (IsOwned rank (IsClaimedBlind g cert) f)) (EntersNone g ts ls (IsClaimedBlind g cert) (IsOwned rank (IsClaimedBlind g cert) f))
    (λ ps empty some. empty some.0 some.1) (roots g f) ns rest ms more h k e).0
