-- A walk that has counted the sequences that it has opened has at its end counted all stabbable ones; no count is above the
-- budget that is enough.
use Rattle.std.proofs.Common.{◌≡◌, ℕ, ◌+◌, ◌<◌, ◌≤◌, ◌^◌, ◌↔◌, max, arith, refl, sym, ap, ◌∙◌, subst, inl, inr, List, [], ◌∷◌, ◌++◌, length, length-append, map, Option, Some, slice_get}
use Rattle.std.proofs.lemmas.List.{append-nil}
use Rattle.sight_names.specs.declared.limits.TheConstants.{MOST_TRIANGLES}
use Rattle.sight_names.specs.declared.names.Budget.TheVariants.{Of}
use Rattle.sight_names.specs.declared.names.Side.{Side}
use Rattle.sight_names.specs.declared.names.Triangle.{Triangle}
use Rattle.sight_names.specs.Enough.{enough_of, passable_lines}
use Rattle.sight_names.specs.Map.{Map, map_of}
use Rattle.sight_names.specs.Mesh.{IsGoodMesh}
use Rattle.sight_names.specs.Plan.{PlanParts, IsPlan}
use Rattle.sight_names.specs.Points.{points_of}
use Rattle.sight_names.specs.Sequence.{Sequence, roots}
use Rattle.sight_names.specs.Found.{IsStabbableSequence, Spent}
use Rattle.sight_names.proofs.PlanNumbers.{count_of_plan}
use Rattle.block_evidence.specs.declared.Evidence.{Evidence}
use Rattle.block_evidence.specs.declared.sight_tree.Node.{Node}
use Rattle.block_evidence.specs.declared.sight_tree.Node.TheVariants.{Open as OpenNode, Blocked as BlockedNode}
use Rattle.sight_lift.specs.SequenceLaws.Ways.{root_alone, both_ways_on}
use Rattle.sight_lift.proofs.SequenceLaws.All.{stand_in_order}
use Rattle.sight_lift.proofs.SequenceLaws.Roots.{begins}
use Rattle.sight_lift.proofs.SequenceLaws.UnderWay.{IsUnderWay, passes_all, passes_blocked, opens, all_opened}
use Rattle.portal_walk.proofs.Lists.{get_more}
use Rattle.portal_walk.specs.Walk.{WalkParts, SameWalk, AnswersSequence, BlocksPending, LeadsPending, Ends, pending}
use Rattle.sight_lift.proofs.EnoughBase.Counts.{few_of_source}
use Rattle.sight_lift.proofs.EnoughBase.Orders.{ascending_differ}
use Rattle.sight_lift.proofs.EnoughBase.PlanBound.{few_passable, product as third_product}
use Rattle.portal_walk.specs.EnoughBudget.Need.{HasSequences}
use Rattle.math_base.proofs.Lists.{all_of as all_of_contains}

-- ---- the numbers

-- with few lines, points and triangles the budget that is enough is far below the greatest number
pub enough_below : (p : PlanParts) → IsPlan p → (ts : List Triangle) → length ts ≤ MOST_TRIANGLES → enough_of (map_of p) ts ≤ 2 ^ 58
enough_below p is ts few =
    let v = count_of_plan p is in
    let f = is.few_points in
    let e = third_product (passable_lines (map_of p)) (length (points_of (map_of p))) (length ts) (few_passable p is) (omega (arith, v, f)) few in
    omega (arith, e)

below_greater : (n p : ℕ) → n ≤ p → n ≤ max 1 p
below_greater n p h = omega (arith, h)

module _ (m : Map) (ts : List Triangle) (ls : List (Option ℕ)) (a : ℕ) where
  -- as many sequences were opened as were counted
  pub record HasCounted (ss : List Sequence) (count : ℕ) : Type 0 where
    pub opened : List Sequence
    pub under_way : IsUnderWay m ts ls a opened ss
    pub count_is : length opened ≡ count

  -- no more than enough, at any time
  pub counted_few : IsGoodMesh m ts ls → (ss : List Sequence) (count : ℕ) → HasCounted ss count → count ≤ enough_of m ts
  counted_few good ss count h =
      let few = few_of_source m ts ls good.plain.triangles good.plain.turn a h.opened (ascending_differ h.opened h.under_way.ascend) (all_of_contains (IsStabbableSequence m ts ls a) h.opened h.under_way.each) in
      subst (λ (n : ℕ). n ≤ enough_of m ts) h.count_is (below_greater _ _ few)

  counted_begun : HasCounted (map root_alone (roots m a)) 0
  counted_begun = record { opened = []; under_way = begins m ts ls a; count_is = refl }

  counted_all : (count : ℕ) → HasCounted [] count → HasSequences m ts ls a count
  counted_all count h = (h.opened, record { ascend = h.under_way.ascend; exactly = λ s. (h.under_way.each s, all_opened m ts ls a h.opened h.under_way s) }, h.count_is)

  -- ---- what the number of all sequences says

  pub sequences_few : IsGoodMesh m ts ls → (n : ℕ) → HasSequences m ts ls a n → n ≤ enough_of m ts
  sequences_few good n (all, are, count) =
      let few = few_of_source m ts ls good.plain.triangles good.plain.turn a all (ascending_differ all are.ascend) (all_of_contains (IsStabbableSequence m ts ls a) all (λ s c. (are.exactly s).0 c)) in
      subst (λ (k : ℕ). k ≤ enough_of m ts) count (below_greater _ _ few)

  pub spent_below : IsGoodMesh m ts ls → (n budget : ℕ) → HasSequences m ts ls a n → Spent m ts ls a (Of budget) ↔ (budget < n)
  spent_below good n budget (all, are, count) =
      let o = stand_in_order m ts ls a good in
      subst (λ (k : ℕ). Spent m ts ls a (Of budget) ↔ (budget < k)) (ap length (sym (o.only all are)) ∙ count) (o.spent budget)

-- ---- over a walk

abbrev pub Counted : WalkParts → ℕ → Type 0
Counted w count = HasCounted (map_of w.plan) w.mesh.triangles w.labels w.source (pending w) count

pub begin : (w : WalkParts) → pending w ≡ map root_alone (roots (map_of w.plan) w.source) → Counted w 0
begin w first = subst (λ (ss : List Sequence). HasCounted (map_of w.plan) w.mesh.triangles w.labels w.source ss 0) (sym first) (counted_begun (map_of w.plan) w.mesh.triangles w.labels w.source)

-- the roots of the walk's plan are pending at its beginning
pub first_pending : (w : WalkParts) (p : PlanParts) (a : ℕ) → w.plan ≡ p → w.source ≡ a → pending w ≡ map root_alone (roots (map_of p) a) → pending w ≡ map root_alone (roots (map_of w.plan) w.source)
first_pending w p a e f first = first ∙ sym (λ i. map root_alone (roots (map_of (e i)) (f i)))

moved : (old new : WalkParts) (ss : List Sequence) (count : ℕ) → SameWalk old new → HasCounted (map_of old.plan) old.mesh.triangles old.labels old.source ss count → HasCounted (map_of new.plan) new.mesh.triangles new.labels new.source ss count
moved old new ss count k h = rw (k.plan, k.mesh, k.labels, k.source) h

module _ (old new : WalkParts) (count : ℕ) (h : Counted old count) where
  abbrev Way : List Sequence → Type 0
  Way ss = IsUnderWay (map_of old.plan) old.mesh.triangles old.labels old.source h.opened ss

  -- what was passed over is no sequence
  way_to : (s : Sequence) (node : Node) (more : List Sequence) (step : AnswersSequence old new s node more) → Way (s ∷ step.rest)
  way_to s node more step = passes_all (map_of old.plan) old.mesh.triangles old.labels old.source h.opened step.skipped (s ∷ step.rest) (subst Way step.first h.under_way) step.none

  pub blocked : SameWalk old new → (e : Evidence) → BlocksPending old new e → Counted new count
  blocked same e b =
      moved old new (pending new) count same
      (subst (λ (ss : List Sequence). HasCounted (map_of old.plan) old.mesh.triangles old.labels old.source ss count) (sym b.answers.next) (record {
        opened = h.opened;
        under_way = passes_blocked (map_of old.plan) old.mesh.triangles old.labels old.source h.opened b.sequence b.answers.rest (way_to b.sequence (BlockedNode e) [] b.answers) b.blocked.portals b.blocked.sequence b.blocked.stuck;
        count_is = h.count_is;
      }))

  pub opened_one : SameWalk old new → (k : ℕ) (entered : Option Side) → LeadsPending old new k entered → Counted new (count + 1)
  opened_one same k entered o =
      moved old new (pending new) (count + 1) same
      (subst (λ (ss : List Sequence). HasCounted (map_of old.plan) old.mesh.triangles old.labels old.source ss (count + 1)) (sym o.answers.next) (record {
        opened = h.opened ++ o.sequence ∷ [];
        under_way = opens (map_of old.plan) old.mesh.triangles old.labels old.source h.opened o.sequence o.answers.rest (way_to o.sequence OpenNode (both_ways_on o.sequence) o.answers)
            (o.opened.before ++ o.opened.last ∷ [], o.opened.sequence, o.opened.stabbable);
        count_is = length-append h.opened (o.sequence ∷ []) ∙ ap (λ (n : ℕ). n + 1) h.count_is;
      }))

  pub ended : Ends old new → HasSequences (map_of old.plan) old.mesh.triangles old.labels old.source count
  ended e = counted_all (map_of old.plan) old.mesh.triangles old.labels old.source count (record {
    opened = h.opened;
    under_way = passes_all (map_of old.plan) old.mesh.triangles old.labels old.source h.opened (pending old) [] (subst Way (sym (append-nil (pending old))) h.under_way) e.past;
    count_is = h.count_is;
  })

-- the number of the walk's source is that of the source over its map, mesh and labels
pub sequences_at : (w : WalkParts) (p : PlanParts) (ts : List Triangle) (ls : List (Option ℕ)) (a count : ℕ) → w.plan ≡ p → w.mesh.triangles ≡ ts → w.labels ≡ ls → w.source ≡ a
    → HasSequences (map_of w.plan) w.mesh.triangles w.labels w.source count → HasSequences (map_of p) ts ls a count
sequences_at w p ts ls a count e f g k h = rw (sym e, sym f, sym g, sym k) h

-- while it walks, its count is no more than enough
pub count_few : (w : WalkParts) (p : PlanParts) (ts : List Triangle) (ls : List (Option ℕ)) (a count : ℕ) → w.plan ≡ p → w.mesh.triangles ≡ ts → w.labels ≡ ls → w.source ≡ a → Counted w count
    → IsGoodMesh (map_of p) ts ls → count ≤ enough_of (map_of p) ts
count_few w p ts ls a count e f g k h good = counted_few (map_of p) ts ls a good (pending w) count (over_these p ts ls a e f g k)
  where
    over_these : (p : PlanParts) (ts : List Triangle) (ls : List (Option ℕ)) (a : ℕ) → w.plan ≡ p → w.mesh.triangles ≡ ts → w.labels ≡ ls → w.source ≡ a → HasCounted (map_of p) ts ls a (pending w) count
    over_these p ts ls a e f g k = rw (sym e, sym f, sym g, sym k) h

-- ---- the greatest number

-- ---- one more number

pub one_more_number : (m : Map) (ts : List Triangle) (ls : List (Option ℕ)) (ns : List ℕ) (a k : ℕ) → length ns ≡ a → HasSequences m ts ls a k → ((b n : ℕ) → slice_get ns b ≡ Some n → HasSequences m ts ls b n)
    → (b n : ℕ) → slice_get (ns ++ k ∷ []) b ≡ Some n → HasSequences m ts ls b n
one_more_number m ts ls ns a k count one all b n there = elim (get_more ns k b n there) as (λ _. HasSequences m ts ls b n) [
  | inl here ↦ subst (λ (c : ℕ). HasSequences m ts ls c n) (sym (here.0 ∙ count)) (subst (HasSequences m ts ls a) (sym here.1) one)
  | inr before ↦ all b n before
]

pub one_longer : (ns : List ℕ) (k n : ℕ) → length ns ≡ n → length (ns ++ k ∷ []) ≡ n + 1
one_longer ns k n e = length-append ns (k ∷ []) ∙ ap (λ (j : ℕ). j + 1) e
