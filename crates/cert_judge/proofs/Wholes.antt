-- A certificate of version 1 or 2 whose parts all have come, and what its verdict goes by.
use Rattle.std.proofs.Common.{◌≡◌, ℕ, List, Some, None, length, refl, sym, ◌∙◌, ap}
use Rattle.std.proofs.lemmas.Option.{none-some, same_Some}
use Rattle.sight_names.specs.declared.names.Pair.{Pair}
use Rattle.sight_names.specs.declared.names.PairRay.{PairRay}
use Rattle.sight_names.specs.Map.{map_of}
use Rattle.sight_names.specs.Plan.{PlanParts}
use Rattle.cert_format.specs.declared.cert.Labelled.{Labelled}
use Rattle.cert_format.specs.declared.cert.Sizes.{Sizes}
use Rattle.cert_format.specs.Parts.{CertParts}
use Rattle.cert_format.specs.declared.cert_groups.cert.AnyCert.{AnyCert}
use Rattle.cert_format.specs.declared.cert_groups.cert.AnyCert.TheVariants.{One, Two}
use Rattle.cert_format.specs.declared.cert_groups.cert.CertTwo.{CertTwo}
use Rattle.reject_bits.specs.Parts.{TableParts}
use Rattle.cert_checker.specs.declared.tree_judge.judge.Reach.{Reach}
use Rattle.cert_checker.specs.Apart.{AreListsOf}
use Rattle.group_checker.specs.Judged.{AreListsOfTwo}
use Rattle.cert_judge.specs.declared.on_ground.OnGround.{OnGround}
use Rattle.cert_judge.specs.OnGround.{HasTriangles, plan_under}
use Rattle.cert_judge.specs.Version.{Groups, groups_in, core_of, plan_over}
use Rattle.cert_judge.specs.Whole.{HasReached, IsCertOf, IsHeardOver, IsJudgedOn, IsReachedOn}

-- the sectors of the certificate are those of the plan of its version
sectors_over : (p : PlanParts) (t : TableParts) (c : AnyCert) (ls : List Labelled) → IsCertOf p t c → (core_of c).sizes.sectors ≡ (plan_over p (groups_in c) ls).sectors
sectors_over p t (One c) ls w = ap (λ (z : Sizes). z.sectors) w.sized
sectors_over p t (Two c sizes) ls w = ap (λ (z : Sizes). z.sectors) w.in_order.grouped

sectors_with : (p over : PlanParts) (t : TableParts) (c : AnyCert) (groups : Groups) (ls : List Labelled) → IsCertOf p t c → groups ≡ groups_in c → over ≡ plan_over p groups ls → (core_of c).sizes.sectors ≡ over.sectors
sectors_with p over t c groups ls w e o = sectors_over p t c ls w ∙ ap (λ (q : PlanParts). q.sectors) (ap (λ (gs : Groups). plan_over p gs ls) (sym e) ∙ sym o)

module _ (p : PlanParts) (t : TableParts) (c : AnyCert) (groups : Groups) (listed : List Pair) (rays : List PairRay) (g : OnGround) (w : IsJudgedOn p t c groups listed rays g) where
  pub has_triangles : HasTriangles c groups (core_of c).triangles
  has_triangles = record { groups_are = sym w.lists.groups_are; triangles = refl }

  pub heard_over : IsHeardOver (plan_under p g) (core_of c) g.on
  heard_over = record {
    in_order = w.lists.cert.core;
    sectors = sectors_with p (plan_under p g) t c groups (core_of c).triangles w.lists.cert w.lists.groups_are w.on.over;
    counted = w.lists.cert.counted;
    front = w.front;
    tree = w.tree;
    trees = w.trees;
    on = w.on.on;
  }

  -- once it is known what the trees keep from
  pub reached_on : (reach : Reach) → HasReached (map_of (plan_under p g)) (core_of c) reach → IsReachedOn p (plan_under p g) t c groups listed rays reach
  reached_on reach r = record { lists = w.lists; over_is = w.on.over; reached = r }

-- ---- the judge of pairs of version 1

-- where there are no groups
pub record IsOfOne (p over : PlanParts) (t : TableParts) (c : AnyCert) (listed : List Pair) (rays : List PairRay) (reach : Reach) : Type 0 where
  pub one : CertParts
  pub is : c ≡ One one
  pub size : t.n ≡ over.sectors
  pub lists : AreListsOf over.sectors listed rays
  pub listed_is : one.listed ≡ listed
  pub rays_are : one.rays ≡ rays
  pub reached : HasReached (map_of over) one reach

pub of_one : (p over : PlanParts) (t : TableParts) (c : AnyCert) (groups : Groups) (listed : List Pair) (rays : List PairRay) (reach : Reach) → groups ≡ None → IsReachedOn p over t c groups listed rays reach → IsOfOne p over t c listed rays reach
of_one p over t (One c) groups listed rays reach none w =
    let same : over ≡ p = w.over_is ∙ ap (λ (gs : Groups). plan_over p gs c.triangles) none in
    let sectors = sectors_with p over t (One c) groups c.triangles w.lists.cert w.lists.groups_are w.over_is in
    record {
      one = c;
      is = refl;
      size = w.lists.cert.table ∙ sym (ap (λ (q : PlanParts). q.sectors) same);
      lists = record { cert = c; in_order = w.lists.cert.core; sectors = sectors; listed_is = w.lists.listed_is; rays_are = w.lists.rays_are };
      listed_is = sym w.lists.listed_is;
      rays_are = sym w.lists.rays_are;
      reached = w.reached;
    }
of_one p over t (Two c sizes) groups listed rays reach none w = absurd (none-some c.groups (sym none ∙ w.lists.groups_are))

-- ---- and of version 2

pub record IsOfTwo (p over : PlanParts) (t : TableParts) (c : AnyCert) (groups : List (List ℕ)) (listed : List Pair) (rays : List PairRay) (reach : Reach) : Type 0 where
  pub two : CertTwo
  pub sizes : Sizes
  pub is : c ≡ Two two sizes
  pub over_groups : over.sectors ≡ length groups
  pub lists : AreListsOfTwo t.n groups listed rays
  pub groups_are : two.groups ≡ groups
  pub listed_is : two.listed ≡ listed
  pub rays_are : two.cert.rays ≡ rays
  pub reached : HasReached (map_of over) two.cert reach

pub of_two : (p over : PlanParts) (t : TableParts) (c : AnyCert) (gs : Groups) (groups : List (List ℕ)) (listed : List Pair) (rays : List PairRay) (reach : Reach) → gs ≡ Some groups → IsReachedOn p over t c gs listed rays reach → IsOfTwo p over t c groups listed rays reach
of_two p over t (One c) gs groups listed rays reach some w = absurd (none-some groups (sym w.lists.groups_are ∙ some))
of_two p over t (Two c sizes) gs groups listed rays reach some w =
    let same : groups ≡ c.groups = same_Some groups c.groups (sym some ∙ w.lists.groups_are) in
    record {
      two = c;
      sizes = sizes;
      is = refl;
      over_groups = ap (λ (q : PlanParts). q.sectors) (w.over_is ∙ ap (λ (xs : Groups). plan_over p xs c.cert.triangles) some);
      lists = record { cert = c; two = (sizes, w.lists.cert.in_order, ap (λ (z : Sizes). z.sectors) w.lists.cert.sized ∙ sym w.lists.cert.table); groups_are = same; listed_is = w.lists.listed_is; rays_are = w.lists.rays_are };
      groups_are = sym same;
      listed_is = sym w.lists.listed_is;
      rays_are = sym w.lists.rays_are;
      reached = w.reached;
    }
