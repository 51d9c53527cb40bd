-- From what a judging keeps to what its verdict goes by.
use Rattle.std.proofs.Common.{◌≡◌, ℕ, ◌≤◌, List, [], ◌∷◌, ◌++◌, Bool, true, false, if◌then◌else◌, length, get_or, refl, sym, ◌∙◌, ap, subst}
use Rattle.std.proofs.lemmas.List.Elements.{All-from_recursion}
use Rattle.sight_names.specs.Limits.{most_triangles}
use Rattle.sight_names.specs.declared.limits.TheConstants.{MOST_TRIANGLES}
use Rattle.sight_names.specs.declared.names.PairRay.{PairRay}
use Rattle.sight_names.specs.Plan.{PlanParts}
use Rattle.reject_bits.specs.Parts.{TableParts}
use Rattle.cert_format.specs.declared.cert.Labelled.{Labelled}
use Rattle.cert_format.specs.Grammar.{IsRayInRange}
use Rattle.cert_format.specs.declared.cert.Sizes.{Sizes}
use Rattle.cert_checker.specs.Pairs.{IsPairWithin}
use Rattle.cert_judge.proofs.Keeping.{in_order_at, labelled_at}
use Rattle.cert_checker.specs.declared.verdict.Verdict.{Verdict}
use Rattle.certificates.specs.declared.cert_exact.cert.ExactParts.{ExactParts}
use Rattle.certificates.specs.CertExact.Grammar.{as_two}
use Rattle.certificates.specs.ExactParts.Parts.{parts_of_exact}
use Rattle.group_checker.specs.declared.verdict.AnyFault.{AnyFault}
use Rattle.group_checker.specs.declared.verdict.AnyVerdict.TheVariants.{No}
use Rattle.group_checker.specs.Judged.{any_of}
use Rattle.group_checker.proofs.OneMap.{few_groups}
use Rattle.exact_checker.specs.Judged.{IsThreeFor, JudgesThree}
use Rattle.any_judge.specs.declared.exact_judge.judging.Judging.{Judging}
use Rattle.any_judge.specs.declared.exact_judge.stage.Stage.{Stage}
use Rattle.any_judge.specs.declared.exact_judge.stage.Stage.TheVariants.{Gathering, Lost, Broken, Walking}
use Rattle.any_judge.specs.declared.exact_judge.trees.RowTrees.{RowTrees}
use Rattle.any_judge.specs.ExactJudge.Heard.{Groups, ExactHeard, nothing_exact, closed_at, heard_from, with_ray, with_triangle}
use Rattle.any_judge.specs.ExactJudge.Judging.{HasHeardAll, IsCertOf, KeepsExactHeard}
use Rattle.any_judge.specs.ExactJudge.Stage.{AreFit, IsRightOver, IsStage, IsWalking}
use Rattle.any_judge.specs.ExactJudge.Trees.{Begun, HasHeardRowTrees, all_begun, begun_all}
use Rattle.any_judge.proofs.ExactJudge.AllHeard.{IsAllOf, all_heard}

-- a stage is told of the plan and the groups that are the same
pub stage_moved : (p q : PlanParts) (gs hs : Groups) (h : ExactHeard) (s : Stage) → p ≡ q → gs ≡ hs → IsStage p gs h s → IsStage q hs h s
stage_moved p q gs hs h s e f k = subst (λ (x : PlanParts). IsStage x hs h s) e (subst (λ (xs : Groups). IsStage p xs h s) f k)

-- ---- a triangle or a ray comes late

kept_as : {X : Type 0} (b : Bool) (x y : X) → b ≡ true → (if b then x else y) ≡ x
kept_as true x y e = refl
kept_as false x y e = absurd (cc)

closed_of : (p : PlanParts) (groups : Groups) (h : ExactHeard) (s : Stage) → (s ≡ Gathering → ⊥) → IsStage p groups h s → h.closed ≡ true
closed_of p groups h Gathering other k = absurd (other refl)
closed_of p groups h Lost other k = k.0
closed_of p groups h (Broken f) other k = k.0
closed_of p groups h (Walking trees) other k = k.0

module _ (p : PlanParts) (t : TableParts) (groups : Groups) (h : ExactHeard) (j : Judging) (other : j.stage ≡ Gathering → ⊥) (k : KeepsExactHeard p t groups h j) where
  is_closed : h.closed ≡ true
  is_closed = closed_of p groups h j.stage other k.stage

  pub triangle_late : (one : Labelled) → KeepsExactHeard p t groups (with_triangle one h) j
  triangle_late one =
      let same : with_triangle one h ≡ h = ap (λ (ts : List Labelled). let g : ExactHeard = record { triangles = ts; closed = h.closed; rays = h.rays; trees = h.trees } in g) (kept_as h.closed h.triangles (h.triangles ++ one ∷ []) is_closed) in
      subst (λ (g : ExactHeard). KeepsExactHeard p t groups g j) (sym same) k

  pub ray_late : (one : PairRay) → KeepsExactHeard p t groups (with_ray one h) j
  ray_late one =
      let same : with_ray one h ≡ h = ap (λ (rs : List PairRay). let g : ExactHeard = record { triangles = h.triangles; closed = h.closed; rays = rs; trees = h.trees } in g) (kept_as h.closed h.rays (h.rays ++ one ∷ []) is_closed) in
      subst (λ (g : ExactHeard). KeepsExactHeard p t groups g j) (sym same) k

-- ---- at the end

-- a certificate of a plan may have its groups, triangles and rays
fits : (p : PlanParts) (c : ExactParts) → IsThreeFor p c → AreFit (length p.points) c.groups c.triangles c.rays
fits p c w =
    let two = w.two.in_order in
    let core = (as_two c).cert in
    let sectors : core.sizes.sectors ≡ length c.groups = ap (λ (s : Sizes). s.sectors) two.grouped in
    record {
      order = in_order_at (length p.points) core two.in_order (ap (λ (s : Sizes). s.points) two.grouped ∙ w.two.points);
      few = subst (λ (n : ℕ). length c.groups ≤ most_triangles n) w.two.points two.few;
      labels = labelled_at (length c.groups) core two.in_order sectors;
      rays_within = λ k d lt. subst (λ (n : ℕ). IsPairWithin n (get_or c.rays k d).pair) sectors (All-from_recursion (IsRayInRange core.sizes) c.rays two.in_order.rays k d lt).0;
    }

-- once all parts of a certificate were heard, and triangles and rays are judged
module _ (p : PlanParts) (t : TableParts) (c : ExactParts) (j closed : Judging) (w : HasHeardAll p t c j) (closes : (q : PlanParts) (u : TableParts) (groups : Groups) (h : ExactHeard) → KeepsExactHeard q u groups h j → KeepsExactHeard q u groups (closed_at h) closed) where
  abbrev heard : ExactHeard
  heard = heard_from nothing_exact (parts_of_exact c)

  all : IsAllOf c heard
  all = all_heard c

  kept : KeepsExactHeard p t c.groups (closed_at heard) closed
  kept = closes p t c.groups heard w.heard

  pub few_groups_in : (groups : Groups) → groups ≡ closed.groups → length groups ≤ MOST_TRIANGLES
  few_groups_in groups e = few_groups p (as_two c) w.cert.cert.two groups (e ∙ kept.groups_are)

  -- where mesh, groups and rays are right
  walking : (trees : RowTrees) → closed.stage ≡ Walking trees → IsWalking p c.groups c.triangles c.rays heard.trees trees
  walking trees is = subst (λ (ls : List Labelled). IsWalking p c.groups ls c.rays heard.trees trees) all.triangles
      (subst (λ (rs : List PairRay). IsWalking p c.groups heard.triangles rs heard.trees trees) all.rays (subst (IsStage p c.groups (closed_at heard)) is kept.stage).1)

  pub walking_told : (trees : RowTrees) (groups : Groups) (v : Verdict) → closed.stage ≡ Walking trees → groups ≡ closed.groups
      → ((over : PlanParts) (b : Begun) → IsCertOf p closed.table.now c → c.groups ≡ groups → IsRightOver p over c.groups c.triangles c.rays trees.ground → HasHeardRowTrees b trees → all_begun (begun_all (length c.trees) b) ≡ c.trees → JudgesThree p closed.table.now c (any_of v))
      → JudgesThree p t c (any_of v)
  walking_told trees groups v is e told =
      let on = walking trees is in
      subst (λ (u : TableParts). JudgesThree p u c (any_of v)) kept.table
      (told on.over heard.trees (subst (λ (u : TableParts). IsCertOf p u c) (sym kept.table) w.cert) (sym (e ∙ kept.groups_are)) on.right on.heard all.trees)

  -- where they break a rule
  pub broken_rule : (f : AnyFault) → closed.stage ≡ Broken f → JudgesThree p t c (No f)
  broken_rule f is = (subst (IsStage p c.groups (closed_at heard)) is kept.stage).1 t c (record { cert = w.cert.cert; table = w.cert.table; groups_are = refl; triangles = sym all.triangles; rays_are = sym all.rays })

  -- and no certificate is lost
  pub not_gathering : closed.stage ≡ Gathering → ⊥
  not_gathering is = let fresh = subst (IsStage p c.groups (closed_at heard)) is kept.stage in absurd (cc fresh.closed)

  pub not_lost : closed.stage ≡ Lost → ⊥
  not_lost is = (subst (IsStage p c.groups (closed_at heard)) is kept.stage).1
      (subst (λ (ls : List Labelled). AreFit (length p.points) c.groups ls heard.rays) (sym all.triangles)
      (subst (AreFit (length p.points) c.groups c.triangles) (sym all.rays) (fits p c w.cert.cert)))
