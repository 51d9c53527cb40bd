-- From what a judging keeps to what its verdict goes by.
use Rattle.std.proofs.Common.{◌≡◌, ℕ, ◌<◌, ◌≤◌, List, length, refl, sym, ◌∙◌, ap, subst, None}
use Rattle.std.proofs.lemmas.List.Elements.{All-from_recursion}
use Rattle.sight_names.specs.Limits.{most_triangles}
use Rattle.sight_names.specs.Mesh.{AreTriangles}
use Rattle.cert_format.specs.Grammar.{IsOneInOrder}
use Rattle.cert_format.specs.Parts.{CertParts}
use Rattle.cert_format.specs.declared.cert.Sizes.{Sizes}
use Rattle.cert_checker.specs.Apart.{triangles_in}
use Rattle.sight_names.specs.declared.names.Pair.{Pair}
use Rattle.sight_names.specs.declared.names.PairRay.{PairRay}
use Rattle.sight_names.specs.Plan.{PlanParts}
use Rattle.reject_bits.specs.Parts.{TableParts}
use Rattle.cert_format.specs.declared.cert.Labelled.{Labelled}
use Rattle.cert_format.specs.declared.cert_groups.cert.AnyCert.{AnyCert}
use Rattle.cert_format.specs.declared.cert_groups.cert.AnyCert.TheVariants.{One, Two}
use Rattle.certificates.specs.CertParts.Parts.{any_parts_of}
use Rattle.group_checker.specs.declared.verdict.AnyFault.{AnyFault}
use Rattle.group_checker.specs.declared.verdict.AnyVerdict.TheVariants.{No}
use Rattle.group_checker.specs.Judged.{JudgesAny}
use Rattle.cert_judge.specs.declared.judging.Judging.{Judging}
use Rattle.cert_judge.specs.declared.kept.Kept.{Kept}
use Rattle.cert_judge.specs.declared.on_ground.OnGround.{OnGround}
use Rattle.cert_judge.specs.declared.stage.Stage.TheVariants.{Gathering, Lost, Broken, Good}
use Rattle.cert_judge.specs.Heard.{PartsHeard, nothing_heard, closed_at, heard_from}
use Rattle.cert_judge.specs.Judging.{KeepsListingHeard, IsKeptWhole, HasHeardAll}
use Rattle.cert_judge.specs.OnGround.{IsOnGround}
use Rattle.cert_judge.specs.Stage.{AreFit, AreTrianglesInOrder, AreLabelledBelow, IsStage}
use Rattle.cert_judge.specs.Version.{Groups, groups_in, core_of}
use Rattle.cert_judge.specs.Whole.{HasLists, IsCertOf, IsJudgedOn}
use Rattle.cert_judge.proofs.AllHeard.{all_heard}

-- the triangles of a certificate are in order, and each is of one of its sectors
pub in_order_at : (points : ℕ) (c : CertParts) → IsOneInOrder c → c.sizes.points ≡ points → AreTrianglesInOrder points c.triangles
in_order_at points c w e = record {
  triangles = subst (λ (n : ℕ). AreTriangles n (triangles_in c.triangles)) e w.triangles;
  few = subst (λ (n : ℕ). length c.triangles ≤ most_triangles n) e w.few;
}

pub labelled_at : (count : ℕ) (c : CertParts) → IsOneInOrder c → c.sizes.sectors ≡ count → AreLabelledBelow count c.triangles
labelled_at count c w e = subst (λ (n : ℕ). AreLabelledBelow n c.triangles) e (All-from_recursion (λ (l : Labelled). l.sector < c.sizes.sectors) c.triangles w.sectors)

-- so no certificate is lost
fits : (p : PlanParts) (t : TableParts) (c : AnyCert) → IsCertOf p t c → AreFit (length p.points) (groups_in c) (core_of c).triangles
fits p t (One c) w = in_order_at (length p.points) c w.core (ap (λ (s : Sizes). s.points) w.sized)
fits p t (Two c sizes) w =
    let points : sizes.points ≡ length p.points = ap (λ (s : Sizes). s.points) w.sized in (
      in_order_at (length p.points) c.cert w.core (ap (λ (s : Sizes). s.points) w.in_order.grouped ∙ points),
      subst (λ (n : ℕ). length c.groups ≤ most_triangles n) points w.in_order.few,
      labelled_at (length c.groups) c.cert w.core (ap (λ (s : Sizes). s.sectors) w.in_order.grouped),
    )

module _ (p : PlanParts) (t : TableParts) (c : AnyCert) (k closed : Kept) (w : IsKeptWhole p t c k) (closes : (groups : Groups) (h : PartsHeard) → KeepsListingHeard p groups h k → KeepsListingHeard p groups (closed_at h) closed) where
  kept : KeepsListingHeard p (groups_in c) (closed_at w.heard) closed
  kept = closes (groups_in c) w.heard w.kept

  lists_of : (groups : Groups) (listed : List Pair) (rays : List PairRay) → groups ≡ closed.groups → listed ≡ closed.listed.items → rays ≡ closed.rays.items → HasLists p t c groups listed rays
  lists_of groups listed rays d e f = record { cert = w.cert; groups_are = d ∙ kept.groups_are; listed_is = e ∙ kept.listed ∙ w.all.listed; rays_are = f ∙ kept.rays ∙ w.all.rays }

  -- where mesh and groups are right
  pub judged_on : (g : OnGround) (groups : Groups) (listed : List Pair) (rays : List PairRay) → closed.stage ≡ Good g → groups ≡ closed.groups → listed ≡ closed.listed.items → rays ≡ closed.rays.items → IsJudgedOn p t c groups listed rays g
  judged_on g groups listed rays is d e f = record {
    lists = lists_of groups listed rays d e f;
    front = w.heard.front;
    tree = w.heard.tree;
    trees = w.all.trees;
    on = subst (λ (gs : Groups). IsOnGround p gs (core_of c).triangles (core_of c).rays w.heard.front w.heard.tree g) (sym (d ∙ kept.groups_are))
        (subst (λ (ls : List Labelled). IsOnGround p (groups_in c) ls (core_of c).rays w.heard.front w.heard.tree g) w.all.triangles
        (subst (λ (rs : List PairRay). IsOnGround p (groups_in c) w.heard.triangles rs w.heard.front w.heard.tree g) w.all.rays (subst (IsStage p (groups_in c) (closed_at w.heard)) is kept.stage).1));
  }

  -- where they break a rule
  pub broken_rule : (f : AnyFault) → closed.stage ≡ Broken f → JudgesAny p t c (No f)
  broken_rule f is = (subst (IsStage p (groups_in c) (closed_at w.heard)) is kept.stage).1 t c (record { groups_are = refl; triangles = sym w.all.triangles })

  pub not_gathering : closed.stage ≡ Gathering → ⊥
  not_gathering is = let fresh = subst (IsStage p (groups_in c) (closed_at w.heard)) is kept.stage in absurd (cc fresh.closed)

  pub not_lost : closed.stage ≡ Lost → ⊥
  not_lost is = (subst (IsStage p (groups_in c) (closed_at w.heard)) is kept.stage).1 (subst (AreFit (length p.points) (groups_in c)) (sym w.all.triangles) (fits p t c w.cert))

-- the groups of a certificate come with its parts
groups_with : (c : AnyCert) → (any_parts_of c).0 ≡ groups_in c
groups_with (One c) = refl
groups_with (Two c sizes) = refl

-- what a judging keeps that has heard all parts and isn't spent
pub kept_whole : (p : PlanParts) (t : TableParts) (c : AnyCert) (j : Judging) → HasHeardAll p t c j → j.spent ≡ None → IsKeptWhole j.plan.now j.table.now c j.kept
kept_whole p t c j w fine =
    let whole : IsKeptWhole p t c j.kept = record { cert = w.cert; heard = heard_from nothing_heard (any_parts_of c).1; all = all_heard c; kept = subst (λ (gs : Groups). KeepsListingHeard p gs (heard_from nothing_heard (any_parts_of c).1) j.kept) (groups_with c) (w.heard.kept fine) } in
    subst (λ (q : PlanParts). IsKeptWhole q j.table.now c j.kept) (sym w.heard.plan) (subst (λ (u : TableParts). IsKeptWhole p u c j.kept) (sym w.heard.table) whole)
