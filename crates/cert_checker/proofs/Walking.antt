-- From what is told of rays and trees to a verdict.
use Rattle.std.proofs.Common.{◌≡◌, ℕ, List, length, subst}
use Rattle.sight_names.specs.declared.faults.CheckFault.{CheckFault}
use Rattle.sight_names.specs.declared.faults.CheckFault.TheVariants.{Mesh, Ray, Tree as OfTree, ListedSet, Unproved, Uncovered}
use Rattle.sight_names.specs.declared.names.Pair.{Pair}
use Rattle.sight_names.specs.declared.names.PairRay.{PairRay}
use Rattle.sight_names.specs.Map.{Map}
use Rattle.cert_format.specs.Parts.{CertParts}
use Rattle.reject_bits.specs.Parts.{TableParts}
use Rattle.cert_checker.specs.declared.tree_judge.judge.Reach.{Reach}
use Rattle.cert_checker.specs.declared.tree_judge.judge.TreeVerdict.{TreeVerdict}
use Rattle.cert_checker.specs.declared.tree_judge.judge.TreeVerdict.TheVariants.{Whole, Wrong as WrongTree}
use Rattle.cert_checker.specs.TreeJudge.Trees.{TellsTrees}
use Rattle.cert_checker.specs.declared.verdict.Verdict.TheVariants.{No}
use Rattle.cert_checker.specs.Judged.{IsLaterVerdict, IsRayFaultOf, JudgesPairsBy, JudgesRays, JudgesTrees}
use Rattle.cert_checker.specs.Rays.{AreSightRaysBelow, IsFirstRayFault}
use Rattle.cert_checker.specs.declared.judge.Walked.{Walked}
use Rattle.cert_checker.specs.declared.judge.Walked.TheVariants.{Right, Wrong}
use Rattle.cert_checker.specs.Walked.{IsWalkFault, TellsWalked}

module _ (m : Map) (c : CertParts) (rays : List PairRay) (same : rays ≡ c.rays) where
  pub ray_told : (f : CheckFault) → IsRayFaultOf f → IsFirstRayFault m rays f → TellsWalked m c (Wrong f)
  ray_told (Ray a b why) kind first = (tt, subst (λ (rs : List PairRay). IsFirstRayFault m rs (Ray a b why)) same first, tt)
  ray_told (Mesh x) kind first = absurd kind
  ray_told (OfTree s n) kind first = absurd kind
  ray_told (ListedSet a b) kind first = absurd kind
  ray_told (Unproved a b) kind first = absurd kind
  ray_told (Uncovered a b) kind first = absurd kind

  rays_told : AreSightRaysBelow m rays (length rays) → AreSightRaysBelow m c.rays (length c.rays)
  rays_told all = subst (λ (rs : List PairRay). AreSightRaysBelow m rs (length rs)) same all

  pub whole_told : AreSightRaysBelow m rays (length rays) → (v : TreeVerdict) (reach : Reach) → v ≡ Whole reach → TellsTrees m c v → TellsWalked m c (Right reach)
  whole_told all v reach e told = (rays_told all, subst (TellsTrees m c) e told)

  pub wrong_told : AreSightRaysBelow m rays (length rays) → (v : TreeVerdict) (s n : ℕ) → v ≡ WrongTree s n → TellsTrees m c v → TellsWalked m c (Wrong (OfTree s n))
  wrong_told all v s n e told = (tt, rays_told all, subst (TellsTrees m c) e told)

-- ---- a fault of a ray or of a tree as the verdict

module _ (m : Map) (c : CertParts) (w : Walked) (f : CheckFault) (is : w ≡ Wrong f) (told : TellsWalked m c w) where
  fault_told : TellsWalked m c (Wrong f)
  fault_told = subst (TellsWalked m c) is told

  pub later_at_walks : IsLaterVerdict (No f)
  later_at_walks = by f fault_told.0
    where
      by : (g : CheckFault) → IsWalkFault g → IsLaterVerdict (No g)
      by (Ray a b why) kind = tt
      by (OfTree s n) kind = tt
      by (Mesh x) kind = absurd kind
      by (ListedSet a b) kind = tt
      by (Unproved a b) kind = tt
      by (Uncovered a b) kind = tt

  pub rays_at_walks : JudgesRays m c (No f)
  rays_at_walks = fault_told.1

  pub trees_at_walks : JudgesTrees m c (No f)
  trees_at_walks = fault_told.2

  -- by whatever groups pairs are judged
  pub pairs_at_walks : (g : Map) (In : ℕ → ℕ → Type 0) (t : TableParts) (pairs : List Pair) (d : CertParts) → JudgesPairsBy g In t pairs d (No f)
  pairs_at_walks g In t pairs d = by f fault_told.0
    where
      by : (h : CheckFault) → IsWalkFault h → JudgesPairsBy g In t pairs d (No h)
      by (Ray a b why) kind = tt
      by (OfTree s n) kind = tt
      by (Mesh x) kind = absurd kind
      by (ListedSet a b) kind = absurd kind
      by (Unproved a b) kind = absurd kind
      by (Uncovered a b) kind = absurd kind
