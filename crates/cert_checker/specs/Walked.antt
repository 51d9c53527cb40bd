-- What is told of rays and trees over a good mesh.
use Rattle.std.specs.Prelude.{length}
use Rattle.sight_names.specs.declared.faults.CheckFault.{CheckFault}
use Rattle.sight_names.specs.declared.faults.CheckFault.TheVariants.{Ray, Tree as OfTree}
use Rattle.sight_names.specs.Map.{Map}
use Rattle.cert_format.specs.Parts.{CertParts}
use Rattle.cert_checker.specs.declared.tree_judge.judge.TreeVerdict.TheVariants.{Whole}
use Rattle.cert_checker.specs.TreeJudge.Trees.{TellsTrees}
use Rattle.cert_checker.specs.declared.verdict.Verdict.TheVariants.{No}
use Rattle.cert_checker.specs.Judged.{JudgesRays, JudgesTrees}
use Rattle.cert_checker.specs.Rays.{AreSightRaysBelow}
use Rattle.cert_checker.specs.declared.judge.Walked.{Walked}
use Rattle.cert_checker.specs.declared.judge.Walked.TheVariants.{Right, Wrong}

-- a fault of a ray or of a tree
abbrev pub IsWalkFault : CheckFault → Type 0
IsWalkFault (Ray a b f) = Unit {0}
IsWalkFault (OfTree s n) = Unit {0}
IsWalkFault _ = ⊥

-- each ray is a sight ray of its pair and each tree is whole, and it is told what the trees keep from; or the first fault is told
abbrev pub TellsWalked : Map → CertParts → Walked → Type 0
TellsWalked m c (Right reach) = AreSightRaysBelow m c.rays (length c.rays) × TellsTrees m c (Whole reach)
TellsWalked m c (Wrong f) = IsWalkFault f × JudgesRays m c (No f) × JudgesTrees m c (No f)
