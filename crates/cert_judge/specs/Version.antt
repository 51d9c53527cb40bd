-- Versions 1 and 2 of a certificate: one with groups is of version 2, one without of version 1.
use Rattle.std.specs.Prelude.{ℕ, List, Option, Some, None, length}
use Rattle.sight_names.specs.declared.names.Pair.{Pair}
use Rattle.sight_names.specs.Map.{Map}
use Rattle.sight_names.specs.Plan.{PlanParts}
use Rattle.cert_format.specs.declared.cert.Labelled.{Labelled}
use Rattle.cert_format.specs.Parts.{CertParts}
use Rattle.cert_format.specs.declared.cert_groups.cert.AnyCert.{AnyCert}
use Rattle.cert_format.specs.declared.cert_groups.cert.AnyCert.TheVariants.{One, Two}
use Rattle.reject_bits.specs.Parts.{TableParts}
use Rattle.face_groups.specs.Regrouped.{regrouped_plan}
use Rattle.cert_checker.specs.declared.verdict.Verdict.{Verdict}
use Rattle.cert_checker.specs.Apart.{triangles_in, labels_in}
use Rattle.cert_checker.specs.Judged.{JudgesPairs}
use Rattle.group_checker.specs.Judged.{TellsPairsOfTwo}

-- the groups of a certificate of version 2
abbrev pub Groups : Type 0
Groups = Option (List (List ℕ))

abbrev pub groups_in : AnyCert → Groups
groups_in (One c) = None
groups_in (Two c sizes) = Some c.groups

-- the triangles, rays and trees; in version 2 its sectors are the groups
abbrev pub core_of : AnyCert → CertParts
core_of (One c) = c
core_of (Two c sizes) = c.cert

-- the listed pairs, of sectors of the map in version 1 or 2
abbrev pub listed_in : AnyCert → List Pair
listed_in (One c) = c.listed
listed_in (Two c sizes) = c.listed

-- the plan over which mesh, rays and trees are judged: that of the map, or the one whose sectors are the groups
abbrev pub plan_over : PlanParts → Groups → List Labelled → PlanParts
plan_over p None ls = p
plan_over p (Some groups) ls = regrouped_plan (triangles_in ls) (labels_in ls) (length groups) p

-- what a verdict says of the pairs of sectors, where the trees are those of that map
abbrev pub TellsPairsAny : Map → TableParts → AnyCert → Verdict → Type 0
TellsPairsAny m t (One c) v = JudgesPairs m t c v
TellsPairsAny m t (Two c sizes) v = TellsPairsOfTwo m t c v
