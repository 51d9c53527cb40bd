-- The nodes that a walk answers.
use Rattle.std.specs.Prelude.{List}
use Rattle.sight_names.specs.declared.names.EndPair.{EndPair}
use Rattle.block_evidence.specs.declared.sight_tree.Node.{Node}
use Rattle.block_evidence.specs.declared.sight_tree.Node.TheVariants.{Open, Blocked}
use Rattle.block_evidence.specs.Stuck.{IsEvidenceOf}

-- an open node, or one that is blocked by ends of some pairs that are stuck
abbrev pub IsNodeAnswered : Node → Type 0
IsNodeAnswered Open = Unit {0}
IsNodeAnswered (Blocked e) = (pairs : List EndPair) × IsEvidenceOf pairs e
