use Rattle.std.proofs.Common.{length}
use Rattle.udmf_text.specs.Parts.{stage_bytes}
use Rattle.udmf_map.specs.Reading.{read_of}
use Rattle.udmf_map.proofs.OnWay.{OnWay}
use Rattle.udmf_map.proofs.reading.read_parts.Given as goal

abbrev pub invariant-loop-found : goal.invariant-loop-found
invariant-loop-found l = record { way : OnWay l.text (stage_bytes l.stage) l.rest (read_of l.read) }

abbrev pub decreases-loop-found : goal.decreases-loop-found
decreases-loop-found l = length l.rest
