use Rattle.std.proofs.Common.{string_bytes, ap, ◌∙◌}
use Rattle.std.proofs.Math.Seq.{map-set_same}
use Rattle.shelf_io.proofs.begun.flush_all.Goals as goal

pub loop-i-preserved : goal.loop-i-preserved
loop-i-preserved g c = map-set_same (λ b. string_bytes b.name) c.loop-i.begun _ c.flush.new.one c.index-begun-i.result (ap string_bytes c.flush.ensures) ∙ c.loop-i.invariant

pub returns-in_err-flush : goal.returns-in_err-flush
returns-in_err-flush g c = map-set_same (λ b. string_bytes b.name) c.loop-i.begun _ c.flush.new.one c.index-begun-i.result (ap string_bytes c.flush.ensures) ∙ c.loop-i.invariant
