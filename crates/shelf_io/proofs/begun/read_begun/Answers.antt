use Rattle.std.proofs.Common.{string_bytes, ap}
use Rattle.std.proofs.Math.Seq.{map-set_same}
use Rattle.shelf_io.proofs.begun.read_begun.Goals as goal

pub returns-clause-begun : goal.returns-clause-begun
returns-clause-begun g c = map-set_same (λ b. string_bytes b.name) c.args.begun.now c.in_ok-i.i c.read_one.new.one c.index-begun-i.result (ap string_bytes c.read_one.ensures.name)
