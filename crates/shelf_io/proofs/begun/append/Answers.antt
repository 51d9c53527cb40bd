use Rattle.std.proofs.Common.{string_bytes, ap}
use Rattle.std.proofs.Math.Seq.{map-set_same}
use Rattle.shelf_io.proofs.begun.append.Goals as goal

pub returns-in-Some : goal.returns-in-Some
returns-in-Some g c = map-set_same (λ b. string_bytes b.name) c.args.begun.now c.in-Some.i c.add.new.one c.index-begun-i.result (ap string_bytes c.add.ensures)
