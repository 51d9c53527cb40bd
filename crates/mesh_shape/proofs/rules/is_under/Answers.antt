use Rattle.std.proofs.Common.{arith}
use Rattle.std.proofs.lemmas.Int.{ints, to_z-of_z}
use Rattle.mesh_shape.proofs.rules.is_under.Goals as goal

pub returns : goal.returns
returns c = (λ h. let a = c.all.ensures.0 h in let x = a.0 in let y = a.1 in let z = a.2 in (grind (arith, to_z-of_z, ints), grind (arith, to_z-of_z, ints), grind (arith, to_z-of_z, ints)), λ h. let x = h.0 in let y = h.1 in let z = h.2 in c.all.ensures.1 (grind (arith, to_z-of_z, ints), grind (arith, to_z-of_z, ints), grind (arith, to_z-of_z, ints)))
