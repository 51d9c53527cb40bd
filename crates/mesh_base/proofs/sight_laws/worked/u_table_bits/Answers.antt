use Rattle.std.proofs.Common.{refl}
use Rattle.mesh_base.proofs.sight_laws.worked.u_table_bits.Goals as goal

pub returns : goal.returns
returns c = (refl, refl, refl, refl)
