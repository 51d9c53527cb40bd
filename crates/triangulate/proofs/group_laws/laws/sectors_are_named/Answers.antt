use Rattle.triangulate.proofs.GroupLaws.WholeLaws.{list_is_named}
use Rattle.triangulate.proofs.group_laws.laws.sectors_are_named.Goals as goal

pub returns : goal.returns
returns c = λ p ts h. list_is_named p h.plan h.faces ts h.mesh
