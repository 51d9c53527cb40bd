use Rattle.triangulate.proofs.GroupLaws.WholeLaws.{has_grouped_mesh}
use Rattle.triangulate.proofs.group_laws.laws.groups_exist.Goals as goal

pub returns : goal.returns
returns c = λ p ts h. let x = has_grouped_mesh p h.plan h.faces ts h.mesh in record { groups = x.groups; g = x.g; its = record { are = x.are; is = x.is }; labels = x.ls; labelled = x.labels; good = x.good }
