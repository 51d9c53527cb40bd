use Rattle.triangulate.proofs.GroupLaws.WholeLaws.{groups_are_map, groups_are_sound as lemma_sound, groups_have_mesh}
use Rattle.triangulate.proofs.group_laws.laws.groups_are_sound.Goals as goal

pub returns : goal.returns
returns c = λ p ts h groups g its. record { is_map = groups_are_map p h.plan h.faces ts h.mesh groups its.are g its.is; sound = lemma_sound p h.plan h.faces ts h.mesh groups its.are g its.is; mesh = groups_have_mesh p h.plan h.faces ts h.mesh groups its.are g its.is }
