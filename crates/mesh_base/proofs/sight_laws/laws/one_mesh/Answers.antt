use Rattle.sight_names.proofs.OneMesh.{one_mesh as lemma_one_mesh}
use Rattle.mesh_base.proofs.sight_laws.laws.one_mesh.Goals as goal

pub returns : goal.returns
returns c = lemma_one_mesh
