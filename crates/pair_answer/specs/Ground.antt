-- What is asked of that over which sources are walked.
use Rattle.std.specs.Prelude.{◌≡◌, length}
use Rattle.sight_names.specs.Map.{map_of}
use Rattle.sight_names.specs.Mesh.{IsGoodMesh}
use Rattle.sight_names.specs.Sound.{LinesMeetAtEnds}
use Rattle.portal_walk.specs.Terrain.{IsTerrain}
use Rattle.pair_answer.specs.declared.ground.Ground.{Ground}

-- a good labelled mesh of a map whose lines meet at ends, with its terrain
pub record IsAnswerGround (j : Ground) : Type 0 where
  pub points : j.mesh.now.points ≡ length j.plan.now.points
  pub audited : LinesMeetAtEnds (map_of j.plan.now)
  pub good : IsGoodMesh (map_of j.plan.now) j.mesh.now.triangles j.labels.now
  pub terrain : IsTerrain j.plan.now j.mesh.now.triangles j.labels.now j.terrain.now
