-- The value that contracts see of a Mesh: how many points it stands on, and its triangles in order.
use Rattle.std.specs.Prelude.{ℕ, List}
use Rattle.sight_names.specs.declared.names.Triangle.{Triangle}

pub record MeshParts : Type 0 where
  pub points : ℕ
  pub triangles : List Triangle
