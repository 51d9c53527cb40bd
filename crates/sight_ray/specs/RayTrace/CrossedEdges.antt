-- The crossed edges of the walk as portals between point numbers.
use Rattle.sight_names.specs.Sequence.{Portal}
use Rattle.sight_ray.specs.declared.ray_trace.CrossedEdge.{CrossedEdge}

abbrev pub portal_crossed : CrossedEdge → Portal
portal_crossed g = record { left = g.left; right = g.right }
