use Rattle.std.proofs.Common.{◌∙◌, arith}
use Rattle.std.proofs.lemmas.Int.{to_z-of_z}
use Rattle.mesh_shape.proofs.RuleLemmas.{turn_at_places}
use Rattle.mesh_shape.proofs.rules.is_counterclockwise.Goals as goal

pub returns : goal.returns
returns c = let e = c.turn.ensures.value ∙ turn_at_places _ _ _ _ _ _ c.place.ensures.place c.place-2.ensures.place c.place-3.ensures.place in grind (arith, to_z-of_z, e)
