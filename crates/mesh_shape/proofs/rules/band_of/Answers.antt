use Rattle.std.proofs.Common.{◌∙◌, rules}
use Rattle.std.proofs.lemmas.Int.{to_z-of_z}
use mir.Syntax.{w32}
use mir.Val.{SFits}
use Rattle.mesh_shape.proofs.SweepRules.{band_of_three}
use Rattle.sight_names.specs.Map.{map_of}
use Rattle.mesh_shape.proofs.rules.band_of.Goals as goal

pub returns : goal.returns
returns c =
    let f : SFits w32 c.lowest.result = search rules in
    let g : SFits w32 c.highest.result = search rules in
    band_of_three (map_of c.args.plan.now) c.args.t _ _ _ _ c.place-a.ensures.place c.place-b.ensures.place c.place-c.ensures.place c.max.ensures (to_z-of_z w32 c.lowest.result f ∙ c.lowest.ensures) (to_z-of_z w32 c.highest.result g ∙ c.highest.ensures)
