use Rattle.std.proofs.Common.{◌≡◌, ◌∙◌, to_z, of_z, to_z-of_z, w32, rules}
use mir.Val.{SFits}
use Rattle.sight_names.proofs.Near.{point_is}
use Rattle.map_lumps.proofs.records.game_vertex.Goals as goal

pub returns : goal.returns
returns c =
    let x : to_z w32 (of_z w32 c.coordinate.result) ≡ c.coordinate.result = to_z-of_z (let fits : SFits w32 c.coordinate.result = search rules in fits) in
    let y : to_z w32 (of_z w32 c.coordinate-2.result) ≡ c.coordinate-2.result = to_z-of_z (let fits : SFits w32 c.coordinate-2.result = search rules in fits) in
    point_is _ _ _ (x ∙ c.coordinate.ensures.value) (y ∙ c.coordinate-2.ensures.value)
