use Rattle.std.proofs.Common.{◌≡◌, ◌∙◌, to_z, of_z, to_z-of_z, w32, rules}
use mir.Val.{SFits}
use Rattle.sight_names.proofs.Records.{same_pt}
use Rattle.map_lumps.proofs.records.text_vertex.Goals as goal

pub returns : goal.returns
returns c =
    let x : to_z w32 (of_z w32 c.wide_coordinate.result) ≡ c.wide_coordinate.result = to_z-of_z (let fits : SFits w32 c.wide_coordinate.result = search rules in fits) in
    let y : to_z w32 (of_z w32 c.wide_coordinate-2.result) ≡ c.wide_coordinate-2.result = to_z-of_z (let fits : SFits w32 c.wide_coordinate-2.result = search rules in fits) in
    same_pt _ _ (x ∙ c.wide_coordinate.ensures.value) (y ∙ c.wide_coordinate-2.ensures.value)
