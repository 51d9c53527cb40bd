use Rattle.std.proofs.Common.{◌≡◌, ap, ◌∙◌}
use Rattle.sight_names.specs.Splitting.{EndPoints}
use Rattle.stab_hull.proofs.Sleeves.{ends_of_last}
use Rattle.stab_hull.proofs.onward.frame_to_left.Goals as goal

pub returns : goal.returns
returns g c =
    let last = c.index-portals-portals in
    let right : last.result.frame.right ≡ c.args.right = ap (λ (e : EndPoints). e.right) (ends_of_last c.args.portals.now c.requires.last.0 last.result c.requires.last.1 last.is) ∙ c.requires.last.2 in
    let read = last.is in
    let lefts = c.len.ensures in
    let rights = c.len-2.ensures in
    let cones = c.len-3.ensures in
    cc
