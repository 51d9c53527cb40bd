use Rattle.std.proofs.Common.{sym, subst}
use Rattle.sight_names.specs.Map.{map_of}
use Rattle.cert_checker.specs.TreeJudge.Marks.{HasNoMark}
use Rattle.group_checker.proofs.Listing.{open_is_bare}
use Rattle.group_checker.proofs.meshes.first_bare_side.Goals as goal

pub returns : goal.returns
returns c = open_is_bare (map_of c.args.plan.now) c.args.mesh.now.triangles c.as_slice.result.now c.as_slice-2.result.now _ (subst (HasNoMark _) (sym c.as_slice-2.ensures.value) c.in_ok-marks.ensures) c.first_open.result c.first_open.ensures.search
