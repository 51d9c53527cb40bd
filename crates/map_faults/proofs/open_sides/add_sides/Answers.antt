use Rattle.std.proofs.lemmas.Result.{IfOk-weaker}
use Rattle.map_faults.proofs.open_sides.add_sides.Goals as goal

pub returns : goal.returns
returns c = IfOk-weaker c.add_side-2.result _ _ (λ u h. record { middle = _; right = c.in_ok-add_side.ensures; left = h }) c.add_side-2.ensures
