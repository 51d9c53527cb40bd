use Rattle.std.proofs.lemmas.Result.{IfOk-weaker}
use Rattle.map_faults.proofs.gaps.add_gaps.Goals as goal

pub returns : goal.returns
returns c = IfOk-weaker c.add_gap-3.result _ _ (λ u h. record { first = _; second = _; pq = c.in_ok-add_gap.ensures; qr = c.in_ok-add_gap-2.ensures; rp = h }) c.add_gap-3.ensures
