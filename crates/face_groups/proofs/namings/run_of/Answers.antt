use Rattle.std.proofs.Common.{arith}
use Rattle.face_groups.proofs.Runs.{run_between, start_order}
use Rattle.face_groups.proofs.namings.run_of.Goals as goal

pub slice_bounds-result-count : goal.slice_bounds-result-count
slice_bounds-result-count c = let h = start_order c.args.namings.now c.args.face _ _ c.start_of-start.ensures c.start_of-end.ensures in omega (arith, h)

pub slice_bounds-result-start : goal.slice_bounds-result-start
slice_bounds-result-start c = let h = start_order c.args.namings.now c.args.face _ _ c.start_of-start.ensures c.start_of-end.ensures in omega (arith, h)

pub returns : goal.returns
returns c = run_between c.args.namings.now c.args.face _ _ c.requires c.start_of-start.ensures c.start_of-end.ensures
