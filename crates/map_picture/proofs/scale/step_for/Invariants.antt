use Rattle.std.proofs.Common.{◌≡◌, ◌≤◌}
use Rattle.map_picture.specs.Scale.{step_for}
use Rattle.map_picture.proofs.scale.step_for.Given as goal

abbrev pub invariant-loop-step : goal.invariant-loop-step
invariant-loop-step l = (step_for l.length l.step ≡ step_for l.length l.places) × (l.step ≤ l.places)

abbrev pub decreases-loop-step : goal.decreases-loop-step
decreases-loop-step l = l.step
