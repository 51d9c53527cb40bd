use Rattle.std.proofs.Common.{◌≡◌, length}
use Rattle.udmf_map.specs.Grid.{lines_off_grid}
use Rattle.udmf_map.proofs.grid.first_off_grid.Given as goal

abbrev pub invariant-loop-rest : goal.invariant-loop-rest
invariant-loop-rest l = record { same : lines_off_grid l.places l.vertices l.rest ≡ lines_off_grid l.places l.vertices l.lines }

abbrev pub decreases-loop-rest : goal.decreases-loop-rest
decreases-loop-rest l = length l.rest
