use Rattle.std.proofs.Common.{◌≡◌, ℕ, ◌<◌, None}
use Rattle.sight_names.specs.Lumps.{line_fault as line_fault_lem}
use Rattle.map_lumps.proofs.checks.first_line_fault.Given as goal

abbrev pub invariant-loop-k : goal.invariant-loop-k
invariant-loop-k l = (j : ℕ) → j < l.k → line_fault_lem l.format l.linedefs l.sidedefs l.vertexes l.sectors j ≡ None
