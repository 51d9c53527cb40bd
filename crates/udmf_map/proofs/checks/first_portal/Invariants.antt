use Rattle.std.proofs.Common.{◌≡◌, ◌-◌, ◌≤◌, length, drop}
use Rattle.udmf_map.specs.Checks.{is_portal, first_from}
use Rattle.udmf_map.proofs.checks.first_portal.Given as goal

abbrev pub invariant-loop-k : goal.invariant-loop-k
invariant-loop-k l = record { same : first_from is_portal l.k (drop l.k l.lines) ≡ first_from is_portal 0 l.lines; within : l.k ≤ length l.lines }

abbrev pub decreases-loop-k : goal.decreases-loop-k
decreases-loop-k l = length l.lines - l.k
