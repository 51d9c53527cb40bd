use Rattle.std.proofs.Common.{◌≡◌, ◌+◌, ◌≤◌, drop, take, not}
use Rattle.std.specs.Prelude.{All}
use Rattle.std.specs.List.{position_from}
use Rattle.wad_dir.specs.Wad.{lies_within}
use Rattle.wad_dir.proofs.directory.first_outside.Given as goal

abbrev pub invariant-loop-k : goal.invariant-loop-k
invariant-loop-k l = record {
  place : position_from (λ entry. not (lies_within l.len entry)) 0 l.entries ≡ position_from (λ entry. not (lies_within l.len entry)) l.k (drop l.k l.entries);
  inside : All (λ entry. entry.at + entry.size ≤ l.len) (take l.k l.entries);
}
