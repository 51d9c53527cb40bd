use Rattle.std.proofs.Common.{◌≡◌, ◌<◌, drop, length}
use Rattle.std.specs.Prelude.{None, IfSome}
use Rattle.wad_dir.specs.Map.{last_from, entry_names}
use Rattle.wad_dir.proofs.map.last_named.Given as goal

abbrev pub invariant-loop-k : goal.invariant-loop-k
invariant-loop-k l = record {
  place : last_from (entry_names l.entries) l.name 0 None ≡ last_from (entry_names (drop l.k l.entries)) l.name l.k l.found;
  within : IfSome l.found (λ k. k < length l.entries);
}
