use Rattle.std.proofs.Common.{◌≡◌, ◌+◌, ◌≤◌, length}
use Rattle.udmf_map.specs.Places.{place_behind_bytes, place_in_text}
use Rattle.udmf_map.proofs.places.place_of.Given as goal

abbrev pub invariant-loop-rest : goal.invariant-loop-rest
invariant-loop-rest l = record {
  same : place_behind_bytes l.place l.rest ≡ place_in_text l.text l.at;
  rows : l.place.row + length l.rest ≤ length l.text + 1;
  columns : l.place.column + length l.rest ≤ length l.text + 1;
}

abbrev pub decreases-loop-rest : goal.decreases-loop-rest
decreases-loop-rest l = length l.rest
