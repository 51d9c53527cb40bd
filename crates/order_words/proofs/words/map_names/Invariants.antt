use Rattle.std.proofs.Common.{◌≡◌, drop, length, map, take}
use Rattle.std.specs.List.{list_all, slice_split}
use Rattle.order_words.specs.Values.{is_comma, is_map, upper}
use Rattle.order_words.proofs.words.map_names.Given as goal

abbrev pub invariant-loop-name : goal.invariant-loop-name
invariant-loop-name l = record {
  tested : list_all is_map (slice_split is_comma l.list) ≡ list_all is_map (drop (length l.yielded) (slice_split is_comma l.list));
  names : l.names.items ≡ map upper (take (length l.yielded) (slice_split is_comma l.list));
}
