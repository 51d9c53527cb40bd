use Rattle.std.proofs.Common.{◌≡◌, ◌++◌, ◌-◌}
use Rattle.std.specs.List.{flat_map, range_with_len}
use Rattle.map_picture.specs.Bytes.{swatch_text}
use Rattle.map_picture.proofs.legend.push_swatches.Given as goal

abbrev pub invariant-loop-shade : goal.invariant-loop-shade
invariant-loop-shade l =
    l.out.items ++ flat_map (swatch_text l.sizes l.most) (range_with_len l.shade (l.shades - l.shade))
    ≡ l.fn.out.items ++ flat_map (swatch_text l.sizes l.most) (range_with_len 0 (l.shades - 0))
