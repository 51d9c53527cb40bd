use Rattle.std.proofs.Common.{codes}
use Rattle.std.specs.List.{flat_map, range_with_len}
use Rattle.map_picture.specs.Bytes.{legend_text, swatch_text}
use Rattle.map_picture.proofs.Pushes.{joined, pushed}
use Rattle.map_picture.proofs.legend.push_legend.Goals as goal

pub returns : goal.returns
unfolding legend_text
returns c =
    let swatches = flat_map (swatch_text c.args.sizes c.args.most) (range_with_len 0 8) in
    let shown = joined c.args.out.now.items c.push_text.new.out.items c.push_swatches.new.out.items (codes "<g class=\"n\">") swatches c.in_ok-push_text.ensures c.in_ok-push_swatches.ensures in
    pushed c.push_text-2.result c.args.out.now.items c.push_swatches.new.out.items c.push_text-2.new.out.items _ (codes "</g>\n") shown c.push_text-2.ensures
