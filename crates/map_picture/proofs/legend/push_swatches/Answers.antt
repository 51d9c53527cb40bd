use Rattle.std.proofs.Common.{◌<◌, ◌≤◌, arith}
use Rattle.map_picture.specs.Bytes.{swatch_text}
use Rattle.map_picture.proofs.Pushes.{stepped}
use Rattle.map_picture.proofs.Ranges.{all_there, one_more}
use Rattle.map_picture.proofs.legend.push_swatches.Goals as goal

pub loop-shade-preserved : goal.loop-shade-preserved
loop-shade-preserved c =
    let within : c.loop-shade.shade < c.args.shades = omega (arith, c.loop-shade-test.true) in
    stepped _ _ _ _ _ _ c.in_ok-push_swatch.ensures (one_more (swatch_text c.args.sizes c.args.most) c.loop-shade.shade c.args.shades within) c.loop-shade.invariant

pub returns : goal.returns
returns c =
    let past : c.args.shades ≤ c.loop-shade.shade = omega (arith, c.loop-shade-test.false) in
    all_there (swatch_text c.args.sizes c.args.most) c.loop-shade.shade c.args.shades c.args.out.now.items c.loop-shade.out.items past c.loop-shade.invariant
