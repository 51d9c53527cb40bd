use Rattle.std.proofs.Common.{◌<◌, ◌≤◌, length, arith}
use Rattle.wad_dir.proofs.AllMaps.Told.{front_key, front_upper, told_at_end, told_at_nul}
use Rattle.wad_dir.proofs.all_maps.places.told.Goals as goal

pub returns-then-c-eq0 : goal.returns-then-c-eq0
returns-then-c-eq0 c =
    let lt : c.loop-k.k < length c.args.name.now = (let a = c.loop-k-test.true in let b = c.told-name in omega (arith, a, b)) in
    told_at_nul c.args.name.now c.loop-k.upper c.loop-k.k lt c.if-c-eq0.true c.loop-k.invariant.upper c.loop-k.invariant.key

pub loop-k-preserved : goal.loop-k-preserved
loop-k-preserved c = grind (arith, front_key, front_upper)

pub returns : goal.returns
returns c =
    let ge : length c.args.name.now ≤ c.loop-k.k = (let a = c.loop-k-test.false in let b = c.told-name in omega (arith, a, b)) in
    let le : c.loop-k.k ≤ length c.args.name.now = (let a = c.loop-k.auto.k-end in let b = c.told-name in omega (arith, a, b)) in
    told_at_end c.args.name.now c.loop-k.upper c.loop-k.k ge le c.loop-k.invariant.upper c.loop-k.invariant.key
