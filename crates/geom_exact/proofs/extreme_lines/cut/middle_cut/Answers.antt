use Rattle.std.proofs.Common.{arith, to_z-of_z, to_z, of_z, w64, ◌≡◌, pos, ◌+ℤ◌, ◌-ℤ◌, ◌*ℤ◌}
use mir.Syntax.{w32}
use Rattle.geom_exact.proofs.ExtremeLines.Values.{middle_is, value_is}
use Rattle.geom_exact.proofs.extreme_lines.cut.middle_cut.Goals as goal

pub returns-clause-value : goal.returns-clause-value
returns-clause-value c p =
    let ea : to_z w32 (of_z w32 c.doubled-a.result) ≡ pos 2 *ℤ (c.args.wedge.now.first.a -ℤ c.args.wedge.now.second.a) = grind (arith, to_z-of_z) in
    let eb : to_z w32 (of_z w32 c.doubled-b.result) ≡ pos 2 *ℤ (c.args.wedge.now.first.b -ℤ c.args.wedge.now.second.b) = grind (arith, to_z-of_z) in
    let ec : to_z w64 (of_z w64 c.shifted-c.result) ≡ pos 2 *ℤ (c.args.wedge.now.second.c -ℤ c.args.wedge.now.first.c) +ℤ c.args.shift = grind (arith, to_z-of_z) in
    middle_is _ _ _ c.args.wedge.now.first.a c.args.wedge.now.first.b c.args.wedge.now.first.c c.args.wedge.now.second.a c.args.wedge.now.second.b c.args.wedge.now.second.c c.args.shift _ _ p ea eb ec
    (value_is c.args.wedge.now.first.left.at c.args.wedge.now.first.right.at p c.args.wedge.now.first.a c.args.wedge.now.first.b c.args.wedge.now.first.c c.args.wedge.now.first.a_is c.args.wedge.now.first.b_is c.args.wedge.now.first.c_is)
    (value_is c.args.wedge.now.second.left.at c.args.wedge.now.second.right.at p c.args.wedge.now.second.a c.args.wedge.now.second.b c.args.wedge.now.second.c c.args.wedge.now.second.a_is c.args.wedge.now.second.b_is c.args.wedge.now.second.c_is)
