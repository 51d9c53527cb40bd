use Rattle.std.proofs.Common.{arith, to_z-of_z, to_z, of_z, w64, ◌≡◌, pos, ◌+ℤ◌, ◌-ℤ◌, ◌*ℤ◌, ap₂, ◌∙◌, ℤ}
use mir.Syntax.{w32}
use Rattle.geom_exact.proofs.ExtremeLines.Values.{ray_is}
use Rattle.geom_exact.proofs.extreme_lines.cut.ray_cut.Goals as goal

pub returns-clause-value : goal.returns-clause-value
returns-clause-value c p =
    let ea : to_z w32 (of_z w32 c.doubled-a.result) ≡ pos 2 *ℤ (c.args.ray.now.b -ℤ pos 0) = grind (arith, to_z-of_z) in
    let eb : to_z w32 (of_z w32 c.doubled-b.result) ≡ pos 2 *ℤ (pos 0 -ℤ c.args.ray.now.a) = grind (arith, to_z-of_z) in
    let eo : to_z w32 (of_z w32 c.opposite.result) ≡ pos 0 -ℤ c.args.ray.now.a = grind (arith, to_z-of_z) in
    let b_is : to_z w32 (of_z w32 c.args.ray.now.b) ≡ c.args.ray.now.b = grind (arith, to_z-of_z) in
    let l_is : to_z w64 (of_z w64 c.level-near.result) ≡ c.level-near.result = grind (arith, to_z-of_z) in
    let el : to_z w64 (of_z w64 c.level-near.result) ≡ c.args.ray.now.b *ℤ c.args.ray.now.left.at.x +ℤ (pos 0 -ℤ c.args.ray.now.a) *ℤ c.args.ray.now.left.at.y = l_is ∙ c.level-near.ensures.value ∙ ap₂ (λ (s t : ℤ). s *ℤ c.args.ray.now.left.at.x +ℤ t *ℤ c.args.ray.now.left.at.y) b_is eo in
    let ec : to_z w64 (of_z w64 c.shifted-c.result) ≡ pos 2 *ℤ (pos 0 -ℤ to_z w64 (of_z w64 c.level-near.result)) +ℤ pos 1 = grind (arith, to_z-of_z) in
    ray_is c.args.ray.now.left.at c.args.ray.now.right.at p _ _ _ c.args.ray.now.a c.args.ray.now.b _ c.args.ray.now.a_is c.args.ray.now.b_is ea eb el ec
