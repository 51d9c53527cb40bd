use Rattle.std.proofs.Common.{◌≡◌, ◌++◌, arith, w32, w64, to_z, of_z, to_z-of_z}
use Rattle.std.specs.Prelude.{OnOk}
use Rattle.map_picture.specs.Bytes.{coefficient_text, coefficients_text}
use Rattle.map_picture.proofs.Pushes.{joined, pushed}
use Rattle.map_picture.proofs.pair.push_coefficients.Goals as goal

pub returns : goal.returns
unfolding coefficients_text
returns c =
    let a_is : to_z w32 (of_z w32 c.args.ray.now.a) ≡ c.args.ray.now.a = grind (arith, to_z-of_z) in
    let b_is : to_z w32 (of_z w32 c.args.ray.now.b) ≡ c.args.ray.now.b = grind (arith, to_z-of_z) in
    let c_is : to_z w64 (of_z w64 c.args.ray.now.c) ≡ c.args.ray.now.c = grind (arith, to_z-of_z) in
    let old = c.args.out.now.items in
    let first : c.push_factor.new.out.items ≡ old ++ coefficient_text c.args.ray.now.a = rw a_is at c.in_ok-push_factor.ensures in
    let second : c.push_factor-2.new.out.items ≡ c.push_factor.new.out.items ++ coefficient_text c.args.ray.now.b = rw b_is at c.in_ok-push_factor-2.ensures in
    let third : OnOk c.push_coefficient.result (c.push_coefficient.new.out.items ≡ c.push_factor-2.new.out.items ++ coefficient_text c.args.ray.now.c) = rw c_is at c.push_coefficient.ensures in
    let two = joined old c.push_factor.new.out.items c.push_factor-2.new.out.items (coefficient_text c.args.ray.now.a) (coefficient_text c.args.ray.now.b) first second in
    pushed c.push_coefficient.result old c.push_factor-2.new.out.items c.push_coefficient.new.out.items (coefficient_text c.args.ray.now.a ++ coefficient_text c.args.ray.now.b) (coefficient_text c.args.ray.now.c) two third
