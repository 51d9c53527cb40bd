use Rattle.std.proofs.Common.{◌≡◌, ◌++◌, codes, string_bytes, arith, w32, w64, to_z, of_z, to_z-of_z}
use Rattle.std.specs.Fmt.{signed_decimal}
use Rattle.pair_answer.proofs.WhyAnswers.Joined.{behind}
use Rattle.pair_answer.proofs.why_answers.lines.push_numbers.Goals as goal

pub returns : goal.returns
returns c =
    let a_is : to_z w32 (of_z w32 c.args.ray.a) ≡ c.args.ray.a = grind (arith, to_z-of_z) in
    let b_is : to_z w32 (of_z w32 c.args.ray.b) ≡ c.args.ray.b = grind (arith, to_z-of_z) in
    let c_is : to_z w64 (of_z w64 c.args.ray.c) ≡ c.args.ray.c = grind (arith, to_z-of_z) in
    let old = string_bytes c.args.line.now in
    let one = codes "," ++ signed_decimal c.args.ray.a in
    let first : string_bytes c.push_factor.new.line ≡ old ++ one = rw a_is at c.in_ok-push_factor.ensures in
    let second : string_bytes c.push_factor-2.new.line ≡ string_bytes c.push_factor.new.line ++ (codes "," ++ signed_decimal c.args.ray.b) = rw b_is at c.in_ok-push_factor-2.ensures in
    let third : string_bytes c.push_offset.new.line ≡ string_bytes c.push_factor-2.new.line ++ (codes "," ++ signed_decimal c.args.ray.c) = rw c_is at c.in_ok-push_offset.ensures in
    let two = behind old one (string_bytes c.push_factor.new.line) (string_bytes c.push_factor-2.new.line) (codes ",") (signed_decimal c.args.ray.b) first second in
    behind old (one ++ codes "," ++ signed_decimal c.args.ray.b) (string_bytes c.push_factor-2.new.line) (string_bytes c.push_offset.new.line) (codes ",") (signed_decimal c.args.ray.c) two third
