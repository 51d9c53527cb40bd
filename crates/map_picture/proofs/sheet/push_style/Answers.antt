use Rattle.std.proofs.Common.{◌++◌}
use Rattle.map_picture.specs.Bytes.{dark_text, letters_text, light_text, pixels_text, shades_text, style_text, units_text}
use Rattle.map_picture.proofs.Pushes.{joined, pushed}
use Rattle.map_picture.proofs.sheet.push_style.Goals as goal

pub returns : goal.returns
unfolding style_text
returns c =
    let old = c.args.out.now.items in
    let units = units_text c.args.sizes.stroke in
    let letters = letters_text c.args.sizes.margin in
    let first = joined old c.push_light.new.out.items c.push_units.new.out.items light_text units c.in_ok-push_light.ensures c.in_ok-push_units.ensures in
    let second = joined old c.push_units.new.out.items c.push_pixels.new.out.items (light_text ++ units) pixels_text first c.in_ok-push_pixels.ensures in
    let third = joined old c.push_pixels.new.out.items c.push_shades.new.out.items (light_text ++ units ++ pixels_text) shades_text second c.in_ok-push_shades.ensures in
    let fourth = joined old c.push_shades.new.out.items c.push_letters.new.out.items (light_text ++ units ++ pixels_text ++ shades_text) letters third c.in_ok-push_letters.ensures in
    let fifth = joined old c.push_letters.new.out.items c.push_dark.new.out.items (light_text ++ units ++ pixels_text ++ shades_text ++ letters) dark_text fourth c.in_ok-push_dark.ensures in
    pushed c.push_text.result old c.push_dark.new.out.items c.push_text.new.out.items (light_text ++ units ++ pixels_text ++ shades_text ++ letters ++ dark_text) _ fifth c.push_text.ensures
