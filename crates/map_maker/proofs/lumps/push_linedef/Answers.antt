use Rattle.std.proofs.Common.{ℕ, ◌++◌, ◌∙◌, ap}
use Rattle.indexmap.proofs.MapLemmas.{OnOk-map}
use Rattle.map_maker.specs.Lumps.{short}
use Rattle.map_maker.proofs.Hashed.{linedef_written}
use Rattle.map_maker.proofs.lumps.push_linedef.Goals as goal

pub returns : goal.returns
returns c =
    let a = c.in_ok-push_short.ensures ∙ ap (λ (n : ℕ). c.args.out.now.items ++ short n) c.place.ensures in
    let b = c.in_ok-push_short-2.ensures ∙ ap (λ (n : ℕ). c.push_short.new.out.items ++ short n) c.place-2.ensures in
    let d = c.in_ok-push_short-3.ensures ∙ ap (λ (n : ℕ). c.push_short-2.new.out.items ++ short n) c.flags.ensures in
    OnOk-map c.push_short-7.result _ _ (λ last. linedef_written c.args.points.now.keys c.args.side c.args.line.now c.args.out.now.items c.push_short.new.out.items c.push_short-2.new.out.items c.push_short-3.new.out.items c.push_short-4.new.out.items c.push_short-5.new.out.items c.push_short-6.new.out.items c.push_short-7.new.out.items
    a b d c.in_ok-push_short-4.ensures c.in_ok-push_short-5.ensures c.in_ok-push_short-6.ensures
    (last ∙ ap (λ (n : ℕ). c.push_short-6.new.out.items ++ short n) c.left_number.ensures)) c.push_short-7.ensures
