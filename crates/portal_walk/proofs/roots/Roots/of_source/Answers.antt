use Rattle.std.proofs.Common.{◌≡◌, ◌<◌, sym, ap, ◌∙◌, reverse, arith, length, List, Vec, Global}
use Rattle.std.proofs.lemmas.List.{length-map}
use Rattle.portal_walk.specs.declared.roots.Root.{Root}
use Rattle.portal_walk.specs.Roots.{roots_in}
use Rattle.portal_walk.proofs.RootOrder.{turned, items_at, items_of}
use Rattle.portal_walk.proofs.roots.Roots.of_source.Goals as goal

pub returns : goal.returns
returns c =
    let vs = c.self.inside.of_sectors.items in
    let lt : c.args.source < length vs = omega (arith, c.requires, ap length c.self.view_is, length-map vs (λ (w : Vec Root Global). w.items)) in
    let same : c.in_ok-roots.roots.items ≡ roots_in (items_of vs) c.args.source = c.in_ok-roots.ensures.items ∙ c.as_slice.ensures.value ∙ ap (λ (w : Vec Root Global). w.items) c.index.ensures ∙ sym (items_at vs c.args.source c.index.result.now lt) in
    turned c.in_ok-roots.roots.items c.reverse.new.self c.in_ok-roots.roots.len (c.reverse.ensures.after ∙ ap reverse c.as_mut_slice.ensures.value) (omega (arith, c.in_ok-roots.roots.ok)) ∙ ap reverse (same ∙ ap (λ (xs : List (List Root)). roots_in xs c.args.source) c.self.view_is)
