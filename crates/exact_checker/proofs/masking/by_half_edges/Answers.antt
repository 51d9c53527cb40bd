use Rattle.std.proofs.Common.{refl, arith, ◌∙◌, ap}
use Rattle.std.specs.Prelude.{option_copied}
use Rattle.exact_checker.specs.Masking.{mask_at_edge}
use Rattle.exact_checker.proofs.Fitting.{all_put, masks_more, puts_of}
use Rattle.exact_checker.proofs.masking.by_half_edges.Goals as goal

pub loop-number-preserved : goal.loop-number-preserved
loop-number-preserved c =
    let mask = mask_at_edge c.args.masks.now (option_copied c.get.result) in
    rw c.in_ok-push.ensures.items (masks_more c.args.masks.now c.args.edges.now c.args.width c.loop-number.number c.requires.narrow c.loop-number.places.items c.loop-number.words.items c.loop-number.invariant
    mask c.in_ok-place.place c.put_mask.new.words.items (puts_of c.args.width mask c.loop-number.words.items c.put_mask.new.words.items c.in_ok-place.place c.mask_behind-mask.result c.mask_behind-mask.ensures c.in_ok-place.ensures)
    (λ x at. ap (mask_at_edge c.args.masks.now) (c.get.ensures ∙ at)))

pub returns : goal.returns
returns c = (refl, all_put c.args.masks.now c.args.edges.now c.args.width c.loop-number.number c.loop-number.places.items c.loop-number.words.items (omega arith) c.loop-number.invariant)
