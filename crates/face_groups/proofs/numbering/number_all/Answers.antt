use Rattle.std.proofs.Common.{◌≡◌, ℕ, ◌+◌, ◌-◌, ◌∙◌, List, length, vec_len, take, set, slice_get, Some, refl, sym, subst, arith}
use Rattle.std.proofs.lemmas.Option.{slice_get_read}
use Rattle.face_groups.specs.NamedFaces.{IsPutBehind, AreNumbered}
use Rattle.face_groups.proofs.Numbers.{numbered_next}
use Rattle.face_groups.proofs.numbering.number_all.Goals as goal

pub bounds-places-face : goal.bounds-places-face
bounds-places-face c = let h = c.requires.below c.face-item.result (c.loop-face.face-index, c.loop-face-test.true, sym c.face-item.is) in let e = c.loop-face.auto.places in omega (arith, h, e)

pub loop-face-preserved : goal.loop-face-preserved
loop-face-preserved c =
    let h = c.requires.below c.face-item.result (c.loop-face.face-index, c.loop-face-test.true, sym c.face-item.is) in
    let e = c.loop-face.auto.places in
    let at : slice_get c.args.named.now c.loop-face.face-index ≡ Some c.face-item.result = slice_get_read c.args.named.now _ c.loop-face.face-index c.face-item.result refl c.loop-face-test.true c.face-item.is in
    let put : IsPutBehind c.face-item.result.sectors.items c.loop-face.groups.items c.put_behind.new.groups.items = subst (λ (xs : List ℕ). IsPutBehind xs c.loop-face.groups.items c.put_behind.new.groups.items) c.as_slice.ensures c.in_ok-put_behind.ensures in
    let count : vec_len c.put_behind.new.groups ≡ length c.put_behind.new.groups.items = omega arith in
    subst (λ (n : ℕ). AreNumbered (take (c.loop-face.face-index + 1) c.args.named.now) c.put_behind.new.groups.items (set c.loop-face.places c.face-item.result.face (Some (n - 1)))) (sym (c.len.ensures ∙ count))
    (numbered_next c.args.named.now c.loop-face.face-index c.face-item.result c.loop-face.groups.items c.put_behind.new.groups.items c.loop-face.places at c.requires.order c.loop-face.invariant put (omega (arith, h, e)))
