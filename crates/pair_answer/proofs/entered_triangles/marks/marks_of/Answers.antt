use Rattle.std.proofs.Common.{ℕ, ◌<◌, List, Bool, length, get_or, sym, ap, ◌∙◌, subst, arith}
use Rattle.std.proofs.lemmas.Option.{slice_get-get_or}
use Rattle.sight_names.proofs.Lists.{contains_of_get}
use Rattle.pair_answer.specs.EnteredTriangles.Marks.{IsMarkedToo}
use Rattle.pair_answer.proofs.EnteredTriangles.Marking.{marks_all, marks_more, stored}
use Rattle.pair_answer.proofs.entered_triangles.marks.marks_of.Goals as goal

pub mark-requires : goal.mark-requires
mark-requires c =
    let x = get_or c.args.numbers.now c.loop-i.i 0 in
    let low = c.requires x (contains_of_get c.args.numbers.now x c.loop-i.i (slice_get-get_or c.args.numbers.now c.loop-i.i 0 c.loop-i-test.true)) in
    subst (λ (n : ℕ). x < n) (sym (ap (λ (bs : List Bool). length bs) c.as_mut_slice.ensures.value ∙ c.loop-i.invariant.len)) low

pub loop-i-preserved : goal.loop-i-preserved
loop-i-preserved c =
    let x = get_or c.args.numbers.now c.loop-i.i 0 in
    let at = slice_get-get_or c.args.numbers.now c.loop-i.i 0 c.loop-i-test.true in
    let low = c.requires x (contains_of_get c.args.numbers.now x c.loop-i.i at) in
    rw (stored c.mark.new.marks c.loop-i.marks.items c.loop-i.marks.len (c.mark.ensures.len ∙ c.as_mut_slice.ensures.len))
    (marks_more c.loop-i.i c.args.count x c.args.numbers.now c.loop-i.marks.items c.mark.new.marks at c.loop-i.invariant (subst (λ (n : ℕ). x < n) (sym c.loop-i.invariant.len) low)
    (subst (λ (bs : List Bool). IsMarkedToo x bs c.mark.new.marks) c.as_mut_slice.ensures.value c.mark.ensures))

pub returns : goal.returns
returns c = marks_all c.loop-i.i c.args.count c.args.numbers.now c.loop-i.marks.items (omega arith) c.loop-i.invariant
