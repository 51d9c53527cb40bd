use Rattle.std.proofs.Common.{◌+◌, ◌++◌, ◌∙◌, List, ℕ, length, map, take, sym, ap, subst, arith}
use Rattle.sight_names.specs.Map.{map_of}
use Rattle.map_faults.specs.declared.clashes.LinePair.{LinePair}
use Rattle.map_faults.specs.declared.clashes.TheConstants.{MOST_CLASHES}
use Rattle.map_faults.specs.Clashes.{clash_of_lines, AreFirstClashes}
use Rattle.map_faults.proofs.Clashing.{AreCounted, none_counted, counted_more, counted_all, few_kept}
use Rattle.map_faults.proofs.clashes.clashes_by.Goals as goal

pub loop-i-init : goal.loop-i-init
loop-i-init c = subst (λ (ps : List LinePair). AreCounted c.args.plan.now 0 ps 0) (sym c.new-first.ensures.items) (none_counted c.args.plan.now)

pub keep_first-requires : goal.keep_first-requires
keep_first-requires c = few_kept c.args.plan.now c.loop-i.i c.loop-i.first.items c.loop-i.count c.loop-i.invariant

pub loop-i-preserved : goal.loop-i-preserved
loop-i-preserved c =
    let js = c.in_ok-others.others.items in
    let kept = c.in_ok-keep_first.ensures ∙ ap (λ (ks : List ℕ). take MOST_CLASHES (c.loop-i.first.items ++ map (clash_of_lines c.loop-i.i) ks)) c.as_slice.ensures.value in
    subst (λ (n : ℕ). AreCounted c.args.plan.now (c.loop-i.i + 1) c.keep_first.new.pairs.items (c.loop-i.count + n)) (let a = c.len.ensures in let b = c.in_ok-others.others.ok in omega arith)
    (counted_more c.args.plan.now c.loop-i.i c.loop-i.first.items c.keep_first.new.pairs.items c.loop-i.count js c.loop-i.invariant c.in_ok-others.ensures.clashes c.in_ok-others.ensures.few kept)

pub returns : goal.returns
returns c = subst (λ (ps : List LinePair). AreFirstClashes (map_of c.args.plan.now) ps c.loop-i.count) (sym c.of.ensures)
    (counted_all c.args.plan.now c.loop-i.i c.loop-i.first.items c.loop-i.count (let e = ap length c.lines-i-end.ensures.list in let f = c.loop-i-test.false in omega arith) c.loop-i.invariant)
