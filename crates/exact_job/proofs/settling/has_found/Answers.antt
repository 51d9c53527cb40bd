use Rattle.std.proofs.Common.{◌≡◌, ◌<◌, inl, inr, [], length, sym, ap, ◌∙◌, subst, arith}
use Rattle.std.specs.List.{slice_get}
use Rattle.std.proofs.lemmas.Option.{same_Some, slice_get_within}
use Rattle.math_base.proofs.Numbers.{below_or_last}
use Rattle.row_trees.specs.declared.made.Made.{Made}
use Rattle.exact_job.proofs.Rounds.{item_at}
use Rattle.exact_job.proofs.settling.has_found.Goals as goal

pub returns-then-found_some : goal.returns-then-found_some
returns-then-found_some c = record {
  f = c.loop-made.made-index;
  walk = c.made-item.result;
  there = item_at c.args.walks.now c.loop-made.made-index c.made-item.result c.made-item.is c.loop-made-test.true;
  some = c.found_some.ensures.some c.if-found_some.true;
}

pub loop-made-preserved : goal.loop-made-preserved
loop-made-preserved c = λ f w lt at. elim (below_or_last f c.loop-made.made-index lt) as (λ _. w.found.items ≡ []) [
  | inl less ↦ c.loop-made.invariant f w less at
  | inr e ↦
      let there = item_at c.args.walks.now c.loop-made.made-index c.made-item.result c.made-item.is c.loop-made-test.true in
      subst (λ (x : Made). x.found.items ≡ []) (same_Some c.made-item.result w (sym there ∙ ap (slice_get c.args.walks.now) (sym e) ∙ at)) (c.found_some.ensures.none c.if-found_some.false)
]

pub returns : goal.returns
returns c = λ f w at. let l : f < length c.args.walks.now = slice_get_within c.args.walks.now f w at in c.loop-made.invariant f w (omega arith) at
