use Rattle.std.proofs.Common.{[], ◌∷◌, sym, arith, subst₂}
use Rattle.std.proofs.lemmas.Int.{ints}
use Rattle.sight_names.specs.declared.names.EndPair.{EndPair}
use Rattle.block_evidence.specs.OneTurn.{BarsLeft}
use Rattle.block_evidence.specs.Picked.{Picks}
use Rattle.stab_hull.proofs.bars.left_bars.Goals as goal

pub bar_left-requires-clause-bars : goal.bar_left-requires-clause-bars
bar_left-requires-clause-bars c = subst₂ (λ (f s : EndPair). BarsLeft f s c.args.new) (sym c.ends_of.ensures) (sym c.ends_of-2.ensures) (record {
  coded = c.requires.coded;
  later = c.requires.later;
  later_too = c.requires.later_too;
  beyond_second = (let v = c.value.ensures.value in let t = c.if-value-lt0.false in omega (arith, ints));
  beyond_first = (let v = c.value-of_new.ensures.value in let t = c.if-of_new-ge0.false in omega (arith, ints));
  far = (let v = c.value-of_new.ensures.value in let u = c.value-2.ensures.value in let t = c.if-of_new-value.false in omega (arith, ints));
})

pub returns : goal.returns
returns c = (
  record {
    coded = c.requires.coded;
    later = c.requires.later;
    later_too = c.requires.later_too;
    beyond_second = (let v = c.value.ensures.value in let t = c.if-value-lt0.false in omega (arith, ints));
    beyond_first = (let v = c.value-of_new.ensures.value in let t = c.if-of_new-ge0.false in omega (arith, ints));
    far = (let v = c.value-of_new.ensures.value in let u = c.value-2.ensures.value in let t = c.if-of_new-value.false in omega (arith, ints));
  },
  subst₂ (λ (f s : EndPair). Picks (f.left ∷ f.right ∷ s.left ∷ s.right ∷ c.args.new ∷ []) c.bar_left.result) c.ends_of.ensures c.ends_of-2.ensures c.bar_left.ensures,
)
