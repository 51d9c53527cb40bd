use Rattle.std.proofs.Common.{arith, rules}
use Rattle.exact_checker.specs.Owning.{IsOwnedBit}
use Rattle.exact_checker.proofs.Owned.{none_put, word_put, all_put}
use Rattle.exact_checker.proofs.owning.put_owned.Goals as goal

pub loop-place-init : goal.loop-place-init
loop-place-init c = λ rays are. none_put (IsOwnedBit rays c.args.known.components.now c.args.known.count c.args.source) c.args.words.now c.requires.none

pub loop-place-preserved : goal.loop-place-preserved
loop-place-preserved c = λ rays are. word_put (IsOwnedBit rays c.args.known.components.now c.args.known.count c.args.source) c.loop-place.place c.owned_word.result c.loop-place.words (c.loop-place.invariant rays are) (search rules) (c.owned_word.ensures rays are)

pub returns : goal.returns
returns c = λ rays are. all_put (IsOwnedBit rays c.args.known.components.now c.args.known.count c.args.source) c.loop-place.place c.args.known.count c.loop-place.words (omega arith) (λ k h. h.0) (c.loop-place.invariant rays are)
