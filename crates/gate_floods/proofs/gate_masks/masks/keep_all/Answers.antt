use Rattle.std.proofs.Common.{arith, get_or}
use Rattle.std.proofs.lemmas.Option.{slice_get-get_or}
use Rattle.sight_names.proofs.Lists.{contains_of_get}
use Rattle.gate_floods.proofs.GateMasks.Keeping.{all_kept, none_kept, one_kept}
use Rattle.gate_floods.proofs.gate_masks.masks.keep_all.Goals as goal

pub loop-number-init : goal.loop-number-init
loop-number-init c = none_kept c.args.numbers.now c.args.other.now c.args.words.now c.requires.none

pub keep-requires : goal.keep-requires
keep-requires c =
    let got = slice_get-get_or c.args.numbers.now c.loop-number.number-index 0 c.loop-number-test.true in
    let lt = c.requires.room (get_or c.args.numbers.now c.loop-number.number-index 0) (contains_of_get c.args.numbers.now (get_or c.args.numbers.now c.loop-number.number-index 0) c.loop-number.number-index got) in
    let len = c.loop-number.auto.words in
    omega (arith, lt, len)

pub loop-number-preserved : goal.loop-number-preserved
loop-number-preserved c = one_kept c.args.numbers.now c.args.other.now c.loop-number.number-index (get_or c.args.numbers.now c.loop-number.number-index 0) c.loop-number.words c.keep.new.words (slice_get-get_or c.args.numbers.now c.loop-number.number-index 0 c.loop-number-test.true) c.keep.ensures c.loop-number.invariant

pub returns : goal.returns
returns c = all_kept c.args.numbers.now c.args.other.now c.loop-number.number-index c.loop-number.words c.loop-number-test.false c.loop-number.invariant
