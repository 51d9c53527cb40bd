use Rattle.std.proofs.Common.{◌≡◌, ◌*◌, ℕ, min, length, slice_index, refl, subst, arith}
use Rattle.gate_floods.specs.Bits.{bits_from, count_bits}
use Rattle.gate_floods.specs.RowJudge.Words.{is_in}
use Rattle.exact_checker.proofs.Owned.{count_more}
use Rattle.exact_checker.proofs.ranking.count_set.Goals as goal

pub loop-word-preserved : goal.loop-word-preserved
loop-word-preserved c = count_more c.args.words.now c.loop-word.word-index (slice_index c.args.words.now c.loop-word.word-index) 4294967295 c.loop-word.found c.saturating_add-found.result (omega (arith, c.type_inv.words c.loop-word.word-index)) refl c.loop-word.invariant c.saturating_add-found.ensures

pub returns : goal.returns
returns c =
    let end : c.loop-word.word-index ≡ length c.args.words.now = omega arith in
    let all : c.loop-word.found ≡ min (count_bits (bits_from (is_in c.args.words.now) 0 (64 * length c.args.words.now))) 4294967295 = subst (λ (k : ℕ). c.loop-word.found ≡ min (count_bits (bits_from (is_in c.args.words.now) 0 (64 * k))) 4294967295) end c.loop-word.invariant in
    omega (arith, all, c.min.ensures)
