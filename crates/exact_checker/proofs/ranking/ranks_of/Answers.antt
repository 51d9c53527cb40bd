use Rattle.std.proofs.Common.{List, ℕ, ◌*◌, min, length, refl, ◌∙◌, ap, arith}
use Rattle.std.proofs.lemmas.Option.{slice_get_read}
use Rattle.math_base.proofs.Lists.{length_pushed}
use Rattle.gate_floods.specs.Bits.{bits_from, count_bits}
use Rattle.gate_floods.specs.RowJudge.Words.{is_in}
use Rattle.exact_checker.proofs.Owned.{rank_is, ranks_more, ranks_all}
use Rattle.exact_checker.proofs.ranking.ranks_of.Goals as goal

pub loop-row-preserved : goal.loop-row-preserved
loop-row-preserved c =
    rw c.in_ok-push.ensures.items (record {
      len = let e = length_pushed c.loop-row.ranks.items c.count_set.result in let l = c.loop-row.invariant.len in omega (arith, e, l);
      ranks = λ rays are. ranks_more c.args.count c.loop-row.row-index rays c.loop-row.ranks.items c.count_set.result (c.loop-row.invariant.ranks rays are)
          (rank_is c.args.count rays c.args.joined.now are c.loop-row.row-index c.row-item.result c.count_set.result (omega arith) (slice_get_read c.args.joined.now _ c.loop-row.row-index c.row-item.result refl c.loop-row-test.true c.row-item.is)
          (c.count_set.ensures ∙ ap (λ (ws : List ℕ). min (count_bits (bits_from (is_in ws) 0 (64 * length ws))) 65535) c.as_slice.ensures.value));
    })

pub returns-clause-ranks : goal.returns-clause-ranks
returns-clause-ranks c = λ rays are. ranks_all c.args.count c.loop-row.row-index rays c.loop-row.ranks.items (let e = are.len in omega (arith, e)) (c.loop-row.invariant.ranks rays are)
