use Rattle.std.proofs.Common.{◌≡◌, ◌-◌, ◌<◌, ◌∙◌, ap, arith, zero-add}
use Rattle.std.specs.List.{range_with_len, sum_by}
use Rattle.map_answers.specs.Counts.{set_from, set_pairs}
use Rattle.map_answers.proofs.Counting.{goes_on}
use Rattle.map_answers.proofs.counts.count_set.Goals as goal

pub loop-a-init : goal.loop-a-init
unfolding set_pairs
loop-a-init c =
    let whole : c.args.table.now.n - 0 ≡ c.args.table.now.n = omega arith in
    (zero-add (sum_by (set_from c.args.table.now) (range_with_len 0 (c.args.table.now.n - 0))) ∙ ap (λ k. sum_by (set_from c.args.table.now) (range_with_len 0 k)) whole, omega arith)

pub loop-a-preserved : goal.loop-a-preserved
loop-a-preserved c =
    let within : c.loop-a.a < c.args.table.now.n = omega (arith, c.sectors-a-end.ensures) in
    (goes_on (set_from c.args.table.now) c.loop-a.a c.args.table.now.n c.loop-a.count c.count_from-count.result _ within c.count_from-count.ensures.count c.loop-a.invariant.0, omega arith)
