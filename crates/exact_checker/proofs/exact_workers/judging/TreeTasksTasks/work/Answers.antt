use Rattle.std.proofs.Common.{ℕ, List, length, refl, sym, ◌∙◌, subst}
use Rattle.std.proofs.lemmas.Option.{same_Some, slice_get_read, slice_get_within}
use Rattle.block_evidence.specs.declared.sight_tree.Node.{Node}
use Rattle.gate_floods.specs.RowJudge.Masks.{rows_of}
use Rattle.exact_checker.specs.Owning.{owning_of}
use Rattle.exact_checker.specs.Judged.{AnswersFor}
use Rattle.exact_checker.proofs.Judging.{answers_for}
use Rattle.exact_checker.proofs.exact_workers.judging.TreeTasksTasks.work.Goals as goal

pub returns : goal.returns
returns c = λ ns at.
    let w = c.args.self.now in
    let xs = w.terrain.now.edges.now in
    let ms = rows_of w.masks.now in
    let roots = w.terrain.now.roots.now.roots.items in
    let firsts = w.terrain.now.roots.now.first.items in
    let known = owning_of w.known in
    let nodes = c.index-trees-number.result in
    let there = slice_get_read w.trees.now (length w.trees.now) c.args.number nodes refl (slice_get_within w.trees.now c.args.number ns at) c.index-trees-number.is in
    let right = answers_for xs ms roots firsts known c.source_of-source.result c.in_ok-row.row.items c.as_slice.result.now c.as_slice.ensures.value c.in_ok-row.ensures.bits nodes c.in_ok-wrong.wrong c.in_ok-wrong.wrong refl c.in_ok-wrong.ensures in
    subst (λ (f : ℕ). AnswersFor xs ms roots firsts known f ns c.in_ok-wrong.wrong) c.source_of-source.ensures
    (subst (λ (us : List Node). AnswersFor xs ms roots firsts known c.source_of-source.result us c.in_ok-wrong.wrong) (same_Some nodes ns (sym there ∙ at)) right)
