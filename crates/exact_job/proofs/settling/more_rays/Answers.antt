use Rattle.std.proofs.Common.{List, subst}
use Rattle.std.proofs.lemmas.Result.{IfOk-weaker}
use Rattle.row_trees.specs.declared.made.Made.{Made}
use Rattle.found_rays.specs.Rays.{AreOneEach}
use Rattle.exact_job.specs.Rounds.{AreRaysNoted, HasMore}
use Rattle.exact_job.proofs.Rounds.{has_more, ranges_same}
use Rattle.exact_job.proofs.settling.more_rays.Goals as goal

pub note_walks-requires-clause-range : goal.note_walks-requires-clause-range
note_walks-requires-clause-range c = ranges_same c.args.round.walks.items c.as_slice.result.now c.as_slice.ensures.value c.requires.range

pub returns : goal.returns
returns c = λ p ts xs plan is. IfOk-weaker c.in_order.result (λ v. AreOneEach c.note_walks.new.rays.items v.items) (λ v. HasMore p c.args.round v.items)
    (λ v each. has_more p plan ts xs c.args.round is c.note_walks.new.rays.items v.items (subst (λ (ws : List Made). AreRaysNoted ws c.args.round.rays.items c.note_walks.new.rays.items) c.as_slice.ensures.value c.in_ok-note_walks.ensures) each)
    c.in_order.ensures
