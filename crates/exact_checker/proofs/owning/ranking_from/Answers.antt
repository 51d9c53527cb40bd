use Rattle.std.proofs.Common.{sym, ◌∙◌, arith}
use Rattle.std.proofs.lemmas.Bool.{false≢true}
use Rattle.exact_checker.specs.Owning.{owning_of, RanksFrom}
use Rattle.exact_checker.proofs.Owned.{between_none, between_more, between_same}
use Rattle.exact_checker.proofs.owning.ranking_from.Goals as goal
use Rattle.exact_checker.proofs.owning.ranking_from.Goals.{then-ranks_from, else-ranks_from}

pub loop-other-init : goal.loop-other-init
loop-other-init c = between_none (RanksFrom (owning_of c.args.known) c.args.component c.args.least) c.args.first c.args.from

pub loop-other-preserved : goal.loop-other-preserved
loop-other-preserved c = elim c.if-ranks_from.branch [
  | then-ranks_from w ↦ rw w.bits-is (between_more (RanksFrom (owning_of c.args.known) c.args.component c.args.least) c.args.first c.args.from c.loop-other.other c.loop-other.bits c.loop-other.invariant (omega arith) (omega arith) (omega arith) (c.ranks_from.ensures.0 w.if-ranks_from.true))
  | else-ranks_from w ↦ rw w.bits-is (between_same (RanksFrom (owning_of c.args.known) c.args.component c.args.least) c.args.first c.args.from c.loop-other.other c.loop-other.bits c.loop-other.invariant (omega arith) (omega arith) (λ h. false≢true (sym w.if-ranks_from.false ∙ c.ranks_from.ensures.1 h)))
]
