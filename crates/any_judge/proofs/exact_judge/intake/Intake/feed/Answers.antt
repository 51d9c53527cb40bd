use Rattle.std.proofs.Common.{◌≡◌, ◌++◌, [], None, sym, ◌∙◌, arith}
use Rattle.std.proofs.lemmas.Option.{MatchOption-at_none}
use Rattle.math_base.proofs.Options.{none_where_not_some}
use Rattle.any_judge.specs.ExactJudge.Intake.{IsGoingOn, AreRefusedExact}
use Rattle.any_judge.proofs.ExactJudge.Intakes.{piece_comes}
use Rattle.any_judge.proofs.exact_judge.intake.Intake.feed.Goals as goal

pub returns : goal.returns
returns c = λ p t bytes w.
    let s = c.args.self.now in
    let none : s.fault ≡ None = none_where_not_some s.fault (sym (sym c.is_some.ensures ∙ c.if-is_some.false)) in
    c.take_all.ensures p t (bytes ++ c.args.piece.now) (piece_comes p t bytes c.args.piece.now s (λ i. omega (arith, c.type_inv.piece i)) (MatchOption-at_none (IsGoingOn p t bytes [] s) (AreRefusedExact p bytes) none w))
