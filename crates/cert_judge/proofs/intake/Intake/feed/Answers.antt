use Rattle.std.proofs.Common.{◌≡◌, ◌++◌, [], None, sym, ◌∙◌, arith}
use Rattle.std.proofs.lemmas.Option.{MatchOption-at_none}
use Rattle.cert_judge.specs.Intake.{IsGoingOn, AreRefusedListing}
use Rattle.cert_judge.proofs.Intakes.{piece_comes}
use Rattle.cert_judge.proofs.OnMeshes.{none_where}
use Rattle.cert_judge.proofs.intake.Intake.feed.Goals as goal

pub returns : goal.returns
returns c = λ p t bytes w.
    let s = c.args.self.now in
    let none : s.fault ≡ None = none_where s.fault (sym c.is_some.ensures ∙ c.if-is_some.false) in
    c.take_all.ensures p t (bytes ++ c.args.piece.now) (piece_comes p t bytes c.args.piece.now s (λ i. omega (arith, c.type_inv.piece i)) (MatchOption-at_none (IsGoingOn p t bytes [] s) (AreRefusedListing p bytes) none w))
