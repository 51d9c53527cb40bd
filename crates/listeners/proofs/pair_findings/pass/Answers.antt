use Rattle.std.proofs.Common.{sym, ◌∙◌}
use Rattle.std.proofs.lemmas.List.{drop_more}
use Rattle.listeners.proofs.PairFindings.Places.{pass_it, pass_other}
use Rattle.listeners.proofs.pair_findings.pass.Goals as goal

pub returns-then-not-is_pair-clause-listed : goal.returns-then-not-is_pair-clause-listed
returns-then-not-is_pair-clause-listed c =
    let e = drop_more c.args.listed.now c.args.place.now (record { a = 0; b = 0 }) c.if-at-listed.false in
    (pass_other _ _ _ _ c.requires _ _ e (sym c.is_pair.ensures ∙ c.if-not-is_pair.true)).0

pub returns-then-not-is_pair-clause-place : goal.returns-then-not-is_pair-clause-place
returns-then-not-is_pair-clause-place c =
    let e = drop_more c.args.listed.now c.args.place.now (record { a = 0; b = 0 }) c.if-at-listed.false in
    (pass_other _ _ _ _ c.requires _ _ e (sym c.is_pair.ensures ∙ c.if-not-is_pair.true)).1

pub returns-clause-place : goal.returns-clause-place
returns-clause-place c =
    let e = drop_more c.args.listed.now c.args.place.now (record { a = 0; b = 0 }) c.if-at-listed.false in
    (pass_it _ _ _ _ c.requires _ _ e (sym c.is_pair.ensures ∙ c.if-not-is_pair.false)).1
