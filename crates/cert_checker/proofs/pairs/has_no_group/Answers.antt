use Rattle.std.proofs.Common.{ℕ, List, [], length, ◌==◌, refl, sym, ◌∙◌, ap}
use Rattle.std.proofs.lemmas.Option.{none-some, slice_get_past, slice_get_read}
use Rattle.cert_checker.specs.BlindRows.{HasNoGroup}
use Rattle.cert_checker.proofs.Each.{no_true}
use Rattle.cert_checker.proofs.BlindRows.{no_group_told}
use Rattle.cert_checker.proofs.pairs.has_no_group.Goals as goal

pub returns-in-Some : goal.returns-in-Some
returns-in-Some c =
    let l = c.in-Some.ensures.lookup in
    no_group_told c.args.members.now c.args.sector c.in-Some.groups.now c.is_empty.result (slice_get_read c.args.members.now (length c.args.members.now) c.args.sector c.in-Some.groups.now refl l.3.0 l.1) (c.is_empty.ensures ∙ ap (λ (xs : List ℕ). length xs == 0) c.as_slice.ensures)

pub returns-in-None : goal.returns-in-None
returns-in-None c = no_true (HasNoGroup c.args.members.now c.args.sector) (λ h. none-some [] (sym (slice_get_past c.args.members.now c.args.sector c.in-None.ensures.lookup.3) ∙ h))
