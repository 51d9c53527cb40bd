use Rattle.std.proofs.Common.{◌≡◌, ◌⊎◌, List, Some, false, slice_get, slice_set, true, ap, sym, ◌∙◌, subst, arith}
use Rattle.std.specs.List.{Contains}
use Rattle.std.proofs.lemmas.Option.{slice_get-get_or}
use Rattle.std.proofs.lemmas.List.Elements.{Contains-push}
use Rattle.pair_budget.specs.declared.results.Reached.{Reached}
use Rattle.pair_budget.specs.FoundSectors.{FoundSectorsParts, AreFoundSectors}
use Rattle.pair_budget.specs.Walked.{IsReachedFrom}
use Rattle.pair_budget.specs.Whole.{IsFound}
use Rattle.pair_budget.proofs.OneMore.{with_one_more}
use Rattle.pair_budget.proofs.found_sectors.FoundSectors.add.Goals as goal
use Rattle.math_base.proofs.Lists.{contains_pushed}

pub invariant_of-self-2 : goal.invariant_of-self-2
invariant_of-self-2 c =
    let s = c.self.inside in
    let f : FoundSectorsParts = record { plan = s.plan.now; source = s.source; found = s.found.items } in
    let reached : IsReachedFrom f.plan f.source c.args.reached = subst (λ (g : FoundSectorsParts). IsReachedFrom g.plan g.source c.args.reached) (sym c.self.view_is) c.requires in
    let fresh : slice_get s.seen.items c.args.reached.to ≡ Some false = slice_get-get_or s.seen.items c.args.reached.to c.index.result.now (let w = reached.within in let e = c.self.invariant.one_each in omega arith) ∙ ap Some (sym c.index.ensures ∙ c.if-index.false) in
    subst (λ (rs : List Reached). AreFoundSectors (record { plan = s.plan.now; source = s.source; found = rs }) (slice_set s.seen.items c.args.reached.to true)) (sym c.in_ok-push.ensures.items)
    (with_one_more f s.seen.items c.self.invariant c.args.reached reached fresh)

pub returns-clause-there : goal.returns-clause-there
returns-clause-there c = λ _. subst (λ (rs : List Reached). Contains rs c.args.reached) (sym c.in_ok-push.ensures.items) (Contains-push c.self.inside.found.items c.args.reached)

pub returns-then-index-clause-found : goal.returns-then-index-clause-found
returns-then-index-clause-found c =
    let s = c.self.inside in
    let f : FoundSectorsParts = record { plan = s.plan.now; source = s.source; found = s.found.items } in
    let reached : IsReachedFrom f.plan f.source c.args.reached = subst (λ (g : FoundSectorsParts). IsReachedFrom g.plan g.source c.args.reached) (sym c.self.view_is) c.requires in
    let marked : slice_get s.seen.items c.args.reached.to ≡ Some true = slice_get-get_or s.seen.items c.args.reached.to c.index.result.now (let w = reached.within in let e = c.self.invariant.one_each in omega arith) ∙ ap Some (sym c.index.ensures ∙ c.if-index.true) in
    subst (λ (g : FoundSectorsParts). IsFound g.found c.args.reached.to) c.self.view_is (c.self.invariant.only c.args.reached.to marked)

pub returns-clause-only : goal.returns-clause-only
returns-clause-only c = λ r there.
    subst (λ (g : FoundSectorsParts). Contains g.found r ⊎ (c.args.reached ≡ r)) c.self.view_is
    (contains_pushed c.self.inside.found.items c.args.reached r (subst (λ (rs : List Reached). Contains rs r) c.in_ok-push.ensures.items there))
