use Rattle.std.proofs.Common.{rules, ◌≡◌, ℕ, List, true≢false, sym, subst, ◌∙◌}
use Rattle.std.specs.Prelude.{IfOk}
use Rattle.std.proofs.lemmas.Result.{IfOk-weaker}
use Rattle.any_judge.specs.Course.{IsAsked}
use Rattle.any_judge.proofs.Courses.{asked_of, by_exact, by_listing}
use Rattle.any_judge.proofs.opening.Opening.asked.Goals as goal

pub returns-then-begins_three : goal.returns-then-begins_three
returns-then-begins_three c = λ p t bytes w.
    let o = c.args.self.now in
    let given = c.as_slice-bytes.result.now in
    let same : given ≡ o.bytes.items = search rules in
    asked_of p t bytes o w c.exact.result
    (subst (λ (us : List ℕ). IfOk c.exact.result (IsAsked o.plan.now o.table.now us)) same (IfOk-weaker c.exact.result _ _ (by_exact o.plan.now o.table.now given (c.begins_three.ensures.0 c.if-begins_three.true)) c.exact.ensures))

pub returns-else-begins_three : goal.returns-else-begins_three
returns-else-begins_three c = λ p t bytes w.
    let o = c.args.self.now in
    let given = c.as_slice-bytes.result.now in
    let same : given ≡ o.bytes.items = search rules in
    asked_of p t bytes o w c.listing.result
    (subst (λ (us : List ℕ). IfOk c.listing.result (IsAsked o.plan.now o.table.now us)) same (IfOk-weaker c.listing.result _ _ (by_listing o.plan.now o.table.now given (λ b. true≢false (sym (c.begins_three.ensures.1 b) ∙ c.if-begins_three.false))) c.listing.ensures))
