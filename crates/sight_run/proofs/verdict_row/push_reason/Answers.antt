use Rattle.std.proofs.Common.{◌≡◌, ◌++◌, ◌∙◌, ℕ, List, codes, drop, subst, sym}
use Rattle.map_answers.specs.SightStatus.Texts.{no_words}
use Rattle.sight_run.proofs.Reasons.{begins_with_no}
use Rattle.sight_run.proofs.verdict_row.push_reason.Goals as goal

pub behind_no-requires : goal.behind_no-requires
behind_no-requires c =
    let told : c.as_str.result.now ≡ no_words c.args.which = c.as_str.ensures.value ∙ c.in_ok-words.ensures in
    subst (λ (xs : List ℕ). xs ≡ codes "no " ++ drop 3 xs) (sym told) (begins_with_no c.args.which)
