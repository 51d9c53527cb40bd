use Rattle.std.proofs.Common.{◌++◌, ℕ, List, codes, string_bytes}
use Rattle.std.proofs.lemmas.Result.{IfOk-weaker}
use Rattle.pair_answer.specs.WhyAnswers.Lines.{ray_as_words}
use Rattle.row_spelling.proofs.Quoting.{then_text}
use Rattle.table_verdicts.proofs.json.push_ray_text.Goals as goal

pub returns : goal.returns
returns c =
    let old : List ℕ = string_bytes c.args.line.now in
    let words : List ℕ = ray_as_words c.args.ray in
    IfOk-weaker c.push_text-2.result _ _ (λ u h. then_text old (codes "\"" ++ words) (codes "\"") _ _ h (then_text old (codes "\"") words _ _ c.in_ok-push_ray.ensures c.in_ok-push_text.ensures)) c.push_text-2.ensures
