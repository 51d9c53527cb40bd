use Rattle.std.proofs.Common.{◌++◌, ℕ, List, codes, string_bytes}
use Rattle.std.proofs.lemmas.Result.{IfOk-weaker}
use Rattle.fault_report.specs.Json.{way_json}
use Rattle.row_spelling.proofs.Quoting.{then_text}
use Rattle.fault_report.proofs.objects.push_gap.Goals as goal

pub returns : goal.returns
returns c =
    let old : List ℕ = string_bytes c.args.text.now in
    let begun : List ℕ = codes "{\"fault\":\"gap\"" in
    let way : List ℕ = way_json c.args.plan.now c.args.gap.now.from c.args.gap.now.to in
    IfOk-weaker c.push_text-2.result _ _ (λ u h. then_text old (begun ++ way) (codes "}\n") _ _ h (then_text old begun way _ _ c.in_ok-push_way.ensures c.in_ok-push_text.ensures)) c.push_text-2.ensures
