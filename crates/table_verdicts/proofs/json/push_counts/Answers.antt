use Rattle.std.proofs.Common.{◌++◌, ◌∙◌, ℕ, List, ap, append_assoc, codes, string_bytes, sym}
use Rattle.std.specs.Fmt.{decimal}
use Rattle.std.proofs.lemmas.Result.{IfOk-weaker}
use Rattle.row_spelling.proofs.Quoting.{then_text}
use Rattle.table_verdicts.proofs.json.push_counts.Goals as goal

pub returns : goal.returns
returns c =
    let old : List ℕ = string_bytes c.args.line.now in
    let wrong : List ℕ = codes ",\"wrong\":" ++ decimal c.args.wrong in
    let name : List ℕ = codes ",\"missing\":" in
    let missing : List ℕ = decimal c.args.missing in
    IfOk-weaker c.push_count-2.result _ _ (λ u h. then_text old wrong (name ++ missing) _ _ h c.in_ok-push_count.ensures ∙ ap (λ (ys : List ℕ). old ++ ys) (sym (append_assoc wrong name missing))) c.push_count-2.ensures
