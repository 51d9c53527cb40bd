use Rattle.std.proofs.Common.{◌++◌, ℕ, List, codes, string_bytes}
use Rattle.std.proofs.lemmas.Result.{IfOk-weaker}
use Rattle.sight_names.specs.Map.{map_of, named}
use Rattle.fault_report.specs.Json.{ends_json, sector_json, side_json}
use Rattle.row_spelling.proofs.Quoting.{then_text}
use Rattle.fault_report.proofs.objects.push_open.Goals as goal

pub returns : goal.returns
returns c =
    let old : List ℕ = string_bytes c.args.text.now in
    let side : List ℕ = codes "{\"fault\":\"open\",\"side\":" ++ side_json c.args.side in
    let sector : List ℕ = sector_json (named (map_of c.args.plan.now) c.args.side) in
    let ends : List ℕ = ends_json c.args.plan.now c.args.side.line in
    IfOk-weaker c.push_text.result _ _ (λ u h. then_text old (side ++ sector ++ ends) (codes "}\n") _ _ h (then_text old (side ++ sector) ends _ _ c.in_ok-push_ends.ensures
    (then_text old side sector _ _ (rw c.sector_at.ensures at c.in_ok-push_sector.ensures) c.in_ok-push_member_side.ensures))) c.push_text.ensures
