use Rattle.std.proofs.Common.{◌≡◌, ◌∙◌, ℕ, ap, length}
use Rattle.sight_names.specs.Plan.{PlanParts}
use Rattle.whole_wad.specs.Rejects.{table_len}
use Rattle.table_verdicts.specs.MapList.Entry.{set_bits}
use Rattle.table_verdicts.proofs.map_list.sizes.sizes_of.Goals as goal

pub returns : goal.returns
returns c =
    let same : c.plan.inside.sectors ≡ c.args.plan.now.sectors = ap (λ (p : PlanParts). p.sectors) c.plan.view_is in
    let sectors : c.from.result ≡ c.args.plan.now.sectors = c.from.ensures ∙ same in
    let expected : c.table_len.result ≡ table_len c.args.plan.now.sectors = c.table_len.ensures ∙ ap table_len same in
    let set : c.in_ok-set.set ≡ set_bits c.args.plan.now.sectors c.args.reject.now = c.in_ok-set.ensures ∙ ap (λ (n : ℕ). set_bits n c.args.reject.now) same in
    λ i. record { format = c.args.format; lines = c.count_lines.ensures i; points = c.count_points.ensures i; sectors = sectors i; found = length c.args.reject.now; expected = expected i; set = set i }
