use Rattle.std.proofs.Common.{ℕ, ◌/◌, ◌≤◌, ◌∙◌, length, sym, subst}
use Rattle.sight_names.specs.Limits.{most_lines}
use Rattle.map_lumps.proofs.Checking.{line_fault_first}
use Rattle.map_lumps.proofs.checks.early_fault.Goals as goal

pub returns-clause-fault : goal.returns-clause-fault
returns-clause-fault c =
    let few_sectors = subst (λ (most : ℕ). length c.args.sectors.now / 26 ≤ most) c.most_sectors.ensures.most c.if-count-most_sectors.false in
    let few_lines = subst (λ (most : ℕ). c.count_linedefs-count.result ≤ most) c.most_lines.ensures.most c.if-count-most_lines.false in
    line_fault_first c.args.reading c.args.linedefs.now c.args.sidedefs.now c.args.vertexes.now c.args.sectors.now c.first_line_fault.result (sym c.cut_lump.ensures ∙ c.in_default.is) few_sectors
    (subst (λ (n : ℕ). n ≤ most_lines c.args.reading.large) c.count_linedefs-count.ensures few_lines) c.first_line_fault.ensures.first
