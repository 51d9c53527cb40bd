use Rattle.std.proofs.Common.{◌∙◌, ℕ, ap}
use Rattle.sight_names.specs.Map.{map_of}
use Rattle.sight_names.specs.Plan.{PlanParts}
use Rattle.doomsight_c.specs.Built.{table_size}
use Rattle.doomsight_c.specs.Faults.{wide}
use Rattle.doomsight_c.proofs.Giving.{unfit}
use Rattle.doomsight_c.proofs.build.unfit_for.Goals as goal

pub returns-clause-refused : goal.returns-clause-refused
returns-clause-refused c =
    let size = c.table_size.ensures ∙ ap (λ (p : PlanParts). table_size p.sectors) c.plan.view_is in
    unfit (map_of c.args.plan.now) c.args.room c.requires c.wide.result (c.wide.ensures ∙ ap (λ (n : ℕ). wide 2 15 n 0) size)
