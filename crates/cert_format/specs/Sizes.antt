-- The sizes that a certificate of a plan has.
use Rattle.std.specs.Prelude.{length}
use Rattle.sight_names.specs.Plan.{PlanParts}
use Rattle.cert_format.specs.declared.cert.Sizes.{Sizes}

abbrev pub sizes_of_plan : PlanParts → Sizes
sizes_of_plan p = record { sectors = p.sectors; points = length p.points; lines = length p.lines }
