use Rattle.std.proofs.Common.{Some, ◌∙◌, ap}
use Rattle.doomsight_c.specs.declared.kept.Kept.{Kept}
use Rattle.doomsight_c.proofs.KeptBuilds.{holds}
use Rattle.doomsight_c.proofs.keep.hold.Goals as goal

pub returns-in-Ok : goal.returns-in-Ok
returns-in-Ok c = record {
  whole = holds c.args.built c.in_ok-kept.kept c.of.result.value (c.of.ensures ∙ ap (λ (k : Kept). Some k) c.in-Ok.ensures.ok) c.in_ok-kept.counts c.in_ok-kept.ensures.whole;
}
