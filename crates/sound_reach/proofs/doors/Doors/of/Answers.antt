use Rattle.std.proofs.Common.{◌<◌, List, sym, subst}
use Rattle.sight_names.specs.Map.{map_of}
use Rattle.sight_names.specs.Plan.{PlanParts, IsPlan}
use Rattle.sound_reach.specs.declared.doors.Door.{Door}
use Rattle.sound_reach.specs.Doors.{AreDoorStarts}
use Rattle.sound_reach.proofs.Adding.{doors_moved, doors_within}
use Rattle.sound_reach.proofs.Mapped.{doors_net}
use Rattle.sound_reach.proofs.doors.Doors.of.Goals as goal

pub returns-clause-indexed : goal.returns-clause-indexed
returns-clause-indexed c =
    let are = doors_moved c.args.plan.now c.args.dampers.now c.in_ok-doors_of.field-0.items c.in_ok-doors.doors.items c.in_ok-doors.ensures.same c.in_ok-doors_of.ensures in record {
      each = c.in_ok-starts.ensures.len;
      starts = subst (λ (es : List Door). AreDoorStarts es c.in_ok-starts.starts.items) c.deref.ensures.value c.in_ok-starts.ensures.starts;
      net = doors_net (map_of c.args.plan.now) c.args.dampers.now c.in_ok-doors.doors.items are;
      within = λ e there. subst (λ (p : PlanParts). e.to < p.sectors) (sym c.plan.view_is) (doors_within c.args.plan.now (subst IsPlan c.plan.view_is c.plan.invariant) c.args.dampers.now c.in_ok-doors.doors.items are e there);
    }

pub returns-clause-doors : goal.returns-clause-doors
returns-clause-doors c = doors_moved c.args.plan.now c.args.dampers.now c.in_ok-doors_of.field-0.items c.in_ok-doors.doors.items c.in_ok-doors.ensures.same c.in_ok-doors_of.ensures
