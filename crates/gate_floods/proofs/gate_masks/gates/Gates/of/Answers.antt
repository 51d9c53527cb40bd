use Rattle.std.proofs.Common.{◌<◌, List, sym, subst}
use Rattle.sight_names.specs.Map.{map_of}
use Rattle.sight_names.specs.Plan.{PlanParts, IsPlan}
use Rattle.gate_floods.specs.declared.gate_masks.gate.Gate.{Gate}
use Rattle.gate_floods.specs.GateMasks.Gates.{AreGateStarts}
use Rattle.gate_floods.proofs.GateMasks.Gathering.{gates_moved, gates_within}
use Rattle.gate_floods.proofs.gate_masks.gates.Gates.of.Goals as goal

pub returns-clause-indexed : goal.returns-clause-indexed
returns-clause-indexed c =
    let are = gates_moved (map_of c.args.plan.now) c.in_ok-gates_of.field-0.items c.in_ok-gates.gates.items c.in_ok-gates.ensures.same c.in_ok-gates_of.ensures in record {
      each = c.in_ok-starts.ensures.len;
      starts = subst (λ (es : List Gate). AreGateStarts es c.in_ok-starts.starts.items) c.deref.ensures.value c.in_ok-starts.ensures.starts;
      within = λ e there. subst (λ (p : PlanParts). e.far < p.sectors) (sym c.plan.view_is) (gates_within c.args.plan.now (subst IsPlan c.plan.view_is c.plan.invariant) c.in_ok-gates.gates.items are e there);
    }

pub returns-clause-gates : goal.returns-clause-gates
returns-clause-gates c = gates_moved (map_of c.args.plan.now) c.in_ok-gates_of.field-0.items c.in_ok-gates.gates.items c.in_ok-gates.ensures.same c.in_ok-gates_of.ensures
