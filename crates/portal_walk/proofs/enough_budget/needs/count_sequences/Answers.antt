use Rattle.std.proofs.Common.{◌∙◌, ap, subst, arith}
use Rattle.mesh_shape.specs.Shape.{MeshParts}
use Rattle.portal_walk.specs.Walk.{Goes, OpensTo}
use Rattle.portal_walk.proofs.Steps.{leads_to}
use Rattle.portal_walk.proofs.EnoughBudget.Counting.{begin, blocked, count_few, ended, first_pending, opened_one, sequences_at}
use Rattle.portal_walk.proofs.enough_budget.needs.count_sequences.Goals as goal

pub loop-walker-init : goal.loop-walker-init
loop-walker-init c =
    let e = c.in_ok-walker.ensures in
    record { plan = e.plan; mesh = e.mesh; labels = e.labels; source = e.source; counted = begin c.in_ok-walker.walker (first_pending c.in_ok-walker.walker c.args.plan.now c.args.source e.plan e.source e.pending) }

pub returns-in-End : goal.returns-in-End
returns-in-End c =
    let i = c.loop-walker.invariant in
    record {
      number = sequences_at c.loop-walker.walker c.args.plan.now c.args.mesh.now.triangles c.args.labels.now c.args.source c.loop-walker.count i.plan (ap (λ (m : MeshParts). m.triangles) i.mesh) i.labels i.source
          (ended c.loop-walker.walker c.go.new.self c.loop-walker.count i.counted (subst (Goes c.loop-walker.walker c.go.new.self) c.in-End.is c.in_ok-go.ensures.went));
    }

pub loop-walker-preserved-in-Blocked : goal.loop-walker-preserved-in-Blocked
loop-walker-preserved-in-Blocked c =
    let i = c.loop-walker.invariant in
    let k = c.go.ensures.walk in
    let stuck = subst (Goes c.loop-walker.walker c.go.new.self) c.in-Blocked.is c.in_ok-go.ensures.went in
    record {
      plan = k.plan ∙ i.plan;
      mesh = k.mesh ∙ i.mesh;
      labels = k.labels ∙ i.labels;
      source = k.source ∙ i.source;
      counted = blocked c.loop-walker.walker c.go.new.self c.loop-walker.count i.counted k stuck.0 stuck.1;
    }

pub overflow_add-count : goal.overflow_add-count
overflow_add-count c =
    let i = c.loop-walker.invariant in
    let few = count_few c.loop-walker.walker c.args.plan.now c.args.mesh.now.triangles c.args.labels.now c.args.source c.loop-walker.count i.plan (ap (λ (m : MeshParts). m.triangles) i.mesh) i.labels i.source i.counted c.requires.good in
    let fits = c.enough_fits.ensures in
    omega (arith, few, fits)

pub loop-walker-preserved : goal.loop-walker-preserved
loop-walker-preserved c =
    let i = c.loop-walker.invariant in
    let k = c.go.ensures.walk in
    let opens : OpensTo c.loop-walker.walker c.go.new.self = (subst (Goes c.loop-walker.walker c.go.new.self) c.in-Open.is c.in_ok-go.ensures.went).0 in
    record {
      plan = k.plan ∙ i.plan;
      mesh = k.mesh ∙ i.mesh;
      labels = k.labels ∙ i.labels;
      source = k.source ∙ i.source;
      counted = opened_one c.loop-walker.walker c.go.new.self c.loop-walker.count i.counted k opens.opened.edge.triangle opens.opened.edge.entered (leads_to c.loop-walker.walker c.go.new.self opens opens.opened.edge opens.opened.top);
    }
