use Rattle.std.proofs.Common.{ℕ, ◌<◌, length, refl, sym, ap, ◌∙◌, subst}
use Rattle.mesh_shape.specs.Shape.{MeshParts}
use Rattle.portal_walk.specs.Walk.{Goes, OpensTo}
use Rattle.portal_walk.proofs.Steps.{leads_to, same_walk_both}
use Rattle.pair_answer.proofs.EnteredTriangles.Marking.{marked_too}
use Rattle.pair_answer.proofs.EnteredTriangles.Walking.{marks_begin, marks_blocked, marks_end, marks_open, marks_spent}
use Rattle.pair_answer.proofs.entered_triangles.walks.walk_on.Goals as goal

pub loop-walker-init : goal.loop-walker-init
loop-walker-init c = record { walk = record { plan = refl; mesh = refl; labels = refl; source = refl }; each = c.requires.each; same = refl; marked = marks_begin c.args.walker c.args.budget c.args.marks.now c.requires.pending }

pub returns-in-End-clause-walked : goal.returns-in-End-clause-walked
returns-in-End-clause-walked c =
    let i = c.loop-walker.invariant in
    marks_end c.loop-walker.walker c.go.new.self c.args.budget c.loop-walker.left c.args.marks.now c.loop-walker.marks i.marked c.args.walker i.walk (subst (Goes c.loop-walker.walker c.go.new.self) c.in-End.is c.in_ok-go.ensures.went)

pub loop-walker-preserved-in-Blocked : goal.loop-walker-preserved-in-Blocked
loop-walker-preserved-in-Blocked c =
    let i = c.loop-walker.invariant in
    let b = subst (Goes c.loop-walker.walker c.go.new.self) c.in-Blocked.is c.in_ok-go.ensures.went in
    record {
      walk = same_walk_both c.args.walker c.loop-walker.walker c.go.new.self i.walk c.go.ensures.walk;
      each = i.each ∙ sym (ap (λ (m : MeshParts). length m.triangles) c.go.ensures.walk.mesh);
      same = i.same;
      marked = marks_blocked c.loop-walker.walker c.go.new.self c.args.budget c.loop-walker.left c.args.marks.now c.loop-walker.marks i.marked c.go.ensures.walk b.0 b.1;
    }

pub here-requires : goal.here-requires
here-requires c =
    let opens : OpensTo c.loop-walker.walker c.go.new.self = (subst (Goes c.loop-walker.walker c.go.new.self) c.in-Open.is c.in_ok-go.ensures.went).0 in
    (opens.opened.edge, opens.opened.top)

pub returns-in_default-clause-walked : goal.returns-in_default-clause-walked
returns-in_default-clause-walked c =
    let i = c.loop-walker.invariant in
    let old = c.loop-walker.walker in
    let new = c.go.new.self in
    let opens : OpensTo old new = (subst (Goes old new) c.in-Open.is c.in_ok-go.ensures.went).0 in
    let x = opens.opened.edge in
    marks_spent old new c.args.budget c.loop-walker.left c.args.marks.now c.loop-walker.marks i.marked x.triangle x.entered (leads_to old new opens x opens.opened.top) c.args.walker i.walk c.in_default.ensures

pub loop-walker-preserved : goal.loop-walker-preserved
loop-walker-preserved c =
    let i = c.loop-walker.invariant in
    let old = c.loop-walker.walker in
    let new = c.go.new.self in
    let opens : OpensTo old new = (subst (Goes old new) c.in-Open.is c.in_ok-go.ensures.went).0 in
    let x = c.here.result.now in
    let leads = leads_to old new opens x c.here.ensures in
    let low = subst (λ (n : ℕ). x.triangle < n) (sym i.each) leads.opened.within in
    let mesh = sym (ap (λ (m : MeshParts). length m.triangles) c.go.ensures.walk.mesh) in
    record {
      walk = same_walk_both c.args.walker old new i.walk c.go.ensures.walk;
      each = c.mark.ensures.len ∙ i.each ∙ mesh;
      same = c.mark.ensures.len ∙ i.same;
      marked = marks_open old new c.args.budget c.loop-walker.left c.args.marks.now c.loop-walker.marks i.marked x.triangle x.entered leads c.go.ensures.walk c.in-Some.less c.in-Some.ensures c.mark.new.marks (marked_too x.triangle c.loop-walker.marks c.mark.new.marks low c.mark.ensures);
    }
