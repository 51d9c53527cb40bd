use Rattle.std.proofs.Common.{◌++◌, ◌∷◌, [], ◌+◌, List, length, sym, subst}
use Rattle.std.specs.Prelude.{IfOk, Ok}
use Rattle.sight_names.specs.Splitting.{EndPoints, IsSplittable}
use Rattle.stab_hull.specs.declared.Passed.{Passed}
use Rattle.stab_hull.specs.Answer.{IsPortalPassed, IsBarredBy}
use Rattle.portal_walk.specs.Walk.{half_edge_ends}
use Rattle.row_trees.specs.Going.{IsAfter, IsTried}
use Rattle.row_trees.specs.Walkable.{row_scene_of}
use Rattle.row_trees.proofs.Going.{joins_there}
use Rattle.row_trees.proofs.walk.Walk.try_edge.Goals as goal

pub pass-requires-clause-joins : goal.pass-requires-clause-joins
pass-requires-clause-joins c =
    let w = c.args.self.now in
    let r = c.requires.tried in
    joins_there (row_scene_of c.args.terrain.now c.args.masks.now) r.0 w.root w.ends w.judged c.args.made.now.found.items c.args.edge.now r.1 r.2

pub go_through-requires-clause-splittable : goal.go_through-requires-clause-splittable
go_through-requires-clause-splittable c =
    let o = subst (λ (p : Passed). IsPortalPassed c.args.self.now.ends (half_edge_ends c.args.edge.now) c.pass.new.self (Ok p)) c.in-Open.is c.in_ok-pass.ensures in
    subst (λ (es : List EndPoints). IsSplittable es) (sym o.0) o.1

pub returns-in-Open-clause-after : goal.returns-in-Open-clause-after
returns-in-Open-clause-after c = λ s n t.
    let o = subst (λ (p : Passed). IsPortalPassed c.args.self.now.ends (half_edge_ends c.args.edge.now) c.pass.new.self (Ok p)) c.in-Open.is c.in_ok-pass.ensures in
    c.go_through.ensures.after s n c.args.self.now.ends o.0 t

pub turn_back-requires : goal.turn_back-requires
turn_back-requires c =
    let w = c.args.self.now in
    let x = c.args.edge.now in
    let r = c.requires.tried in
    let k = row_scene_of c.args.terrain.now c.args.masks.now in
    let o = subst (λ (p : Passed). IsPortalPassed w.ends (half_edge_ends x) c.pass.new.self (Ok p)) c.in-Stuck.is c.in_ok-pass.ensures in
    record {
      tried = (
        r.0,
        r.1,
        x,
        subst (λ (es : List EndPoints). IsBarredBy (es ++ half_edge_ends x ∷ []) c.in-Stuck.evidence) (sym o.0) o.1,
        subst (λ (es : List EndPoints). IsTried k r.0 w.root es w.judged c.args.made.now.found.items x r.1) (sym o.0) r.2,
      );
    }

pub returns-in-Stuck-clause-after : goal.returns-in-Stuck-clause-after
returns-in-Stuck-clause-after c = λ s n t.
    let w = c.args.self.now in
    let x = c.args.edge.now in
    let found = c.args.made.now.found.items in
    let k = row_scene_of c.args.terrain.now c.args.masks.now in
    let v = c.turn_back.new in
    let o = subst (λ (p : Passed). IsPortalPassed c.args.self.now.ends (half_edge_ends c.args.edge.now) c.pass.new.self (Ok p)) c.in-Stuck.is c.in_ok-pass.ensures in
    subst (λ (es : List EndPoints). IsBarredBy (es ++ half_edge_ends x ∷ []) c.in-Stuck.evidence → IsTried k s w.root es w.judged found x (n + 1) → IfOk c.turn_back.result (λ _. IsAfter k s v.self.root v.self.ends v.self.judged v.made.found.items n (length es)))
    o.0 (c.turn_back.ensures.after s n x) o.1 t
