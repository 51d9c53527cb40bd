use Rattle.std.proofs.Common.{◌≡◌, ℕ, List, Option, true, refl, sym, subst}
use Rattle.gate_floods.specs.RowJudge.Path.{HasPassed, HasPassedTo, EntersThrough}
use Rattle.gate_floods.specs.RowJudge.Words.{is_away}
use Rattle.gate_floods.proofs.RowJudge.Following.{further, opened}
use Rattle.gate_floods.specs.RowJudge.Masks.{rows_of}
use Rattle.gate_floods.proofs.row_judge.follow.go_through.Goals as goal

pub returns-clause-answered : goal.returns-clause-answered
returns-clause-answered c = λ first _.
    let xs = c.args.terrain.now.edges.now in
    let ms = rows_of c.args.masks.now in
    let source = c.args.source in
    let roots = c.args.terrain.now.roots.now.roots.items in
    let path = c.args.path.now in
    let rows = c.args.rows.now.items in
    let waits = c.args.waits.now.items in
    let f = c.args.follow.now in
    let middle = c.put.new.path in
    let behind = c.pass.new.rows.items in
    let new = c.enter.new.waits.items in
    let at = c.in-Some.row in
    let asked = c.in_ok-follow.field-0 in
    let x = c.args.edge.now in
    let passed : HasPassed ms rows f.row c.args.number behind at = subst (λ (o : Option ℕ). HasPassedTo ms rows f.row c.args.number behind o) c.in-Some.is c.in_ok-row.ensures in
    opened xs ms source first roots path rows waits f middle behind new c.args.number at c.enter.new.follow asked x c.requires.asked c.requires.there (c.if-not-put.ensures.put refl) passed
    (subst (λ (us : List ℕ). is_away us x.sector ≡ true) (sym passed.there) c.requires.away)
    (subst (λ (us : List ℕ). EntersThrough xs ms source first roots middle us waits (further xs ms source first roots path rows waits f at) x new c.enter.new.follow asked) c.deref.ensures.value (c.in_ok-follow.ensures first middle))
