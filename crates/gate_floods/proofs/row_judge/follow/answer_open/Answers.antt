use Rattle.std.proofs.Common.{◌≡◌, ℕ, List, Option, true, refl, sym, ◌∙◌, ap, subst}
use Rattle.gate_floods.specs.RowJudge.Path.{HasPassedTo, EntersThrough}
use Rattle.gate_floods.specs.RowJudge.Words.{is_away, row_in_words}
use Rattle.gate_floods.proofs.RowJudge.Following.{further, opened}
use Rattle.gate_floods.specs.RowJudge.Masks.{rows_of}
use Rattle.gate_floods.proofs.row_judge.follow.answer_open.Goals as goal

pub returns-clause-answered : goal.returns-clause-answered
returns-clause-answered c = λ first _.
    let xs = c.args.terrain.now.edges.now in
    let ms = rows_of c.args.masks.now in
    let source = c.args.source in
    let roots = c.args.terrain.now.roots.now.roots.items in
    let path = c.args.path.now in
    let rows = c.args.rows.now.items in
    let waits = c.args.waits.now.items in
    let f = c.args.follow.now in
    let middle = c.put.new.path in
    let behind = c.pass.new.rows.items in
    let new = c.enter.new.waits.items in
    let at = c.in-Some-2.row in
    let asked = c.in_ok-follow.field-0 in
    let x = c.in-Some-get.edge.now in
    opened xs ms source first roots path rows waits f middle behind new c.in-Some.place at c.enter.new.follow asked x c.in-Some.is (sym c.in-Some-get.ensures) (c.if-not-put.ensures.put refl)
    (subst (λ (o : Option ℕ). HasPassedTo ms rows f.row c.in-Some.place behind o) c.in-Some-2.is c.in_ok-row.ensures)
    (subst (λ (us : List ℕ). is_away us x.sector ≡ true) (c.part.ensures ∙ ap (λ (us : List ℕ). row_in_words us ms.width at) c.deref.ensures.value) c.if-holds.ensures)
    (subst (λ (us : List ℕ). EntersThrough xs ms source first roots middle us waits (further xs ms source first roots path rows waits f at) x new c.enter.new.follow asked) c.deref-2.ensures.value (c.in_ok-follow.ensures first middle))
