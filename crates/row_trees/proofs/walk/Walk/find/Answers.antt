use Rattle.std.proofs.Common.{List, subst, sym, ◌∙◌, ap}
use Rattle.pair_budget.specs.declared.results.Reached.{Reached}
use Rattle.gate_floods.specs.declared.row_judge.follow.RowFollow.{RowFollow}
use Rattle.gate_floods.specs.RowJudge.Words.{row_in_words}
use Rattle.row_trees.specs.Going.{IsTried}
use Rattle.row_trees.specs.Walkable.{row_scene_of}
use Rattle.row_trees.proofs.Thin.{out_of}
use Rattle.row_trees.proofs.Found.{wanted_some, away_in, found_more, none_wanted, split_along, range_along}
use Rattle.row_trees.proofs.walk.Walk.find.Goals as goal

pub returns-in_default-clause-away : goal.returns-in_default-clause-away
returns-in_default-clause-away c =
    let t = c.requires.tried in
    none_wanted (row_scene_of c.args.terrain.now c.args.masks.now) t.0 c.args.self.now.root t.2 c.args.self.now.judged c.args.made.now.found.items c.args.edge.now t.1 t.4 (sym c.wanted.ensures ∙ c.in_default.is)

pub returns-clause-tried : goal.returns-clause-tried
returns-clause-tried c = λ s n before e t.
    let w = c.args.self.now in
    let found = c.args.made.now.found.items in
    let k = row_scene_of c.args.terrain.now c.args.masks.now in
    let x = c.args.edge.now in
    let line = c.line-line.result in
    let r = c.reached-reached.result in
    let along = c.reached-reached.ensures in
    subst (λ (rs : List Reached). IsTried k s w.root before c.forget.new.walk rs x n) (sym c.in_ok-push.ensures.items)
    (found_more k s w.root before w.judged c.forget.new.walk found x n t c.in-Some.to
    (wanted_some w.judged.rows.items c.args.masks.now.width w.judged.follow.row x c.in-Some.to (sym c.wanted.ensures ∙ c.in-Some.is)) r along.along
    (split_along w.ends _ line.0 line.1 line.2 r.ray.a r.ray.b r.ray.c e along.line.0 along.line.1 along.line.2 c.line-line.ensures.splits) (range_along line.0 line.1 line.2 r.ray.a r.ray.b r.ray.c along.line.0 along.line.1 along.line.2 c.line-line.ensures.range)
    c.forget.ensures.same c.forget.ensures.thinner c.forget.ensures.gone c.forget.ensures.present)

pub returns-clause-away : goal.returns-clause-away
returns-clause-away c =
    let w = c.args.self.now in
    let width = c.args.masks.now.width in
    let new = c.forget.new.walk in
    away_in (row_in_words new.rows.items width new.follow.row) c.args.edge.now.sector c.in-Some.to
    (wanted_some w.judged.rows.items width w.judged.follow.row c.args.edge.now c.in-Some.to (sym c.wanted.ensures ∙ c.in-Some.is)).0
    (out_of (row_in_words new.rows.items width new.follow.row) (row_in_words new.rows.items width 0) c.in-Some.to c.forget.ensures.present c.forget.ensures.gone)

pub returns-clause-asked : goal.returns-clause-asked
returns-clause-asked c = ap (λ (f : RowFollow). f.asked) c.forget.ensures.same.follow
