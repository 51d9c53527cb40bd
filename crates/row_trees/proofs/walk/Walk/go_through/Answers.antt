use Rattle.std.proofs.Common.{subst, ◌∙◌, length, ◌+◌, ◌++◌, ◌∷◌, []}
use Rattle.portal_walk.specs.Walk.{half_edge_ends}
use Rattle.sight_names.specs.Splitting.{IsSplittable}
use Rattle.gate_floods.specs.RowJudge.Asked.{ways_through}
use Rattle.gate_floods.proofs.RowJudge.Telling.{all_ok}
use Rattle.row_trees.specs.Going.{IsAfter}
use Rattle.row_trees.specs.Walkable.{row_scene_of}
use Rattle.row_trees.proofs.Going.{head_of, open_right, opened, after_moved, asked_there, away_asked}
use Rattle.row_trees.proofs.walk.Walk.go_through.Goals as goal

pub enter-requires-clause-asked : goal.enter-requires-clause-asked
enter-requires-clause-asked c = c.find.ensures.asked ∙ c.requires.asked

pub enter-requires-clause-there : goal.enter-requires-clause-there
enter-requires-clause-there c =
    let k = row_scene_of c.args.terrain.now c.args.masks.now in
    let r = c.requires.tried in
    let v = c.find.new in
    let t = c.in_ok-find.ensures.tried r.0 r.1 r.2 r.3 r.4 in
    asked_there k r.0 v.self.root r.2 v.self.judged v.made.found.items c.args.edge.now r.1 c.args.number t (c.find.ensures.asked ∙ c.requires.asked)

pub enter-requires-clause-away : goal.enter-requires-clause-away
enter-requires-clause-away c = away_asked (row_scene_of c.args.terrain.now c.args.masks.now) c.requires.tried.0 c.find.new.self.judged c.args.edge.now c.args.number c.in_ok-find.ensures.away

pub enter-requires-clause-stands : goal.enter-requires-clause-stands
enter-requires-clause-stands c =
    let r = c.requires.tried in
    let t = c.in_ok-find.ensures.tried r.0 r.1 r.2 r.3 r.4 in
    (t.going.first, t.going.asked, t.going.at)

pub returns-clause-after : goal.returns-clause-after
returns-clause-after c = λ s n before e first.
    let k = row_scene_of c.args.terrain.now c.args.masks.now in
    let v = c.find.new in
    let u = c.enter.new in
    let x = c.args.edge.now in
    let t = c.in_ok-find.ensures.tried s (n + 1) before e first in
    let h = head_of k s v.self.root before v.self.judged v.made.found.items x (n + 1) t in
    all_ok _ (λ _. IsAfter k s u.self.root u.self.ends u.self.judged u.made.found.items n (length before)) c.enter.result
    (c.enter.ensures.stands t.going.first t.going.asked (ways_through k.edges k.masks s.source h.head x ++ h.rest) t.going.at (open_right k s v.self.root before v.self.judged v.made.found.items x (n + 1) t c.in_ok-find.ensures.away))
    (λ _ at. after_moved k s v.self.root u.self.root (before ++ half_edge_ends x ∷ []) u.self.ends u.self.judged v.made.found.items u.made.found.items n (length before) c.enter.ensures.root (c.enter.ensures.ends ∙ c.find.ensures.ends ∙ e) c.enter.ensures.found
    (opened k s v.self.root before v.self.judged u.self.judged v.made.found.items x n t (subst IsSplittable e c.requires.splittable) c.in_ok-find.ensures.away c.enter.ensures.source at))

pub returns-clause-made : goal.returns-clause-made
returns-clause-made c = λ row source h. c.enter.ensures.made row source (c.in_ok-find.ensures.made row source h)
