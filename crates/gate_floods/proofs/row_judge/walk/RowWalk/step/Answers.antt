use Rattle.std.proofs.Common.{◌≡◌, ◌<◌, ◌++◌, List, length, take, drop, refl, sym, ◌∙◌, subst}
use Rattle.cert_checker.specs.declared.tree_judge.trees.Frame.{Frame}
use Rattle.cert_checker.proofs.TreeJudge.Noting.{stored}
use Rattle.gate_floods.proofs.RowJudge.Walking.{if_answered, if_refused}
use Rattle.gate_floods.proofs.RowJudge.Answered.{if_right}
use Rattle.gate_floods.specs.RowJudge.Masks.{rows_of}
use Rattle.gate_floods.proofs.row_judge.walk.RowWalk.step.Goals as goal

pub returns-clause-answered : goal.returns-clause-answered
returns-clause-answered c = λ row t w.
    let xs = c.args.terrain.now.edges.now in
    let roots = c.args.terrain.now.roots.now.roots.items in
    let firsts = c.args.terrain.now.roots.now.first.items in
    let self = c.args.self.now in
    let f = self.follow in
    let value : c.as_mut_slice.result.now ≡ c.make_room.new.path.items = c.as_mut_slice.ensures.value in
    let same : length c.answer.new.path ≡ length c.as_mut_slice.result.now = c.answer.auto.path in
    let back : take c.make_room.new.path.len (c.answer.new.path ++ drop (length c.answer.new.path) c.make_room.new.path.items) ≡ c.answer.new.path = stored c.answer.new.path _ c.make_room.new.path.len (same ∙ c.as_mut_slice.ensures.len) in
    if_answered xs (rows_of c.args.masks.now) row roots firsts t self w c.as_mut_slice.result.now
    (λ l. (subst (λ (fs : List Frame). f.depth < length fs) (sym value) (c.in_ok-make_room.ensures.room l), subst (λ (fs : List Frame). take f.depth fs ≡ take f.depth self.path.items) (sym value) (c.in_ok-make_room.ensures.kept l)))
    c.args.node _ c.answer.new.path c.answer.result refl back (c.answer.ensures.answered row)

pub returns-clause-refused : goal.returns-clause-refused
returns-clause-refused c = λ row t w.
    let xs = c.args.terrain.now.edges.now in
    let roots = c.args.terrain.now.roots.now.roots.items in
    let firsts = c.args.terrain.now.roots.now.first.items in
    let self = c.args.self.now in
    let f = self.follow in
    let value : c.as_mut_slice.result.now ≡ c.make_room.new.path.items = c.as_mut_slice.ensures.value in
    if_refused xs (rows_of c.args.masks.now) row roots firsts t self w c.as_mut_slice.result.now
    (λ l. (subst (λ (fs : List Frame). f.depth < length fs) (sym value) (c.in_ok-make_room.ensures.room l), subst (λ (fs : List Frame). take f.depth fs ≡ take f.depth self.path.items) (sym value) (c.in_ok-make_room.ensures.kept l)))
    c.args.node c.answer.result (c.answer.ensures.refused row)

pub returns-clause-stands : goal.returns-clause-stands
returns-clause-stands c = λ first ps qs.
    let xs = c.args.terrain.now.edges.now in
    let roots = c.args.terrain.now.roots.now.roots.items in
    let self = c.args.self.now in
    let f = self.follow in
    let value : c.as_mut_slice.result.now ≡ c.make_room.new.path.items = c.as_mut_slice.ensures.value in
    let same : length c.answer.new.path ≡ length c.as_mut_slice.result.now = c.answer.auto.path in
    let back : take c.make_room.new.path.len (c.answer.new.path ++ drop (length c.answer.new.path) c.make_room.new.path.items) ≡ c.answer.new.path = stored c.answer.new.path _ c.make_room.new.path.len (same ∙ c.as_mut_slice.ensures.len) in
    if_right xs (rows_of c.args.masks.now) first roots self c.as_mut_slice.result.now
    (λ l. (subst (λ (fs : List Frame). f.depth < length fs) (sym value) (c.in_ok-make_room.ensures.room l), subst (λ (fs : List Frame). take f.depth fs ≡ take f.depth self.path.items) (sym value) (c.in_ok-make_room.ensures.kept l)))
    c.args.node _ c.answer.new.rows.items c.answer.new.waits.items c.answer.new.follow c.answer.new.path c.answer.result back (c.answer.ensures.answered first) (c.answer.ensures.refused first) ps qs
