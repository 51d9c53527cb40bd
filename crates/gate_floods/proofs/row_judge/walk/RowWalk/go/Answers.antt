use Rattle.std.proofs.Common.{◌≡◌, ◌<◌, ◌++◌, List, length, take, drop, refl, sym, ◌∙◌, subst}
use Rattle.block_evidence.specs.declared.sight_tree.Node.TheVariants.{Open}
use Rattle.cert_checker.specs.declared.tree_judge.trees.Frame.{Frame}
use Rattle.cert_checker.proofs.TreeJudge.Noting.{stored}
use Rattle.gate_floods.proofs.RowJudge.Walking.{walk_answered}
use Rattle.gate_floods.proofs.RowJudge.Answered.{right}
use Rattle.gate_floods.specs.RowJudge.Masks.{rows_of}
use Rattle.gate_floods.specs.RowJudge.Path.{HasAnswered}
use Rattle.gate_floods.proofs.row_judge.walk.RowWalk.go.Goals as goal

pub returns-clause-answered : goal.returns-clause-answered
returns-clause-answered c = λ row t w.
    let xs = c.args.terrain.now.edges.now in
    let ms = rows_of c.args.masks.now in
    let roots = c.args.terrain.now.roots.now.roots.items in
    let firsts = c.args.terrain.now.roots.now.first.items in
    let self = c.args.self.now in
    let f = self.follow in
    let value : c.as_mut_slice.result.now ≡ c.make_room.new.path.items = c.as_mut_slice.ensures.value in
    let same : length c.go_through.new.path ≡ length c.as_mut_slice.result.now = c.go_through.auto.path in
    let back : take c.make_room.new.path.len (c.go_through.new.path ++ drop (length c.go_through.new.path) c.make_room.new.path.items) ≡ c.go_through.new.path = stored c.go_through.new.path _ c.make_room.new.path.len (same ∙ c.as_mut_slice.ensures.len) in
    walk_answered xs ms row roots firsts t self w c.as_mut_slice.result.now
    (λ l. (subst (λ (fs : List Frame). f.depth < length fs) (sym value) (c.in_ok-make_room.ensures.room l), subst (λ (fs : List Frame). take f.depth fs ≡ take f.depth self.path.items) (sym value) (c.in_ok-make_room.ensures.kept l)))
    Open _ refl (subst (λ (fs : List Frame). HasAnswered xs ms self.source row roots Open c.as_mut_slice.result.now self.rows.items self.waits.items f fs c.go_through.new.rows.items c.go_through.new.waits.items c.go_through.new.follow) (sym back) (c.in_ok-went.ensures.answered row c.if-not-went.false))

pub returns-clause-stands : goal.returns-clause-stands
returns-clause-stands c = λ first ps qs.
    let xs = c.args.terrain.now.edges.now in
    let ms = rows_of c.args.masks.now in
    let roots = c.args.terrain.now.roots.now.roots.items in
    let self = c.args.self.now in
    let f = self.follow in
    let value : c.as_mut_slice.result.now ≡ c.make_room.new.path.items = c.as_mut_slice.ensures.value in
    let same : length c.go_through.new.path ≡ length c.as_mut_slice.result.now = c.go_through.auto.path in
    let back : take c.make_room.new.path.len (c.go_through.new.path ++ drop (length c.go_through.new.path) c.make_room.new.path.items) ≡ c.go_through.new.path = stored c.go_through.new.path _ c.make_room.new.path.len (same ∙ c.as_mut_slice.ensures.len) in
    right xs ms first roots self c.as_mut_slice.result.now
    (λ l. (subst (λ (fs : List Frame). f.depth < length fs) (sym value) (c.in_ok-make_room.ensures.room l), subst (λ (fs : List Frame). take f.depth fs ≡ take f.depth self.path.items) (sym value) (c.in_ok-make_room.ensures.kept l)))
    Open _ c.go_through.new.rows.items c.go_through.new.waits.items c.go_through.new.follow
    (subst (λ (fs : List Frame). HasAnswered xs ms self.source first roots Open c.as_mut_slice.result.now self.rows.items self.waits.items f fs c.go_through.new.rows.items c.go_through.new.waits.items c.go_through.new.follow) (sym back) (c.in_ok-went.ensures.answered first c.if-not-went.false)) ps qs
