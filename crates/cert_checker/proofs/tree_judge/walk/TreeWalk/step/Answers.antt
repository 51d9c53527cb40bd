use Rattle.std.proofs.Common.{◌≡◌, ℕ, ◌<◌, ◌++◌, List, length, take, drop, sym, ◌∙◌, subst, arith}
use Rattle.cert_checker.specs.declared.tree_judge.trees.Frame.{Frame}
use Rattle.cert_checker.specs.declared.tree_judge.trees.Wait.{Wait}
use Rattle.cert_checker.specs.TreeJudge.Whole.{HasAnswered, HasRefused}
use Rattle.cert_checker.specs.TreeJudge.Walked.{with_node, IsWalkedAt}
use Rattle.cert_checker.proofs.TreeJudge.Noting.{stored}
use Rattle.cert_checker.proofs.TreeJudge.Walking.{walk_goes_on, walk_refuses}
use Rattle.cert_checker.proofs.tree_judge.walk.TreeWalk.step.Goals as goal

pub returns-clause-answered : goal.returns-clause-answered
returns-clause-answered c = λ t old w right.
    let xs = c.args.terrain.now.edges.now in
    let roots = c.args.terrain.now.roots.now.roots.items in
    let firsts = c.args.terrain.now.roots.now.first.items in
    let path = c.args.self.now.path.items in
    let waits = c.args.self.now.waits.items in
    let f = c.args.self.now.follow in
    let value : c.as_mut_slice.result.now ≡ c.make_room.new.path.items = c.as_mut_slice.ensures.value in
    let value_waits : c.as_mut_slice-2.result.now ≡ c.make_wait.new.waits.items = c.as_mut_slice-2.ensures.value in
    let same : length c.answer.new.path ≡ length c.as_mut_slice.result.now = c.answer.auto.path in
    let same_waits : length c.answer.new.waits ≡ length c.as_mut_slice-2.result.now = c.answer.auto.waits in
    let back : take c.make_room.new.path.len (c.answer.new.path ++ drop (length c.answer.new.path) c.make_room.new.path.items) ≡ c.answer.new.path = stored c.answer.new.path _ c.make_room.new.path.len (same ∙ c.as_mut_slice.ensures.len) in
    let back_waits : take c.make_wait.new.waits.len (c.answer.new.waits ++ drop (length c.answer.new.waits) c.make_wait.new.waits.items) ≡ c.answer.new.waits = stored c.answer.new.waits _ c.make_wait.new.waits.len (same_waits ∙ c.as_mut_slice-2.ensures.len) in
    subst (λ (us : List Wait). IsWalkedAt xs roots firsts (with_node c.args.node t) old c.answer.new.reached c.args.self.now.source (take c.make_room.new.path.len (c.answer.new.path ++ drop (length c.answer.new.path) c.make_room.new.path.items)) us c.answer.new.follow) (sym back_waits)
    (subst (λ (fs : List Frame). IsWalkedAt xs roots firsts (with_node c.args.node t) old c.answer.new.reached c.args.self.now.source fs c.answer.new.waits c.answer.new.follow) (sym back)
    (walk_goes_on xs roots firsts t old c.args.node c.args.reached.now c.answer.new.reached c.args.self.now.source path c.as_mut_slice.result.now c.answer.new.path waits c.as_mut_slice-2.result.now c.answer.new.waits f c.answer.new.follow w
    (λ l. subst (λ (fs : List Frame). take f.depth fs ≡ take f.depth path) (sym value) (c.in_ok-make_room.ensures.kept l))
    (λ l. subst (λ (us : List Wait). take f.depth us ≡ take f.depth waits) (sym value_waits) (c.in_ok-make_wait.ensures.kept l))
    (λ l. c.answer.ensures.within (let h : f.depth < length c.as_mut_slice.result.now = subst (λ (fs : List Frame). f.depth < length fs) (sym value) (c.in_ok-make_room.ensures.room l) in omega (arith, h)))
    (λ l. c.answer.ensures.room (let h : f.depth < length c.as_mut_slice-2.result.now = subst (λ (us : List Wait). f.depth < length us) (sym value_waits) (c.in_ok-make_wait.ensures.room l) in omega (arith, h)))
    (λ e. subst (λ (s : ℕ). HasAnswered xs roots s c.args.node c.as_mut_slice.result.now c.as_mut_slice-2.result.now f c.args.reached.now c.answer.new.path c.answer.new.waits c.answer.new.follow c.answer.new.reached) e (c.answer.ensures.answered right))))

pub returns-clause-refused : goal.returns-clause-refused
returns-clause-refused c = λ t old w wrong.
    let xs = c.args.terrain.now.edges.now in
    let roots = c.args.terrain.now.roots.now.roots.items in
    let firsts = c.args.terrain.now.roots.now.first.items in
    let path = c.args.self.now.path.items in
    let waits = c.args.self.now.waits.items in
    let f = c.args.self.now.follow in
    let value : c.as_mut_slice.result.now ≡ c.make_room.new.path.items = c.as_mut_slice.ensures.value in
    let value_waits : c.as_mut_slice-2.result.now ≡ c.make_wait.new.waits.items = c.as_mut_slice-2.ensures.value in
    let room : f.depth < length c.as_mut_slice.result.now = subst (λ (fs : List Frame). f.depth < length fs) (sym value) (c.in_ok-make_room.ensures.room w.room) in
    let to_wait : f.depth < length c.as_mut_slice-2.result.now = subst (λ (us : List Wait). f.depth < length us) (sym value_waits) (c.in_ok-make_wait.ensures.room w.room_to_wait) in
    walk_refuses xs roots firsts t old c.args.node c.args.reached.now c.args.self.now.source path c.as_mut_slice.result.now waits c.as_mut_slice-2.result.now f w
    (λ l. subst (λ (fs : List Frame). take f.depth fs ≡ take f.depth path) (sym value) (c.in_ok-make_room.ensures.kept l))
    (λ l. subst (λ (us : List Wait). take f.depth us ≡ take f.depth waits) (sym value_waits) (c.in_ok-make_wait.ensures.kept l))
    (λ e. subst (λ (s : ℕ). HasRefused xs roots s c.args.node c.as_mut_slice.result.now c.as_mut_slice-2.result.now f) e (c.answer.ensures.refused wrong room to_wait))
