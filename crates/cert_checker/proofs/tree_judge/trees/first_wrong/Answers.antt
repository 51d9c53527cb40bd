use Rattle.std.proofs.Common.{◌≡◌, ◌∙◌, ℕ, suc, ◌+◌, ◌∷◌, List, Option, Some, None, length, map, true, refl, sym, ap, subst, arith}
use Rattle.block_evidence.specs.declared.sight_tree.Node.{Node}
use Rattle.std.specs.Option.{is_some}
use Rattle.math_base.proofs.Options.{none_where_not_some}
use Rattle.cert_checker.specs.TreeJudge.Roots.{first_at}
use Rattle.cert_checker.specs.TreeJudge.Path.{root_pending}
use Rattle.cert_checker.specs.TreeJudge.Whole.{IsFirstWrongNode}
use Rattle.cert_checker.proofs.TreeJudge.Answering.{IsFollowed, follows_more, wrong_node, missing_node, all_answered}
use Rattle.cert_checker.proofs.tree_judge.trees.first_wrong.Goals as goal

longer : (n : Node) (rest ns : List Node) → ns ≡ n ∷ rest → length ns ≡ length rest + 1
longer n rest ns e = let h : length ns ≡ suc (length rest) = ap length e in omega (arith, h)

pub loop-number-preserved : goal.loop-number-preserved
loop-number-preserved c =
    let xs = c.args.terrain.now.edges.now in
    let roots = c.args.terrain.now.roots.now.roots.items in
    let first = first_at c.args.terrain.now.roots.now.first.items c.args.tree.now.source in
    let t = c.args.tree.now in
    let l = c.loop-number in
    record {
      sectors = c.if-not-answer.ensures.sectors ∙ l.invariant.sectors;
      counted = let e : length l.node-iterator ≡ length c.next.new.self + 1 = longer c.in-Some.node c.next.new.self l.node-iterator c.in-Some.ensures.steps in omega (arith, e, l.invariant.counted);
      followed =
          follows_more xs roots first t.source t.nodes c.args.reached.now c.in-Some.node c.next.new.self l.number l.path c.answer.new.path l.waits c.answer.new.waits l.follow c.answer.new.follow l.reached c.answer.new.reached
          (subst (λ (ns : List Node). IsFollowed xs roots first t.source t.nodes ns l.number l.path l.waits l.follow c.args.reached.now l.reached) c.in-Some.ensures.steps l.invariant.followed)
          (c.if-not-answer.ensures.answered refl);
    }

pub returns-then-not-answer-clause-wrong : goal.returns-then-not-answer-clause-wrong
returns-then-not-answer-clause-wrong c = λ room to_wait. record {
  wrong =
      let xs = c.args.terrain.now.edges.now in
      let roots = c.args.terrain.now.roots.now.roots.items in
      let first = first_at c.args.terrain.now.roots.now.first.items c.args.tree.now.source in
      let t = c.args.tree.now in
      let l = c.loop-number in
      let e : length l.node-iterator ≡ length c.next.new.self + 1 = longer c.in-Some.node c.next.new.self l.node-iterator c.in-Some.ensures.steps in
      let k : length l.path ≡ length c.args.path.now = l.auto.path in
      let j : length l.waits ≡ length c.args.waits.now = l.auto.waits in
      wrong_node xs roots first t.source t.nodes c.args.reached.now c.in-Some.node c.next.new.self l.number l.path l.waits l.follow l.reached
      (subst (λ (ns : List Node). IsFollowed xs roots first t.source t.nodes ns l.number l.path l.waits l.follow c.args.reached.now l.reached) c.in-Some.ensures.steps l.invariant.followed)
      (λ h. c.if-not-answer.ensures.refused refl (omega (arith, e, k, l.invariant.counted, h)) (omega (arith, e, j, l.invariant.counted, h)));
}

some_asked : (o : Option ℕ) → true ≡ is_some o → (place : ℕ) × (o ≡ Some place)
some_asked None e = absurd (cc)
some_asked (Some place) e = (place, refl)

pub returns-then-is_some-clause-wrong : goal.returns-then-is_some-clause-wrong
returns-then-is_some-clause-wrong c = λ room to_wait. record {
  wrong =
      let xs = c.args.terrain.now.edges.now in
      let roots = c.args.terrain.now.roots.now.roots.items in
      let first = first_at c.args.terrain.now.roots.now.first.items c.args.tree.now.source in
      let t = c.args.tree.now in
      let l = c.loop-number in
      let some : (place : ℕ) × (l.follow.asked ≡ Some place) = some_asked l.follow.asked c.if-is_some.ensures in
      λ es chain. subst (IsFirstWrongNode xs t.source (map root_pending es) t.nodes) (sym c.len-count.ensures)
      (missing_node xs roots first t.source t.nodes c.args.reached.now l.node-iterator l.number some.0 l.path l.waits l.follow l.reached c.in-None.ensures.steps.0 l.invariant.followed some.1 es chain);
}

pub returns-clause-whole : goal.returns-clause-whole
returns-clause-whole c =
    let xs = c.args.terrain.now.edges.now in
    let roots = c.args.terrain.now.roots.now.roots.items in
    let first = first_at c.args.terrain.now.roots.now.first.items c.args.tree.now.source in
    let t = c.args.tree.now in
    let l = c.loop-number in
    record { whole = all_answered xs roots first t.source t.nodes c.args.reached.now l.node-iterator l.number l.path l.waits l.follow l.reached c.in-None.ensures.steps.0 l.invariant.followed (none_where_not_some l.follow.asked c.if-is_some.ensures) }
