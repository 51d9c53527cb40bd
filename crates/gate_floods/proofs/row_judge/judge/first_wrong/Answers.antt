use Rattle.std.proofs.Common.{◌≡◌, ℕ, suc, ◌+◌, ◌∷◌, [], ◌++◌, List, length, sym, ◌∙◌, ap, subst, arith}
use Rattle.std.proofs.lemmas.List.{append_assoc, length-append}
use Rattle.block_evidence.specs.declared.sight_tree.Node.{Node}
use Rattle.block_evidence.specs.declared.sight_tree.Tree.{Tree}
use Rattle.gate_floods.specs.RowJudge.Judged.{IsFirstWrongFrom}
use Rattle.gate_floods.proofs.RowJudge.Walking.{wrong_of, missing_of}
use Rattle.gate_floods.specs.RowJudge.Masks.{rows_of}
use Rattle.gate_floods.proofs.row_judge.judge.first_wrong.Goals as goal

one_longer : (n : Node) (rest ns : List Node) → ns ≡ n ∷ rest → length ns ≡ length rest + 1
one_longer n rest ns e = let h : length ns ≡ suc (length rest) = ap (λ (us : List Node). length us) e in omega (arith, h)

pub returns-then-not-branch : goal.returns-then-not-branch
returns-then-not-branch c =
    let t : Tree = record { source = c.args.source; nodes = c.args.nodes.now } in
    let i = c.loop-number.invariant in
    let part : Tree = record { source = t.source; nodes = i.done } in
    wrong_of c.args.terrain.now.edges.now (rows_of c.args.masks.now) c.args.row.now c.args.terrain.now.roots.now.roots.items c.args.terrain.now.roots.now.first.items t i.done c.next.new.self c.in-Some.node c.loop-number.number
    (i.split ∙ ap (λ (ns : List Node). i.done ++ ns) c.in-Some.ensures.steps) i.told (c.in_ok-step.ensures.refused c.args.row.now part i.walked c.if-not-branch.true)

pub loop-number-preserved : goal.loop-number-preserved
loop-number-preserved c =
    let t : Tree = record { source = c.args.source; nodes = c.args.nodes.now } in
    let i = c.loop-number.invariant in
    let n = c.in-Some.node in
    let part : Tree = record { source = t.source; nodes = i.done } in
    record {
      counted = let e : length c.loop-number.node-iterator ≡ length c.next.new.self + 1 = one_longer n c.next.new.self c.loop-number.node-iterator c.in-Some.ensures.steps in omega (arith, e, i.counted);
      done = i.done ++ n ∷ [];
      split = i.split ∙ ap (λ (ns : List Node). i.done ++ ns) c.in-Some.ensures.steps ∙ sym (append_assoc i.done (n ∷ []) c.next.new.self);
      told = let e : length (i.done ++ n ∷ []) ≡ length i.done + 1 = length-append i.done (n ∷ []) in omega (arith, e, i.told);
      walked = c.in_ok-step.ensures.answered c.args.row.now part i.walked c.if-not-branch.false;
    }

pub returns : goal.returns
returns c =
    let t : Tree = record { source = c.args.source; nodes = c.args.nodes.now } in
    let i = c.loop-number.invariant in
    let part : Tree = record { source = t.source; nodes = i.done } in
    subst (λ (k : ℕ). IsFirstWrongFrom c.args.terrain.now.edges.now (rows_of c.args.masks.now) c.args.row.now c.args.terrain.now.roots.now.roots.items c.args.terrain.now.roots.now.first.items t k) (sym c.len-count.ensures)
    (missing_of c.args.terrain.now.edges.now (rows_of c.args.masks.now) c.args.row.now c.args.terrain.now.roots.now.roots.items c.args.terrain.now.roots.now.first.items t i.done c.loop-number.node-iterator i.split c.in-None.ensures.steps.0
    (c.is_done.ensures.missing c.args.row.now part i.walked c.if-is_done.false))
