use Rattle.std.proofs.Common.{List, All, sym, subst}
use Rattle.std.proofs.lemmas.List.Elements.{All-nil}
use Rattle.block_evidence.specs.declared.sight_tree.Node.{Node}
use Rattle.portal_walk.specs.Nodes.{IsNodeAnswered}
use Rattle.gate_floods.specs.RowJudge.Masks.{rows_of}
use Rattle.gate_floods.specs.RowJudge.Judged.{tree_with, IsTreeWalkedInRow}
use Rattle.row_trees.specs.Left.{row_walk_left}
use Rattle.row_trees.specs.Walkable.{row_scene_of, Search}
use Rattle.row_trees.proofs.Going.{unfound_present, with_limit, remaining_less}
use Rattle.row_trees.proofs.Beginning.{going_begun}
use Rattle.row_trees.proofs.walk.walk_by_row.Goals as goal

pub nodes-init : goal.nodes-init
nodes-init c =
    let w = c.args.walk.now in
    let t = c.args.terrain.now in
    let k = row_scene_of c.args.terrain.now c.args.masks.now in
    let r = c.requires.walkable in
    let begun = c.in_ok-begin.ensures in
    record {
      made = λ none. subst (λ (ns : List Node). IsTreeWalkedInRow t.edges.now (rows_of c.args.masks.now) c.args.row.now t.roots.now.roots.items t.roots.now.first.items (tree_with c.args.source ns) c.begin.new.self) (sym c.new.ensures) begun;
      answered = subst (λ (ns : List Node). All IsNodeAnswered ns) (sym c.new.ensures) (All-nil IsNodeAnswered);
      going = λ ground h. going_begun k (record { ground = ground; source = c.args.source; row = c.args.row.now }) h w.root w.ends c.begin.new.self c.new-2.result.items c.new-2.ensures.items begun;
      present = λ j e. unfound_present k (record { ground = r.0; source = c.args.source; row = c.args.row.now }) w.root w.ends c.begin.new.self c.new-2.result.items _ j
          (going_begun k (record { ground = r.0; source = c.args.source; row = c.args.row.now }) r.1 w.root w.ends c.begin.new.self c.new-2.result.items c.new-2.ensures.items begun) e c.new-2.ensures.items;
    }

pub step-requires-clause-present : goal.step-requires-clause-present
step-requires-clause-present c = c.nodes.invariant.present c.in-Some.number c.in-Some.is

pub nodes-smaller : goal.nodes-smaller
nodes-smaller c =
    let k = row_scene_of c.args.terrain.now c.args.masks.now in
    let r = c.requires.walkable in
    let s : Search = record { ground = r.0; source = c.args.source; row = c.args.row.now } in
    remaining_less k s c.step.new.self.root c.step.new.self.ends c.step.new.self.judged c.step.new.made.found.items (row_walk_left k c.nodes.walk.judged) (c.in_ok-step.ensures.going s (row_walk_left k c.nodes.walk.judged) (c.nodes.invariant.going r.0 r.1))

pub nodes-preserved : goal.nodes-preserved
nodes-preserved c =
    let k = row_scene_of c.args.terrain.now c.args.masks.now in
    record {
      made = c.in_ok-step.ensures.made c.args.row.now c.args.source c.nodes.invariant.made;
      answered = c.in_ok-step.ensures.answered c.nodes.invariant.answered;
      going = λ ground h.
          let s : Search = record { ground = ground; source = c.args.source; row = c.args.row.now } in
          with_limit k s c.step.new.self.root c.step.new.self.ends c.step.new.self.judged c.step.new.made.found.items (row_walk_left k c.nodes.walk.judged) (c.in_ok-step.ensures.going s (row_walk_left k c.nodes.walk.judged) (c.nodes.invariant.going ground h));
      present = c.in_ok-step.ensures.present;
    }
