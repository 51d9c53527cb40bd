use Rattle.std.proofs.Common.{◌+◌, Some, None, Option, length, sym, ap, ◌∙◌, subst, refl, arith, Vec, Global}
use Rattle.sight_names.specs.declared.plan.Line.{Line}
use Rattle.sound_reach.specs.declared.doors.Door.{Door}
use Rattle.sound_reach.proofs.Adding.{AreDoorsBelow, all_doors, line_added, none_added}
use Rattle.sound_reach.proofs.doors.doors_of.Goals as goal
use Rattle.sound_reach.proofs.doors.doors_of.Goals.{in-Some+in_ok-add_doors, in_default}
use Rattle.math_base.proofs.Lists.{item_there}

pub loop-i-preserved : goal.loop-i-preserved
loop-i-preserved c =
    let item = item_there c.lines-entry-items.result.now c.args.plan.now.lines c.loop-i.i None c.lines-entry-items.ensures.list c.loop-i-test.true in
    elim c.match-entry.branch [
      | in-Some+in_ok-add_doors w ↦ subst (λ (v : Vec Door Global). AreDoorsBelow c.args.plan.now c.args.dampers.now (c.loop-i.i + 1) v.items) (sym w.doors-is)
          (line_added c.args.plan.now c.args.dampers.now c.loop-i.i w.in-Some.line _ c.loop-i.doors.items w.add_doors.new.doors.items (item ∙ ap (λ (o : Option Line). Some o) w.in-Some.is) refl w.in_ok-add_doors.ensures c.loop-i.invariant)
      | in_default w ↦ subst (λ (v : Vec Door Global). AreDoorsBelow c.args.plan.now c.args.dampers.now (c.loop-i.i + 1) v.items) (sym w.doors-is)
          (none_added c.args.plan.now c.args.dampers.now c.loop-i.i c.loop-i.doors.items (item ∙ ap (λ (o : Option Line). Some o) w.in_default.is) c.loop-i.invariant)
    ]

pub returns : goal.returns
returns c = all_doors c.args.plan.now c.args.dampers.now c.loop-i.i _ (let e = ap length c.lines-entry-items.ensures.list in let f = c.loop-i-test.false in omega (arith, e, f)) c.loop-i.invariant
