use Rattle.std.proofs.Common.{◌≡◌, Bool, ◌&&◌, ◌+◌, sym, ap, ◌∙◌, subst}
use Rattle.sight_workers.specs.Watches.{AreLooksDone}
use Rattle.sight_workers.proofs.Watches.{look_only_then, round_more}
use Rattle.sight_workers.proofs.watch.look_between.Goals as goal
use Rattle.sight_workers.proofs.watch.look_between.Goals.{then-all, else-all}

pub loop-b-preserved : goal.loop-b-preserved
loop-b-preserved c =
    let before = c.loop-b.invariant in
    let step = c.look_if_mate-set.ensures.seat in
    let same : c.if-all.all ≡ (c.loop-b.all && c.look_if_mate-set.result) = elim c.if-all.branch [
      | then-all w ↦ w.all-is ∙ ap (λ (q : Bool). q && c.look_if_mate-set.result) (sym w.if-all.true)
      | else-all w ↦ w.all-is ∙ (w.if-all.false ∙ ap (λ (q : Bool). q && c.look_if_mate-set.result) (sym w.if-all.false))
    ] in record {
      seat = step.0;
      only = look_only_then _ _ _ before.only step.1;
      worker = step.2 ∙ before.worker;
      round = subst (λ (q : Bool). AreLooksDone c.args.desk.now.sectors c.args.components.now c.args.a c.args.from (c.loop-b.b + 1) q c.args.seat.now.seat.me.0 c.look_if_mate-set.new.seat.seat.me.0) (sym same)
          (round_more _ _ _ _ _ c.loop-b.all c.look_if_mate-set.result _ _ _ before.only step.1 before.round c.look_if_mate-set.ensures.turn);
    }
