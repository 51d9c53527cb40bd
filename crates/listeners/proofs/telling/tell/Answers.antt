use Rattle.std.proofs.Common.{rules, ◌≡◌, ◌∙◌, ◌+◌, ◌<◌, ◌∷◌, ap, sym, drop, get_or, length}
use Rattle.std.proofs.lemmas.List.{drop_more}
use Rattle.std.proofs.lemmas.Result.{err_from_is_err_and}
use Rattle.listeners.proofs.InTurn.{cut_of_set, on_way, on_way_done, on_way_stay, told_in_part, untold}
use Rattle.listeners.proofs.telling.tell.Goals as goal

pub returns-in_err-reserve-clause-memory : goal.returns-in_err-reserve-clause-memory
returns-in_err-reserve-clause-memory g c =
    let p = err_from_is_err_and c.from_residual.result c.from_residual.ensures.1 in
    rw p.1 (untold _ c.args.finding.now c.args.list.now.items c.args.ended.now.items c.reserve.new.self.items c.in_err-reserve.ensures.items)

pub loop-at-init : goal.loop-at-init
loop-at-init g c = record {
  on_way = on_way _ c.args.finding.now c.args.list.now.items c.args.ended.now.items c.reserve.new.self.items c.in_ok-reserve.ensures.items;
  room = search rules;
}

pub returns-in_err-hear-clause-memory : goal.returns-in_err-hear-clause-memory
returns-in_err-hear-clause-memory g c =
    let p = err_from_is_err_and c.from_residual-in_err-hear.result c.from_residual-in_err-hear.ensures.1 in
    let xs = c.loop-at.list.items in
    let x = c.index_mut.result.now in
    let lt : c.loop-at.at < length xs = search rules in
    let e : x ≡ get_or xs c.loop-at.at x = search rules in
    rw p.1 (told_in_part _ c.args.finding.now c.args.list.now.items xs c.loop-at.at c.hear.new.listener c.args.ended.now.items c.loop-at.ended.items x c.loop-at.invariant.on_way lt
    (drop_more xs c.loop-at.at x lt ∙ ap (λ y. y ∷ drop (c.loop-at.at + 1) xs) (sym e)) c.in_err-hear.ensures.memory)

pub loop-at-preserved-in-Stay : goal.loop-at-preserved-in-Stay
loop-at-preserved-in-Stay g c =
    let xs = c.loop-at.list.items in
    let x = c.index_mut.result.now in
    let lt : c.loop-at.at < length xs = search rules in
    let e : x ≡ get_or xs c.loop-at.at x = search rules in
    record {
      on_way = on_way_stay _ c.args.finding.now c.args.list.now.items xs c.loop-at.at x c.hear.new.listener c.args.ended.now.items c.loop-at.ended.items c.loop-at.invariant.on_way lt
          (drop_more xs c.loop-at.at x lt ∙ ap (λ y. y ∷ drop (c.loop-at.at + 1) xs) (sym e)) c.in_ok-hear.ensures.heard (sym c.in-Stay.is ∙ c.in_ok-hear.ensures.answer);
      room = search rules;
    }

pub loop-at-preserved : goal.loop-at-preserved
loop-at-preserved g c =
    let xs = c.loop-at.list.items in
    let x = c.index_mut.result.now in
    let y = c.hear.new.listener in
    let lt : c.loop-at.at < length xs = search rules in
    let e : x ≡ get_or xs c.loop-at.at x = search rules in
    let gone : c.remove.result ≡ y = search rules in
    let left = c.remove.ensures.by_index.2 in
    rw (c.push_reserved.ensures.items, gone) (record {
      on_way = on_way_done _ c.args.finding.now c.args.list.now.items xs c.remove.new.self.items c.loop-at.at x y c.args.ended.now.items c.loop-at.ended.items c.loop-at.invariant.on_way lt
          (drop_more xs c.loop-at.at x lt ∙ ap (λ z. z ∷ drop (c.loop-at.at + 1) xs) (sym e)) c.in_ok-hear.ensures.heard (sym c.in-Done.is ∙ c.in_ok-hear.ensures.answer)
          (cut_of_set xs c.remove.new.self.items c.loop-at.at y left);
      room = search rules;
    })
