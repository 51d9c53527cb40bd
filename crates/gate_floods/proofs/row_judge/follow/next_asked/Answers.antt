use Rattle.std.proofs.Common.{◌≡◌, ℕ, ◌-◌, [], take, ◌∙◌, ap, arith}
use Rattle.std.proofs.lemmas.List.{append-nil}
use Rattle.gate_floods.proofs.RowJudge.Waiting.{takes_way, takes_root}
use Rattle.gate_floods.specs.RowJudge.Masks.{rows_of}
use Rattle.gate_floods.proofs.row_judge.follow.next_asked.Goals as goal

pub returns-in-Some : goal.returns-in-Some
returns-in-Some c = λ first path. takes_way (rows_of c.args.masks.now) first c.args.roots.now.roots.items path c.args.rows.now c.args.waits.now.items c.pop.new.self.items c.args.follow.now c.in-Some.wait c.in-Some.ensures.items

pub returns-in-None : goal.returns-in-None
returns-in-None c = λ first path.
    let waits = c.args.waits.now in
    let none : waits.len ≡ 0 = c.in-None.ensures.cases.0 in
    let low : waits.len - 1 ≡ 0 = omega (arith, none) in
    let gone : c.pop.new.self.items ≡ [] = c.in-None.ensures.rest ∙ ap (λ (n : ℕ). take n waits.items) low in
    takes_root (rows_of c.args.masks.now) first c.args.roots.now.roots.items path c.args.rows.now waits.items c.pop.new.self.items c.args.follow.now c.part-first.result.now c.next_root-asked.result.0 c.next_root-asked.result.1
    (c.in-None.ensures.items ∙ append-nil c.pop.new.self.items ∙ gone) gone c.part-first.ensures c.next_root-asked.ensures
