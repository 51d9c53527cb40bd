use Rattle.std.proofs.Common.{Option, length, subst}
use Rattle.sight_names.specs.Map.{map_of}
use Rattle.map_answers.specs.Groups.{seen}
use Rattle.draw_answers.specs.declared.entering.Area.{Area}
use Rattle.draw_answers.specs.Pair.{IsAreaOfPair}
use Rattle.draw_answers.proofs.Points.{triangles_over}
use Rattle.draw_answers.proofs.Pairs.{fits_pair, shows_entered, shows_none}
use Rattle.draw_answers.proofs.pair.drawn_blind.Goals as goal

pub drawn_entered-requires-clause-triangles : goal.drawn_entered-requires-clause-triangles
drawn_entered-requires-clause-triangles c =
    let p = c.args.plan.now in
    let g = c.args.groups.now in
    let h = subst (λ (o : Option Area). IsAreaOfPair (seen g) c.budget_for-budget.result c.args.pair o) c.in-Some.is c.in_ok-shown.ensures in
    (fits_pair (seen g) c.budget_for-budget.result (length p.points) (triangles_over p c.requires.groups.plan g c.requires.groups) c.args.pair c.in-Some.area h).triangles

pub drawn_entered-requires-clause-from : goal.drawn_entered-requires-clause-from
drawn_entered-requires-clause-from c =
    let p = c.args.plan.now in
    let g = c.args.groups.now in
    let h = subst (λ (o : Option Area). IsAreaOfPair (seen g) c.budget_for-budget.result c.args.pair o) c.in-Some.is c.in_ok-shown.ensures in
    (fits_pair (seen g) c.budget_for-budget.result (length p.points) (triangles_over p c.requires.groups.plan g c.requires.groups) c.args.pair c.in-Some.area h).from

pub drawn_entered-requires-clause-to : goal.drawn_entered-requires-clause-to
drawn_entered-requires-clause-to c =
    let p = c.args.plan.now in
    let g = c.args.groups.now in
    let h = subst (λ (o : Option Area). IsAreaOfPair (seen g) c.budget_for-budget.result c.args.pair o) c.in-Some.is c.in_ok-shown.ensures in
    (fits_pair (seen g) c.budget_for-budget.result (length p.points) (triangles_over p c.requires.groups.plan g c.requires.groups) c.args.pair c.in-Some.area h).to

pub returns-in-Some : goal.returns-in-Some
returns-in-Some c =
    let g = seen c.args.groups.now in
    let h = subst (λ (o : Option Area). IsAreaOfPair g c.budget_for-budget.result c.args.pair o) c.in-Some.is c.in_ok-shown.ensures in
    shows_entered c.args.map.now (map_of c.args.plan.now) c.args.pair g c.args.ask c.budget_for-budget.result c.in-Some.area c.budget_for-budget.ensures h c.drawn_entered.result c.drawn_entered.ensures

pub returns-in-None : goal.returns-in-None
returns-in-None c =
    let g = seen c.args.groups.now in
    let h = subst (λ (o : Option Area). IsAreaOfPair g c.budget_for-budget.result c.args.pair o) c.in-None.is c.in_ok-shown.ensures in
    shows_none c.args.map.now (map_of c.args.plan.now) c.args.pair g c.args.ask c.budget_for-budget.result c.budget_for-budget.ensures h c.drawn_word.result c.drawn_word.ensures
