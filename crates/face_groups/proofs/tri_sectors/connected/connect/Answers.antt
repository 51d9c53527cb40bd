use Rattle.std.proofs.Common.{sym, ◌∙◌, arith}
use Rattle.std.proofs.lemmas.Bool.{false≢true}
use Rattle.std.proofs.lemmas.Option.{none-some}
use Rattle.face_groups.specs.TriSectors.Forest.{classes_in}
use Rattle.face_groups.proofs.TriSectors.Forests.{classes_many, forest_named}
use Rattle.face_groups.proofs.TriSectors.ComponentLemmas.{no_door_connects, door_connects, some_below}
use Rattle.face_groups.proofs.tri_sectors.connected.connect.Goals as goal

pub returns-then-line-clause-connected : goal.returns-then-line-clause-connected
returns-then-line-clause-connected c = no_door_connects c.args.line (classes_in c.args.parents.now) (forest_named c.args.parents.now c.requires.forest) (λ a b d. false≢true (sym d.passable ∙ c.if-line.true))

pub returns-in_default-clause-connected : goal.returns-in_default-clause-connected
returns-in_default-clause-connected c = no_door_connects c.args.line (classes_in c.args.parents.now) (forest_named c.args.parents.now c.requires.forest) (λ a b d. none-some a (sym c.in_default.is ∙ d.right))

pub returns-in_default-left-clause-connected : goal.returns-in_default-left-clause-connected
returns-in_default-left-clause-connected c = no_door_connects c.args.line (classes_in c.args.parents.now) (forest_named c.args.parents.now c.requires.forest) (λ a b d. none-some b (sym c.in_default-left.is ∙ d.left))

pub returns-clause-connected : goal.returns-clause-connected
returns-clause-connected c =
    let many = classes_many c.args.parents.now in
    let right = some_below c.args.line.right c.in-Some.right _ c.requires.right c.in-Some.is in
    let left = some_below c.args.line.left c.in-Some-left.left _ c.requires.left c.in-Some-left.is in
    door_connects c.args.line c.in-Some.right c.in-Some-left.left (classes_in c.args.parents.now) (classes_in c.merge.new.parents)
    (record { passable = c.if-line.false; right = c.in-Some.is; left = c.in-Some-left.is })
    (omega (arith, many, right)) (omega (arith, many, left)) c.merge.ensures.merged
