use Rattle.std.proofs.Common.{◌++◌, ◌∷◌, [], List, length, refl, sym, subst, ◌∙◌}
use Rattle.sight_names.specs.declared.names.EndAt.{EndAt}
use Rattle.stab_hull.specs.Stacks.{IsTopCone, IsEndAdded, AreStuckAmong, KeepsFirst}
use Rattle.stab_hull.proofs.HistoryLemmas.{keeps_less}
use Rattle.stab_hull.proofs.Keeping.{kept_same}
use Rattle.stab_hull.proofs.StepLemmas.{top_moved, none_part, some_part, left_alone, both_added}
use Rattle.stab_hull.proofs.hull.Hull.add.Goals as goal

pub add_left-requires : goal.add_left-requires
add_left-requires c = record { top = c.requires.top }

pub returns-in_err-pairs-clause-lefts : goal.returns-in_err-pairs-clause-lefts
returns-in_err-pairs-clause-lefts c = c.add_left.ensures.lefts

pub returns-in_err-pairs-clause-rights : goal.returns-in_err-pairs-clause-rights
returns-in_err-pairs-clause-rights c = kept_same c.args.self.now.rights c.add_left.new.self.rights c.add_left.ensures.rights

pub returns-in_err-pairs-clause-cones : goal.returns-in_err-pairs-clause-cones
returns-in_err-pairs-clause-cones c = c.add_left.ensures.cones

pub returns-in-Some-clause-lefts : goal.returns-in-Some-clause-lefts
returns-in-Some-clause-lefts c = c.add_left.ensures.lefts

pub returns-in-Some-clause-rights : goal.returns-in-Some-clause-rights
returns-in-Some-clause-rights c = kept_same c.args.self.now.rights c.add_left.new.self.rights c.add_left.ensures.rights

pub returns-in-Some-clause-cones : goal.returns-in-Some-clause-cones
returns-in-Some-clause-cones c = c.add_left.ensures.cones

pub returns-in-None-clause-lefts : goal.returns-in-None-clause-lefts
returns-in-None-clause-lefts c = subst (KeepsFirst (length c.args.self.now.lefts) c.args.self.now.lefts) (sym c.add_right.ensures.lefts) c.add_left.ensures.lefts

pub returns-in-None-clause-rights : goal.returns-in-None-clause-rights
returns-in-None-clause-rights c = subst (λ (xs : List EndAt). KeepsFirst (length xs) xs c.add_right.new.self.rights) c.add_left.ensures.rights c.add_right.ensures.rights

pub returns-in-None-clause-cones : goal.returns-in-None-clause-cones
returns-in-None-clause-cones c =
    let h = c.add_left.ensures.cones in
    let k = keeps_less (length c.args.self.now.cones.items) (length c.add_left.new.self.cones.items) c.add_left.new.self.cones.items c.add_right.new.self.cones.items h.1 c.add_right.ensures.cones in
    (k.0 ∙ h.0, k.1)

pub add_right-requires : goal.add_right-requires
add_right-requires c =
    let h = none_part (IsTopCone c.add_left.new.self.lefts c.args.self.now.rights c.add_left.new.self.cones.items × IsEndAdded c.args.self.now.lefts c.args.left c.add_left.new.self.lefts) (λ pairs. AreStuckAmong (c.args.self.now.lefts ++ c.args.left ∷ []) c.args.self.now.rights pairs) c.in_ok-pairs.field-0 c.in-None.is c.in_ok-pairs.ensures.free in
    record { top = top_moved c.add_left.new.self.lefts c.args.self.now.rights c.add_left.new.self.lefts c.add_left.new.self.rights c.add_left.new.self.cones.items c.add_left.new.self.cones.items refl c.add_left.ensures.rights refl h.0 }

pub returns-in-Some-clause-free : goal.returns-in-Some-clause-free
returns-in-Some-clause-free c =
    let h = some_part (IsTopCone c.add_left.new.self.lefts c.args.self.now.rights c.add_left.new.self.cones.items × IsEndAdded c.args.self.now.lefts c.args.left c.add_left.new.self.lefts) (λ pairs. AreStuckAmong (c.args.self.now.lefts ++ c.args.left ∷ []) c.args.self.now.rights pairs) c.in_ok-pairs.field-0 c.in-Some.pairs c.in-Some.is c.in_ok-pairs.ensures.free in
    left_alone c.args.left c.args.right c.args.self.now.lefts c.args.self.now.rights c.args.self.now.lefts c.args.self.now.rights c.in-Some.pairs refl refl h

pub returns-in-None-clause-free : goal.returns-in-None-clause-free
returns-in-None-clause-free c =
    let h = none_part (IsTopCone c.add_left.new.self.lefts c.args.self.now.rights c.add_left.new.self.cones.items × IsEndAdded c.args.self.now.lefts c.args.left c.add_left.new.self.lefts) (λ pairs. AreStuckAmong (c.args.self.now.lefts ++ c.args.left ∷ []) c.args.self.now.rights pairs) c.in_ok-pairs.field-0 c.in-None.is c.in_ok-pairs.ensures.free in
    both_added c.args.left c.args.right c.args.self.now.lefts c.args.self.now.rights c.args.self.now.lefts c.add_left.new.self.lefts c.add_left.new.self.rights c.add_right.new.self.lefts c.add_right.new.self.rights c.add_right.new.self.cones.items c.add_right.result
    refl c.add_left.ensures.rights c.add_right.ensures.lefts h.1 c.add_right.ensures.free
