use Rattle.std.proofs.Common.{arith}
use Rattle.face_groups.proofs.TriSectors.ClassLemmas.{names_found, first_is_root, second_is_root, first_names_both, second_names_both, names_agree}
use Rattle.face_groups.proofs.tri_sectors.classes.merge.Goals as goal

pub hang-requires-clause-from : goal.hang-requires-clause-from
hang-requires-clause-from c =
    let n = names_found c.args.parents.now c.class_name-x.new.parents c.class_name-y.new.parents c.args.a c.args.b c.class_name-x.result c.class_name-y.result c.requires.forest c.requires.first c.requires.second
    c.class_name-x.ensures.len c.class_name-x.ensures.classes c.class_name-x.ensures.name c.class_name-y.ensures.len c.class_name-y.ensures.classes c.class_name-y.ensures.name in
    second_is_root c.args.parents.now c.class_name-y.new.parents c.args.a c.args.b c.class_name-x.result c.class_name-y.result n

pub hang-requires-clause-to : goal.hang-requires-clause-to
hang-requires-clause-to c =
    let n = names_found c.args.parents.now c.class_name-x.new.parents c.class_name-y.new.parents c.args.a c.args.b c.class_name-x.result c.class_name-y.result c.requires.forest c.requires.first c.requires.second
    c.class_name-x.ensures.len c.class_name-x.ensures.classes c.class_name-x.ensures.name c.class_name-y.ensures.len c.class_name-y.ensures.classes c.class_name-y.ensures.name in
    (first_is_root c.args.parents.now c.class_name-y.new.parents c.args.a c.args.b c.class_name-x.result c.class_name-y.result n).1

pub hang-requires-then-y-x-clause-from : goal.hang-requires-then-y-x-clause-from
hang-requires-then-y-x-clause-from c =
    let n = names_found c.args.parents.now c.class_name-x.new.parents c.class_name-y.new.parents c.args.a c.args.b c.class_name-x.result c.class_name-y.result c.requires.forest c.requires.first c.requires.second
    c.class_name-x.ensures.len c.class_name-x.ensures.classes c.class_name-x.ensures.name c.class_name-y.ensures.len c.class_name-y.ensures.classes c.class_name-y.ensures.name in
    first_is_root c.args.parents.now c.class_name-y.new.parents c.args.a c.args.b c.class_name-x.result c.class_name-y.result n

pub hang-requires-then-y-x-clause-to : goal.hang-requires-then-y-x-clause-to
hang-requires-then-y-x-clause-to c =
    let n = names_found c.args.parents.now c.class_name-x.new.parents c.class_name-y.new.parents c.args.a c.args.b c.class_name-x.result c.class_name-y.result c.requires.forest c.requires.first c.requires.second
    c.class_name-x.ensures.len c.class_name-x.ensures.classes c.class_name-x.ensures.name c.class_name-y.ensures.len c.class_name-y.ensures.classes c.class_name-y.ensures.name in
    (second_is_root c.args.parents.now c.class_name-y.new.parents c.args.a c.args.b c.class_name-x.result c.class_name-y.result n).1

pub returns-then-x-y-clause-merged : goal.returns-then-x-y-clause-merged
returns-then-x-y-clause-merged c =
    let n = names_found c.args.parents.now c.class_name-x.new.parents c.class_name-y.new.parents c.args.a c.args.b c.class_name-x.result c.class_name-y.result c.requires.forest c.requires.first c.requires.second
    c.class_name-x.ensures.len c.class_name-x.ensures.classes c.class_name-x.ensures.name c.class_name-y.ensures.len c.class_name-y.ensures.classes c.class_name-y.ensures.name in
    first_names_both c.args.parents.now c.class_name-y.new.parents c.args.a c.args.b c.class_name-x.result c.class_name-y.result _ n c.if-x-y.true c.hang.ensures.classes

pub returns-then-y-x-clause-merged : goal.returns-then-y-x-clause-merged
returns-then-y-x-clause-merged c =
    let n = names_found c.args.parents.now c.class_name-x.new.parents c.class_name-y.new.parents c.args.a c.args.b c.class_name-x.result c.class_name-y.result c.requires.forest c.requires.first c.requires.second
    c.class_name-x.ensures.len c.class_name-x.ensures.classes c.class_name-x.ensures.name c.class_name-y.ensures.len c.class_name-y.ensures.classes c.class_name-y.ensures.name in
    second_names_both c.args.parents.now c.class_name-y.new.parents c.args.a c.args.b c.class_name-x.result c.class_name-y.result _ n c.if-y-x.true c.hang-then-y-x.ensures.classes

pub returns-else-y-x-clause-merged : goal.returns-else-y-x-clause-merged
returns-else-y-x-clause-merged c =
    let n = names_found c.args.parents.now c.class_name-x.new.parents c.class_name-y.new.parents c.args.a c.args.b c.class_name-x.result c.class_name-y.result c.requires.forest c.requires.first c.requires.second
    c.class_name-x.ensures.len c.class_name-x.ensures.classes c.class_name-x.ensures.name c.class_name-y.ensures.len c.class_name-y.ensures.classes c.class_name-y.ensures.name in
    let f = c.if-x-y.false in let g = c.if-y-x.false in names_agree c.args.parents.now c.class_name-y.new.parents c.args.a c.args.b c.class_name-x.result c.class_name-y.result n (omega (arith, f, g))
