use Rattle.std.proofs.Common.{arith, ◌≡◌, ◌-◌, ◌&&◌, ℤ, length, sym, ap, ◌∙◌, subst}
use Rattle.std.specs.Prelude.{option_map, IsTrue}
use Rattle.std.specs.Ordering.{int_eq}
use borrow.Author.Differences.{ints}
use Rattle.std.proofs.lemmas.Option.{slice_get-map}
use Rattle.sight_names.proofs.Records.{same_pt}
use Rattle.stab_hull.specs.declared.chain.Kept.{Kept}
use Rattle.stab_hull.proofs.hull.repeats.Goals as goal

both_same : (a b c d : ℤ) → IsTrue (int_eq a b && int_eq c d) → (a ≡ b) × (c ≡ d)
both_same a b c d h = grind (arith, ints)

pub returns-in-Some : goal.returns-in-Some
returns-in-Some c = λ t.
    let end = λ (k : Kept). k.end in
    let p = c.in-Some.kept.now.end.at in
    let q = c.args.at in
    let same = both_same p.x q.x p.y q.y (subst IsTrue c.eq.ensures t) in
    (length c.args.ends.now - 1, c.in-Some.kept.now.end, slice_get-map end c.args.ends.now (length c.args.ends.now - 1) ∙ ap (option_map end) (sym c.in-Some.ensures.value), same_pt p q same.0 same.1)
