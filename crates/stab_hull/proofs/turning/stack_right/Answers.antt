use Rattle.std.proofs.Common.{arith, ◌≡◌, ◌-◌, ◌++◌, ◌∷◌, [], List, length, ap, pos, ◌<ℤ◌, sym, ◌∙◌, subst}
use Rattle.std.proofs.lemmas.Grind.{common_steps}
use Rattle.geom_exact.specs.declared.extreme_lines.cone.Cone.{Cone}
use Rattle.geom_exact.specs.declared.extreme_lines.cone.Cone.TheVariants.{Open}
use Rattle.geom_exact.specs.declared.extreme_lines.wedge.Wedge.{Wedge}
use Rattle.geom_exact.specs.ExtremeLines.Spans.{form_at}
use Rattle.stab_hull.specs.Chains.{kept_ends}
use Rattle.stab_hull.specs.Stacks.{IsConeOfEnds, IsTopCone}
use Rattle.std.proofs.lemmas.Option.{slice_get_within}
use Rattle.stab_hull.proofs.Keeping.{kept_same, kept_more}
use Rattle.stab_hull.proofs.StepLemmas.{top_cone, top_next}
use Rattle.stab_hull.proofs.Sleeves.{open_top, same_wedge}
use Rattle.stab_hull.proofs.turning.stack_right.Goals as goal

pub returns-in_err-reserve-clause-kept : goal.returns-in_err-reserve-clause-kept
returns-in_err-reserve-clause-kept c = kept_same c.args.cones.now.items c.reserve.new.self.items c.reserve.ensures.items

pub overflow_sub-len : goal.overflow_sub-len
overflow_sub-len c =
    let k : c.len.result ≡ length c.reserve.new.self.items = (let e = c.len.ensures in grind (arith, common_steps)) in
    let e : length c.reserve.new.self.items ≡ length c.args.cones.now.items = ap (λ (xs : List Cone). length xs) c.reserve.ensures.items in
    let b = slice_get_within c.args.cones.now.items (length c.args.cones.now.items - 1) (Open c.requires.moves.wedge) c.requires.moves.last in
    omega (arith, k, e, b)

pub index-requires : goal.index-requires
index-requires c =
    let k : c.len.result ≡ length c.reserve.new.self.items = (let e = c.len.ensures in grind (arith, common_steps)) in
    let e : length c.reserve.new.self.items ≡ length c.args.cones.now.items = ap (λ (xs : List Cone). length xs) c.reserve.ensures.items in
    let b = slice_get_within c.args.cones.now.items (length c.args.cones.now.items - 1) (Open c.requires.moves.wedge) c.requires.moves.last in
    omega (arith, k, e, b)

pub returns-in_default-clause-kept : goal.returns-in_default-clause-kept
returns-in_default-clause-kept c = kept_same c.args.cones.now.items c.reserve.new.self.items c.reserve.ensures.items

pub second_to_right-wider-requires-clause-again : goal.second_to_right-wider-requires-clause-again
second_to_right-wider-requires-clause-again c = c.requires.again

pub second_to_right-wider-requires-clause-steps : goal.second_to_right-wider-requires-clause-steps
second_to_right-wider-requires-clause-steps c = c.requires.steps

pub returns-clause-kept : goal.returns-clause-kept
returns-clause-kept c = kept_more c.args.cones.now.items c.push_reserved.new.self.items (Open c.second_to_right-wider.result) (c.push_reserved.ensures.items ∙ ap (λ (xs : List Cone). xs ++ Open c.second_to_right-wider.result ∷ []) c.reserve.ensures.items)

pub second_to_right-wider-requires-clause-cone : goal.second_to_right-wider-requires-clause-cone
second_to_right-wider-requires-clause-cone c =
    let k : c.len.result ≡ length c.reserve.new.self.items = (let e = c.len.ensures in grind (arith, common_steps)) in
    (c.requires.moves.rights, subst (λ (v : Wedge). IsConeOfEnds (kept_ends c.args.lefts.now) c.requires.moves.rights (Open v)) (same_wedge c.requires.moves.wedge c.in-Open.wedge (open_top c.args.cones.now.items c.reserve.new.self.items c.len.result c.index.result.now c.requires.moves.wedge c.reserve.ensures.items k c.index.ensures c.requires.moves.last ∙ c.in-Open.is)) c.requires.moves.cone)

pub second_to_right-wider-requires-clause-beyond : goal.second_to_right-wider-requires-clause-beyond
second_to_right-wider-requires-clause-beyond c =
    let k : c.len.result ≡ length c.reserve.new.self.items = (let e = c.len.ensures in grind (arith, common_steps)) in
    subst (λ (v : Wedge). form_at v.first c.args.right.at <ℤ pos 0) (same_wedge c.requires.moves.wedge c.in-Open.wedge (open_top c.args.cones.now.items c.reserve.new.self.items c.len.result c.index.result.now c.requires.moves.wedge c.reserve.ensures.items k c.index.ensures c.requires.moves.last ∙ c.in-Open.is)) c.requires.moves.beyond

pub returns-clause-top : goal.returns-clause-top
returns-clause-top c = λ xs h.
    let k : c.len.result ≡ length c.reserve.new.self.items = (let e = c.len.ensures in grind (arith, common_steps)) in
    top_next (kept_ends c.args.lefts.now) (xs ++ c.args.right ∷ []) c.reserve.new.self.items c.push_reserved.new.self.items (Open c.second_to_right-wider.result) c.push_reserved.ensures.items (c.second_to_right-wider.ensures xs (subst (λ (d : Cone). IsConeOfEnds (kept_ends c.args.lefts.now) xs d) c.in-Open.is (top_cone (kept_ends c.args.lefts.now) xs c.reserve.new.self.items c.len.result c.index.result.now k c.index.ensures (subst (λ (cs : List Cone). IsTopCone (kept_ends c.args.lefts.now) xs cs) (sym c.reserve.ensures.items) h))))

pub returns-in_default-clause-top : goal.returns-in_default-clause-top
returns-in_default-clause-top c =
    let k : c.len.result ≡ length c.reserve.new.self.items = (let e = c.len.ensures in grind (arith, common_steps)) in
    absurd (c.in_default.not-Open c.requires.moves.wedge (sym (open_top c.args.cones.now.items c.reserve.new.self.items c.len.result c.index.result.now c.requires.moves.wedge c.reserve.ensures.items k c.index.ensures c.requires.moves.last)))
