use Rattle.std.proofs.Common.{arith, ◌≡◌, ◌-◌, ◌++◌, ◌∷◌, [], List, length, ap, ◌∙◌, inl, inr, refl, sym, subst}
use Rattle.std.proofs.lemmas.Grind.{common_steps}
use Rattle.sight_names.specs.declared.names.EndAt.{EndAt}
use Rattle.stab_hull.specs.declared.hull.Hull.{Hull}
use Rattle.stab_hull.specs.Stacks.{HasPoint, IsConeOfEnds, AreStuckAmong}
use Rattle.std.proofs.lemmas.Option.{slice_get_within}
use Rattle.stab_hull.proofs.Keeping.{kept_same, kept_more}
use Rattle.stab_hull.proofs.StepLemmas.{top_cone, top_same, top_next}
use Rattle.stab_hull.proofs.hull.Hull.add_right.Goals as goal
use Rattle.stab_hull.proofs.hull.Hull.add_right.Goals.{in-Same, in-Wider+in_ok-push-in-Wider}

pub returns-then-repeats-clause-lefts : goal.returns-then-repeats-clause-lefts
returns-then-repeats-clause-lefts c = refl

pub returns-then-repeats-clause-rights : goal.returns-then-repeats-clause-rights
returns-then-repeats-clause-rights c = (refl, omega arith)

pub returns-then-repeats-clause-cones : goal.returns-then-repeats-clause-cones
returns-then-repeats-clause-cones c = (refl, omega arith)

pub overflow_sub-len : goal.overflow_sub-len
overflow_sub-len c =
    let k : c.len.result ≡ length c.args.self.now.cones.items = (let e = c.len.ensures in grind (arith, common_steps)) in
    let b = slice_get_within c.args.self.now.cones.items (length c.args.self.now.cones.items - 1) c.requires.top.0 c.requires.top.1 in
    omega (arith, k, b)

pub index-cone-requires : goal.index-cone-requires
index-cone-requires c =
    let k : c.len.result ≡ length c.args.self.now.cones.items = (let e = c.len.ensures in grind (arith, common_steps)) in
    let b = slice_get_within c.args.self.now.cones.items (length c.args.self.now.cones.items - 1) c.requires.top.0 c.requires.top.1 in
    omega (arith, k, b)

pub right_step-requires-clause-steps : goal.right_step-requires-clause-steps
right_step-requires-clause-steps c = c.as_slice-2.ensures.steps

pub returns-in_err-push-in-Wider-clause-lefts : goal.returns-in_err-push-in-Wider-clause-lefts
returns-in_err-push-in-Wider-clause-lefts c = refl

pub returns-in_err-push-in-Wider-clause-rights : goal.returns-in_err-push-in-Wider-clause-rights
returns-in_err-push-in-Wider-clause-rights c = (refl, omega arith)

pub returns-in-Stuck-clause-lefts : goal.returns-in-Stuck-clause-lefts
returns-in-Stuck-clause-lefts c = refl

pub returns-in-Stuck-clause-rights : goal.returns-in-Stuck-clause-rights
returns-in-Stuck-clause-rights c = (refl, omega arith)

pub returns-in-Stuck-clause-cones : goal.returns-in-Stuck-clause-cones
returns-in-Stuck-clause-cones c = (refl, omega arith)

pub returns-in_err-push-clause-lefts : goal.returns-in_err-push-clause-lefts
returns-in_err-push-clause-lefts c = elim c.match-right_step.branch [
  | in-Same w ↦ ap (λ (s : Hull). s.lefts) w.self-is
  | in-Wider+in_ok-push-in-Wider w ↦ ap (λ (s : Hull). s.lefts) w.self-is
]

pub returns-in_err-push-clause-rights : goal.returns-in_err-push-clause-rights
returns-in_err-push-clause-rights c = elim c.match-right_step.branch [
  | in-Same w ↦ kept_same c.args.self.now.rights c.push-2.new.self (c.in_err-push.ensures.err ∙ ap (λ (s : Hull). s.rights) w.self-is)
  | in-Wider+in_ok-push-in-Wider w ↦ kept_same c.args.self.now.rights c.push-2.new.self (c.in_err-push.ensures.err ∙ ap (λ (s : Hull). s.rights) w.self-is)
]

pub returns-in_err-push-clause-cones : goal.returns-in_err-push-clause-cones
returns-in_err-push-clause-cones c = elim c.match-right_step.branch [
  | in-Same w ↦ kept_same c.args.self.now.cones.items c.match-right_step.self.cones.items (ap (λ (s : Hull). s.cones.items) w.self-is)
  | in-Wider+in_ok-push-in-Wider w ↦ kept_more c.args.self.now.cones.items c.match-right_step.self.cones.items w.in-Wider.wider (ap (λ (s : Hull). s.cones.items) w.self-is ∙ w.in_ok-push-in-Wider.ensures.items)
]

pub returns-clause-lefts : goal.returns-clause-lefts
returns-clause-lefts c = elim c.match-right_step.branch [
  | in-Same w ↦ ap (λ (s : Hull). s.lefts) w.self-is
  | in-Wider+in_ok-push-in-Wider w ↦ ap (λ (s : Hull). s.lefts) w.self-is
]

pub returns-clause-rights : goal.returns-clause-rights
returns-clause-rights c = elim c.match-right_step.branch [
  | in-Same w ↦ kept_more c.args.self.now.rights c.push-2.new.self c.args.right (c.in_ok-push.ensures.ok ∙ ap (λ (s : Hull). s.rights ++ c.args.right ∷ []) w.self-is)
  | in-Wider+in_ok-push-in-Wider w ↦ kept_more c.args.self.now.rights c.push-2.new.self c.args.right (c.in_ok-push.ensures.ok ∙ ap (λ (s : Hull). s.rights ++ c.args.right ∷ []) w.self-is)
]

pub returns-clause-cones : goal.returns-clause-cones
returns-clause-cones c = elim c.match-right_step.branch [
  | in-Same w ↦ kept_same c.args.self.now.cones.items c.match-right_step.self.cones.items (ap (λ (s : Hull). s.cones.items) w.self-is)
  | in-Wider+in_ok-push-in-Wider w ↦ kept_more c.args.self.now.cones.items c.match-right_step.self.cones.items w.in-Wider.wider (ap (λ (s : Hull). s.cones.items) w.self-is ∙ w.in_ok-push-in-Wider.ensures.items)
]

pub returns-then-repeats-clause-free : goal.returns-then-repeats-clause-free
returns-then-repeats-clause-free c = (c.requires.top, inr (refl, subst (λ (xs : List EndAt). HasPoint xs c.args.right.at) c.as_slice.ensures.ends (c.repeats.ensures c.if-repeats.true)))

pub right_step-requires-clause-cone : goal.right_step-requires-clause-cone
right_step-requires-clause-cone c =
    let k : c.len.result ≡ length c.args.self.now.cones.items = (let e = c.len.ensures in grind (arith, common_steps)) in
    (c.args.self.now.rights, subst (λ (xs : List EndAt). IsConeOfEnds xs c.args.self.now.rights c.index-cone.result.now) (sym c.as_slice-2.ensures.ends) (top_cone c.args.self.now.lefts c.args.self.now.rights c.args.self.now.cones.items c.len.result c.index-cone.result.now k c.index-cone.ensures c.requires.top))

pub returns-in-Stuck-clause-free : goal.returns-in-Stuck-clause-free
returns-in-Stuck-clause-free c =
    let k : c.len.result ≡ length c.args.self.now.cones.items = (let e = c.len.ensures in grind (arith, common_steps)) in
    subst (λ (xs : List EndAt). AreStuckAmong xs (c.args.self.now.rights ++ c.args.right ∷ []) c.in-Stuck.pairs) c.as_slice-2.ensures.ends (c.in-Stuck.ensures c.args.self.now.rights (subst (λ (xs : List EndAt). IsConeOfEnds xs c.args.self.now.rights c.index-cone.result.now) (sym c.as_slice-2.ensures.ends) (top_cone c.args.self.now.lefts c.args.self.now.rights c.args.self.now.cones.items c.len.result c.index-cone.result.now k c.index-cone.ensures c.requires.top)))

pub returns-clause-free : goal.returns-clause-free
returns-clause-free c =
    let k : c.len.result ≡ length c.args.self.now.cones.items = (let e = c.len.ensures in grind (arith, common_steps)) in
    elim c.match-right_step.branch [
      | in-Same w ↦ rw w.self-is (let e : c.push-2.new.self ≡ c.args.self.now.rights ++ c.args.right ∷ [] = c.in_ok-push.ensures.ok ∙ ap (λ (s : Hull). s.rights ++ c.args.right ∷ []) w.self-is in (
        top_same c.args.self.now.lefts c.args.self.now.rights c.args.self.now.lefts c.push-2.new.self c.args.self.now.cones.items c.len.result c.index-cone.result.now k c.index-cone.ensures c.requires.top
            (subst (λ (xs : List EndAt). IsConeOfEnds c.args.self.now.lefts xs c.index-cone.result.now) (sym e) (subst (λ (xs : List EndAt). IsConeOfEnds xs (c.args.self.now.rights ++ c.args.right ∷ []) c.index-cone.result.now) c.as_slice-2.ensures.ends (w.in-Same.ensures c.args.self.now.rights (subst (λ (xs : List EndAt). IsConeOfEnds xs c.args.self.now.rights c.index-cone.result.now) (sym c.as_slice-2.ensures.ends) (top_cone c.args.self.now.lefts c.args.self.now.rights c.args.self.now.cones.items c.len.result c.index-cone.result.now k c.index-cone.ensures c.requires.top))))),
        inl e,
      ))
      | in-Wider+in_ok-push-in-Wider w ↦ rw w.self-is (let e : c.push-2.new.self ≡ c.args.self.now.rights ++ c.args.right ∷ [] = c.in_ok-push.ensures.ok ∙ ap (λ (s : Hull). s.rights ++ c.args.right ∷ []) w.self-is in (
        top_next c.args.self.now.lefts c.push-2.new.self c.args.self.now.cones.items w.push.new.self.items w.in-Wider.wider w.in_ok-push-in-Wider.ensures.items
            (subst (λ (xs : List EndAt). IsConeOfEnds c.args.self.now.lefts xs w.in-Wider.wider) (sym e) (subst (λ (xs : List EndAt). IsConeOfEnds xs (c.args.self.now.rights ++ c.args.right ∷ []) w.in-Wider.wider) c.as_slice-2.ensures.ends (w.in-Wider.ensures c.args.self.now.rights (subst (λ (xs : List EndAt). IsConeOfEnds xs c.args.self.now.rights c.index-cone.result.now) (sym c.as_slice-2.ensures.ends) (top_cone c.args.self.now.lefts c.args.self.now.rights c.args.self.now.cones.items c.len.result c.index-cone.result.now k c.index-cone.ensures c.requires.top))))),
        inl e,
      ))
    ]
