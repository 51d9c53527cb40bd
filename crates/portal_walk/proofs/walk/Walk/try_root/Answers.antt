use Rattle.std.proofs.Common.{◌≡◌, ◌-◌, List, Some, None, Ok, Err, refl, sym, ap, ◌∙◌, subst, arith, length, slice_get}
use Rattle.std.proofs.lemmas.Result.{err_from_is_err_and}
use Rattle.block_evidence.specs.declared.sight_tree.Node.{Node}
use Rattle.portal_walk.specs.declared.path.Frame.{Frame}
use Rattle.portal_walk.specs.declared.path.Ways.TheVariants.{Both}
use Rattle.portal_walk.specs.declared.roots.Root.{Root}
use Rattle.portal_walk.specs.declared.step.Came.TheVariants as came
use Rattle.portal_walk.specs.Frames.{first_portals}
use Rattle.portal_walk.specs.Walk.{WalkParts, Tries}
use Rattle.portal_walk.proofs.Paths.{walk_over}
use Rattle.portal_walk.proofs.Steps.{popped}
use Rattle.portal_walk.proofs.Trying.{path_empty, root_none, root_ready, root_opened, root_rests, root_walk}
use Rattle.portal_walk.proofs.walk.Walk.try_root.Goals as goal

pub returns-in_default-at-clause-tries : goal.returns-in_default-at-clause-tries
returns-in_default-at-clause-tries c =
    let s = c.self.inside in
    let empty = ap (λ (w : WalkParts). w.frames) c.self.view_is ∙ c.requires in
    let last = subst (λ (rs : List Root). slice_get rs (length rs - 1) ≡ Some c.in-Some.root) c.as_slice.ensures.value (sym c.last.ensures.value ∙ sym c.in-Some.ensures) in
    subst (λ (w : WalkParts). Tries w (walk_over s.scene c.pop.new.self.items s.root s.path.frames s.path.ends s.nodes) (Ok None)) c.self.view_is
    (subst (λ (rs : List Root). Tries (walk_over s.scene s.roots.items s.root s.path.frames s.path.ends s.nodes) (walk_over s.scene rs s.root s.path.frames s.path.ends s.nodes) (Ok None)) (sym (popped s.roots.items c.pop.new.self.items s.roots.items _ c.pop.ensures.rest (omega (arith, s.roots.ok)) refl)) (root_none s.scene s.roots.items s.root s.path s.nodes c.self.invariant.walk empty c.in-Some.root last c.at.result c.at.ensures c.in_default-at.is))

pub returns-in_err-begin-clause-tries : goal.returns-in_err-begin-clause-tries
returns-in_err-begin-clause-tries c =
    let s = c.self.inside in
    let empty = ap (λ (w : WalkParts). w.frames) c.self.view_is ∙ c.requires in
    let last = subst (λ (rs : List Root). slice_get rs (length rs - 1) ≡ Some c.in-Some.root) c.as_slice.ensures.value (sym c.last.ensures.value ∙ sym c.in-Some.ensures) in
    let new = walk_over s.scene s.roots.items s.root c.begin.new.self.frames c.begin.new.self.ends s.nodes in
    let err = err_from_is_err_and c.from_residual.result c.from_residual.ensures.1 in
    subst (λ (w : WalkParts). Tries w new c.from_residual.result) c.self.view_is (subst (Tries (walk_over s.scene s.roots.items s.root s.path.frames s.path.ends s.nodes) new) (sym err.1) (root_rests s.scene s.roots.items s.root s.path s.nodes c.self.invariant.walk empty c.in-Some.root last c.at.result c.at.ensures c.begin.new.self c.in_err-begin.ensures.err err.0))

pub invariant_of-self-in-Ok : goal.invariant_of-self-in-Ok
invariant_of-self-in-Ok c =
    let s = c.self.inside in
    let empty = ap (λ (w : WalkParts). w.frames) c.self.view_is ∙ c.requires in
    let last = subst (λ (rs : List Root). slice_get rs (length rs - 1) ≡ Some c.in-Some.root) c.as_slice.ensures.value (sym c.last.ensures.value ∙ sym c.in-Some.ensures) in
    let first : Frame = record { edge = c.in-Some-at.number; ways = Both; under = 0 } in
    record {
      walk = root_walk s.scene s.roots.items s.root s.path s.nodes c.self.invariant.walk empty c.in-Some.root last c.at.result c.at.ensures c.in-Some-at.number c.get.result.now c.in-Some-at.is c.get.ensures c.begin.new.self first refl refl refl c.in_ok-begin.ensures.ok c.push_open.new.self c.in-Ok.ensures.ok c.pop-in-Ok.new.self.items (popped s.roots.items c.pop-in-Ok.new.self.items s.roots.items _ c.pop-in-Ok.ensures.rest (omega (arith, s.roots.ok)) refl);
      ready = root_ready s.scene s.roots.items s.root s.path s.nodes c.self.invariant.walk empty c.in-Some.root last c.at.result c.at.ensures c.in-Some-at.number c.get.result.now c.in-Some-at.is c.get.ensures c.begin.new.self first refl refl refl c.in_ok-begin.ensures.ok c.push_open.new.self c.in-Ok.ensures.ok;
    }

pub returns-in-Ok-clause-tries : goal.returns-in-Ok-clause-tries
returns-in-Ok-clause-tries c =
    let s = c.self.inside in
    let empty = ap (λ (w : WalkParts). w.frames) c.self.view_is ∙ c.requires in
    let last = subst (λ (rs : List Root). slice_get rs (length rs - 1) ≡ Some c.in-Some.root) c.as_slice.ensures.value (sym c.last.ensures.value ∙ sym c.in-Some.ensures) in
    let first : Frame = record { edge = c.in-Some-at.number; ways = Both; under = 0 } in
    let new = walk_over s.scene c.pop-in-Ok.new.self.items (Some c.in-Some.root.side) c.begin.new.self.frames c.begin.new.self.ends c.push_open.new.self in
    subst (λ (w : WalkParts). Tries w new (Ok (Some (came.Open c.is_some.result)))) c.self.view_is (root_opened s.scene s.roots.items s.root s.path s.nodes c.self.invariant.walk empty c.in-Some.root last c.at.result c.at.ensures c.in-Some-at.number c.get.result.now c.in-Some-at.is c.get.ensures c.begin.new.self first refl refl refl c.in_ok-begin.ensures.ok c.push_open.new.self c.in-Ok.ensures.ok c.pop-in-Ok.new.self.items (popped s.roots.items c.pop-in-Ok.new.self.items s.roots.items _ c.pop-in-Ok.ensures.rest (omega (arith, s.roots.ok)) refl) c.is_some.result c.is_some.ensures)

pub returns-in-Err-clause-tries : goal.returns-in-Err-clause-tries
returns-in-Err-clause-tries c =
    let s = c.self.inside in
    let empty = ap (λ (w : WalkParts). w.frames) c.self.view_is ∙ c.requires in
    let last = subst (λ (rs : List Root). slice_get rs (length rs - 1) ≡ Some c.in-Some.root) c.as_slice.ensures.value (sym c.last.ensures.value ∙ sym c.in-Some.ensures) in
    let new = walk_over s.scene s.roots.items s.root c.cut.new.self.frames c.cut.new.self.ends c.push_open.new.self in
    let back = c.cut.ensures ∙ ap (first_portals 0) c.in_ok-begin.ensures.ok ∙ sym (path_empty s.scene s.roots.items s.root s.path s.nodes c.self.invariant.walk empty c.in-Some.root last c.at.result c.at.ensures) in
    subst (λ (w : WalkParts). Tries w new (Err c.in-Err.memory)) c.self.view_is
    (subst (λ (ns : List Node). Tries (walk_over s.scene s.roots.items s.root s.path.frames s.path.ends s.nodes) (walk_over s.scene s.roots.items s.root c.cut.new.self.frames c.cut.new.self.ends ns) (Err c.in-Err.memory)) (sym c.in-Err.ensures.err)
    (root_rests s.scene s.roots.items s.root s.path s.nodes c.self.invariant.walk empty c.in-Some.root last c.at.result c.at.ensures c.cut.new.self back c.in-Err.memory))
