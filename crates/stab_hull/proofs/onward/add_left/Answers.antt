use Rattle.std.proofs.Common.{arith, ◌<◌, ◌++◌, ◌∷◌, [], List, Ok, length, refl, sym, ap, ◌∙◌, subst}
use Rattle.std.proofs.lemmas.Option.{slice_get_within}
use Rattle.sight_names.specs.declared.limits.TheConstants.{RIGHT_END}
use Rattle.sight_names.specs.declared.names.EndAt.{EndAt}
use Rattle.sight_names.specs.Splitting.{EndPoints}
use Rattle.stab_hull.specs.declared.hull.Hull.{Hull}
use Rattle.stab_hull.specs.declared.onward.Told.TheVariants as told
use Rattle.stab_hull.specs.Portals.{portals_of}
use Rattle.stab_hull.specs.Sleeves.{HasLastRight, TakesLeft, GoesOnWithNote, frames_of}
use Rattle.stab_hull.specs.Stacks.{IsTopCone}
use Rattle.stab_hull.specs.Turning.{MovesLeft}
use Rattle.stab_hull.proofs.HistoryLemmas.{as_many}
use Rattle.stab_hull.proofs.Sleeves.{framed, whole, goes_left, goes_noted, as_many_frames, frames_pushed, noted}
use Rattle.stab_hull.proofs.onward.add_left.Goals.{then-moves+in-Ok, else-moves}
use Rattle.stab_hull.proofs.onward.add_left.Goals as goal

pub frame_to_left-frame-requires : goal.frame_to_left-frame-requires
frame_to_left-frame-requires g c = record { last = subst (λ xs. HasLastRight (portals_of (frames_of xs)) c.args.right) (sym (c.as_slice.ensures.value ∙ c.reserve.ensures.items)) c.requires.last }

pub stack_left-requires-clause-again : goal.stack_left-requires-clause-again
stack_left-requires-clause-again g c = refl

pub stack_left-requires-clause-steps : goal.stack_left-requires-clause-steps
stack_left-requires-clause-steps g c = c.as_slice-rights.ensures.steps

pub stack_left-requires-clause-moves : goal.stack_left-requires-clause-moves
stack_left-requires-clause-moves g c = subst (λ (xs : List EndAt). MovesLeft xs c.args.hull.now.cones.items c.args.new) (sym c.as_slice-rights.ensures.ends) (subst (TakesLeft c.args.hull.now.lefts c.args.hull.now.rights c.args.hull.now.cones.items c.args.new) c.if-moves.true c.requires.takes)

pub returns : goal.returns
returns g c =
    let xs = c.args.portals.now.items in
    let fs = frames_of xs in
    let ls = c.args.hull.now.lefts in
    let rs = c.args.hull.now.rights in
    let cs = c.args.hull.now.cones.items in
    let m = as_many fs in
    let b = slice_get_within (portals_of fs) _ c.requires.last.0 c.requires.last.1 in
    let some : 0 < length fs = omega (arith, b, m) in
    let x = noted c.frame_to_left-frame.result c.args.note in
    let many = as_many_frames xs in
    let longer = c.push_reserved.ensures.items ∙ ap (λ ys. ys ++ x ∷ []) c.reserve.ensures.items in
    let grown = ap frames_of longer ∙ frames_pushed xs x in
    let few : length fs < RIGHT_END = (let l = c.requires.few in omega (arith, many, l)) in
    let p : EndPoints = record { left = c.args.new.at; right = c.args.right } in
    let frame = c.frame_to_left-frame.ensures in
    elim c.if-moves.branch [
      | then-moves+in-Ok w ↦
          subst (λ (h : Hull). GoesOnWithNote xs c.args.note p c.push_reserved.new.self.items h.lefts h.rights h.cones.items (Ok told.Open)) (sym w.hull-is)
          (goes_noted xs c.push_reserved.new.self.items x p c.push.new.self rs w.stack_left.new.cones.items longer
          (goes_left fs ls rs cs w.stack_left.new.cones.items c.requires.sleeve few w.in-Ok.ensures.kept (frames_of c.push_reserved.new.self.items) c.args.right c.args.new c.frame_to_left-frame.result c.push.new.self c.requires.last (c.requires.code ∙ sym many) c.in_ok-push.ensures.ok
          (subst (λ (ys : List EndAt). IsTopCone ls ys cs → IsTopCone (ls ++ c.args.new ∷ []) ys w.stack_left.new.cones.items) w.as_slice-rights.ensures.ends (w.in-Ok.ensures.top ls) (whole fs ls rs cs c.requires.sleeve some).cone)
          (frame ∙ ap (λ (h : Hull). framed c.args.new.at c.args.right h.lefts h.rights h.cones.items) w.hull-is) grown))
      | else-moves w ↦
          subst (λ (h : Hull). GoesOnWithNote xs c.args.note p c.push_reserved.new.self.items h.lefts h.rights h.cones.items (Ok told.Open)) (sym w.hull-is)
          (goes_noted xs c.push_reserved.new.self.items x p c.push.new.self rs cs longer
          (goes_left fs ls rs cs cs c.requires.sleeve few (refl, omega arith) (frames_of c.push_reserved.new.self.items) c.args.right c.args.new c.frame_to_left-frame.result c.push.new.self c.requires.last (c.requires.code ∙ sym many) c.in_ok-push.ensures.ok
          (subst (TakesLeft ls rs cs c.args.new) w.if-moves.false c.requires.takes)
          (frame ∙ ap (λ (h : Hull). framed c.args.new.at c.args.right h.lefts h.rights h.cones.items) w.hull-is) grown))
    ]
