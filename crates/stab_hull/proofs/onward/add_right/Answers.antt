use Rattle.std.proofs.Common.{arith, ◌+◌, ◌<◌, ◌++◌, ◌∷◌, [], List, Ok, length, refl, sym, ap, ◌∙◌, subst}
use Rattle.std.proofs.lemmas.Option.{slice_get_within}
use Rattle.sight_names.specs.declared.limits.TheConstants.{RIGHT_END}
use Rattle.sight_names.specs.declared.names.EndAt.{EndAt}
use Rattle.sight_names.specs.Splitting.{EndPoints}
use Rattle.stab_hull.specs.declared.hull.Hull.{Hull}
use Rattle.stab_hull.specs.declared.onward.Told.TheVariants as told
use Rattle.stab_hull.specs.Portals.{portals_of}
use Rattle.stab_hull.specs.Sleeves.{HasLastLeft, TakesRight, GoesOnWithNote, frames_of}
use Rattle.stab_hull.specs.Stacks.{IsTopCone}
use Rattle.stab_hull.specs.Turning.{MovesRight}
use Rattle.stab_hull.proofs.HistoryLemmas.{as_many}
use Rattle.stab_hull.proofs.Sleeves.{framed, whole, goes_right, goes_noted, as_many_frames, frames_pushed, noted}
use Rattle.stab_hull.proofs.onward.add_right.Goals.{then-moves+in-Ok, else-moves}
use Rattle.stab_hull.proofs.onward.add_right.Goals as goal

pub frame_to_right-frame-requires : goal.frame_to_right-frame-requires
frame_to_right-frame-requires g c = record { last = subst (λ xs. HasLastLeft (portals_of (frames_of xs)) c.args.left) (sym (c.as_slice.ensures.value ∙ c.reserve.ensures.items)) c.requires.last }

pub stack_right-requires-clause-again : goal.stack_right-requires-clause-again
stack_right-requires-clause-again g c = refl

pub stack_right-requires-clause-steps : goal.stack_right-requires-clause-steps
stack_right-requires-clause-steps g c = c.as_slice-lefts.ensures.steps

pub stack_right-requires-clause-moves : goal.stack_right-requires-clause-moves
stack_right-requires-clause-moves g c = subst (λ (xs : List EndAt). MovesRight xs c.args.hull.now.cones.items c.args.new) (sym c.as_slice-lefts.ensures.ends) (subst (TakesRight c.args.hull.now.lefts c.args.hull.now.rights c.args.hull.now.cones.items c.args.new) c.if-moves.true c.requires.takes)

pub returns : goal.returns
returns g c =
    let xs = c.args.portals.now.items in
    let fs = frames_of xs in
    let ls = c.args.hull.now.lefts in
    let rs = c.args.hull.now.rights in
    let cs = c.args.hull.now.cones.items in
    let m = as_many fs in
    let b = slice_get_within (portals_of fs) _ c.requires.last.0 c.requires.last.1 in
    let some : 0 < length fs = omega (arith, b, m) in
    let x = noted c.frame_to_right-frame.result c.args.note in
    let many = as_many_frames xs in
    let longer = c.push_reserved.ensures.items ∙ ap (λ ys. ys ++ x ∷ []) c.reserve.ensures.items in
    let grown = ap frames_of longer ∙ frames_pushed xs x in
    let few : length fs < RIGHT_END = (let l = c.requires.few in omega (arith, many, l)) in
    let p : EndPoints = record { left = c.args.left; right = c.args.new.at } in
    let frame = c.frame_to_right-frame.ensures in
    elim c.if-moves.branch [
      | then-moves+in-Ok w ↦
          subst (λ (h : Hull). GoesOnWithNote xs c.args.note p c.push_reserved.new.self.items h.lefts h.rights h.cones.items (Ok told.Open)) (sym w.hull-is)
          (goes_noted xs c.push_reserved.new.self.items x p ls c.push.new.self w.stack_right.new.cones.items longer
          (goes_right fs ls rs cs w.stack_right.new.cones.items c.requires.sleeve few w.in-Ok.ensures.kept (frames_of c.push_reserved.new.self.items) c.args.left c.args.new c.frame_to_right-frame.result c.push.new.self c.requires.last (c.requires.code ∙ ap (λ n. n + RIGHT_END) (sym many)) c.in_ok-push.ensures.ok
          (subst (λ (ys : List EndAt). IsTopCone ys rs cs → IsTopCone ys (rs ++ c.args.new ∷ []) w.stack_right.new.cones.items) w.as_slice-lefts.ensures.ends (w.in-Ok.ensures.top rs) (whole fs ls rs cs c.requires.sleeve some).cone)
          (frame ∙ ap (λ (h : Hull). framed c.args.left c.args.new.at h.lefts h.rights h.cones.items) w.hull-is) grown))
      | else-moves w ↦
          subst (λ (h : Hull). GoesOnWithNote xs c.args.note p c.push_reserved.new.self.items h.lefts h.rights h.cones.items (Ok told.Open)) (sym w.hull-is)
          (goes_noted xs c.push_reserved.new.self.items x p ls c.push.new.self cs longer
          (goes_right fs ls rs cs cs c.requires.sleeve few (refl, omega arith) (frames_of c.push_reserved.new.self.items) c.args.left c.args.new c.frame_to_right-frame.result c.push.new.self c.requires.last (c.requires.code ∙ ap (λ n. n + RIGHT_END) (sym many)) c.in_ok-push.ensures.ok
          (subst (TakesRight ls rs cs c.args.new) w.if-moves.false c.requires.takes)
          (frame ∙ ap (λ (h : Hull). framed c.args.left c.args.new.at h.lefts h.rights h.cones.items) w.hull-is) grown))
    ]
