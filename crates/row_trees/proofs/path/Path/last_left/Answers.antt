use Rattle.std.proofs.Common.{◌≡◌, [], List, sym, ◌∙◌, subst}
use Rattle.sight_names.specs.Splitting.{EndPoints}
use Rattle.stab_hull.specs.declared.frame.Noted.{Noted}
use Rattle.stab_hull.specs.Portals.{portals_of}
use Rattle.stab_hull.specs.Sleeves.{HasLastLeft, frames_of}
use Rattle.row_trees.proofs.Doors.{none_there, last_left}
use Rattle.row_trees.proofs.path.Path.last_left.Goals as goal

pub returns-in-Some : goal.returns-in-Some
returns-in-Some c =
    let last = c.in-Some.last.now in
    subst (λ (es : List EndPoints). HasLastLeft es last.frame.left) c.self.view_is
    (subst (λ (xs : List (Noted (Unit {0}))). HasLastLeft (portals_of (frames_of xs)) last.frame.left) c.as_slice.ensures.value (last_left c.as_slice.result.now last (sym c.in-Some.ensures.value)))

pub returns-in-None : goal.returns-in-None
returns-in-None c =
    sym c.self.view_is ∙ subst (λ (xs : List (Noted (Unit {0}))). portals_of (frames_of xs) ≡ []) c.as_slice.ensures.value (none_there c.as_slice.result.now (sym c.in-None.ensures.value))
