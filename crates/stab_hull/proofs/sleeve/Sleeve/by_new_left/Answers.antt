use Rattle.std.proofs.Common.{List, Ok, sym, ◌∙◌, subst}
use Rattle.sight_names.specs.Splitting.{EndPoints}
use Rattle.stab_hull.specs.declared.onward.Told.{Told}
use Rattle.stab_hull.specs.Sleeves.{HasLastRight, IsPortalTold, ends_of_track}
use Rattle.stab_hull.proofs.Sleeves.{searched}
use Rattle.stab_hull.proofs.sleeve.Sleeve.by_new_left.Goals as goal

pub by_new_left-requires-clause-last : goal.by_new_left-requires-clause-last
by_new_left-requires-clause-last c = subst (λ (es : List EndPoints). HasLastRight es c.args.right) (sym c.self.view_is) c.requires.last

pub returns-in-Unseen : goal.returns-in-Unseen
returns-in-Unseen c =
    let portal : EndPoints = record { left = c.args.left; right = c.args.right } in
    let same = subst (λ (t : Told). IsPortalTold (ends_of_track c.self.inside.track) portal (ends_of_track c.by_new_left.new.self) (Ok t)) c.in-Unseen.is c.in_ok-by_new_left.ensures.goes.told in
    searched c.args.self.now (ends_of_track c.by_new_left.new.self) (ends_of_track c.by_search.new.self) portal c.by_search.result (same ∙ c.self.view_is) c.by_search.ensures.goes.told
