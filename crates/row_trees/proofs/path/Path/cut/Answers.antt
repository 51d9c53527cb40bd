use Rattle.std.proofs.Common.{List, take, ap, ◌∙◌}
use Rattle.sight_names.specs.Splitting.{EndPoints}
use Rattle.stab_hull.proofs.Sleeves.{fewer_ends}
use Rattle.row_trees.proofs.path.Path.cut.Goals as goal

pub returns : goal.returns
returns c = fewer_ends c.self.inside.track.portals.items c.cut.new.self.portals.items c.args.count c.cut.ensures.portals ∙ ap (λ (es : List EndPoints). take c.args.count es) c.self.view_is
