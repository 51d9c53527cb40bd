use Rattle.std.proofs.Common.{ap, ◌∙◌}
use Rattle.portal_walk.specs.Frames.{first_portals}
use Rattle.portal_walk.proofs.Tracks.{path_cut}
use Rattle.portal_walk.proofs.path.Path.cut.Goals as goal

pub returns : goal.returns
returns c = path_cut c.self.inside.track.portals.items c.cut.new.self.portals.items c.args.count c.cut.ensures.portals ∙ ap (first_portals c.args.count) c.self.view_is
