use Rattle.std.proofs.Common.{false, refl, sym, ap, ◌∙◌}
use Rattle.sight_names.specs.declared.names.Pt.{Pt}
use Rattle.sight_names.specs.Map.{origin}
use Rattle.sight_names.proofs.Records.{same_pt}
use Rattle.portal_walk.specs.declared.ahead.Ahead.{Ahead}
use Rattle.portal_walk.specs.declared.ahead.TheConstants.{NO_EDGE}
use Rattle.portal_walk.specs.Ahead.{kept_as}
use Rattle.portal_walk.proofs.ahead.kept.Goals as goal

-- nothing is ahead, with this point for an apex
abbrev nothing_at : Pt → Ahead
nothing_at p = record { number = NO_EDGE; apex_at = p; sector = 0; has_sector = false; is_line = false }

pub returns-in-None : goal.returns-in-None
returns-in-None c = ap nothing_at (same_pt _ origin refl refl) ∙ ap kept_as (sym c.in-None.is)
