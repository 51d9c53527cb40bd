use Rattle.std.proofs.Common.{string_bytes}
use Rattle.shelf_io.proofs.BegunLemmas.{among_retained}
use Rattle.shelf_io.proofs.begun.close_straight.Goals as goal

pub returns : goal.returns
returns g c = among_retained (λ b. string_bytes b.name) _ _ c.retain.ensures.filtered.0 c.retain.ensures.filtered.4
