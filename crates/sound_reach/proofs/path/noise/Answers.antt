use Rattle.std.proofs.Common.{ℕ, ◌<◌, true, sym, ◌∙◌, subst}
use Rattle.sight_names.specs.Map.{map_of}
use Rattle.sound_reach.proofs.Lookups.{distance_read}
use Rattle.sound_reach.proofs.Mapped.{first_noise, not_heard}
use Rattle.sound_reach.proofs.path.noise.Goals as goal

pub returns-in_default : goal.returns-in_default
returns-in_default c =
    not_heard (map_of c.args.plan.now) c.args.dampers.now c.in_ok-doors.doors.doors.items c.in_ok-doors.ensures.doors c.in_ok-doors.doors.sectors c.args.a c.args.b c.in_ok-distances.distances.items c.in_ok-distances.ensures
    (distance_read c.in_ok-distances.distances.items (record { sector = c.args.a; spare = true }) c.in_ok-doors.doors.sectors c.place.result c.index.result.now c.place.ensures (subst (λ (n : ℕ). c.args.a < n) (sym c.in_ok-doors.ensures.sectors) c.requires.first) c.in_ok-distances.ensures.len c.index.ensures ∙ c.in_default.is)

pub returns : goal.returns
returns c =
    first_noise (map_of c.args.plan.now) c.args.dampers.now c.in_ok-doors.doors.doors.items c.in_ok-doors.ensures.doors c.in_ok-doors.doors.sectors c.args.a c.args.b c.in-Some.distance c.in_ok-distances.distances.items c.in_ok-sides.sides.items c.in_ok-distances.ensures
    (distance_read c.in_ok-distances.distances.items (record { sector = c.args.a; spare = true }) c.in_ok-doors.doors.sectors c.place.result c.index.result.now c.place.ensures (subst (λ (n : ℕ). c.args.a < n) (sym c.in_ok-doors.ensures.sectors) c.requires.first) c.in_ok-distances.ensures.len c.index.ensures ∙ c.in-Some.is)
    c.in_ok-sides.ensures.len c.in_ok-sides.ensures.first
