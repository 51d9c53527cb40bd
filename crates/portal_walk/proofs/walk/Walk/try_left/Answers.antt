use Rattle.std.proofs.Common.{◌≡◌, Bor, Option, option_copied, ℕ, ◌+◌, ◌-◌, ◌<◌, Some, None, Ok, length, slice_get, slice_set, length-set, refl, sym, ap, ◌∙◌, subst, arith}
use Rattle.std.proofs.lemmas.Option.{slice_get_within}
use Rattle.std.proofs.lemmas.Result.{err_from_is_err_and}
use Rattle.stab_hull.specs.declared.Passed.TheVariants.{Open as PassedOpen, Stuck}
use Rattle.portal_walk.specs.declared.ahead.Ahead.{Ahead}
use Rattle.portal_walk.specs.Ahead.{number_in}
use Rattle.portal_walk.proofs.Aheads.{left_passes, left_proper}
use Rattle.portal_walk.specs.declared.path.Ways.TheVariants.{Both, RightOnly}
use Rattle.portal_walk.specs.declared.scene.Way.TheVariants as out
use Rattle.portal_walk.specs.Frames.{HasWays, with_ways, ways_left}
use Rattle.portal_walk.specs.Walk.{WalkParts, Tries}
use Rattle.portal_walk.proofs.Paths.{walk_over}
use Rattle.portal_walk.proofs.Trying.{entry, keeps, left_done_under, none_ready, none_top, none_tried, none_walk, noted_told, open_not_stuck, top_numbered, under_left, way_noted, way_ready, way_rests, way_walk}
use Rattle.portal_walk.proofs.walk.Walk.try_left.Goals as goal

pub ahead-requires : goal.ahead-requires
ahead-requires c =
    let s = c.self.inside in
    let i = c.self.invariant.walk in
    let at = subst (λ (w : WalkParts). slice_get w.frames (length w.frames - 1) ≡ Some c.args.top) (sym c.self.view_is) c.requires.top in
    let less : ways_left c.args.top.ways ≡ ways_left RightOnly + 1 = ap ways_left c.requires.both in
    top_numbered s.scene s.roots.items s.root s.path s.nodes i c.args.top at out.Left RightOnly refl less

pub invariant_of-self : goal.invariant_of-self
invariant_of-self c =
    let s = c.self.inside in
    let i = c.self.invariant.walk in
    let at = subst (λ (w : WalkParts). slice_get w.frames (length w.frames - 1) ≡ Some c.args.top) (sym c.self.view_is) c.requires.top in
    let less : ways_left c.args.top.ways ≡ ways_left RightOnly + 1 = ap ways_left c.requires.both in
    let set = subst (λ (n : ℕ). HasWays s.path (n - 1) RightOnly c.set_ways.new.self) c.len-count.ensures c.set_ways.ensures in
    record { walk = none_walk s.scene s.roots.items s.root s.path s.nodes i c.args.top at out.Left RightOnly refl less (number_in (option_copied c.ahead.result)) c.ahead.ensures.way_found c.set_ways.new.self set; ready = none_ready s.scene s.roots.items s.root s.path s.nodes i c.args.top at out.Left RightOnly refl less (number_in (option_copied c.ahead.result)) c.ahead.ensures.way_found c.set_ways.new.self set (let one : 0 < 1 = omega arith in one) }

pub returns-in_default-clause-tries : goal.returns-in_default-clause-tries
returns-in_default-clause-tries c =
    let s = c.self.inside in
    let i = c.self.invariant.walk in
    let at = subst (λ (w : WalkParts). slice_get w.frames (length w.frames - 1) ≡ Some c.args.top) (sym c.self.view_is) c.requires.top in
    let less : ways_left c.args.top.ways ≡ ways_left RightOnly + 1 = ap ways_left c.requires.both in
    let set = subst (λ (n : ℕ). HasWays s.path (n - 1) RightOnly c.set_ways.new.self) c.len-count.ensures c.set_ways.ensures in
    subst (λ (w : WalkParts). Tries w (walk_over s.scene s.roots.items s.root c.set_ways.new.self.frames c.set_ways.new.self.ends s.nodes) (Ok None)) c.self.view_is (none_tried s.scene s.roots.items s.root s.path s.nodes i c.args.top at out.Left RightOnly refl less (number_in (option_copied c.ahead.result)) c.ahead.ensures.way_found (ap (λ (o : Option (Bor Ahead)). number_in (option_copied o)) c.in_default.is) c.set_ways.new.self set)

pub returns-in_default-clause-right : goal.returns-in_default-clause-right
returns-in_default-clause-right c =
    let s = c.self.inside in
    let i = c.self.invariant.walk in
    let at = subst (λ (w : WalkParts). slice_get w.frames (length w.frames - 1) ≡ Some c.args.top) (sym c.self.view_is) c.requires.top in
    let less : ways_left c.args.top.ways ≡ ways_left RightOnly + 1 = ap ways_left c.requires.both in
    let set = subst (λ (n : ℕ). HasWays s.path (n - 1) RightOnly c.set_ways.new.self) c.len-count.ensures c.set_ways.ensures in
    λ _. none_top s.scene s.roots.items s.root s.path s.nodes i c.args.top at out.Left RightOnly refl less (number_in (option_copied c.ahead.result)) c.ahead.ensures.way_found c.set_ways.new.self set

pub last_left-left-requires : goal.last_left-left-requires
last_left-left-requires c =
    let s = c.self.inside in
    let at = subst (λ (w : WalkParts). slice_get w.frames (length w.frames - 1) ≡ Some c.args.top) (sym c.self.view_is) c.requires.top in
    let there = slice_get_within s.path.frames (length s.path.frames - 1) c.args.top at in
    omega (arith, there)

pub by_new_right-requires-clause-proper : goal.by_new_right-requires-clause-proper
by_new_right-requires-clause-proper c =
    let s = c.self.inside in
    let i = c.self.invariant.walk in
    let of_edge = rw c.in-Some.is at c.ahead.ensures.edge in
    let at = subst (λ (w : WalkParts). slice_get w.frames (length w.frames - 1) ≡ Some c.args.top) (sym c.self.view_is) c.requires.top in
    let less : ways_left c.args.top.ways ≡ ways_left RightOnly + 1 = ap ways_left c.requires.both in
    left_proper s.path.ends c.last_left-left.result c.in-Some.ahead.now c.in-Some.ahead.now.number of_edge.0 of_edge.2 c.last_left-left.ensures (keeps s.scene s.roots.items s.root s.path s.nodes i c.args.top at out.Left RightOnly refl less (number_in (option_copied c.ahead.result)) c.ahead.ensures.way_found c.in-Some.ahead.now.number of_edge.0 (ap (λ (o : Option (Bor Ahead)). number_in (option_copied o)) c.in-Some.is) of_edge.1) ((entry s.scene s.roots.items s.root s.path s.nodes i c.args.top at out.Left RightOnly refl less (number_in (option_copied c.ahead.result)) c.ahead.ensures.way_found c.in-Some.ahead.now.number of_edge.0 (ap (λ (o : Option (Bor Ahead)). number_in (option_copied o)) c.in-Some.is) of_edge.1).proper)

pub returns-in_err-by_new_right-clause-tries : goal.returns-in_err-by_new_right-clause-tries
returns-in_err-by_new_right-clause-tries c =
    let s = c.self.inside in
    let i = c.self.invariant.walk in
    let of_edge = rw c.in-Some.is at c.ahead.ensures.edge in
    let at = subst (λ (w : WalkParts). slice_get w.frames (length w.frames - 1) ≡ Some c.args.top) (sym c.self.view_is) c.requires.top in
    let less : ways_left c.args.top.ways ≡ ways_left RightOnly + 1 = ap ways_left c.requires.both in
    let new = walk_over s.scene s.roots.items s.root c.by_new_right.new.self.frames c.by_new_right.new.self.ends s.nodes in
    let err = err_from_is_err_and c.from_residual.result c.from_residual.ensures.1 in
    subst (λ (w : WalkParts). Tries w new c.from_residual.result) c.self.view_is (subst (Tries (walk_over s.scene s.roots.items s.root s.path.frames s.path.ends s.nodes) new) (sym err.1) (way_rests s.scene s.roots.items s.root s.path s.nodes i c.args.top at out.Left RightOnly refl less (number_in (option_copied c.ahead.result)) c.ahead.ensures.way_found c.in-Some.ahead.now.number of_edge.0 (ap (λ (o : Option (Bor Ahead)). number_in (option_copied o)) c.in-Some.is) of_edge.1 c.by_new_right.new.self c.in_err-by_new_right.ensures.tells err.0))

pub invariant_of-self-in-Open : goal.invariant_of-self-in-Open
invariant_of-self-in-Open c =
    let s = c.self.inside in
    let i = c.self.invariant.walk in
    let of_edge = rw c.in-Some.is at c.ahead.ensures.edge in
    let at = subst (λ (w : WalkParts). slice_get w.frames (length w.frames - 1) ≡ Some c.args.top) (sym c.self.view_is) c.requires.top in
    let less : ways_left c.args.top.ways ≡ ways_left RightOnly + 1 = ap ways_left c.requires.both in
    let long : length s.path.frames ≡ length (slice_set s.path.frames (length s.path.frames - 1) (with_ways c.args.top RightOnly)) = sym (length-set s.path.frames (length s.path.frames - 1) (with_ways c.args.top RightOnly)) in
    let passes = left_passes s.path.ends c.last_left-left.result c.in-Some.ahead.now c.in-Some.ahead.now.number of_edge.0 of_edge.2 c.last_left-left.ensures (keeps s.scene s.roots.items s.root s.path s.nodes i c.args.top at out.Left RightOnly refl less (number_in (option_copied c.ahead.result)) c.ahead.ensures.way_found c.in-Some.ahead.now.number of_edge.0 (ap (λ (o : Option (Bor Ahead)). number_in (option_copied o)) c.in-Some.is) of_edge.1) s.path c.by_new_right.new.self (record { edge = c.in-Some.ahead.now.number; ways = Both; under = c.len-count.result }) (Ok PassedOpen) (rw c.in-Open.is at c.in_ok-by_new_right.ensures.tells) in
    record { walk = way_walk s.scene s.roots.items s.root s.path s.nodes i c.args.top at out.Left RightOnly refl less (number_in (option_copied c.ahead.result)) c.ahead.ensures.way_found c.in-Some.ahead.now.number of_edge.0 (ap (λ (o : Option (Bor Ahead)). number_in (option_copied o)) c.in-Some.is) of_edge.1 (record { edge = c.in-Some.ahead.now.number; ways = Both; under = c.len-count.result }) refl refl (omega (arith, c.len-count.ensures, long)) (left_done_under (slice_set s.path.frames (length s.path.frames - 1) (with_ways c.args.top RightOnly)) c.len-count.result (c.len-count.ensures ∙ long)) (under_left s.scene s.roots.items s.root s.path s.nodes i c.args.top at out.Left RightOnly refl less c.len-count.result c.len-count.ensures (let one : 0 < 1 = omega arith in one)) c.len-count.result c.len-count.ensures c.by_new_right.new.self c.note_open.new.path c.note_open.new.nodes PassedOpen passes c.in-Some.ahead.now.is_line (ap (λ (a : Ahead). a.is_line) of_edge.2) c.note_open.result c.note_open.ensures; ready = way_ready s.scene s.roots.items s.root s.path s.nodes i c.args.top at out.Left RightOnly refl less (number_in (option_copied c.ahead.result)) c.ahead.ensures.way_found c.in-Some.ahead.now.number of_edge.0 (ap (λ (o : Option (Bor Ahead)). number_in (option_copied o)) c.in-Some.is) of_edge.1 (record { edge = c.in-Some.ahead.now.number; ways = Both; under = c.len-count.result }) refl refl (omega (arith, c.len-count.ensures, long)) (left_done_under (slice_set s.path.frames (length s.path.frames - 1) (with_ways c.args.top RightOnly)) c.len-count.result (c.len-count.ensures ∙ long)) (under_left s.scene s.roots.items s.root s.path s.nodes i c.args.top at out.Left RightOnly refl less c.len-count.result c.len-count.ensures (let one : 0 < 1 = omega arith in one)) c.len-count.result c.len-count.ensures c.by_new_right.new.self c.note_open.new.path c.note_open.new.nodes PassedOpen passes c.in-Some.ahead.now.is_line (ap (λ (a : Ahead). a.is_line) of_edge.2) c.self.invariant.ready (λ e same. absurd (open_not_stuck e same)) c.note_open.result c.note_open.ensures }

pub returns-in-Open-clause-tries : goal.returns-in-Open-clause-tries
returns-in-Open-clause-tries c =
    let s = c.self.inside in
    let i = c.self.invariant.walk in
    let of_edge = rw c.in-Some.is at c.ahead.ensures.edge in
    let at = subst (λ (w : WalkParts). slice_get w.frames (length w.frames - 1) ≡ Some c.args.top) (sym c.self.view_is) c.requires.top in
    let less : ways_left c.args.top.ways ≡ ways_left RightOnly + 1 = ap ways_left c.requires.both in
    let long : length s.path.frames ≡ length (slice_set s.path.frames (length s.path.frames - 1) (with_ways c.args.top RightOnly)) = sym (length-set s.path.frames (length s.path.frames - 1) (with_ways c.args.top RightOnly)) in
    let passes = left_passes s.path.ends c.last_left-left.result c.in-Some.ahead.now c.in-Some.ahead.now.number of_edge.0 of_edge.2 c.last_left-left.ensures (keeps s.scene s.roots.items s.root s.path s.nodes i c.args.top at out.Left RightOnly refl less (number_in (option_copied c.ahead.result)) c.ahead.ensures.way_found c.in-Some.ahead.now.number of_edge.0 (ap (λ (o : Option (Bor Ahead)). number_in (option_copied o)) c.in-Some.is) of_edge.1) s.path c.by_new_right.new.self (record { edge = c.in-Some.ahead.now.number; ways = Both; under = c.len-count.result }) (Ok PassedOpen) (rw c.in-Open.is at c.in_ok-by_new_right.ensures.tells) in
    subst (λ (w : WalkParts). Tries w (walk_over s.scene s.roots.items s.root c.note_open.new.path.frames c.note_open.new.path.ends c.note_open.new.nodes) c.note_open.result) c.self.view_is (way_noted s.scene s.roots.items s.root s.path s.nodes i c.args.top at out.Left RightOnly refl less (number_in (option_copied c.ahead.result)) c.ahead.ensures.way_found c.in-Some.ahead.now.number of_edge.0 (ap (λ (o : Option (Bor Ahead)). number_in (option_copied o)) c.in-Some.is) of_edge.1 (record { edge = c.in-Some.ahead.now.number; ways = Both; under = c.len-count.result }) refl refl (omega (arith, c.len-count.ensures, long)) (left_done_under (slice_set s.path.frames (length s.path.frames - 1) (with_ways c.args.top RightOnly)) c.len-count.result (c.len-count.ensures ∙ long)) (under_left s.scene s.roots.items s.root s.path s.nodes i c.args.top at out.Left RightOnly refl less c.len-count.result c.len-count.ensures (let one : 0 < 1 = omega arith in one)) c.len-count.result c.len-count.ensures c.by_new_right.new.self c.note_open.new.path c.note_open.new.nodes PassedOpen passes c.in-Some.ahead.now.is_line (ap (λ (a : Ahead). a.is_line) of_edge.2) c.note_open.result c.note_open.ensures)

pub returns-in-Open-clause-right : goal.returns-in-Open-clause-right
returns-in-Open-clause-right c =
    let s = c.self.inside in
    let i = c.self.invariant.walk in
    let at = subst (λ (w : WalkParts). slice_get w.frames (length w.frames - 1) ≡ Some c.args.top) (sym c.self.view_is) c.requires.top in
    let less : ways_left c.args.top.ways ≡ ways_left RightOnly + 1 = ap ways_left c.requires.both in
    λ e. absurd (noted_told c.len-count.result RightOnly c.in-Some.ahead.now.is_line c.by_new_right.new.self c.note_open.new.path s.nodes c.note_open.new.nodes PassedOpen c.note_open.result c.note_open.ensures e)

pub invariant_of-self-in-Stuck : goal.invariant_of-self-in-Stuck
invariant_of-self-in-Stuck c =
    let s = c.self.inside in
    let i = c.self.invariant.walk in
    let of_edge = rw c.in-Some.is at c.ahead.ensures.edge in
    let at = subst (λ (w : WalkParts). slice_get w.frames (length w.frames - 1) ≡ Some c.args.top) (sym c.self.view_is) c.requires.top in
    let less : ways_left c.args.top.ways ≡ ways_left RightOnly + 1 = ap ways_left c.requires.both in
    let long : length s.path.frames ≡ length (slice_set s.path.frames (length s.path.frames - 1) (with_ways c.args.top RightOnly)) = sym (length-set s.path.frames (length s.path.frames - 1) (with_ways c.args.top RightOnly)) in
    let passes = left_passes s.path.ends c.last_left-left.result c.in-Some.ahead.now c.in-Some.ahead.now.number of_edge.0 of_edge.2 c.last_left-left.ensures (keeps s.scene s.roots.items s.root s.path s.nodes i c.args.top at out.Left RightOnly refl less (number_in (option_copied c.ahead.result)) c.ahead.ensures.way_found c.in-Some.ahead.now.number of_edge.0 (ap (λ (o : Option (Bor Ahead)). number_in (option_copied o)) c.in-Some.is) of_edge.1) s.path c.by_new_right.new.self (record { edge = c.in-Some.ahead.now.number; ways = Both; under = c.len-count.result }) (Ok (Stuck c.in-Stuck.evidence)) (rw c.in-Stuck.is at c.in_ok-by_new_right.ensures.tells) in
    record { walk = way_walk s.scene s.roots.items s.root s.path s.nodes i c.args.top at out.Left RightOnly refl less (number_in (option_copied c.ahead.result)) c.ahead.ensures.way_found c.in-Some.ahead.now.number of_edge.0 (ap (λ (o : Option (Bor Ahead)). number_in (option_copied o)) c.in-Some.is) of_edge.1 (record { edge = c.in-Some.ahead.now.number; ways = Both; under = c.len-count.result }) refl refl (omega (arith, c.len-count.ensures, long)) (left_done_under (slice_set s.path.frames (length s.path.frames - 1) (with_ways c.args.top RightOnly)) c.len-count.result (c.len-count.ensures ∙ long)) (under_left s.scene s.roots.items s.root s.path s.nodes i c.args.top at out.Left RightOnly refl less c.len-count.result c.len-count.ensures (let one : 0 < 1 = omega arith in one)) c.len-count.result c.len-count.ensures c.by_new_right.new.self c.note_stuck.new.path c.note_stuck.new.nodes (Stuck c.in-Stuck.evidence) passes c.in-Some.ahead.now.is_line (ap (λ (a : Ahead). a.is_line) of_edge.2) c.note_stuck.result c.note_stuck.ensures; ready = way_ready s.scene s.roots.items s.root s.path s.nodes i c.args.top at out.Left RightOnly refl less (number_in (option_copied c.ahead.result)) c.ahead.ensures.way_found c.in-Some.ahead.now.number of_edge.0 (ap (λ (o : Option (Bor Ahead)). number_in (option_copied o)) c.in-Some.is) of_edge.1 (record { edge = c.in-Some.ahead.now.number; ways = Both; under = c.len-count.result }) refl refl (omega (arith, c.len-count.ensures, long)) (left_done_under (slice_set s.path.frames (length s.path.frames - 1) (with_ways c.args.top RightOnly)) c.len-count.result (c.len-count.ensures ∙ long)) (under_left s.scene s.roots.items s.root s.path s.nodes i c.args.top at out.Left RightOnly refl less c.len-count.result c.len-count.ensures (let one : 0 < 1 = omega arith in one)) c.len-count.result c.len-count.ensures c.by_new_right.new.self c.note_stuck.new.path c.note_stuck.new.nodes (Stuck c.in-Stuck.evidence) passes c.in-Some.ahead.now.is_line (ap (λ (a : Ahead). a.is_line) of_edge.2) c.self.invariant.ready (λ e same. let one : 0 < 1 = omega arith in one) c.note_stuck.result c.note_stuck.ensures }

pub returns-in-Stuck-clause-tries : goal.returns-in-Stuck-clause-tries
returns-in-Stuck-clause-tries c =
    let s = c.self.inside in
    let i = c.self.invariant.walk in
    let of_edge = rw c.in-Some.is at c.ahead.ensures.edge in
    let at = subst (λ (w : WalkParts). slice_get w.frames (length w.frames - 1) ≡ Some c.args.top) (sym c.self.view_is) c.requires.top in
    let less : ways_left c.args.top.ways ≡ ways_left RightOnly + 1 = ap ways_left c.requires.both in
    let long : length s.path.frames ≡ length (slice_set s.path.frames (length s.path.frames - 1) (with_ways c.args.top RightOnly)) = sym (length-set s.path.frames (length s.path.frames - 1) (with_ways c.args.top RightOnly)) in
    let passes = left_passes s.path.ends c.last_left-left.result c.in-Some.ahead.now c.in-Some.ahead.now.number of_edge.0 of_edge.2 c.last_left-left.ensures (keeps s.scene s.roots.items s.root s.path s.nodes i c.args.top at out.Left RightOnly refl less (number_in (option_copied c.ahead.result)) c.ahead.ensures.way_found c.in-Some.ahead.now.number of_edge.0 (ap (λ (o : Option (Bor Ahead)). number_in (option_copied o)) c.in-Some.is) of_edge.1) s.path c.by_new_right.new.self (record { edge = c.in-Some.ahead.now.number; ways = Both; under = c.len-count.result }) (Ok (Stuck c.in-Stuck.evidence)) (rw c.in-Stuck.is at c.in_ok-by_new_right.ensures.tells) in
    subst (λ (w : WalkParts). Tries w (walk_over s.scene s.roots.items s.root c.note_stuck.new.path.frames c.note_stuck.new.path.ends c.note_stuck.new.nodes) c.note_stuck.result) c.self.view_is (way_noted s.scene s.roots.items s.root s.path s.nodes i c.args.top at out.Left RightOnly refl less (number_in (option_copied c.ahead.result)) c.ahead.ensures.way_found c.in-Some.ahead.now.number of_edge.0 (ap (λ (o : Option (Bor Ahead)). number_in (option_copied o)) c.in-Some.is) of_edge.1 (record { edge = c.in-Some.ahead.now.number; ways = Both; under = c.len-count.result }) refl refl (omega (arith, c.len-count.ensures, long)) (left_done_under (slice_set s.path.frames (length s.path.frames - 1) (with_ways c.args.top RightOnly)) c.len-count.result (c.len-count.ensures ∙ long)) (under_left s.scene s.roots.items s.root s.path s.nodes i c.args.top at out.Left RightOnly refl less c.len-count.result c.len-count.ensures (let one : 0 < 1 = omega arith in one)) c.len-count.result c.len-count.ensures c.by_new_right.new.self c.note_stuck.new.path c.note_stuck.new.nodes (Stuck c.in-Stuck.evidence) passes c.in-Some.ahead.now.is_line (ap (λ (a : Ahead). a.is_line) of_edge.2) c.note_stuck.result c.note_stuck.ensures)

pub returns-in-Stuck-clause-right : goal.returns-in-Stuck-clause-right
returns-in-Stuck-clause-right c =
    let s = c.self.inside in
    let i = c.self.invariant.walk in
    let at = subst (λ (w : WalkParts). slice_get w.frames (length w.frames - 1) ≡ Some c.args.top) (sym c.self.view_is) c.requires.top in
    let less : ways_left c.args.top.ways ≡ ways_left RightOnly + 1 = ap ways_left c.requires.both in
    λ e. absurd (noted_told c.len-count.result RightOnly c.in-Some.ahead.now.is_line c.by_new_right.new.self c.note_stuck.new.path s.nodes c.note_stuck.new.nodes (Stuck c.in-Stuck.evidence) c.note_stuck.result c.note_stuck.ensures e)
