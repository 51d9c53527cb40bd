use Rattle.std.proofs.Common.{◌≡◌, Bor, Option, option_copied, ◌+◌, ◌-◌, Some, None, Ok, length, slice_get, slice_set, length-set, refl, sym, ap, subst, arith}
use Rattle.std.proofs.lemmas.Option.{slice_get_within}
use Rattle.std.proofs.lemmas.Result.{err_from_is_err_and}
use Rattle.stab_hull.specs.declared.Passed.TheVariants.{Open as PassedOpen, Stuck}
use Rattle.portal_walk.specs.declared.ahead.Ahead.{Ahead}
use Rattle.portal_walk.specs.Ahead.{number_in}
use Rattle.portal_walk.proofs.Aheads.{right_passes, right_proper}
use Rattle.portal_walk.specs.declared.path.Ways.TheVariants.{Both, Done}
use Rattle.portal_walk.specs.declared.scene.Way.TheVariants as out
use Rattle.portal_walk.specs.declared.step.Came.TheVariants as came
use Rattle.portal_walk.specs.Frames.{with_ways, ways_left}
use Rattle.portal_walk.specs.Walk.{WalkParts, Tries}
use Rattle.portal_walk.proofs.Lists.{last_set}
use Rattle.portal_walk.proofs.Paths.{walk_over, under_done, under_set}
use Rattle.portal_walk.proofs.Trying.{entry, keeps, left_ready, left_walk, none_left, open_not_stuck, stays_in, stuck_left, stuck_ready, stuck_rests, stuck_walk, top_numbered, under_right, way_noted, way_ready, way_rests, way_walk}
use Rattle.portal_walk.proofs.walk.Walk.try_right.Goals as goal

pub ahead-requires : goal.ahead-requires
ahead-requires c =
    let s = c.self.inside in
    let i = c.self.invariant.walk in
    let at = subst (λ (w : WalkParts). slice_get w.frames (length w.frames - 1) ≡ Some c.args.top) (sym c.self.view_is) c.requires.top in
    let less : ways_left c.args.top.ways ≡ ways_left Done + 1 = ap ways_left c.requires.right in
    top_numbered s.scene s.roots.items s.root s.path s.nodes i c.args.top at out.Right Done refl less

pub cut-requires : goal.cut-requires
cut-requires c =
    let s = c.self.inside in
    let i = c.self.invariant.walk in
    let at = subst (λ (w : WalkParts). slice_get w.frames (length w.frames - 1) ≡ Some c.args.top) (sym c.self.view_is) c.requires.top in
    let less : ways_left c.args.top.ways ≡ ways_left Done + 1 = ap ways_left c.requires.right in
    stays_in s.scene s.roots.items s.root s.path s.nodes i c.args.top at out.Right Done refl less

pub invariant_of-self : goal.invariant_of-self
invariant_of-self c =
    let s = c.self.inside in
    let i = c.self.invariant.walk in
    let at = subst (λ (w : WalkParts). slice_get w.frames (length w.frames - 1) ≡ Some c.args.top) (sym c.self.view_is) c.requires.top in
    let less : ways_left c.args.top.ways ≡ ways_left Done + 1 = ap ways_left c.requires.right in
    record { walk = left_walk s.scene s.roots.items s.root s.path s.nodes i c.args.top at out.Right Done refl less c.cut.new.self c.cut.ensures; ready = left_ready s.scene s.roots.items s.root s.path s.nodes i c.args.top at out.Right Done refl less c.cut.new.self c.cut.ensures }

pub returns-in_default-clause-tries : goal.returns-in_default-clause-tries
returns-in_default-clause-tries c =
    let s = c.self.inside in
    let i = c.self.invariant.walk in
    let at = subst (λ (w : WalkParts). slice_get w.frames (length w.frames - 1) ≡ Some c.args.top) (sym c.self.view_is) c.requires.top in
    let less : ways_left c.args.top.ways ≡ ways_left Done + 1 = ap ways_left c.requires.right in
    subst (λ (w : WalkParts). Tries w (walk_over s.scene s.roots.items s.root c.cut.new.self.frames c.cut.new.self.ends s.nodes) (Ok None)) c.self.view_is (none_left s.scene s.roots.items s.root s.path s.nodes i c.args.top at out.Right Done refl less (number_in (option_copied c.ahead.result)) c.ahead.ensures.way_found (ap (λ (o : Option (Bor Ahead)). number_in (option_copied o)) c.in_default.is) refl c.cut.new.self c.cut.ensures)

pub last_right-right-requires : goal.last_right-right-requires
last_right-right-requires c =
    let s = c.self.inside in
    let at = subst (λ (w : WalkParts). slice_get w.frames (length w.frames - 1) ≡ Some c.args.top) (sym c.self.view_is) c.requires.top in
    let there = slice_get_within s.path.frames (length s.path.frames - 1) c.args.top at in
    omega (arith, there)

pub by_new_left-requires-clause-proper : goal.by_new_left-requires-clause-proper
by_new_left-requires-clause-proper c =
    let s = c.self.inside in
    let i = c.self.invariant.walk in
    let of_edge = rw c.in-Some.is at c.ahead.ensures.edge in
    let at = subst (λ (w : WalkParts). slice_get w.frames (length w.frames - 1) ≡ Some c.args.top) (sym c.self.view_is) c.requires.top in
    let less : ways_left c.args.top.ways ≡ ways_left Done + 1 = ap ways_left c.requires.right in
    right_proper s.path.ends c.last_right-right.result c.in-Some.ahead.now c.in-Some.ahead.now.number of_edge.0 of_edge.2 c.last_right-right.ensures (keeps s.scene s.roots.items s.root s.path s.nodes i c.args.top at out.Right Done refl less (number_in (option_copied c.ahead.result)) c.ahead.ensures.way_found c.in-Some.ahead.now.number of_edge.0 (ap (λ (o : Option (Bor Ahead)). number_in (option_copied o)) c.in-Some.is) of_edge.1) ((entry s.scene s.roots.items s.root s.path s.nodes i c.args.top at out.Right Done refl less (number_in (option_copied c.ahead.result)) c.ahead.ensures.way_found c.in-Some.ahead.now.number of_edge.0 (ap (λ (o : Option (Bor Ahead)). number_in (option_copied o)) c.in-Some.is) of_edge.1).proper)

pub returns-in_err-by_new_left-clause-tries : goal.returns-in_err-by_new_left-clause-tries
returns-in_err-by_new_left-clause-tries c =
    let s = c.self.inside in
    let i = c.self.invariant.walk in
    let of_edge = rw c.in-Some.is at c.ahead.ensures.edge in
    let at = subst (λ (w : WalkParts). slice_get w.frames (length w.frames - 1) ≡ Some c.args.top) (sym c.self.view_is) c.requires.top in
    let less : ways_left c.args.top.ways ≡ ways_left Done + 1 = ap ways_left c.requires.right in
    let new = walk_over s.scene s.roots.items s.root c.by_new_left.new.self.frames c.by_new_left.new.self.ends s.nodes in
    let err = err_from_is_err_and c.from_residual.result c.from_residual.ensures.1 in
    subst (λ (w : WalkParts). Tries w new c.from_residual.result) c.self.view_is (subst (Tries (walk_over s.scene s.roots.items s.root s.path.frames s.path.ends s.nodes) new) (sym err.1) (way_rests s.scene s.roots.items s.root s.path s.nodes i c.args.top at out.Right Done refl less (number_in (option_copied c.ahead.result)) c.ahead.ensures.way_found c.in-Some.ahead.now.number of_edge.0 (ap (λ (o : Option (Bor Ahead)). number_in (option_copied o)) c.in-Some.is) of_edge.1 c.by_new_left.new.self c.in_err-by_new_left.ensures.tells err.0))

pub invariant_of-self-in-Open : goal.invariant_of-self-in-Open
invariant_of-self-in-Open c =
    let s = c.self.inside in
    let i = c.self.invariant.walk in
    let of_edge = rw c.in-Some.is at c.ahead.ensures.edge in
    let at = subst (λ (w : WalkParts). slice_get w.frames (length w.frames - 1) ≡ Some c.args.top) (sym c.self.view_is) c.requires.top in
    let less : ways_left c.args.top.ways ≡ ways_left Done + 1 = ap ways_left c.requires.right in
    let long : length s.path.frames ≡ length (slice_set s.path.frames (length s.path.frames - 1) (with_ways c.args.top Done)) = sym (length-set s.path.frames (length s.path.frames - 1) (with_ways c.args.top Done)) in
    let under = under_set s.path.frames c.args.top (with_ways c.args.top Done) i.under at refl in
    let passes = right_passes s.path.ends c.last_right-right.result c.in-Some.ahead.now c.in-Some.ahead.now.number of_edge.0 of_edge.2 c.last_right-right.ensures (keeps s.scene s.roots.items s.root s.path s.nodes i c.args.top at out.Right Done refl less (number_in (option_copied c.ahead.result)) c.ahead.ensures.way_found c.in-Some.ahead.now.number of_edge.0 (ap (λ (o : Option (Bor Ahead)). number_in (option_copied o)) c.in-Some.is) of_edge.1) s.path c.by_new_left.new.self (record { edge = c.in-Some.ahead.now.number; ways = Both; under = c.args.top.under }) (Ok PassedOpen) (rw c.in-Open.is at c.in_ok-by_new_left.ensures.tells) in
    record { walk = way_walk s.scene s.roots.items s.root s.path s.nodes i c.args.top at out.Right Done refl less (number_in (option_copied c.ahead.result)) c.ahead.ensures.way_found c.in-Some.ahead.now.number of_edge.0 (ap (λ (o : Option (Bor Ahead)). number_in (option_copied o)) c.in-Some.is) of_edge.1 (record { edge = c.in-Some.ahead.now.number; ways = Both; under = c.args.top.under }) refl refl (let u = (i.under (length s.path.frames - 1) c.args.top at).0 in omega (arith, u, long)) (under_done (slice_set s.path.frames (length s.path.frames - 1) (with_ways c.args.top Done)) (with_ways c.args.top Done) under (last_set s.path.frames c.args.top (with_ways c.args.top Done) at) refl) (under_right s.scene s.roots.items s.root s.path s.nodes i c.args.top at out.Right Done refl less) c.len-count.result c.len-count.ensures c.by_new_left.new.self c.note_open.new.path c.note_open.new.nodes PassedOpen passes c.in-Some.ahead.now.is_line (ap (λ (a : Ahead). a.is_line) of_edge.2) c.note_open.result c.note_open.ensures; ready = way_ready s.scene s.roots.items s.root s.path s.nodes i c.args.top at out.Right Done refl less (number_in (option_copied c.ahead.result)) c.ahead.ensures.way_found c.in-Some.ahead.now.number of_edge.0 (ap (λ (o : Option (Bor Ahead)). number_in (option_copied o)) c.in-Some.is) of_edge.1 (record { edge = c.in-Some.ahead.now.number; ways = Both; under = c.args.top.under }) refl refl (let u = (i.under (length s.path.frames - 1) c.args.top at).0 in omega (arith, u, long)) (under_done (slice_set s.path.frames (length s.path.frames - 1) (with_ways c.args.top Done)) (with_ways c.args.top Done) under (last_set s.path.frames c.args.top (with_ways c.args.top Done) at) refl) (under_right s.scene s.roots.items s.root s.path s.nodes i c.args.top at out.Right Done refl less) c.len-count.result c.len-count.ensures c.by_new_left.new.self c.note_open.new.path c.note_open.new.nodes PassedOpen passes c.in-Some.ahead.now.is_line (ap (λ (a : Ahead). a.is_line) of_edge.2) c.self.invariant.ready (λ e same. absurd (open_not_stuck e same)) c.note_open.result c.note_open.ensures }

pub returns-in-Open-clause-tries : goal.returns-in-Open-clause-tries
returns-in-Open-clause-tries c =
    let s = c.self.inside in
    let i = c.self.invariant.walk in
    let of_edge = rw c.in-Some.is at c.ahead.ensures.edge in
    let at = subst (λ (w : WalkParts). slice_get w.frames (length w.frames - 1) ≡ Some c.args.top) (sym c.self.view_is) c.requires.top in
    let less : ways_left c.args.top.ways ≡ ways_left Done + 1 = ap ways_left c.requires.right in
    let long : length s.path.frames ≡ length (slice_set s.path.frames (length s.path.frames - 1) (with_ways c.args.top Done)) = sym (length-set s.path.frames (length s.path.frames - 1) (with_ways c.args.top Done)) in
    let under = under_set s.path.frames c.args.top (with_ways c.args.top Done) i.under at refl in
    let passes = right_passes s.path.ends c.last_right-right.result c.in-Some.ahead.now c.in-Some.ahead.now.number of_edge.0 of_edge.2 c.last_right-right.ensures (keeps s.scene s.roots.items s.root s.path s.nodes i c.args.top at out.Right Done refl less (number_in (option_copied c.ahead.result)) c.ahead.ensures.way_found c.in-Some.ahead.now.number of_edge.0 (ap (λ (o : Option (Bor Ahead)). number_in (option_copied o)) c.in-Some.is) of_edge.1) s.path c.by_new_left.new.self (record { edge = c.in-Some.ahead.now.number; ways = Both; under = c.args.top.under }) (Ok PassedOpen) (rw c.in-Open.is at c.in_ok-by_new_left.ensures.tells) in
    subst (λ (w : WalkParts). Tries w (walk_over s.scene s.roots.items s.root c.note_open.new.path.frames c.note_open.new.path.ends c.note_open.new.nodes) c.note_open.result) c.self.view_is (way_noted s.scene s.roots.items s.root s.path s.nodes i c.args.top at out.Right Done refl less (number_in (option_copied c.ahead.result)) c.ahead.ensures.way_found c.in-Some.ahead.now.number of_edge.0 (ap (λ (o : Option (Bor Ahead)). number_in (option_copied o)) c.in-Some.is) of_edge.1 (record { edge = c.in-Some.ahead.now.number; ways = Both; under = c.args.top.under }) refl refl (let u = (i.under (length s.path.frames - 1) c.args.top at).0 in omega (arith, u, long)) (under_done (slice_set s.path.frames (length s.path.frames - 1) (with_ways c.args.top Done)) (with_ways c.args.top Done) under (last_set s.path.frames c.args.top (with_ways c.args.top Done) at) refl) (under_right s.scene s.roots.items s.root s.path s.nodes i c.args.top at out.Right Done refl less) c.len-count.result c.len-count.ensures c.by_new_left.new.self c.note_open.new.path c.note_open.new.nodes PassedOpen passes c.in-Some.ahead.now.is_line (ap (λ (a : Ahead). a.is_line) of_edge.2) c.note_open.result c.note_open.ensures)

pub returns-in_err-push_blocked-in-Stuck-clause-tries : goal.returns-in_err-push_blocked-in-Stuck-clause-tries
returns-in_err-push_blocked-in-Stuck-clause-tries c =
    let s = c.self.inside in
    let i = c.self.invariant.walk in
    let of_edge = rw c.in-Some.is at c.ahead.ensures.edge in
    let at = subst (λ (w : WalkParts). slice_get w.frames (length w.frames - 1) ≡ Some c.args.top) (sym c.self.view_is) c.requires.top in
    let less : ways_left c.args.top.ways ≡ ways_left Done + 1 = ap ways_left c.requires.right in
    let passes = right_passes s.path.ends c.last_right-right.result c.in-Some.ahead.now c.in-Some.ahead.now.number of_edge.0 of_edge.2 c.last_right-right.ensures (keeps s.scene s.roots.items s.root s.path s.nodes i c.args.top at out.Right Done refl less (number_in (option_copied c.ahead.result)) c.ahead.ensures.way_found c.in-Some.ahead.now.number of_edge.0 (ap (λ (o : Option (Bor Ahead)). number_in (option_copied o)) c.in-Some.is) of_edge.1) s.path c.by_new_left.new.self (record { edge = c.in-Some.ahead.now.number; ways = Both; under = c.args.top.under }) (Ok (Stuck c.in-Stuck.evidence)) (rw c.in-Stuck.is at c.in_ok-by_new_left.ensures.tells) in
    let new = walk_over s.scene s.roots.items s.root c.by_new_left.new.self.frames c.by_new_left.new.self.ends c.push_blocked.new.self in
    let err = err_from_is_err_and c.from_residual-in_err-push_blocked-in-Stuck.result c.from_residual-in_err-push_blocked-in-Stuck.ensures.1 in
    subst (λ (w : WalkParts). Tries w new c.from_residual-in_err-push_blocked-in-Stuck.result) c.self.view_is (subst (Tries (walk_over s.scene s.roots.items s.root s.path.frames s.path.ends s.nodes) new) (sym err.1) (stuck_rests s.scene s.roots.items s.root s.path s.nodes i c.args.top at out.Right Done refl less (number_in (option_copied c.ahead.result)) c.ahead.ensures.way_found c.in-Some.ahead.now.number of_edge.0 (ap (λ (o : Option (Bor Ahead)). number_in (option_copied o)) c.in-Some.is) of_edge.1 (record { edge = c.in-Some.ahead.now.number; ways = Both; under = c.args.top.under }) c.in-Stuck.evidence c.by_new_left.new.self passes c.push_blocked.new.self c.in_err-push_blocked-in-Stuck.ensures.err err.0))

pub invariant_of-self-in-Stuck : goal.invariant_of-self-in-Stuck
invariant_of-self-in-Stuck c =
    let s = c.self.inside in
    let i = c.self.invariant.walk in
    let of_edge = rw c.in-Some.is at c.ahead.ensures.edge in
    let at = subst (λ (w : WalkParts). slice_get w.frames (length w.frames - 1) ≡ Some c.args.top) (sym c.self.view_is) c.requires.top in
    let less : ways_left c.args.top.ways ≡ ways_left Done + 1 = ap ways_left c.requires.right in
    let passes = right_passes s.path.ends c.last_right-right.result c.in-Some.ahead.now c.in-Some.ahead.now.number of_edge.0 of_edge.2 c.last_right-right.ensures (keeps s.scene s.roots.items s.root s.path s.nodes i c.args.top at out.Right Done refl less (number_in (option_copied c.ahead.result)) c.ahead.ensures.way_found c.in-Some.ahead.now.number of_edge.0 (ap (λ (o : Option (Bor Ahead)). number_in (option_copied o)) c.in-Some.is) of_edge.1) s.path c.by_new_left.new.self (record { edge = c.in-Some.ahead.now.number; ways = Both; under = c.args.top.under }) (Ok (Stuck c.in-Stuck.evidence)) (rw c.in-Stuck.is at c.in_ok-by_new_left.ensures.tells) in
    record { walk = stuck_walk s.scene s.roots.items s.root s.path s.nodes i c.args.top at out.Right Done refl less (number_in (option_copied c.ahead.result)) c.ahead.ensures.way_found c.in-Some.ahead.now.number of_edge.0 (ap (λ (o : Option (Bor Ahead)). number_in (option_copied o)) c.in-Some.is) of_edge.1 (record { edge = c.in-Some.ahead.now.number; ways = Both; under = c.args.top.under }) c.in-Stuck.evidence c.by_new_left.new.self passes c.push_blocked.new.self c.in_ok-push_blocked-in-Stuck.ensures.ok c.cut-in-Stuck.new.self c.cut-in-Stuck.ensures; ready = stuck_ready s.scene s.roots.items s.root s.path s.nodes i c.args.top at out.Right Done refl less (number_in (option_copied c.ahead.result)) c.ahead.ensures.way_found c.in-Some.ahead.now.number of_edge.0 (ap (λ (o : Option (Bor Ahead)). number_in (option_copied o)) c.in-Some.is) of_edge.1 (record { edge = c.in-Some.ahead.now.number; ways = Both; under = c.args.top.under }) c.in-Stuck.evidence c.by_new_left.new.self passes c.push_blocked.new.self c.in_ok-push_blocked-in-Stuck.ensures.ok c.cut-in-Stuck.new.self c.cut-in-Stuck.ensures }

pub returns-in_ok-push_blocked-in-Stuck-clause-tries : goal.returns-in_ok-push_blocked-in-Stuck-clause-tries
returns-in_ok-push_blocked-in-Stuck-clause-tries c =
    let s = c.self.inside in
    let i = c.self.invariant.walk in
    let of_edge = rw c.in-Some.is at c.ahead.ensures.edge in
    let at = subst (λ (w : WalkParts). slice_get w.frames (length w.frames - 1) ≡ Some c.args.top) (sym c.self.view_is) c.requires.top in
    let less : ways_left c.args.top.ways ≡ ways_left Done + 1 = ap ways_left c.requires.right in
    let passes = right_passes s.path.ends c.last_right-right.result c.in-Some.ahead.now c.in-Some.ahead.now.number of_edge.0 of_edge.2 c.last_right-right.ensures (keeps s.scene s.roots.items s.root s.path s.nodes i c.args.top at out.Right Done refl less (number_in (option_copied c.ahead.result)) c.ahead.ensures.way_found c.in-Some.ahead.now.number of_edge.0 (ap (λ (o : Option (Bor Ahead)). number_in (option_copied o)) c.in-Some.is) of_edge.1) s.path c.by_new_left.new.self (record { edge = c.in-Some.ahead.now.number; ways = Both; under = c.args.top.under }) (Ok (Stuck c.in-Stuck.evidence)) (rw c.in-Stuck.is at c.in_ok-by_new_left.ensures.tells) in
    subst (λ (w : WalkParts). Tries w (walk_over s.scene s.roots.items s.root c.cut-in-Stuck.new.self.frames c.cut-in-Stuck.new.self.ends c.push_blocked.new.self) (Ok (Some (came.Blocked c.in-Stuck.evidence)))) c.self.view_is (stuck_left s.scene s.roots.items s.root s.path s.nodes i c.args.top at out.Right Done refl less (number_in (option_copied c.ahead.result)) c.ahead.ensures.way_found c.in-Some.ahead.now.number of_edge.0 (ap (λ (o : Option (Bor Ahead)). number_in (option_copied o)) c.in-Some.is) of_edge.1 (record { edge = c.in-Some.ahead.now.number; ways = Both; under = c.args.top.under }) c.in-Stuck.evidence c.by_new_left.new.self passes c.push_blocked.new.self c.in_ok-push_blocked-in-Stuck.ensures.ok c.cut-in-Stuck.new.self c.cut-in-Stuck.ensures refl)
