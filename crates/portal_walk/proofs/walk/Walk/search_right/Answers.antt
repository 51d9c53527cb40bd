use Rattle.std.proofs.Common.{◌≡◌, ℕ, ◌+◌, ◌-◌, Some, Ok, length, slice_get, slice_set, length-set, refl, sym, ap, ◌∙◌, subst, arith}
use Rattle.std.proofs.lemmas.Result.{err_from_is_err_and}
use Rattle.stab_hull.specs.declared.Passed.TheVariants.{Open as PassedOpen}
use Rattle.portal_walk.specs.declared.path.Ways.TheVariants.{Both, Done}
use Rattle.portal_walk.specs.declared.scene.Way.TheVariants as out
use Rattle.portal_walk.specs.declared.step.Came.TheVariants as came
use Rattle.portal_walk.specs.Frames.{HaveNoWays, HasWay, PathParts, first_portals, with_ways, ways_left}
use Rattle.portal_walk.specs.Scene.{FindsWay}
use Rattle.portal_walk.specs.Walk.{WalkParts, Tries, scene_of}
use Rattle.portal_walk.proofs.Lists.{last_set}
use Rattle.portal_walk.proofs.Paths.{walk_over, under_done, under_set}
use Rattle.portal_walk.proofs.Trying.{entry, number_found, open_not_stuck, stays_in, stuck_left, stuck_ready, stuck_rests, stuck_walk, there, under_right, way_noted, way_ready, way_rests, way_walk}
use Rattle.portal_walk.proofs.walk.Walk.search_right.Goals as goal

pub get-requires : goal.get-requires
get-requires c =
    let s = c.self.inside in
    let i = c.self.invariant.walk in
    let top = c.requires.0 in
    let at = subst (λ (w : WalkParts). slice_get w.frames (length w.frames - 1) ≡ Some top) (sym c.self.view_is) c.requires.1 in
    let less : ways_left top.ways ≡ ways_left Done + 1 = ap ways_left c.requires.2 in
    let e = c.requires.4 in
    let finds = subst (λ (w : WalkParts). FindsWay (scene_of w) top.edge out.Right (Some c.args.number)) (sym c.self.view_is) c.requires.3 in
    number_found s.scene s.roots.items s.root s.path s.nodes i top at out.Right Done refl less (Some c.args.number) finds

pub cut-requires : goal.cut-requires
cut-requires c =
    let s = c.self.inside in
    let i = c.self.invariant.walk in
    let top = c.requires.0 in
    let at = subst (λ (w : WalkParts). slice_get w.frames (length w.frames - 1) ≡ Some top) (sym c.self.view_is) c.requires.1 in
    let less : ways_left top.ways ≡ ways_left Done + 1 = ap ways_left c.requires.2 in
    let e = c.requires.4 in
    let finds = subst (λ (w : WalkParts). FindsWay (scene_of w) top.edge out.Right (Some c.args.number)) (sym c.self.view_is) c.requires.3 in
    let passes = rw c.in-Stuck.is at c.in_ok-by_search.ensures.passes in
    let same : length c.by_search.new.self.frames ≡ length s.path.frames = ap (λ (q : PathParts). length q.frames) passes.0 in
    let within = stays_in s.scene s.roots.items s.root s.path s.nodes i top at out.Right Done refl less in
    omega (arith, within, e, same)

pub by_search-requires-clause-there : goal.by_search-requires-clause-there
by_search-requires-clause-there c =
    let s = c.self.inside in
    let i = c.self.invariant.walk in
    let top = c.requires.0 in
    let at = subst (λ (w : WalkParts). slice_get w.frames (length w.frames - 1) ≡ Some top) (sym c.self.view_is) c.requires.1 in
    let less : ways_left top.ways ≡ ways_left Done + 1 = ap ways_left c.requires.2 in
    let e = c.requires.4 in
    let finds = subst (λ (w : WalkParts). FindsWay (scene_of w) top.edge out.Right (Some c.args.number)) (sym c.self.view_is) c.requires.3 in
    omega (arith, there s.scene s.roots.items s.root s.path s.nodes i top at out.Right Done refl less)

pub by_search-requires-clause-proper : goal.by_search-requires-clause-proper
by_search-requires-clause-proper c =
    let s = c.self.inside in
    let i = c.self.invariant.walk in
    let top = c.requires.0 in
    let at = subst (λ (w : WalkParts). slice_get w.frames (length w.frames - 1) ≡ Some top) (sym c.self.view_is) c.requires.1 in
    let less : ways_left top.ways ≡ ways_left Done + 1 = ap ways_left c.requires.2 in
    let e = c.requires.4 in
    let finds = subst (λ (w : WalkParts). FindsWay (scene_of w) top.edge out.Right (Some c.args.number)) (sym c.self.view_is) c.requires.3 in
    (entry s.scene s.roots.items s.root s.path s.nodes i top at out.Right Done refl less (Some c.args.number) finds c.args.number c.get.result.now refl c.get.ensures).proper

pub returns-in_err-by_search-clause-tries : goal.returns-in_err-by_search-clause-tries
returns-in_err-by_search-clause-tries c =
    let s = c.self.inside in
    let i = c.self.invariant.walk in
    let top = c.requires.0 in
    let at = subst (λ (w : WalkParts). slice_get w.frames (length w.frames - 1) ≡ Some top) (sym c.self.view_is) c.requires.1 in
    let less : ways_left top.ways ≡ ways_left Done + 1 = ap ways_left c.requires.2 in
    let e = c.requires.4 in
    let finds = subst (λ (w : WalkParts). FindsWay (scene_of w) top.edge out.Right (Some c.args.number)) (sym c.self.view_is) c.requires.3 in
    let new = walk_over s.scene s.roots.items s.root c.by_search.new.self.frames c.by_search.new.self.ends s.nodes in
    let err = err_from_is_err_and c.from_residual.result c.from_residual.ensures.1 in
    subst (λ (w : WalkParts). Tries w new c.from_residual.result) c.self.view_is (subst (Tries (walk_over s.scene s.roots.items s.root s.path.frames s.path.ends s.nodes) new) (sym err.1) (way_rests s.scene s.roots.items s.root s.path s.nodes i top at out.Right Done refl less (Some c.args.number) finds c.args.number c.get.result.now refl c.get.ensures c.by_search.new.self c.in_err-by_search.ensures.passes err.0))

pub invariant_of-self-in-Open : goal.invariant_of-self-in-Open
invariant_of-self-in-Open c =
    let s = c.self.inside in
    let i = c.self.invariant.walk in
    let top = c.requires.0 in
    let at = subst (λ (w : WalkParts). slice_get w.frames (length w.frames - 1) ≡ Some top) (sym c.self.view_is) c.requires.1 in
    let less : ways_left top.ways ≡ ways_left Done + 1 = ap ways_left c.requires.2 in
    let e = c.requires.4 in
    let finds = subst (λ (w : WalkParts). FindsWay (scene_of w) top.edge out.Right (Some c.args.number)) (sym c.self.view_is) c.requires.3 in
    let long : length s.path.frames ≡ length (slice_set s.path.frames (length s.path.frames - 1) (with_ways top Done)) = sym (length-set s.path.frames (length s.path.frames - 1) (with_ways top Done)) in
    let under = under_set s.path.frames top (with_ways top Done) i.under at refl in
    let passes = rw c.in-Open.is at c.in_ok-by_search.ensures.passes in
    record { walk = way_walk s.scene s.roots.items s.root s.path s.nodes i top at out.Right Done refl less (Some c.args.number) finds c.args.number c.get.result.now refl c.get.ensures (record { edge = c.args.number; ways = Both; under = c.args.under }) refl refl (let u = (i.under (length s.path.frames - 1) top at).0 in omega (arith, u, long, e)) (subst (λ (n : ℕ). HaveNoWays (slice_set s.path.frames (length s.path.frames - 1) (with_ways top Done)) n (length (slice_set s.path.frames (length s.path.frames - 1) (with_ways top Done)))) e (under_done (slice_set s.path.frames (length s.path.frames - 1) (with_ways top Done)) (with_ways top Done) under (last_set s.path.frames top (with_ways top Done) at) refl)) (subst (λ (n : ℕ). HasWay (slice_set s.path.frames (length s.path.frames - 1) (with_ways top Done)) n) e (under_right s.scene s.roots.items s.root s.path s.nodes i top at out.Right Done refl less)) c.len-count.result c.len-count.ensures c.by_search.new.self c.note_open.new.path c.note_open.new.nodes PassedOpen passes c.is_some-is_line.result c.is_some-is_line.ensures c.note_open.result c.note_open.ensures; ready = way_ready s.scene s.roots.items s.root s.path s.nodes i top at out.Right Done refl less (Some c.args.number) finds c.args.number c.get.result.now refl c.get.ensures (record { edge = c.args.number; ways = Both; under = c.args.under }) refl refl (let u = (i.under (length s.path.frames - 1) top at).0 in omega (arith, u, long, e)) (subst (λ (n : ℕ). HaveNoWays (slice_set s.path.frames (length s.path.frames - 1) (with_ways top Done)) n (length (slice_set s.path.frames (length s.path.frames - 1) (with_ways top Done)))) e (under_done (slice_set s.path.frames (length s.path.frames - 1) (with_ways top Done)) (with_ways top Done) under (last_set s.path.frames top (with_ways top Done) at) refl)) (subst (λ (n : ℕ). HasWay (slice_set s.path.frames (length s.path.frames - 1) (with_ways top Done)) n) e (under_right s.scene s.roots.items s.root s.path s.nodes i top at out.Right Done refl less)) c.len-count.result c.len-count.ensures c.by_search.new.self c.note_open.new.path c.note_open.new.nodes PassedOpen passes c.is_some-is_line.result c.is_some-is_line.ensures c.self.invariant.ready (λ e same. absurd (open_not_stuck e same)) c.note_open.result c.note_open.ensures }

pub returns-in-Open-clause-tries : goal.returns-in-Open-clause-tries
returns-in-Open-clause-tries c =
    let s = c.self.inside in
    let i = c.self.invariant.walk in
    let top = c.requires.0 in
    let at = subst (λ (w : WalkParts). slice_get w.frames (length w.frames - 1) ≡ Some top) (sym c.self.view_is) c.requires.1 in
    let less : ways_left top.ways ≡ ways_left Done + 1 = ap ways_left c.requires.2 in
    let e = c.requires.4 in
    let finds = subst (λ (w : WalkParts). FindsWay (scene_of w) top.edge out.Right (Some c.args.number)) (sym c.self.view_is) c.requires.3 in
    let long : length s.path.frames ≡ length (slice_set s.path.frames (length s.path.frames - 1) (with_ways top Done)) = sym (length-set s.path.frames (length s.path.frames - 1) (with_ways top Done)) in
    let under = under_set s.path.frames top (with_ways top Done) i.under at refl in
    let passes = rw c.in-Open.is at c.in_ok-by_search.ensures.passes in
    subst (λ (w : WalkParts). Tries w (walk_over s.scene s.roots.items s.root c.note_open.new.path.frames c.note_open.new.path.ends c.note_open.new.nodes) c.note_open.result) c.self.view_is (way_noted s.scene s.roots.items s.root s.path s.nodes i top at out.Right Done refl less (Some c.args.number) finds c.args.number c.get.result.now refl c.get.ensures (record { edge = c.args.number; ways = Both; under = c.args.under }) refl refl (let u = (i.under (length s.path.frames - 1) top at).0 in omega (arith, u, long, e)) (subst (λ (n : ℕ). HaveNoWays (slice_set s.path.frames (length s.path.frames - 1) (with_ways top Done)) n (length (slice_set s.path.frames (length s.path.frames - 1) (with_ways top Done)))) e (under_done (slice_set s.path.frames (length s.path.frames - 1) (with_ways top Done)) (with_ways top Done) under (last_set s.path.frames top (with_ways top Done) at) refl)) (subst (λ (n : ℕ). HasWay (slice_set s.path.frames (length s.path.frames - 1) (with_ways top Done)) n) e (under_right s.scene s.roots.items s.root s.path s.nodes i top at out.Right Done refl less)) c.len-count.result c.len-count.ensures c.by_search.new.self c.note_open.new.path c.note_open.new.nodes PassedOpen passes c.is_some-is_line.result c.is_some-is_line.ensures c.note_open.result c.note_open.ensures)

pub returns-in_err-push_blocked-in-Stuck-clause-tries : goal.returns-in_err-push_blocked-in-Stuck-clause-tries
returns-in_err-push_blocked-in-Stuck-clause-tries c =
    let s = c.self.inside in
    let i = c.self.invariant.walk in
    let top = c.requires.0 in
    let at = subst (λ (w : WalkParts). slice_get w.frames (length w.frames - 1) ≡ Some top) (sym c.self.view_is) c.requires.1 in
    let less : ways_left top.ways ≡ ways_left Done + 1 = ap ways_left c.requires.2 in
    let e = c.requires.4 in
    let finds = subst (λ (w : WalkParts). FindsWay (scene_of w) top.edge out.Right (Some c.args.number)) (sym c.self.view_is) c.requires.3 in
    let passes = rw c.in-Stuck.is at c.in_ok-by_search.ensures.passes in
    let new = walk_over s.scene s.roots.items s.root c.by_search.new.self.frames c.by_search.new.self.ends c.push_blocked.new.self in
    let err = err_from_is_err_and c.from_residual-in_err-push_blocked-in-Stuck.result c.from_residual-in_err-push_blocked-in-Stuck.ensures.1 in
    subst (λ (w : WalkParts). Tries w new c.from_residual-in_err-push_blocked-in-Stuck.result) c.self.view_is (subst (Tries (walk_over s.scene s.roots.items s.root s.path.frames s.path.ends s.nodes) new) (sym err.1) (stuck_rests s.scene s.roots.items s.root s.path s.nodes i top at out.Right Done refl less (Some c.args.number) finds c.args.number c.get.result.now refl c.get.ensures (record { edge = c.args.number; ways = Both; under = c.args.under }) c.in-Stuck.evidence c.by_search.new.self passes c.push_blocked.new.self c.in_err-push_blocked-in-Stuck.ensures.err err.0))

pub invariant_of-self-in-Stuck : goal.invariant_of-self-in-Stuck
invariant_of-self-in-Stuck c =
    let s = c.self.inside in
    let i = c.self.invariant.walk in
    let top = c.requires.0 in
    let at = subst (λ (w : WalkParts). slice_get w.frames (length w.frames - 1) ≡ Some top) (sym c.self.view_is) c.requires.1 in
    let less : ways_left top.ways ≡ ways_left Done + 1 = ap ways_left c.requires.2 in
    let e = c.requires.4 in
    let finds = subst (λ (w : WalkParts). FindsWay (scene_of w) top.edge out.Right (Some c.args.number)) (sym c.self.view_is) c.requires.3 in
    let passes = rw c.in-Stuck.is at c.in_ok-by_search.ensures.passes in
    record { walk = stuck_walk s.scene s.roots.items s.root s.path s.nodes i top at out.Right Done refl less (Some c.args.number) finds c.args.number c.get.result.now refl c.get.ensures (record { edge = c.args.number; ways = Both; under = c.args.under }) c.in-Stuck.evidence c.by_search.new.self passes c.push_blocked.new.self c.in_ok-push_blocked-in-Stuck.ensures.ok c.cut.new.self (c.cut.ensures ∙ ap (λ (n : ℕ). first_portals n c.by_search.new.self) (sym e)); ready = stuck_ready s.scene s.roots.items s.root s.path s.nodes i top at out.Right Done refl less (Some c.args.number) finds c.args.number c.get.result.now refl c.get.ensures (record { edge = c.args.number; ways = Both; under = c.args.under }) c.in-Stuck.evidence c.by_search.new.self passes c.push_blocked.new.self c.in_ok-push_blocked-in-Stuck.ensures.ok c.cut.new.self (c.cut.ensures ∙ ap (λ (n : ℕ). first_portals n c.by_search.new.self) (sym e)) }

pub returns-in_ok-push_blocked-in-Stuck-clause-tries : goal.returns-in_ok-push_blocked-in-Stuck-clause-tries
returns-in_ok-push_blocked-in-Stuck-clause-tries c =
    let s = c.self.inside in
    let i = c.self.invariant.walk in
    let top = c.requires.0 in
    let at = subst (λ (w : WalkParts). slice_get w.frames (length w.frames - 1) ≡ Some top) (sym c.self.view_is) c.requires.1 in
    let less : ways_left top.ways ≡ ways_left Done + 1 = ap ways_left c.requires.2 in
    let e = c.requires.4 in
    let finds = subst (λ (w : WalkParts). FindsWay (scene_of w) top.edge out.Right (Some c.args.number)) (sym c.self.view_is) c.requires.3 in
    let passes = rw c.in-Stuck.is at c.in_ok-by_search.ensures.passes in
    subst (λ (w : WalkParts). Tries w (walk_over s.scene s.roots.items s.root c.cut.new.self.frames c.cut.new.self.ends c.push_blocked.new.self) (Ok (Some (came.Blocked c.in-Stuck.evidence)))) c.self.view_is (stuck_left s.scene s.roots.items s.root s.path s.nodes i top at out.Right Done refl less (Some c.args.number) finds c.args.number c.get.result.now refl c.get.ensures (record { edge = c.args.number; ways = Both; under = c.args.under }) c.in-Stuck.evidence c.by_search.new.self passes c.push_blocked.new.self c.in_ok-push_blocked-in-Stuck.ensures.ok c.cut.new.self (c.cut.ensures ∙ ap (λ (n : ℕ). first_portals n c.by_search.new.self) (sym e)) refl)
