use Rattle.std.proofs.Common.{◌≡◌, ◌+◌, ◌-◌, ◌<◌, Some, length, slice_get, slice_set, length-set, refl, sym, ap, ◌∙◌, subst, arith}
use Rattle.std.proofs.lemmas.Result.{err_from_is_err_and}
use Rattle.stab_hull.specs.declared.Passed.TheVariants.{Open as PassedOpen, Stuck}
use Rattle.portal_walk.specs.declared.path.Ways.TheVariants.{Both, RightOnly}
use Rattle.portal_walk.specs.declared.scene.Way.TheVariants as out
use Rattle.portal_walk.specs.Frames.{with_ways, ways_left}
use Rattle.portal_walk.specs.Scene.{FindsWay}
use Rattle.portal_walk.specs.Walk.{WalkParts, Tries, scene_of}
use Rattle.portal_walk.proofs.Paths.{walk_over}
use Rattle.portal_walk.proofs.Trying.{entry, left_done_under, noted_told, number_found, open_not_stuck, there, under_left, way_noted, way_ready, way_rests, way_walk}
use Rattle.portal_walk.proofs.walk.Walk.search_left.Goals as goal

pub get-requires : goal.get-requires
get-requires c =
    let s = c.self.inside in
    let i = c.self.invariant.walk in
    let top = c.requires.0 in
    let at = subst (λ (w : WalkParts). slice_get w.frames (length w.frames - 1) ≡ Some top) (sym c.self.view_is) c.requires.1 in
    let less : ways_left top.ways ≡ ways_left RightOnly + 1 = ap ways_left c.requires.2 in
    let finds = subst (λ (w : WalkParts). FindsWay (scene_of w) top.edge out.Left (Some c.args.number)) (sym c.self.view_is) c.requires.3 in
    number_found s.scene s.roots.items s.root s.path s.nodes i top at out.Left RightOnly refl less (Some c.args.number) finds

pub by_search-requires-clause-there : goal.by_search-requires-clause-there
by_search-requires-clause-there c =
    let s = c.self.inside in
    let i = c.self.invariant.walk in
    let top = c.requires.0 in
    let at = subst (λ (w : WalkParts). slice_get w.frames (length w.frames - 1) ≡ Some top) (sym c.self.view_is) c.requires.1 in
    let less : ways_left top.ways ≡ ways_left RightOnly + 1 = ap ways_left c.requires.2 in
    let finds = subst (λ (w : WalkParts). FindsWay (scene_of w) top.edge out.Left (Some c.args.number)) (sym c.self.view_is) c.requires.3 in
    omega (arith, there s.scene s.roots.items s.root s.path s.nodes i top at out.Left RightOnly refl less)

pub by_search-requires-clause-proper : goal.by_search-requires-clause-proper
by_search-requires-clause-proper c =
    let s = c.self.inside in
    let i = c.self.invariant.walk in
    let top = c.requires.0 in
    let at = subst (λ (w : WalkParts). slice_get w.frames (length w.frames - 1) ≡ Some top) (sym c.self.view_is) c.requires.1 in
    let less : ways_left top.ways ≡ ways_left RightOnly + 1 = ap ways_left c.requires.2 in
    let finds = subst (λ (w : WalkParts). FindsWay (scene_of w) top.edge out.Left (Some c.args.number)) (sym c.self.view_is) c.requires.3 in
    (entry s.scene s.roots.items s.root s.path s.nodes i top at out.Left RightOnly refl less (Some c.args.number) finds c.args.number c.get.result.now refl c.get.ensures).proper

pub returns-in_err-by_search-clause-tries : goal.returns-in_err-by_search-clause-tries
returns-in_err-by_search-clause-tries c =
    let s = c.self.inside in
    let i = c.self.invariant.walk in
    let top = c.requires.0 in
    let at = subst (λ (w : WalkParts). slice_get w.frames (length w.frames - 1) ≡ Some top) (sym c.self.view_is) c.requires.1 in
    let less : ways_left top.ways ≡ ways_left RightOnly + 1 = ap ways_left c.requires.2 in
    let finds = subst (λ (w : WalkParts). FindsWay (scene_of w) top.edge out.Left (Some c.args.number)) (sym c.self.view_is) c.requires.3 in
    let new = walk_over s.scene s.roots.items s.root c.by_search.new.self.frames c.by_search.new.self.ends s.nodes in
    let err = err_from_is_err_and c.from_residual.result c.from_residual.ensures.1 in
    subst (λ (w : WalkParts). Tries w new c.from_residual.result) c.self.view_is (subst (Tries (walk_over s.scene s.roots.items s.root s.path.frames s.path.ends s.nodes) new) (sym err.1) (way_rests s.scene s.roots.items s.root s.path s.nodes i top at out.Left RightOnly refl less (Some c.args.number) finds c.args.number c.get.result.now refl c.get.ensures c.by_search.new.self c.in_err-by_search.ensures.passes err.0))

pub invariant_of-self-in-Open : goal.invariant_of-self-in-Open
invariant_of-self-in-Open c =
    let s = c.self.inside in
    let i = c.self.invariant.walk in
    let top = c.requires.0 in
    let at = subst (λ (w : WalkParts). slice_get w.frames (length w.frames - 1) ≡ Some top) (sym c.self.view_is) c.requires.1 in
    let less : ways_left top.ways ≡ ways_left RightOnly + 1 = ap ways_left c.requires.2 in
    let finds = subst (λ (w : WalkParts). FindsWay (scene_of w) top.edge out.Left (Some c.args.number)) (sym c.self.view_is) c.requires.3 in
    let long : length s.path.frames ≡ length (slice_set s.path.frames (length s.path.frames - 1) (with_ways top RightOnly)) = sym (length-set s.path.frames (length s.path.frames - 1) (with_ways top RightOnly)) in
    let passes = rw c.in-Open.is at c.in_ok-by_search.ensures.passes in
    record { walk = way_walk s.scene s.roots.items s.root s.path s.nodes i top at out.Left RightOnly refl less (Some c.args.number) finds c.args.number c.get.result.now refl c.get.ensures (record { edge = c.args.number; ways = Both; under = c.len-count.result }) refl refl (omega (arith, c.len-count.ensures, long)) (left_done_under (slice_set s.path.frames (length s.path.frames - 1) (with_ways top RightOnly)) c.len-count.result (c.len-count.ensures ∙ long)) (under_left s.scene s.roots.items s.root s.path s.nodes i top at out.Left RightOnly refl less c.len-count.result c.len-count.ensures (let one : 0 < 1 = omega arith in one)) c.len-count.result c.len-count.ensures c.by_search.new.self c.note_open.new.path c.note_open.new.nodes PassedOpen passes c.is_some-is_line.result c.is_some-is_line.ensures c.note_open.result c.note_open.ensures; ready = way_ready s.scene s.roots.items s.root s.path s.nodes i top at out.Left RightOnly refl less (Some c.args.number) finds c.args.number c.get.result.now refl c.get.ensures (record { edge = c.args.number; ways = Both; under = c.len-count.result }) refl refl (omega (arith, c.len-count.ensures, long)) (left_done_under (slice_set s.path.frames (length s.path.frames - 1) (with_ways top RightOnly)) c.len-count.result (c.len-count.ensures ∙ long)) (under_left s.scene s.roots.items s.root s.path s.nodes i top at out.Left RightOnly refl less c.len-count.result c.len-count.ensures (let one : 0 < 1 = omega arith in one)) c.len-count.result c.len-count.ensures c.by_search.new.self c.note_open.new.path c.note_open.new.nodes PassedOpen passes c.is_some-is_line.result c.is_some-is_line.ensures c.self.invariant.ready (λ e same. absurd (open_not_stuck e same)) c.note_open.result c.note_open.ensures }

pub returns-in-Open-clause-tries : goal.returns-in-Open-clause-tries
returns-in-Open-clause-tries c =
    let s = c.self.inside in
    let i = c.self.invariant.walk in
    let top = c.requires.0 in
    let at = subst (λ (w : WalkParts). slice_get w.frames (length w.frames - 1) ≡ Some top) (sym c.self.view_is) c.requires.1 in
    let less : ways_left top.ways ≡ ways_left RightOnly + 1 = ap ways_left c.requires.2 in
    let finds = subst (λ (w : WalkParts). FindsWay (scene_of w) top.edge out.Left (Some c.args.number)) (sym c.self.view_is) c.requires.3 in
    let long : length s.path.frames ≡ length (slice_set s.path.frames (length s.path.frames - 1) (with_ways top RightOnly)) = sym (length-set s.path.frames (length s.path.frames - 1) (with_ways top RightOnly)) in
    let passes = rw c.in-Open.is at c.in_ok-by_search.ensures.passes in
    subst (λ (w : WalkParts). Tries w (walk_over s.scene s.roots.items s.root c.note_open.new.path.frames c.note_open.new.path.ends c.note_open.new.nodes) c.note_open.result) c.self.view_is (way_noted s.scene s.roots.items s.root s.path s.nodes i top at out.Left RightOnly refl less (Some c.args.number) finds c.args.number c.get.result.now refl c.get.ensures (record { edge = c.args.number; ways = Both; under = c.len-count.result }) refl refl (omega (arith, c.len-count.ensures, long)) (left_done_under (slice_set s.path.frames (length s.path.frames - 1) (with_ways top RightOnly)) c.len-count.result (c.len-count.ensures ∙ long)) (under_left s.scene s.roots.items s.root s.path s.nodes i top at out.Left RightOnly refl less c.len-count.result c.len-count.ensures (let one : 0 < 1 = omega arith in one)) c.len-count.result c.len-count.ensures c.by_search.new.self c.note_open.new.path c.note_open.new.nodes PassedOpen passes c.is_some-is_line.result c.is_some-is_line.ensures c.note_open.result c.note_open.ensures)

pub returns-in-Open-clause-told : goal.returns-in-Open-clause-told
returns-in-Open-clause-told c =
    let s = c.self.inside in
    let i = c.self.invariant.walk in
    let top = c.requires.0 in
    let at = subst (λ (w : WalkParts). slice_get w.frames (length w.frames - 1) ≡ Some top) (sym c.self.view_is) c.requires.1 in
    let less : ways_left top.ways ≡ ways_left RightOnly + 1 = ap ways_left c.requires.2 in
    let finds = subst (λ (w : WalkParts). FindsWay (scene_of w) top.edge out.Left (Some c.args.number)) (sym c.self.view_is) c.requires.3 in
    noted_told c.len-count.result RightOnly c.is_some-is_line.result c.by_search.new.self c.note_open.new.path s.nodes c.note_open.new.nodes PassedOpen c.note_open.result c.note_open.ensures

pub invariant_of-self-in-Stuck : goal.invariant_of-self-in-Stuck
invariant_of-self-in-Stuck c =
    let s = c.self.inside in
    let i = c.self.invariant.walk in
    let top = c.requires.0 in
    let at = subst (λ (w : WalkParts). slice_get w.frames (length w.frames - 1) ≡ Some top) (sym c.self.view_is) c.requires.1 in
    let less : ways_left top.ways ≡ ways_left RightOnly + 1 = ap ways_left c.requires.2 in
    let finds = subst (λ (w : WalkParts). FindsWay (scene_of w) top.edge out.Left (Some c.args.number)) (sym c.self.view_is) c.requires.3 in
    let long : length s.path.frames ≡ length (slice_set s.path.frames (length s.path.frames - 1) (with_ways top RightOnly)) = sym (length-set s.path.frames (length s.path.frames - 1) (with_ways top RightOnly)) in
    let passes = rw c.in-Stuck.is at c.in_ok-by_search.ensures.passes in
    record { walk = way_walk s.scene s.roots.items s.root s.path s.nodes i top at out.Left RightOnly refl less (Some c.args.number) finds c.args.number c.get.result.now refl c.get.ensures (record { edge = c.args.number; ways = Both; under = c.len-count.result }) refl refl (omega (arith, c.len-count.ensures, long)) (left_done_under (slice_set s.path.frames (length s.path.frames - 1) (with_ways top RightOnly)) c.len-count.result (c.len-count.ensures ∙ long)) (under_left s.scene s.roots.items s.root s.path s.nodes i top at out.Left RightOnly refl less c.len-count.result c.len-count.ensures (let one : 0 < 1 = omega arith in one)) c.len-count.result c.len-count.ensures c.by_search.new.self c.note_stuck.new.path c.note_stuck.new.nodes (Stuck c.in-Stuck.evidence) passes c.is_some-is_line.result c.is_some-is_line.ensures c.note_stuck.result c.note_stuck.ensures; ready = way_ready s.scene s.roots.items s.root s.path s.nodes i top at out.Left RightOnly refl less (Some c.args.number) finds c.args.number c.get.result.now refl c.get.ensures (record { edge = c.args.number; ways = Both; under = c.len-count.result }) refl refl (omega (arith, c.len-count.ensures, long)) (left_done_under (slice_set s.path.frames (length s.path.frames - 1) (with_ways top RightOnly)) c.len-count.result (c.len-count.ensures ∙ long)) (under_left s.scene s.roots.items s.root s.path s.nodes i top at out.Left RightOnly refl less c.len-count.result c.len-count.ensures (let one : 0 < 1 = omega arith in one)) c.len-count.result c.len-count.ensures c.by_search.new.self c.note_stuck.new.path c.note_stuck.new.nodes (Stuck c.in-Stuck.evidence) passes c.is_some-is_line.result c.is_some-is_line.ensures c.self.invariant.ready (λ e same. let one : 0 < 1 = omega arith in one) c.note_stuck.result c.note_stuck.ensures }

pub returns-in-Stuck-clause-tries : goal.returns-in-Stuck-clause-tries
returns-in-Stuck-clause-tries c =
    let s = c.self.inside in
    let i = c.self.invariant.walk in
    let top = c.requires.0 in
    let at = subst (λ (w : WalkParts). slice_get w.frames (length w.frames - 1) ≡ Some top) (sym c.self.view_is) c.requires.1 in
    let less : ways_left top.ways ≡ ways_left RightOnly + 1 = ap ways_left c.requires.2 in
    let finds = subst (λ (w : WalkParts). FindsWay (scene_of w) top.edge out.Left (Some c.args.number)) (sym c.self.view_is) c.requires.3 in
    let long : length s.path.frames ≡ length (slice_set s.path.frames (length s.path.frames - 1) (with_ways top RightOnly)) = sym (length-set s.path.frames (length s.path.frames - 1) (with_ways top RightOnly)) in
    let passes = rw c.in-Stuck.is at c.in_ok-by_search.ensures.passes in
    subst (λ (w : WalkParts). Tries w (walk_over s.scene s.roots.items s.root c.note_stuck.new.path.frames c.note_stuck.new.path.ends c.note_stuck.new.nodes) c.note_stuck.result) c.self.view_is (way_noted s.scene s.roots.items s.root s.path s.nodes i top at out.Left RightOnly refl less (Some c.args.number) finds c.args.number c.get.result.now refl c.get.ensures (record { edge = c.args.number; ways = Both; under = c.len-count.result }) refl refl (omega (arith, c.len-count.ensures, long)) (left_done_under (slice_set s.path.frames (length s.path.frames - 1) (with_ways top RightOnly)) c.len-count.result (c.len-count.ensures ∙ long)) (under_left s.scene s.roots.items s.root s.path s.nodes i top at out.Left RightOnly refl less c.len-count.result c.len-count.ensures (let one : 0 < 1 = omega arith in one)) c.len-count.result c.len-count.ensures c.by_search.new.self c.note_stuck.new.path c.note_stuck.new.nodes (Stuck c.in-Stuck.evidence) passes c.is_some-is_line.result c.is_some-is_line.ensures c.note_stuck.result c.note_stuck.ensures)

pub returns-in-Stuck-clause-told : goal.returns-in-Stuck-clause-told
returns-in-Stuck-clause-told c =
    let s = c.self.inside in
    let i = c.self.invariant.walk in
    let top = c.requires.0 in
    let at = subst (λ (w : WalkParts). slice_get w.frames (length w.frames - 1) ≡ Some top) (sym c.self.view_is) c.requires.1 in
    let less : ways_left top.ways ≡ ways_left RightOnly + 1 = ap ways_left c.requires.2 in
    let finds = subst (λ (w : WalkParts). FindsWay (scene_of w) top.edge out.Left (Some c.args.number)) (sym c.self.view_is) c.requires.3 in
    noted_told c.len-count.result RightOnly c.is_some-is_line.result c.by_search.new.self c.note_stuck.new.path s.nodes c.note_stuck.new.nodes (Stuck c.in-Stuck.evidence) c.note_stuck.result c.note_stuck.ensures
