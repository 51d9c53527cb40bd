-- What a walk is once a way or a root was tried, and its node noted.
use Rattle.std.proofs.Common.{Bool, ◌≡◌, ◌≢◌, ℕ, ◌+◌, ◌-◌, ◌<◌, ◌≤◌, List, [], ◌∷◌, ◌++◌, length, take, slice_get, slice_set, Option, Some, None, Result, Ok, Err, IfSome, length-set, refl, sym, ap, ◌∙◌, subst, arith}
use Rattle.std.specs.Prelude.{is_some}
use Rattle.std.proofs.lemmas.List.{nil_from_length, set-append_left, take-set-le}
use Rattle.std.proofs.lemmas.List.Elements.{All-same, All-take}
use Rattle.std.proofs.lemmas.Option.{none-some, same_Some, slice_get_within}
use Rattle.sight_names.specs.declared.names.Memory.{Memory}
use Rattle.sight_names.specs.declared.names.Side.{Side}
use Rattle.sight_names.specs.Splitting.{IsSplittable}
use Rattle.stab_hull.specs.declared.Passed.{Passed}
use Rattle.stab_hull.specs.declared.Passed.TheVariants.{Open as PassedOpen, Stuck}
use Rattle.stab_hull.specs.Answer.{IsBarredBy}
use Rattle.mesh_shape.specs.declared.half_edges.table.HalfEdge.{HalfEdge}
use Rattle.block_evidence.specs.declared.Evidence.{Evidence}
use Rattle.block_evidence.specs.declared.sight_tree.Node.{Node}
use Rattle.block_evidence.specs.declared.sight_tree.Node.TheVariants.{Open as OpenNode, Blocked as BlockedNode}
use Rattle.portal_walk.specs.declared.path.Frame.{Frame}
use Rattle.portal_walk.specs.declared.path.Ways.{Ways}
use Rattle.portal_walk.specs.declared.path.Ways.TheVariants.{Both}
use Rattle.portal_walk.specs.declared.roots.Root.{Root}
use Rattle.portal_walk.specs.declared.scene.Way.{Way as WayOut}
use Rattle.portal_walk.specs.declared.step.Came.{Came}
use Rattle.portal_walk.specs.declared.step.Came.TheVariants as came
use Rattle.portal_walk.specs.Frames.{HaveNoWays, HasWay, HasWays, IsReady, PathParts, PassesPortal, first_portals, with_portal, with_ways, ways_left}
use Rattle.portal_walk.specs.Pending.{way_in_sequence, way_taken}
use Rattle.portal_walk.specs.Scene.{SceneParts, Finds, FindsWay, IsEntry, IsNumber}
use Rattle.portal_walk.specs.Sides.{IsRootOf}
use Rattle.portal_walk.specs.Walk.{WalkParts, IsWalk, ComesBy, IsPathBack, IsTryNoted, IsTop, Tries, half_edge_ends, tried_by}
use Rattle.portal_walk.proofs.Ends.{same_parts}
use Rattle.portal_walk.proofs.Entering.{KeepsEnd, blocked_at, found_number, open_at, room, root_closed, root_comes, way_closed, way_comes, way_ends, way_entry, way_number}
use Rattle.portal_walk.proofs.Lists.{get_front, last_pushed, last_set, some_of, take_front}
use Rattle.portal_walk.proofs.Paths.{no_way_before, ready_by, ready_take, under_done, walk_over, walk_cut, walk_set, walk_opened, walk_blocked, walk_rooted}
use Rattle.portal_walk.proofs.SideLines.{all_at}
use Rattle.portal_walk.proofs.Steps.{blocked_back, left_done, none_back, rests_of, root_ahead, root_tried, tells_at, way_ahead, way_tried}
use Rattle.portal_walk.proofs.OnePortal.{one_splittable}
use Rattle.portal_walk.proofs.Sequences.{portal_at}

-- ---- by a way

-- the walk at a portal of which one way is next; then it has these ways left
module _ (p : SceneParts) (roots : List Root) (root : Option Side) (path : PathParts) (nodes : List Node) (i : IsWalk (walk_over p roots root path.frames path.ends nodes)) (top : Frame) (at : slice_get path.frames (length path.frames - 1) ≡ Some top)
    (way : WayOut) (left : Ways) (taken : way_taken left ≡ way_in_sequence way) (less : ways_left top.ways ≡ ways_left left + 1) where
  abbrev pub old : WalkParts
  old = walk_over p roots root path.frames path.ends nodes

  pub there : length path.frames - 1 < length path.frames
  there = slice_get_within path.frames (length path.frames - 1) top at

  -- the path with those ways
  abbrev pub tried : PathParts
  tried = record { frames = slice_set path.frames (length path.frames - 1) (with_ways top left); ends = path.ends }

  abbrev pub mid : WalkParts
  mid = walk_over p roots root tried.frames tried.ends nodes

  mid_is : IsWalk mid
  mid_is = walk_set p roots root path nodes tried top (with_ways top left) i at refl refl refl

  as_long : length tried.frames ≡ length path.frames
  as_long = length-set path.frames (length path.frames - 1) (with_ways top left)

  some : 0 < length tried.frames
  some = omega (arith, there, as_long)

  says : IfSome (slice_get tried.frames (length tried.frames - 1)) (λ (f : Frame). (f.edge ≡ top.edge) × (way_taken f.ways ≡ way_in_sequence way))
  says = rw (last_set path.frames top (with_ways top left) at) (refl, taken)

  abbrev pub rooted : (side : Side) × (root ≡ Some side)
  rooted = some_of root (i.rooted (omega (arith, there)))

  abbrev pub side : Side
  side = rooted.0

  -- its half-edge has its number
  pub top_numbered : IsNumber p.mesh.triangles top.edge
  top_numbered = all_at (λ (f : Frame). IsNumber p.mesh.triangles f.edge) path.frames (length path.frames - 1) top i.numbered at

  -- so many portals stay when it is left, which are as they were
  under_in : top.under ≤ length path.frames - 1
  under_in = (i.under (length path.frames - 1) top at).0

  pub stays_in : top.under ≤ length path.frames
  stays_in = omega (arith, under_in, there)

  tried_under : top.under < length tried.frames
  tried_under = omega (arith, under_in, there, as_long)

  front_same : take top.under path.frames ≡ take top.under tried.frames
  front_same = sym (take-set-le top.under path.frames (length path.frames - 1) (with_ways top left) under_in)

  done_tried : ways_left left ≡ 0 → HaveNoWays tried.frames top.under (length tried.frames)
  done_tried none_left = under_done tried.frames (with_ways top left) mid_is.under (last_set path.frames top (with_ways top left) at) none_left

  tried_ways : HasWays path (length path.frames - 1) left tried
  tried_ways f here = ap (λ (g : Frame). let q : PathParts = record { frames = slice_set path.frames (length path.frames - 1) (with_ways g left); ends = path.ends } in q) (same_Some top f (sym at ∙ here))

  pub tried_ready : 0 < ways_left left → IsReady tried.frames
  tried_ready some_left = ready_by tried.frames (with_ways top left) (last_set path.frames top (with_ways top left) at) some_left

  -- the portal before one that is entered, and the last one that stays when it is left
  pub under_left : (n : ℕ) → n ≡ length path.frames → 0 < ways_left left → HasWay tried.frames n
  under_left n is some_left j f next here = tried_ready some_left j f (as_long ∙ sym is ∙ next) here

  pub under_right : HasWay tried.frames top.under
  under_right = (mid_is.under (length tried.frames - 1) (with_ways top left) (last_set path.frames top (with_ways top left) at)).2

  pub left_ready : (q : PathParts) → q ≡ first_portals top.under path → IsReady q.frames
  left_ready q is = subst (λ (r : PathParts). IsReady r.frames) (sym is) (ready_take path.frames top.under stays_in (i.under (length path.frames - 1) top at).2)

  pub left_walk : (q : PathParts) → q ≡ first_portals top.under path → IsWalk (walk_over p roots root q.frames q.ends nodes)
  left_walk q is = walk_cut p roots root path nodes q top.under i is stays_in (omega (arith, there))

  module _ (found : Option ℕ) (finds : FindsWay p top.edge way found) where
    pub number_found : IfSome found (IsNumber p.mesh.triangles)
    number_found = way_number p roots root tried.frames tried.ends nodes mid_is top.edge way found says some finds side rooted.1

    -- one can't leave by the way
    pub none_tried : found ≡ None → (q : PathParts) → HasWays path (length path.frames - 1) left q → Tries old (walk_over p roots root q.frames q.ends nodes) (Ok None)
    none_tried none q is =
        let set = is top at in
        way_tried old mid (walk_over p roots root q.frames q.ends nodes) top (with_ways top left) side (record { plan = refl; mesh = refl; labels = refl; source = refl }) (record { plan = refl; mesh = refl; labels = refl; source = refl }) at less rooted.1 refl refl refl refl None
        (record { roots = refl; root = refl; frames = ap (λ (r : PathParts). r.frames) set; nodes = refl }, way_closed p roots root tried.frames tried.ends nodes mid_is top.edge way found says some finds side none rooted.1)

    pub none_walk : (q : PathParts) → HasWays path (length path.frames - 1) left q → IsWalk (walk_over p roots root q.frames q.ends nodes)
    none_walk q is = walk_set p roots root path nodes q top (with_ways top left) i at refl refl (is top at)

    pub none_top : (q : PathParts) → HasWays path (length path.frames - 1) left q → slice_get q.frames (length q.frames - 1) ≡ Some (with_ways top left)
    none_top q is = ap (λ (r : PathParts). slice_get r.frames (length r.frames - 1)) (is top at) ∙ last_set path.frames top (with_ways top left) at

    pub none_ready : (q : PathParts) → HasWays path (length path.frames - 1) left q → 0 < ways_left left → IsReady q.frames
    none_ready q is some_left = ready_by q.frames (with_ways top left) (none_top q is) some_left

    -- one can't leave by the way, which is the last
    pub none_left : found ≡ None → ways_left left ≡ 0 → (q : PathParts) → q ≡ first_portals top.under path → Tries old (walk_over p roots root q.frames q.ends nodes) (Ok None)
    none_left none last q is = none_back old mid (walk_over p roots root q.frames q.ends nodes) (record { plan = refl; mesh = refl; labels = refl; source = refl }) (none_tried none tried tried_ways)
        (left_done mid (walk_over p roots root q.frames q.ends nodes) top.under (record { plan = refl; mesh = refl; labels = refl; source = refl }) tried_under (done_tried last) (ap (λ (r : PathParts). r.frames) is ∙ front_same) refl refl refl)

    module _ (number : ℕ) (y : HalfEdge) (e : found ≡ Some number) (there_is : slice_get p.edges number ≡ Some y) where
      pub entry : IsEntry p.plan p.mesh.triangles p.labels p.source y
      entry = way_entry p roots root tried.frames tried.ends nodes mid_is top.edge way found says some finds side number y e there_is rooted.1

      pub keeps : KeepsEnd way path.ends y
      keeps = way_ends p roots root tried.frames tried.ends nodes mid_is top.edge way found says some finds side number y e there_is rooted.1

      comes : ComesBy p.plan p.mesh.triangles p.labels p.source (tried_by mid side) y (path.ends ++ half_edge_ends y ∷ [])
      comes = way_comes p roots root tried.frames tried.ends nodes mid_is top.edge way found says some finds side number y e there_is rooted.1

      -- where there was no memory for it
      pub way_rests : (q : PathParts) → q ≡ path → (r : Memory) → Tries old (walk_over p roots root q.frames q.ends nodes) (Err r)
      way_rests q same r = (rests_of old (walk_over p roots root q.frames q.ends nodes) (record { plan = refl; mesh = refl; labels = refl; source = refl }) (record { roots = refl; root = refl; frames = ap (λ (s : PathParts). s.frames) same; nodes = refl }), way_ahead old top (with_ways top left) at less)

      -- no line passes the portal, as these ends show
      module _ (next : Frame) (evidence : Evidence) (between : PathParts) (passes : PassesPortal path between next (half_edge_ends y) (Ok (Stuck evidence))) (later : List Node) where
        pub stuck_rests : later ≡ nodes → (r : Memory) → Tries old (walk_over p roots root between.frames between.ends later) (Err r)
        stuck_rests same r = (
          rests_of old (walk_over p roots root between.frames between.ends later) (record { plan = refl; mesh = refl; labels = refl; source = refl }) (record { roots = refl; root = refl; frames = ap (λ (q : PathParts). q.frames) passes.0; nodes = same }),
          way_ahead old top (with_ways top left) at less,
        )

        -- its node is noted, and the portal before it is left
        module _ (noted : later ≡ nodes ++ BlockedNode evidence ∷ []) (q : PathParts) (is : q ≡ first_portals top.under between) where
          back_to : q ≡ first_portals top.under path
          back_to = is ∙ ap (first_portals top.under) passes.0

          pub stuck_ready : IsReady q.frames
          stuck_ready = left_ready q back_to

          pub stuck_walk : IsWalk (walk_over p roots root q.frames q.ends later)
          stuck_walk = walk_cut p roots root path later q top.under
              (walk_blocked p roots root path nodes root path later (BlockedNode evidence) i refl noted (passes.1.pairs, passes.1.evidence) (i.rooted (omega (arith, there))) i.exit (λ l. refl)) back_to stays_in (omega (arith, there))

          pub stuck_left : ways_left left ≡ 0 → Tries old (walk_over p roots root q.frames q.ends later) (Ok (Some (came.Blocked evidence)))
          stuck_left last = blocked_back old (walk_over p roots root tried.frames tried.ends later) (walk_over p roots root q.frames q.ends later) top.under evidence (record { plan = refl; mesh = refl; labels = refl; source = refl })
              (way_tried old mid (walk_over p roots root tried.frames tried.ends later) top (with_ways top left) side (record { plan = refl; mesh = refl; labels = refl; source = refl }) (record { plan = refl; mesh = refl; labels = refl; source = refl }) at less rooted.1 refl refl refl refl (Some (came.Blocked evidence)) (
                record { roots = refl; root = rooted.1; nodes = noted },
                refl,
                blocked_at mid side y evidence comes passes.1.no_line passes.1.blocks,
              ))
              (omega (arith, tried_under)) (done_tried last) (ap (λ (r : PathParts). r.frames) back_to ∙ front_same) refl refl refl

      -- the portal was tried, and its node noted
      module _ (next : Frame) (edge : next.edge ≡ number) (both : next.ways ≡ Both) (stays : next.under ≤ length tried.frames) (done : HaveNoWays tried.frames next.under (length tried.frames)) (has : HasWay tried.frames next.under)
          (count : ℕ) (counts : count ≡ length path.frames) (between after : PathParts) (later : List Node) (passed : Passed) (passes : PassesPortal path between next (half_edge_ends y) (Ok passed)) (is_line : Bool) (tells : is_line ≡ is_some y.entered) where
        abbrev pub new : WalkParts
        new = walk_over p roots root after.frames after.ends later

        next_there : slice_get p.edges next.edge ≡ Some y
        next_there = ap (λ (n : ℕ). slice_get p.edges n) edge ∙ there_is

        next_number : IsNumber p.mesh.triangles next.edge
        next_number = subst (IsNumber p.mesh.triangles) (sym edge) (rw e at number_found)

        -- the portals before it are as they were
        back : (passed : Passed) → PassesPortal path between next (half_edge_ends y) (Ok passed) → IsPathBack count between after passed → after ≡ path
        back PassedOpen h is = is ∙ ap (first_portals count) h.0 ∙ same_parts _ path.frames _ path.ends (take_front path.frames (next ∷ []) count counts) (take_front path.ends (half_edge_ends y ∷ []) count (let l = i.each in omega (arith, counts, l)))
        back (Stuck evidence) h is = is ∙ h.0

        set_open : passed ≡ PassedOpen → HasWays between (count - 1) left after → (after ≡ with_portal tried next (half_edge_ends y)) × IsSplittable (path.ends ++ half_edge_ends y ∷ [])
        set_open is set =
            let h = rw is at passes in
            let last : slice_get between.frames (count - 1) ≡ Some top = ap (λ (q : PathParts). slice_get q.frames (count - 1)) h.0 ∙ ap (λ (n : ℕ). slice_get (path.frames ++ next ∷ []) (n - 1)) counts ∙ get_front path.frames next (length path.frames - 1) top at in (
              set top last
                  ∙ same_parts _ (tried.frames ++ next ∷ []) _ (path.ends ++ half_edge_ends y ∷ [])
                  (ap (λ (q : PathParts). slice_set q.frames (count - 1) (with_ways top left)) h.0
                  ∙ ap (λ (n : ℕ). slice_set (path.frames ++ next ∷ []) (n - 1) (with_ways top left)) counts
                  ∙ set-append_left path.frames (next ∷ []) (length path.frames - 1) (with_ways top left) there)
                  (ap (λ (q : PathParts). q.ends) h.0),
              h.1,
            )

        set_stuck : (evidence : Evidence) → passed ≡ Stuck evidence → HasWays between (count - 1) left after → (after ≡ tried) × IsBarredBy (path.ends ++ half_edge_ends y ∷ []) evidence
        set_stuck evidence is set =
            let h = rw is at passes in
            let last : slice_get between.frames (count - 1) ≡ Some top = ap (λ (q : PathParts). slice_get q.frames (count - 1)) h.0 ∙ ap (λ (n : ℕ). slice_get path.frames (n - 1)) counts ∙ at in (
              set top last
                  ∙ same_parts _ tried.frames _ path.ends
                  (ap (λ (q : PathParts). slice_set q.frames (count - 1) (with_ways top left)) h.0 ∙ ap (λ (n : ℕ). slice_set path.frames (n - 1) (with_ways top left)) counts)
                  (ap (λ (q : PathParts). q.ends) h.0),
              h.1,
            )

        pub way_walk : (result : Result (Option Came) Memory) → IsTryNoted count left is_line between after nodes later passed result → IsWalk new
        way_walk (Err r) h = subst (λ (q : PathParts). IsWalk (walk_over p roots root q.frames q.ends later)) (sym (back passed passes h.1)) (subst (λ (ns : List Node). IsWalk (walk_over p roots root path.frames path.ends ns)) (sym h.0) i)
        way_walk (Ok None) h = absurd h
        way_walk (Ok (Some came.End)) h = absurd h
        way_walk (Ok (Some (came.Open told))) h =
            let set = set_open h.0 h.3 in
            walk_opened p roots root tried nodes root after later OpenNode next y mid_is set.0 h.2 tt (i.rooted (omega (arith, there))) i.exit (λ l. refl) stays done has (room mid side y mid_is comes set.1) next_number next_there
            (λ d r. subst (λ (s : Side). ComesBy p.plan p.mesh.triangles p.labels p.source (tried_by mid s) y (path.ends ++ half_edge_ends y ∷ [])) (same_Some side d (sym rooted.1 ∙ r)) comes)
        way_walk (Ok (Some (came.Blocked evidence))) h =
            let set = set_stuck evidence h.0 h.2 in
            walk_blocked p roots root tried nodes root after later (BlockedNode evidence) mid_is set.0 h.1 (set.1.pairs, set.1.evidence) (i.rooted (omega (arith, there))) i.exit (λ l. refl)

        pub way_noted : (result : Result (Option Came) Memory) → IsTryNoted count left is_line between after nodes later passed result → Tries old new result
        way_noted (Err r) h = (
          rests_of old new (record { plan = refl; mesh = refl; labels = refl; source = refl }) (record { roots = refl; root = refl; frames = ap (λ (q : PathParts). q.frames) (back passed passes h.1); nodes = h.0 }),
          way_ahead old top (with_ways top left) at less,
        )
        way_noted (Ok None) h = absurd h
        way_noted (Ok (Some came.End)) h = absurd h
        way_noted (Ok (Some (came.Open told))) h =
            let set = set_open h.0 h.3 in
            let frames = ap (λ (q : PathParts). q.frames) set.0 in
            let top_is : IsTop new y = (next, ap (λ (fs : List Frame). slice_get fs (length fs - 1)) frames ∙ last_pushed tried.frames next, next_there) in
            way_tried old mid new top (with_ways top left) side (record { plan = refl; mesh = refl; labels = refl; source = refl }) (record { plan = refl; mesh = refl; labels = refl; source = refl }) at less rooted.1 refl refl refl refl (Some (came.Open told)) (
              record { roots = refl; root = rooted.1; nodes = h.2 },
              record { frame = next; both = both; frames = frames; short = room mid side y mid_is comes set.1 },
              open_at mid new side next y comes set.1 frames (ap (λ (q : PathParts). q.ends) set.0) next_there,
              tells_at new y told top_is (h.1 ∙ tells),
            )
        way_noted (Ok (Some (came.Blocked evidence))) h =
            let set = set_stuck evidence h.0 h.2 in
            way_tried old mid new top (with_ways top left) side (record { plan = refl; mesh = refl; labels = refl; source = refl }) (record { plan = refl; mesh = refl; labels = refl; source = refl }) at less rooted.1 refl refl refl refl (Some (came.Blocked evidence)) (
              record { roots = refl; root = rooted.1; nodes = h.1 },
              ap (λ (q : PathParts). q.frames) set.0,
              blocked_at mid side y evidence comes set.1.no_line set.1.blocks,
            )

        -- the last portal has a way left, where this is so of the one before a portal that no line passes
        pub way_ready : IsReady path.frames → ((evidence : Evidence) → passed ≡ Stuck evidence → 0 < ways_left left) → (result : Result (Option Came) Memory) → IsTryNoted count left is_line between after nodes later passed result → IsReady after.frames
        way_ready ready stuck (Err r) h = subst (λ (q : PathParts). IsReady q.frames) (sym (back passed passes h.1)) ready
        way_ready ready stuck (Ok None) h = absurd h
        way_ready ready stuck (Ok (Some came.End)) h = absurd h
        way_ready ready stuck (Ok (Some (came.Open told))) h =
            let set = set_open h.0 h.3 in
            let frames = ap (λ (q : PathParts). q.frames) set.0 in
            ready_by after.frames next (ap (λ (fs : List Frame). slice_get fs (length fs - 1)) frames ∙ last_pushed tried.frames next) (subst (λ (w : Ways). 0 < ways_left w) (sym both) (omega arith))
        way_ready ready stuck (Ok (Some (came.Blocked evidence))) h =
            let set = set_stuck evidence h.0 h.2 in
            subst (λ (q : PathParts). IsReady q.frames) (sym set.0) (tried_ready (stuck evidence h.0))

pub open_not_stuck : (e : Evidence) → ¬ (PassedOpen ≡ Stuck e)
open_not_stuck e same = cc

-- a node that is noted is told
pub noted_told : (n : ℕ) (w : Ways) (b : Bool) (old new : PathParts) (ms ns : List Node) (passed : Passed) (r : Result (Option Came) Memory) → IsTryNoted n w b old new ms ns passed r → ¬ (r ≡ Ok None)
noted_told n w b old new ms ns passed r h e = subst (IsTryNoted n w b old new ms ns passed) e h

-- a portal behind the left way is left for the one before it
pub left_done_under : (fs : List Frame) (n : ℕ) → n ≡ length fs → HaveNoWays fs n (length fs)
left_done_under fs n e j f from before at = absurd (apart n j (length fs) e from before)
  where
    apart : (n j m : ℕ) → n ≡ m → n ≤ j → j < m → ⊥
    apart n j m e l k = omega arith

-- ---- by a root

module _ (p : SceneParts) (roots : List Root) (root : Option Side) (path : PathParts) (nodes : List Node) (i : IsWalk (walk_over p roots root path.frames path.ends nodes)) (empty : path.frames ≡ []) (r : Root) (last : slice_get roots (length roots - 1) ≡ Some r)
    (found : Option ℕ) (finds : Finds p (portal_at r) found) where
  abbrev pub start : WalkParts
  start = walk_over p roots root path.frames path.ends nodes

  abbrev popped_roots : List Root
  popped_roots = take (length roots - 1) roots

  pub root_number : IfSome found (IsNumber p.mesh.triangles)
  root_number = found_number p (portal_at r) found finds

  is_root : IsRootOf p.plan p.source r
  is_root = all_at (IsRootOf p.plan p.source) roots (length roots - 1) r i.exits last

  pub path_empty : path ≡ record { frames = []; ends = [] }
  path_empty = same_parts path.frames [] path.ends [] empty (nil_from_length path.ends (i.each ∙ ap length empty))

  -- one can't leave by the root
  pub root_none : found ≡ None → Tries start (walk_over p popped_roots root path.frames path.ends nodes) (Ok None)
  root_none none = root_tried start start (walk_over p popped_roots root path.frames path.ends nodes) r (record { plan = refl; mesh = refl; labels = refl; source = refl }) (record { plan = refl; mesh = refl; labels = refl; source = refl }) empty last
      refl refl refl refl refl refl None (record { roots = refl; root = refl; frames = refl; nodes = refl }, root_closed p roots root path.frames path.ends nodes i empty r is_root found finds none)

  pub root_rests : (q : PathParts) → q ≡ path → (e : Memory) → Tries start (walk_over p roots root q.frames q.ends nodes) (Err e)
  root_rests q same e = (
    rests_of start (walk_over p roots root q.frames q.ends nodes) (record { plan = refl; mesh = refl; labels = refl; source = refl }) (record { roots = refl; root = refl; frames = ap (λ (s : PathParts). s.frames) same; nodes = refl }),
    root_ahead start (let l = slice_get_within roots (length roots - 1) r last in omega (arith, l)),
  )

  module _ (number : ℕ) (y : HalfEdge) (e : found ≡ Some number) (there_is : slice_get p.edges number ≡ Some y) where
    comes_first : ComesBy p.plan p.mesh.triangles p.labels p.source (tried_by start r.side) y (path.ends ++ half_edge_ends y ∷ [])
    comes_first = root_comes p roots root path.frames path.ends nodes i empty r is_root found finds number y e there_is

    pub root_proper : y.left_at ≢ y.right_at
    root_proper = comes_first.entry.proper

    module _ (q : PathParts) (first : Frame) (edge : first.edge ≡ number) (both : first.ways ≡ Both) (under : first.under ≡ 0) (begun : q ≡ record { frames = first ∷ []; ends = half_edge_ends y ∷ [] }) (later : List Node) (noted : later ≡ nodes ++ OpenNode ∷ []) where
      grown : q ≡ with_portal path first (half_edge_ends y)
      grown = begun ∙ ap (λ (s : PathParts). with_portal s first (half_edge_ends y)) (sym path_empty)

      split : IsSplittable (path.ends ++ half_edge_ends y ∷ [])
      split = subst (λ (s : PathParts). IsSplittable (s.ends ++ half_edge_ends y ∷ [])) (sym path_empty) (one_splittable (half_edge_ends y) root_proper)

      first_there : slice_get p.edges first.edge ≡ Some y
      first_there = ap (λ (n : ℕ). slice_get p.edges n) edge ∙ there_is

      none_before : HaveNoWays path.frames first.under (length path.frames)
      none_before j f from before at = absurd (nothing j f before at)
        where
          nothing : (j : ℕ) (f : Frame) → j < length path.frames → slice_get path.frames j ≡ Some f → ⊥
          nothing j f l at = none-some f (ap (λ (fs : List Frame). slice_get fs j) (sym empty) ∙ at)

      pub root_walk : (less : List Root) → less ≡ popped_roots → IsWalk (walk_over p less (Some r.side) q.frames q.ends later)
      root_walk less fewer = walk_rooted p roots (Some r.side) q later less
          (walk_opened p roots root path nodes (Some r.side) q later OpenNode first y i grown noted tt refl is_root.exit (λ l. absurd (not_there l)) (omega (arith, under)) none_before (no_way_before path.frames first.under under) (room start r.side y i comes_first split)
          (subst (IsNumber p.mesh.triangles) (sym edge) (rw e at root_number)) first_there
          (λ d h. subst (λ (s : Side). ComesBy p.plan p.mesh.triangles p.labels p.source (tried_by start s) y (path.ends ++ half_edge_ends y ∷ [])) (same_Some r.side d h) comes_first))
          (All-same (IsRootOf p.plan p.source) less popped_roots fewer (All-take (IsRootOf p.plan p.source) (length roots - 1) roots i.exits))
        where
          not_there : 0 < length path.frames → ⊥
          not_there l = nothing (length path.frames) (ap length empty) l
            where
              nothing : (n : ℕ) → n ≡ 0 → 0 < n → ⊥
              nothing n e l = omega arith

      pub root_ready : IsReady q.frames
      root_ready = ready_by q.frames first (ap (λ (s : PathParts). slice_get s.frames (length s.frames - 1)) grown ∙ last_pushed path.frames first) (subst (λ (w : Ways). 0 < ways_left w) (sym both) (omega arith))

      pub root_opened : (less : List Root) → less ≡ popped_roots → (is_line : Bool) → is_line ≡ is_some y.entered → Tries start (walk_over p less (Some r.side) q.frames q.ends later) (Ok (Some (came.Open is_line)))
      root_opened less fewer is_line tells =
          let met : WalkParts = walk_over p roots (Some r.side) q.frames q.ends later in
          let frames = ap (λ (s : PathParts). s.frames) grown in
          let top : IsTop met y = (first, ap (λ (fs : List Frame). slice_get fs (length fs - 1)) frames ∙ last_pushed path.frames first, first_there) in
          root_tried start met (walk_over p less (Some r.side) q.frames q.ends later) r (record { plan = refl; mesh = refl; labels = refl; source = refl }) (record { plan = refl; mesh = refl; labels = refl; source = refl }) empty last
          refl fewer refl refl refl refl (Some (came.Open is_line)) (
            record { roots = refl; root = refl; nodes = noted },
            record { frame = first; both = both; frames = frames; short = room start r.side y i comes_first split },
            open_at start met r.side first y comes_first split frames (ap (λ (s : PathParts). s.ends) grown) first_there,
            tells_at met y is_line top tells,
          )
