-- Portals that a line passes, with what is of them on the stacks: one more of them, and fewer.
use Rattle.std.proofs.Common.{◌≡◌, ℕ, ◌+◌, ◌-◌, ◌<◌, ◌≤◌, List, [], ◌∷◌, ◌++◌, length, take, Some, None, Result, Ok, Err, get_or, refl, sym, ap, ◌∙◌, arith, inl, inr, subst, length-take-le}
use Rattle.std.specs.Prelude.{map, option_map, slice_get}
use Rattle.std.proofs.lemmas.Int.{ints}
use Rattle.std.proofs.lemmas.List.{length-map, take-map, take_all, take-take}
use Rattle.std.proofs.lemmas.Option.{same_Some, slice_get-get_or, slice_get-map, slice_get_within}
use Rattle.sight_names.specs.declared.limits.TheConstants.{RIGHT_END}
use Rattle.sight_names.specs.declared.names.Memory.{Memory}
use Rattle.sight_names.specs.declared.names.Pt.{Pt}
use Rattle.sight_names.specs.declared.names.EndAt.{EndAt}
use Rattle.sight_names.specs.Splitting.{EndPoints}
use Rattle.block_evidence.specs.declared.Evidence.{Evidence}
use Rattle.plane_base.proofs.Turns.{turned}
use Rattle.geom_exact.specs.declared.extreme_lines.cone.Cone.{Cone}
use Rattle.geom_exact.specs.declared.extreme_lines.cone.Cone.TheVariants.{Open}
use Rattle.geom_exact.specs.declared.extreme_lines.wedge.Wedge.{Wedge}
use Rattle.geom_exact.specs.ExtremeLines.Differences.{difference}
use Rattle.geom_exact.specs.ExtremeLines.Spans.{arrow_of}
use Rattle.stab_hull.specs.declared.frame.Frame.{Frame}
use Rattle.stab_hull.specs.declared.turning.Turn.{Turn}
use Rattle.stab_hull.specs.declared.turning.Turn.TheVariants.{Covered, Same, Moves, Stuck, Unseen}
use Rattle.stab_hull.specs.declared.frame.Noted.{Noted}
use Rattle.stab_hull.specs.declared.onward.Told.TheVariants as told
use Rattle.stab_hull.specs.declared.Passed.{Passed}
use Rattle.stab_hull.specs.declared.Passed.TheVariants as passed
use Rattle.stab_hull.specs.Answer.{IsPortalPassed, IsBarredBy}
use Rattle.stab_hull.specs.History.{CountsStacks, IsHistory}
use Rattle.stab_hull.specs.Portals.{ends_of_frame, portals_of, with_ends, IsConeOf}
use Rattle.stab_hull.specs.Sleeves.{IsSleeve, IsCoveredLeft, IsCoveredRight, HasLastLeft, HasLastRight, TellsRight, TellsLeft, GoesBy, GoesOnWithNote, IsPortalTold, told_of_search, noted_frame, note_of, frames_of, tells_of}
use Rattle.stab_hull.specs.Stacks.{CoversLeft, CoversRight, KeepsFirst, IsConeOfEnds, IsTopCone, IsHullOf}
use Rattle.stab_hull.specs.Turning.{IsRightTurn, IsLeftTurn}
use Rattle.stab_hull.proofs.Keeping.{kept_push}
use Rattle.stab_hull.proofs.Barring.{right_barred, left_barred}
use Rattle.stab_hull.proofs.HistoryLemmas.{as_many, hull_same, keeps_less, last_frame, pop_history, portals_next, push_history, stacks_moved}
use Rattle.stab_hull.proofs.HullLemmas.{cone_of, hull_first, hull_more, cone_wider}
use Rattle.stab_hull.proofs.OneLine.{turn_is, form_left, form_right}
use Rattle.stab_hull.proofs.StepLemmas.{top_is, among_more}
use Rattle.stab_hull.proofs.Lines.{hull_splits}
use Rattle.stab_hull.proofs.TwoForms.{right_same, left_same}
use Rattle.math_base.proofs.Lists.{get_pushed, get_there, length_pushed, map_pushed}
use Rattle.math_base.proofs.Options.{some_is_same, none_is_not_some}

-- the stacks have the ends and the cone of all portals
pub whole : (fs : List Frame) (ls rs : List EndAt) (cs : List Cone) → IsSleeve fs ls rs cs → 0 < length fs → IsHullOf (portals_of fs) ls rs cs
whole fs ls rs cs h some =
    let t = get_there fs (length fs - 1) (omega (arith, some)) in
    let f : Frame = t.0 in
    let n = h.exact f t.1 in
    let a = n.lefts in
    let b = n.rights in
    let c = n.cones in
    hull_same (portals_of fs) (take f.lefts ls) (take f.rights rs) ls rs (take f.cones cs) cs (sym (take_all f.lefts ls (omega (arith, a)))) (sym (take_all f.rights rs (omega (arith, b)))) (sym (take_all f.cones cs (omega (arith, c)))) (last_frame fs f ls rs cs h.history t.1).hull

pub some_cone : (fs : List Frame) (ls rs : List EndAt) (cs : List Cone) → IsSleeve fs ls rs cs → 0 < length fs → 0 < length cs
some_cone fs ls rs cs h some = let top = (whole fs ls rs cs h some).cone in let b = slice_get_within cs (length cs - 1) top.0 top.1 in omega (arith, b)

-- the cone that is read
pub read_cone : (fs : List Frame) (ls rs : List EndAt) (cs : List Cone) (n : ℕ) (d : Cone) → IsSleeve fs ls rs cs → 0 < length fs → n ≡ length cs → d ≡ get_or cs (n - 1) d → IsConeOf (portals_of fs) d
read_cone fs ls rs cs n d h some k g =
    let w = whole fs ls rs cs h some in
    cone_of (portals_of fs) ls rs cs d w (w.cone.1 ∙ ap (λ (x : Cone). Some x) (top_is cs n d w.cone.0 k g w.cone.1))

-- ---- what the lines tell
module _ (es : List EndPoints) (ls rs : List EndAt) (cs : List Cone) (w : Wedge) (d : Cone) (n : ℕ) (hull : IsHullOf es ls rs cs) (k : n ≡ length cs) (g : d ≡ get_or cs (n - 1) d) (is : d ≡ Open w) where
  last : slice_get cs (length cs - 1) ≡ Some (Open w)
  last = hull.cone.1 ∙ ap (λ (x : Cone). Some x) (top_is cs n d hull.cone.0 k g hull.cone.1 ∙ is)

  of_ends : IsConeOfEnds ls rs (Open w)
  of_ends = subst (IsConeOfEnds ls rs) (top_is cs n d hull.cone.0 k g hull.cone.1 ∙ is) hull.cone.2

  of_portals : IsConeOf es (Open w)
  of_portals = cone_of es ls rs cs (Open w) hull last

  pub right_tells : (left : Pt) (new : EndAt) → new.code ≡ length es + RIGHT_END → (t : Turn) → IsRightTurn w new t → TellsRight es ls rs cs left new (tells_of t)
  right_tells left new e Covered h =
      let m = of_ends.ends.first.1 in
      let a = turn_is w.first w.first.right.at new.at in
      let z = form_right w.first in
      let b = turn_is w.second w.first.right.at new.at in
      let t = turned (difference w.first.right.at new.at) (arrow_of w.second) in
      let f = h.0 in
      let s = h.1 in
      (Open w, last, (m.0, w.first.right, m.1, (omega (arith, ints, a, z, f), omega (arith, ints, b, t, s))))
  right_tells left new e Same h = (Open w, last, right_same ls rs new (Open w) w refl h.0 h.1 of_ends)
  right_tells left new e Moves h = record { wedge = w; last = last; rights = rs; cone = of_ends; beyond = h }
  right_tells left new e (Stuck x) h = right_barred es w of_portals (record { left = left; right = new.at }) new x (ap (λ (c : ℕ). let v : EndAt = record { code = c; at = new.at } in v) e) h.0 h.1
  right_tells left new e Unseen h = tt

  pub left_tells : (right : Pt) (new : EndAt) → length es < RIGHT_END → new.code ≡ length es → (t : Turn) → IsLeftTurn w new t → TellsLeft es ls rs cs new right (tells_of t)
  left_tells right new few e Covered h =
      let m = of_ends.ends.second.0 in
      let a = turn_is w.first new.at w.second.left.at in
      let b = turn_is w.second new.at w.second.left.at in
      let z = form_left w.second in
      let t = turned (difference new.at w.second.left.at) (arrow_of w.second) in
      let f = h.0 in
      let s = h.1 in
      (Open w, last, (m.0, w.second.left, m.1, (omega (arith, ints, a, s), omega (arith, ints, b, z, t, f))))
  left_tells right new few e Same h = (Open w, last, left_same ls rs new (Open w) w refl h.0 h.1 of_ends)
  left_tells right new few e Moves h = record { wedge = w; last = last; lefts = ls; cone = of_ends; beyond = h }
  left_tells right new few e (Stuck x) h = left_barred es w of_portals (record { left = new.at; right = right }) new x few (ap (λ (c : ℕ). let v : EndAt = record { code = c; at = new.at } in v) e) h.0 h.1
  left_tells right new few e Unseen h = tt

-- the last cone, of which is known that it has these two lines
pub open_top : (cs cs' : List Cone) (n : ℕ) (d : Cone) (v : Wedge) → cs' ≡ cs → n ≡ length cs' → d ≡ get_or cs' (n - 1) d → slice_get cs (length cs - 1) ≡ Some (Open v) → Open v ≡ d
open_top cs cs' n d v e k g h = top_is cs' n d (Open v) k g (subst (λ (xs : List Cone). slice_get xs (length xs - 1) ≡ Some (Open v)) (sym e) h)

pub same_wedge : (v w : Wedge) → Open v ≡ Open w → v ≡ w
same_wedge v w h = cc

-- ---- one more portal
-- the frame of a portal whose ends are the last ones on the stacks
abbrev pub framed : Pt → Pt → List EndAt → List EndAt → List Cone → Frame
framed left right ls rs cs = record { left = left; right = right; lefts = length ls; rights = length rs; cones = length cs }

exact_push : (fs : List Frame) (f : Frame) (ls rs : List EndAt) (cs : List Cone) → CountsStacks ls rs cs f → (g : Frame) → slice_get (fs ++ f ∷ []) (length (fs ++ f ∷ []) - 1) ≡ Some g → CountsStacks ls rs cs g
exact_push fs f ls rs cs h g e = subst (CountsStacks ls rs cs) (some_is_same f g (sym (get_pushed fs f) ∙ ap (slice_get (fs ++ f ∷ [])) (let n = length_pushed fs f in omega (arith, n)) ∙ e)) h

frame_counts : (p : EndPoints) (f : Frame) (ls rs : List EndAt) (cs : List Cone) → f ≡ record { left = p.left; right = p.right; lefts = length ls; rights = length rs; cones = length cs } → CountsStacks ls rs cs f
frame_counts p f ls rs cs e = record { lefts = ap (λ (g : Frame). g.lefts) e; rights = ap (λ (g : Frame). g.rights) e; cones = ap (λ (g : Frame). g.cones) e }

pub goes_open : (fs gs : List Frame) (p : EndPoints) (f : Frame) (ls rs : List EndAt) (cs : List Cone) → IsHistory fs ls rs cs → IsHullOf (portals_of fs ++ p ∷ []) ls rs cs → f ≡ record { left = p.left; right = p.right; lefts = length ls; rights = length rs; cones = length cs } → gs ≡ fs ++ f ∷ []
    → GoesBy (portals_of fs) p gs ls rs cs (Ok told.Open)
goes_open fs gs p f ls rs cs h u e g = record {
  sleeve = subst (λ (xs : List Frame). IsSleeve xs ls rs cs) (sym g) (record { history = push_history fs f ls rs cs h (frame_counts p f ls rs cs e) (subst (λ q. IsHullOf (portals_of fs ++ q ∷ []) ls rs cs) (sym (ap ends_of_frame e)) u); exact = exact_push fs f ls rs cs (frame_counts p f ls rs cs e) });
  told = (ap portals_of g ∙ portals_next fs f ∙ ap (λ q. portals_of fs ++ q ∷ []) (ap ends_of_frame e), hull_splits (portals_of fs ++ p ∷ []) ls rs cs u);
}

-- the stacks may grow
pub grown_history : (fs : List Frame) (f : Frame) (ls rs ls' rs' : List EndAt) (cs cs' : List Cone) → IsSleeve fs ls rs cs → slice_get fs (length fs - 1) ≡ Some f → KeepsFirst (length ls) ls ls' → KeepsFirst (length rs) rs rs' → KeepsFirst (length cs) cs cs' → IsHistory fs ls' rs' cs'
grown_history fs f ls rs ls' rs' cs cs' h t kl kr kc =
    let n = h.exact f t in
    let a = n.lefts in
    let b = n.rights in
    let c = n.cones in
    stacks_moved fs f ls rs ls' rs' cs cs' t (keeps_less f.lefts (length ls) ls ls' (omega (arith, a)) kl) (keeps_less f.rights (length rs) rs rs' (omega (arith, b)) kr) (keeps_less f.cones (length cs) cs cs' (omega (arith, c)) kc) h.history

module _ (fs : List Frame) (ls rs : List EndAt) (cs cs' : List Cone) (h : IsSleeve fs ls rs cs) (few : length fs < RIGHT_END) (kept : KeepsFirst (length cs) cs cs') where
  -- a portal by a new right end
  pub goes_right : (gs : List Frame) (left : Pt) (new : EndAt) (f : Frame) (rs' : List EndAt) → HasLastLeft (portals_of fs) left → new.code ≡ length fs + RIGHT_END → rs' ≡ rs ++ new ∷ [] → IsTopCone ls (rs ++ new ∷ []) cs' → f ≡ record { left = left; right = new.at; lefts = length ls; rights = length rs'; cones = length cs' } → gs ≡ fs ++ f ∷ []
      → GoesBy (portals_of fs) (record { left = left; right = new.at }) gs ls rs' cs' (Ok told.Open)
  goes_right gs left new f rs' last code e top is g =
      let m = as_many fs in
      let b = slice_get_within (portals_of fs) (length (portals_of fs) - 1) last.0 last.1 in
      let some : 0 < length fs = omega (arith, b, m) in
      let t = get_there fs (length fs - 1) (omega (arith, some)) in
      let hull = whole fs ls rs cs h some in
      let old : CoversLeft ls hull.cone.0 left = subst (CoversLeft ls hull.cone.0) last.2 (hull.lefts_all (length (portals_of fs) - 1) last.0 last.1) in
      let at : CoversLeft ls top.0 left = (old.0, old.1, old.2, cone_wider ls rs ls (rs ++ new ∷ []) hull.cone.0 top.0 hull.cone.2 top.2 (λ e m. m) (λ e m. among_more rs (new ∷ []) e m) (difference left old.1.at) old.3) in
      let left_end : EndAt = record { code = length fs; at = left } in
      goes_open fs gs (record { left = left; right = new.at }) f ls rs' cs' (grown_history fs t.0 ls rs ls rs' cs cs' h t.1 (refl, omega arith) (subst (KeepsFirst (length rs) rs) (sym e) (kept_push rs new)) kept)
      (subst (λ (xs : List EndAt). IsHullOf (portals_of fs ++ record { left = left; right = new.at } ∷ []) ls xs cs') (sym e)
      (hull_more (portals_of fs) left_end new ls rs ls (rs ++ new ∷ []) cs cs' (sym m) (omega (arith, few, m)) (omega (arith, code, m)) hull top (inr (refl, at)) (inl refl))) is g

  -- a portal by a new left end
  pub goes_left : (gs : List Frame) (right : Pt) (new : EndAt) (f : Frame) (ls' : List EndAt) → HasLastRight (portals_of fs) right → new.code ≡ length fs → ls' ≡ ls ++ new ∷ [] → IsTopCone (ls ++ new ∷ []) rs cs' → f ≡ record { left = new.at; right = right; lefts = length ls'; rights = length rs; cones = length cs' } → gs ≡ fs ++ f ∷ []
      → GoesBy (portals_of fs) (record { left = new.at; right = right }) gs ls' rs cs' (Ok told.Open)
  goes_left gs right new f ls' last code e top is g =
      let m = as_many fs in
      let b = slice_get_within (portals_of fs) (length (portals_of fs) - 1) last.0 last.1 in
      let some : 0 < length fs = omega (arith, b, m) in
      let t = get_there fs (length fs - 1) (omega (arith, some)) in
      let hull = whole fs ls rs cs h some in
      let old : CoversRight rs hull.cone.0 right = subst (CoversRight rs hull.cone.0) last.2 (hull.rights_all (length (portals_of fs) - 1) last.0 last.1) in
      let at : CoversRight rs top.0 right = (old.0, old.1, old.2, cone_wider ls rs (ls ++ new ∷ []) rs hull.cone.0 top.0 hull.cone.2 top.2 (λ e m. among_more ls (new ∷ []) e m) (λ e m. m) (difference old.1.at right) old.3) in
      let right_end : EndAt = record { code = length fs + RIGHT_END; at = right } in
      goes_open fs gs (record { left = new.at; right = right }) f ls' rs cs' (grown_history fs t.0 ls rs ls' rs cs cs' h t.1 (subst (KeepsFirst (length ls) ls) (sym e) (kept_push ls new)) (refl, omega arith) kept)
      (subst (λ (xs : List EndAt). IsHullOf (portals_of fs ++ record { left = new.at; right = right } ∷ []) xs rs cs') (sym e)
      (hull_more (portals_of fs) new right_end ls rs (ls ++ new ∷ []) rs cs cs' (omega (arith, code, m)) (omega (arith, few, m)) (ap (λ (k : ℕ). k + RIGHT_END) (sym m)) hull top (inl refl) (inr (refl, at)))) is g

-- a portal whose new end another one covers
module _ (fs : List Frame) (ls rs : List EndAt) (cs : List Cone) (h : IsSleeve fs ls rs cs) (few : length fs < RIGHT_END) where
  pub goes_covered_right : (gs : List Frame) (left : Pt) (new : EndAt) (f : Frame) → HasLastLeft (portals_of fs) left → new.code ≡ length fs + RIGHT_END → IsCoveredRight rs cs new.at → f ≡ framed left new.at ls rs cs → gs ≡ fs ++ f ∷ []
      → GoesBy (portals_of fs) (record { left = left; right = new.at }) gs ls rs cs (Ok told.Open)
  goes_covered_right gs left new f last code cover is g =
      let m = as_many fs in
      let b = slice_get_within (portals_of fs) (length (portals_of fs) - 1) last.0 last.1 in
      let hull = whole fs ls rs cs h (omega (arith, b, m)) in
      let at : CoversLeft ls hull.cone.0 left = subst (CoversLeft ls hull.cone.0) last.2 (hull.lefts_all (length (portals_of fs) - 1) last.0 last.1) in
      let new_at : CoversRight rs hull.cone.0 new.at = subst (λ (c : Cone). CoversRight rs c new.at) (some_is_same cover.0 hull.cone.0 (sym cover.1 ∙ hull.cone.1)) cover.2 in
      let left_end : EndAt = record { code = length fs; at = left } in
      goes_open fs gs (record { left = left; right = new.at }) f ls rs cs h.history
      (hull_more (portals_of fs) left_end new ls rs ls rs cs cs (sym m) (omega (arith, few, m)) (omega (arith, code, m)) hull hull.cone (inr (refl, at)) (inr (refl, new_at))) is g

  pub goes_covered_left : (gs : List Frame) (right : Pt) (new : EndAt) (f : Frame) → HasLastRight (portals_of fs) right → new.code ≡ length fs → IsCoveredLeft ls cs new.at → f ≡ framed new.at right ls rs cs → gs ≡ fs ++ f ∷ []
      → GoesBy (portals_of fs) (record { left = new.at; right = right }) gs ls rs cs (Ok told.Open)
  goes_covered_left gs right new f last code cover is g =
      let m = as_many fs in
      let b = slice_get_within (portals_of fs) (length (portals_of fs) - 1) last.0 last.1 in
      let hull = whole fs ls rs cs h (omega (arith, b, m)) in
      let at : CoversRight rs hull.cone.0 right = subst (CoversRight rs hull.cone.0) last.2 (hull.rights_all (length (portals_of fs) - 1) last.0 last.1) in
      let new_at : CoversLeft ls hull.cone.0 new.at = subst (λ (c : Cone). CoversLeft ls c new.at) (some_is_same cover.0 hull.cone.0 (sym cover.1 ∙ hull.cone.1)) cover.2 in
      let right_end : EndAt = record { code = length fs + RIGHT_END; at = right } in
      goes_open fs gs (record { left = new.at; right = right }) f ls rs cs h.history
      (hull_more (portals_of fs) new right_end ls rs ls rs cs cs (omega (arith, code, m)) (omega (arith, few, m)) (ap (λ (k : ℕ). k + RIGHT_END) (sym m)) hull hull.cone (inr (refl, new_at)) (inr (refl, at))) is g

-- the first portal
no_history : (ls rs : List EndAt) (cs : List Cone) → IsHistory [] ls rs cs
no_history ls rs cs = record {
  frames = λ k f e. absurd (none_is_not_some f e);
  order = λ k m f g l e t. absurd (none_is_not_some f e);
}

pub no_sleeve : (fs : List Frame) (ls rs : List EndAt) (cs : List Cone) → fs ≡ [] → IsSleeve fs ls rs cs
no_sleeve fs ls rs cs e = subst (λ (xs : List Frame). IsSleeve xs ls rs cs) (sym e) (record { history = no_history ls rs cs; exact = λ f t. absurd (none_is_not_some f t) })

pub first_sleeve : (gs : List Frame) (left right : EndAt) (f : Frame) (ls rs : List EndAt) (cs : List Cone) → left.code ≡ 0 → right.code ≡ RIGHT_END → ls ≡ left ∷ [] → rs ≡ right ∷ [] → IsTopCone (left ∷ []) (right ∷ []) cs
    → f ≡ record { left = left.at; right = right.at; lefts = length ls; rights = length rs; cones = length cs } → gs ≡ f ∷ [] → IsSleeve gs ls rs cs
first_sleeve gs left right f ls rs cs lc rc el er top is g = (goes_open [] gs (record { left = left.at; right = right.at }) f ls rs cs (no_history ls rs cs) (hull_same (with_ends [] left right) (left ∷ []) (right ∷ []) ls rs cs cs el er refl (hull_first left right cs lc rc top)) is g).sleeve

-- ---- fewer portals
pub cut_back : (fs gs : List Frame) (top : Frame) (ls rs ls' rs' : List EndAt) (cs cs' : List Cone) → IsHistory fs ls rs cs → gs ≡ fs → slice_get fs (length fs - 1) ≡ Some top → ls' ≡ take top.lefts ls → rs' ≡ take top.rights rs → cs' ≡ take top.cones cs → IsSleeve gs ls' rs' cs'
cut_back fs gs top ls rs ls' rs' cs cs' h g t el er ec =
    let f = last_frame fs top ls rs cs h t in
    subst (λ (xs : List Frame). IsSleeve xs ls' rs' cs') (sym g) (record {
      history = stacks_moved fs top ls rs ls' rs' cs cs' t (keeps top.lefts ls ls' f.lefts_in el) (keeps top.rights rs rs' f.rights_in er) (keeps top.cones cs cs' f.cones_in ec) h;
      exact = λ x e. subst (CountsStacks ls' rs' cs') (some_is_same top x (sym t ∙ e)) (record { lefts = counts top.lefts ls ls' f.lefts_in el; rights = counts top.rights rs rs' f.rights_in er; cones = counts top.cones cs cs' f.cones_in ec });
    })
  where
    counts : {X : Type 0} (n : ℕ) (xs ys : List X) → n ≤ length xs → ys ≡ take n xs → n ≡ length ys
    counts n xs ys l e = sym (ap length e ∙ length-take-le n xs l)

    keeps : {X : Type 0} (n : ℕ) (xs ys : List X) → n ≤ length xs → ys ≡ take n xs → KeepsFirst n xs ys
    keeps n xs ys l e = (ap (take n) e ∙ take-take n n xs (omega arith), let k = counts n xs ys l e in omega (arith, k))

pub cut_to : (fs gs : List Frame) (n : ℕ) (top : Frame) (ls rs ls' rs' : List EndAt) (cs cs' : List Cone) → IsSleeve fs ls rs cs → gs ≡ take n fs → slice_get gs (length gs - 1) ≡ Some top → ls' ≡ take top.lefts ls → rs' ≡ take top.rights rs → cs' ≡ take top.cones cs → IsSleeve gs ls' rs' cs'
cut_to fs gs n top ls rs ls' rs' cs cs' h g t el er ec = cut_back gs gs top ls rs ls' rs' cs cs' (subst (λ (xs : List Frame). IsHistory xs ls rs cs) (sym g) (pop_history fs n ls rs cs h.history)) refl t el er ec

-- a portal that no line passes, or for which memory fails, leaves the others
pub goes_stuck : (fs gs : List Frame) (p : EndPoints) (ls rs : List EndAt) (cs : List Cone) (e : Evidence) → IsSleeve gs ls rs cs → gs ≡ fs → IsBarredBy (portals_of fs ++ p ∷ []) e → GoesBy (portals_of fs) p gs ls rs cs (Ok (told.Stuck e))
goes_stuck fs gs p ls rs cs e h g b = record { sleeve = h; told = (ap portals_of g, b) }

-- ---- portals with notes
pub as_many_frames : {N : Type 0} (xs : List (Noted N)) → length (frames_of xs) ≡ length xs
as_many_frames xs = length-map xs noted_frame

pub some_frames : {N : Type 0} (xs : List (Noted N)) → 0 < length xs → 0 < length (frames_of xs)
some_frames xs l = let m = as_many_frames xs in omega (arith, l, m)

pub frames_pushed : {N : Type 0} (xs : List (Noted N)) (x : Noted N) → frames_of (xs ++ x ∷ []) ≡ frames_of xs ++ x.frame ∷ []
frames_pushed xs x = map_pushed noted_frame xs x

pub notes_pushed : {N : Type 0} (xs : List (Noted N)) (x : Noted N) → map note_of (xs ++ x ∷ []) ≡ map note_of xs ++ x.note ∷ []
notes_pushed xs x = map_pushed note_of xs x

-- the last frame is that of the last portal
pub frame_there : {N : Type 0} (xs : List (Noted N)) (x : Noted N) → slice_get xs (length xs - 1) ≡ Some x → slice_get (frames_of xs) (length (frames_of xs) - 1) ≡ Some x.frame
frame_there xs x at = ap (λ (n : ℕ). slice_get (frames_of xs) (n - 1)) (as_many_frames xs) ∙ slice_get-map noted_frame xs (length xs - 1) ∙ ap (option_map noted_frame) at

-- the last portal, as it is read
pub last_noted : {N : Type 0} (xs ys : List (Noted N)) (n : ℕ) (x : Noted N) → ys ≡ xs → n ≡ length ys → 0 < length xs → x ≡ get_or ys (n - 1) x → slice_get (frames_of xs) (length (frames_of xs) - 1) ≡ Some x.frame
last_noted xs ys n x e k some g =
    let m : length ys ≡ length xs = ap length e in
    frame_there xs x (subst (λ zs. slice_get zs (length zs - 1) ≡ Some x) e (ap (slice_get ys) (omega (arith, k)) ∙ slice_get-get_or ys (n - 1) x (omega (arith, k, m, some)) ∙ ap (λ y. Some y) (sym g)))

-- the ends of the last portal, as they are read
pub last_ends : {N : Type 0} (xs : List (Noted N)) (x : Noted N) (n : ℕ) → n ≡ length xs → 0 < length xs → x ≡ get_or xs (n - 1) x → slice_get (portals_of (frames_of xs)) (length (portals_of (frames_of xs)) - 1) ≡ Some (ends_of_frame x.frame)
last_ends xs x n k some g = ap (λ (m : ℕ). slice_get (portals_of (frames_of xs)) (m - 1)) (as_many (frames_of xs)) ∙ slice_get-map ends_of_frame (frames_of xs) (length (frames_of xs) - 1) ∙ ap (option_map ends_of_frame) (last_noted xs xs n x refl k some g)

pub ends_of_last : {N : Type 0} (xs : List (Noted N)) (e : EndPoints) (x : Noted N) → slice_get (portals_of (frames_of xs)) (length (portals_of (frames_of xs)) - 1) ≡ Some e → x ≡ get_or xs (length xs - 1) x → ends_of_frame x.frame ≡ e
ends_of_last xs e x at g =
    let within = slice_get_within (portals_of (frames_of xs)) _ e at in
    let ends = as_many (frames_of xs) in
    let frames = as_many_frames xs in
    same_Some (ends_of_frame x.frame) e (sym (last_ends xs x (length xs) refl (omega (arith, within, ends, frames)) g) ∙ at)

-- the place of one more
pub placed : {N : Type 0} (xs ys : List (Noted N)) (n : ℕ) → ys ≡ xs → n ≡ length ys → n ≡ length (frames_of xs)
placed xs ys n e k = k ∙ ap length e ∙ sym (as_many_frames xs)

abbrev pub noted : {N : Type 0} → Frame → N → Noted N
noted f n = record { frame = f; note = n }

-- fewer of them have fewer ends and notes
pub fewer_ends : {N : Type 0} (xs ys : List (Noted N)) (n : ℕ) → ys ≡ take n xs → portals_of (frames_of ys) ≡ take n (portals_of (frames_of xs))
fewer_ends xs ys n e = ap (λ zs. portals_of (frames_of zs)) e ∙ ap portals_of (sym (take-map noted_frame n xs)) ∙ sym (take-map ends_of_frame n (frames_of xs))

pub fewer_notes : {N : Type 0} (xs ys : List (Noted N)) (n : ℕ) → ys ≡ take n xs → map note_of ys ≡ take n (map note_of xs)
fewer_notes xs ys n e = ap (map note_of) e ∙ sym (take-map note_of n xs)

-- what a search tells, where nothing was told before it
pub searched : (old mid new : List EndPoints) (e : EndPoints) (r : Result Passed Memory) → mid ≡ old → IsPortalTold mid e new (told_of_search r) → IsPortalPassed old e new r
searched old mid new e (Ok passed.Open) m h = subst (λ (es : List EndPoints). IsPortalPassed es e new (Ok passed.Open)) m h
searched old mid new e (Ok (passed.Stuck v)) m h = subst (λ (es : List EndPoints). IsPortalPassed es e new (Ok (passed.Stuck v))) m h
searched old mid new e (Err f) m h = h ∙ m

-- the note stands with the portal
pub goes_noted : {N : Type 0} (old new : List (Noted N)) (x : Noted N) (p : EndPoints) (ls rs : List EndAt) (cs : List Cone) → new ≡ old ++ x ∷ [] → GoesBy (portals_of (frames_of old)) p (frames_of new) ls rs cs (Ok told.Open) → GoesOnWithNote old x.note p new ls rs cs (Ok told.Open)
goes_noted old new x p ls rs cs is g = record { sleeve = g.sleeve; told = g.told; noted = ap (map note_of) is ∙ notes_pushed old x }

pub stays_stuck : {N : Type 0} (old new : List (Noted N)) (n : N) (p : EndPoints) (ls rs : List EndAt) (cs : List Cone) (e : Evidence) → new ≡ old → GoesBy (portals_of (frames_of old)) p (frames_of new) ls rs cs (Ok (told.Stuck e)) → GoesOnWithNote old n p new ls rs cs (Ok (told.Stuck e))
stays_stuck old new n p ls rs cs e is g = record { sleeve = g.sleeve; told = g.told; noted = ap (map note_of) is }

pub stays_err : {N : Type 0} (old new : List (Noted N)) (n : N) (p : EndPoints) (ls rs : List EndAt) (cs : List Cone) (e : Memory) → new ≡ old → IsSleeve (frames_of new) ls rs cs → GoesOnWithNote old n p new ls rs cs (Err e)
stays_err old new n p ls rs cs e is h = record { sleeve = h; told = ap (λ xs. portals_of (frames_of xs)) is; noted = ap (map note_of) is }

pub no_last_frame : {N : Type 0} (xs : List (Noted N)) → slice_get xs (length xs - 1) ≡ None → frames_of xs ≡ []
no_last_frame [] e = refl
no_last_frame (x ∷ xs) e =
    let t = get_there (x ∷ xs) (length (x ∷ xs) - 1) (omega arith) in
    absurd (none_is_not_some t.0 (sym e ∙ t.1))
