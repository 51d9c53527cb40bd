-- What the stacks have of portals, with one more portal and with fewer.
use Rattle.std.proofs.Common.{◌≡◌, ℕ, ◌+◌, ◌-◌, ◌<◌, ◌≤◌, List, [], ◌∷◌, ◌++◌, length, take, Option, Some, None, sym, ap, ◌∙◌, arith, ◌⊎◌, inl, inr, subst}
use Rattle.std.specs.Prelude.{slice_get, MatchOption}
use Rattle.std.proofs.lemmas.Option.{slice_get_within}
use Rattle.std.proofs.lemmas.List.{length-map, take-map, take_all, take-take, take-append-le}
use Rattle.sight_names.specs.declared.limits.TheConstants.{RIGHT_END}
use Rattle.sight_names.specs.declared.names.EndAt.{EndAt}
use Rattle.sight_names.specs.declared.names.EndPair.{EndPair}
use Rattle.sight_names.specs.Splitting.{EndPoints}
use Rattle.geom_exact.specs.declared.extreme_lines.cone.Cone.{Cone}
use Rattle.stab_hull.specs.declared.frame.Frame.{Frame}
use Rattle.stab_hull.specs.Portals.{ends_of_frame, portals_of, with_ends, ShowsNoLine}
use Rattle.stab_hull.specs.Stacks.{KeepsFirst, AreStuckAmong, IsTopCone, IsEndAdded, IsHullOf}
use Rattle.stab_hull.specs.History.{CountsStacks, IsHistory, IsFrameOf, IsFrameWithin}
use Rattle.stab_hull.proofs.HullLemmas.{hull_more, hull_stuck, taken_left, taken_right}
use Rattle.stab_hull.proofs.StepLemmas.{none_part, some_part}
use Rattle.math_base.proofs.Lists.{length_pushed, get_take, map_pushed, pushed_at}

pub as_many : (fs : List Frame) → length (portals_of fs) ≡ length fs
as_many fs = length-map fs ends_of_frame

pub portals_next : (fs : List Frame) (f : Frame) → portals_of (fs ++ f ∷ []) ≡ portals_of fs ++ ends_of_frame f ∷ []
portals_next fs f = map_pushed ends_of_frame fs f

-- ---- stacks that change above what the frames say
pub keeps_less : {X : Type 0} (m n : ℕ) (xs ys : List X) → m ≤ n → KeepsFirst n xs ys → KeepsFirst m xs ys
keeps_less m n xs ys l h = (sym (take-take m n ys l) ∙ ap (take m) h.0 ∙ take-take m n xs l, let k = h.1 in omega (arith, k, l))

pub hull_same : (es : List EndPoints) (a b a' b' : List EndAt) (c c' : List Cone) → a' ≡ a → b' ≡ b → c' ≡ c → IsHullOf es a b c → IsHullOf es a' b' c'
hull_same es a b a' b' c c' ea eb ec h = subst (λ (x : List EndAt). IsHullOf es x b' c') (sym ea) (subst (λ (x : List EndAt). IsHullOf es a x c') (sym eb) (subst (λ (x : List Cone). IsHullOf es a b x) (sym ec) h))

frame_moved : (es : List EndPoints) (f : Frame) (ls rs ls' rs' : List EndAt) (cs cs' : List Cone) → KeepsFirst f.lefts ls ls' → KeepsFirst f.rights rs rs' → KeepsFirst f.cones cs cs' → IsFrameOf es ls rs cs f → IsFrameOf es ls' rs' cs' f
frame_moved es f ls rs ls' rs' cs cs' kl kr kc h = record {
  lefts_in = kl.1;
  rights_in = kr.1;
  cones_in = kc.1;
  hull = hull_same es (take f.lefts ls) (take f.rights rs) (take f.lefts ls') (take f.rights rs') (take f.cones cs) (take f.cones cs') kl.0 kr.0 kc.0 h.hull;
}

pub stacks_moved : (fs : List Frame) (top : Frame) (ls rs ls' rs' : List EndAt) (cs cs' : List Cone) → slice_get fs (length fs - 1) ≡ Some top → KeepsFirst top.lefts ls ls' → KeepsFirst top.rights rs rs' → KeepsFirst top.cones cs cs'
    → IsHistory fs ls rs cs → IsHistory fs ls' rs' cs'
stacks_moved fs top ls rs ls' rs' cs cs' t kl kr kc h = record {
  frames = λ k f e.
      let b = slice_get_within fs k f e in
      let w = h.order k (length fs - 1) f top (omega (arith, b)) e t in
      frame_moved (take (k + 1) (portals_of fs)) f ls rs ls' rs' cs cs' (keeps_less f.lefts top.lefts ls ls' w.lefts kl) (keeps_less f.rights top.rights rs rs' w.rights kr) (keeps_less f.cones top.cones cs cs' w.cones kc) (h.frames k f e);
  order = h.order;
}

-- ---- one more frame
start_next : (fs : List Frame) (f : Frame) (n : ℕ) → n ≤ length fs → take n (portals_of (fs ++ f ∷ [])) ≡ take n (portals_of fs)
start_next fs f n h = ap (take n) (portals_next fs f) ∙ take-append-le n (portals_of fs) (ends_of_frame f ∷ []) (let e = as_many fs in omega (arith, e, h))

whole_next : (fs : List Frame) (f : Frame) → take (length fs + 1) (portals_of (fs ++ f ∷ [])) ≡ portals_of fs ++ ends_of_frame f ∷ []
whole_next fs f = ap (take (length fs + 1)) (portals_next fs f) ∙ take_all (length fs + 1) (portals_of fs ++ ends_of_frame f ∷ []) (let e = length_pushed (portals_of fs) (ends_of_frame f) in let m = as_many fs in omega (arith, e, m))

pub push_history : (fs : List Frame) (f : Frame) (ls rs : List EndAt) (cs : List Cone) → IsHistory fs ls rs cs → CountsStacks ls rs cs f → IsHullOf (portals_of fs ++ ends_of_frame f ∷ []) ls rs cs → IsHistory (fs ++ f ∷ []) ls rs cs
push_history fs f ls rs cs h n s = record {
  frames = λ k g e. by k g e (pushed_at fs f g k e);
  order = λ k m g i l e t. ordered k m g i l e t (pushed_at fs f g k e) (pushed_at fs f i m t);
}
  where
    has : IsFrameOf (portals_of fs ++ ends_of_frame f ∷ []) ls rs cs f
    has =
        let el = n.lefts in
        let er = n.rights in
        let ec = n.cones in
        record {
          lefts_in = omega (arith, el);
          rights_in = omega (arith, er);
          cones_in = omega (arith, ec);
          hull = hull_same (portals_of fs ++ ends_of_frame f ∷ []) ls rs (take f.lefts ls) (take f.rights rs) cs (take f.cones cs) (take_all f.lefts ls (omega (arith, el))) (take_all f.rights rs (omega (arith, er))) (take_all f.cones cs (omega (arith, ec))) s;
        }

    by : (k : ℕ) (g : Frame) → slice_get (fs ++ f ∷ []) k ≡ Some g → (slice_get fs k ≡ Some g) ⊎ ((k ≡ length fs) × (f ≡ g)) → IsFrameOf (take (k + 1) (portals_of (fs ++ f ∷ []))) ls rs cs g
    by k g e (inl t) = let b = slice_get_within fs k g t in subst (λ (es : List EndPoints). IsFrameOf es ls rs cs g) (sym (start_next fs f (k + 1) (omega (arith, b)))) (h.frames k g t)
    by k g e (inr t) =
        subst (λ (g : Frame). IsFrameOf (take (k + 1) (portals_of (fs ++ f ∷ []))) ls rs cs g) t.1
        (subst (λ (m : ℕ). IsFrameOf (take (m + 1) (portals_of (fs ++ f ∷ []))) ls rs cs f) (sym t.0)
        (subst (λ (es : List EndPoints). IsFrameOf es ls rs cs f) (sym (whole_next fs f)) has))

    within : (g : Frame) → g.lefts ≤ length ls → g.rights ≤ length rs → g.cones ≤ length cs → IsFrameWithin g f
    within g a b c = let el = n.lefts in let er = n.rights in let ec = n.cones in record { lefts = omega (arith, el, a); rights = omega (arith, er, b); cones = omega (arith, ec, c) }

    ordered : (k m : ℕ) (g i : Frame) → k ≤ m → slice_get (fs ++ f ∷ []) k ≡ Some g → slice_get (fs ++ f ∷ []) m ≡ Some i → (slice_get fs k ≡ Some g) ⊎ ((k ≡ length fs) × (f ≡ g)) → (slice_get fs m ≡ Some i) ⊎ ((m ≡ length fs) × (f ≡ i)) → IsFrameWithin g i
    ordered k m g i l e t (inl s) (inl u) = h.order k m g i l s u
    ordered k m g i l e t (inl s) (inr u) = let w = h.frames k g s in subst (IsFrameWithin g) u.1 (within g w.lefts_in w.rights_in w.cones_in)
    ordered k m g i l e t (inr s) (inl u) = let a = s.0 in let b = slice_get_within fs m i u in absurd (omega (arith, a, b, l))
    ordered k m g i l e t (inr s) (inr u) = subst (IsFrameWithin g) u.1 (subst (λ (g : Frame). IsFrameWithin g f) s.1 (within f has.lefts_in has.rights_in has.cones_in))

-- ---- fewer frames
start_take : (fs : List Frame) (m n : ℕ) → m ≤ n → take m (portals_of (take n fs)) ≡ take m (portals_of fs)
start_take fs m n h = ap (take m) (sym (take-map ends_of_frame n fs)) ∙ take-take m n (portals_of fs) h

pub pop_history : (fs : List Frame) (n : ℕ) (ls rs : List EndAt) (cs : List Cone) → IsHistory fs ls rs cs → IsHistory (take n fs) ls rs cs
pop_history fs n ls rs cs h = record {
  frames = λ k f e. let t = get_take n fs k f e in let b = t.0 in subst (λ (es : List EndPoints). IsFrameOf es ls rs cs f) (sym (start_take fs (k + 1) n (omega (arith, b)))) (h.frames k f t.1);
  order = λ k m f g i e t. h.order k m f g i (get_take n fs k f e).1 (get_take n fs m g t).1;
}

-- ---- the last frame is that of all portals
pub last_frame : (fs : List Frame) (f : Frame) (ls rs : List EndAt) (cs : List Cone) → IsHistory fs ls rs cs → slice_get fs (length fs - 1) ≡ Some f → IsFrameOf (portals_of fs) ls rs cs f
last_frame fs f ls rs cs h t =
    let b = slice_get_within fs (length fs - 1) f t in
    let m = as_many fs in
    subst (λ (es : List EndPoints). IsFrameOf es ls rs cs f) (take_all (length fs - 1 + 1) (portals_of fs) (omega (arith, b, m))) (h.frames (length fs - 1) f t)

-- ---- one more portal, whose ends are added or stuck
module _ (fs : List Frame) (left right : EndAt) (ls rs ls' rs' : List EndAt) (cs cs' : List Cone) (lc : left.code ≡ length fs) (few : length fs < RIGHT_END) (rc : right.code ≡ length fs + RIGHT_END) (h : IsHullOf (portals_of fs) ls rs cs)
    (stuck : Option (List EndPair)) (told : MatchOption stuck (IsTopCone ls' rs' cs' × IsEndAdded ls left ls' × IsEndAdded rs right rs') (λ pairs. AreStuckAmong (ls ++ left ∷ []) (rs ++ right ∷ []) pairs)) where
  pub hull_added : stuck ≡ None → IsHullOf (with_ends (portals_of fs) left right) ls' rs' cs'
  hull_added e =
      let m = as_many fs in
      let t = none_part (IsTopCone ls' rs' cs' × IsEndAdded ls left ls' × IsEndAdded rs right rs') (λ pairs. AreStuckAmong (ls ++ left ∷ []) (rs ++ right ∷ []) pairs) stuck e told in
      hull_more (portals_of fs) left right ls rs ls' rs' cs cs' (omega (arith, lc, m)) (omega (arith, few, m)) (omega (arith, rc, m)) h t.0 (taken_left t.0.0 ls ls' left t.1) (taken_right t.0.0 rs rs' right t.2)

  pub pairs_shown : (pairs : List EndPair) → stuck ≡ Some pairs → ShowsNoLine (with_ends (portals_of fs) left right) pairs
  pairs_shown pairs e =
      let m = as_many fs in
      let s = some_part (IsTopCone ls' rs' cs' × IsEndAdded ls left ls' × IsEndAdded rs right rs') (λ pairs. AreStuckAmong (ls ++ left ∷ []) (rs ++ right ∷ []) pairs) stuck pairs e told in
      hull_stuck (portals_of fs) left right ls rs pairs (omega (arith, lc, m)) (omega (arith, few, m)) (omega (arith, rc, m)) h.left_ends h.right_ends s
