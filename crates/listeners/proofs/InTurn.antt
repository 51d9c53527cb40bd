-- A finding told to one listener after another.
use Rattle.std.proofs.Common.{◌≡◌, ◌∙◌, ℕ, ◌+◌, ◌<◌, ◌≤◌, set, Bool, true, false, cond, ◌&&◌, not, if◌then◌else◌, List, [], ◌∷◌, ◌++◌, length, take, drop, map, Option, refl, sym, ap, subst, arith, append_assoc}
use Rattle.std.proofs.lemmas.List.{map-append, append-nil, take-append-drop, take-set, drop-set, drop-set-lt, length-append, length-set, length-take-le, take_more_set}
use Rattle.std.proofs.Math.Seq.{drop-append_seam, take-append_seam}
use Rattle.std.proofs.lemmas.List.Elements.{AllZip-push, filter-append}
use Rattle.std.proofs.lemmas.List.Sums.{sum_by-append}
use Rattle.std.specs.List.{filter}
use Rattle.listeners.specs.declared.finding.Finding.{Finding}
use Rattle.listeners.specs.declared.finding.Keep.TheVariants as keep
use Rattle.listeners.specs.Listening.{ListenerState, is_last_for, is_quota, is_set_kind, keep_of, sets_in}
use Rattle.listeners.specs.Told.{HeardMore, IsFindingTold, TellsInPart, ends_with}

-- ---- whether it is the last

pub one_more : (fs : List Finding) (f : Finding) → sets_in (fs ++ f ∷ []) ≡ sets_in fs + cond (is_set_kind f.kind) 1 0
one_more fs f = sum_by-append (λ g. cond (is_set_kind g.kind) 1 0) fs (f ∷ []) ∙ (omega arith)

last_by : (b : Bool) (q : Option ℕ) (n m : ℕ) → m ≡ n + cond b 1 0 → b && is_quota q m ≡ b && is_quota q (n + 1)
last_by true q n m e = ap (is_quota q) e
last_by false q n m e = refl

-- by what it heard before or by what it has heard then
pub ends_as_last : (f : Finding) (s t : ListenerState) → HeardMore (f ∷ []) s t → ends_with f t ≡ is_last_for s f
ends_as_last f s t h =
    last_by (is_set_kind f.kind) t.quota (sets_in s.heard) (sets_in t.heard) (ap sets_in h.heard ∙ one_more s.heard f)
    ∙ ap (λ q. is_set_kind f.kind && is_quota q (sets_in s.heard + 1)) h.quota

stay_by : (b : Bool) → keep.Stay ≡ (if b then keep.Done else keep.Stay) → b ≡ false
stay_by false e = refl
stay_by true e = absurd cc

done_by : (b : Bool) → keep.Done ≡ (if b then keep.Done else keep.Stay) → b ≡ true
done_by true e = refl
done_by false e = absurd cc

pub stays : (f : Finding) (s t : ListenerState) → HeardMore (f ∷ []) s t → keep.Stay ≡ keep_of s f → ends_with f t ≡ false
stays f s t h e = ends_as_last f s t h ∙ stay_by (is_last_for s f) e

pub ends : (f : Finding) (s t : ListenerState) → HeardMore (f ∷ []) s t → keep.Done ≡ keep_of s f → ends_with f t ≡ true
ends f s t h e = ends_as_last f s t h ∙ done_by (is_last_for s f) e

-- ---- one listener more

pub told_none : (f : Finding) → IsFindingTold f [] [] []
told_none f = record { told = []; each = tt; left_is = refl; ended_is = refl }

passed : (p : ListenerState → Bool) (told : List ListenerState) (t : ListenerState) → p t ≡ true → filter p (told ++ t ∷ []) ≡ filter p told ++ t ∷ []
passed p told t e = filter-append p told (t ∷ []) ∙ ap (λ (b : Bool). filter p told ++ cond b (t ∷ []) []) e

stopped : (p : ListenerState → Bool) (told : List ListenerState) (t : ListenerState) → p t ≡ false → filter p (told ++ t ∷ []) ≡ filter p told
stopped p told t e = filter-append p told (t ∷ []) ∙ ap (λ (b : Bool). filter p told ++ cond b (t ∷ []) []) e ∙ append-nil (filter p told)

pub told_stay : (f : Finding) (front left ended : List ListenerState) (s t : ListenerState) → IsFindingTold f front left ended → HeardMore (f ∷ []) s t → ends_with f t ≡ false → IsFindingTold f (front ++ s ∷ []) (left ++ t ∷ []) ended
told_stay f front left ended s t h more e = record {
  told = h.told ++ t ∷ [];
  each = AllZip-push (HeardMore (f ∷ [])) front h.told s t h.each more;
  left_is = ap (λ l. l ++ t ∷ []) h.left_is ∙ sym (passed (λ u. not (ends_with f u)) h.told t (ap not e));
  ended_is = h.ended_is ∙ sym (stopped (ends_with f) h.told t e);
}

pub told_done : (f : Finding) (front left ended : List ListenerState) (s t : ListenerState) → IsFindingTold f front left ended → HeardMore (f ∷ []) s t → ends_with f t ≡ true → IsFindingTold f (front ++ s ∷ []) left (ended ++ t ∷ [])
told_done f front left ended s t h more e = record {
  told = h.told ++ t ∷ [];
  each = AllZip-push (HeardMore (f ∷ [])) front h.told s t h.each more;
  left_is = h.left_is ∙ sym (stopped (λ u. not (ends_with f u)) h.told t (ap not e));
  ended_is = ap (λ l. l ++ t ∷ []) h.ended_is ∙ sym (passed (ends_with f) h.told t e);
}

-- ---- the loop

behind_set : {X : Type 0} (xs : List X) (n : ℕ) (y : X) → drop (n + 1) (set xs n y) ≡ drop (n + 1) xs
behind_set xs n y = drop-set-lt (n + 1) xs n y (omega arith)

-- what a place is taken from, once it was written
pub cut_of_set : {X : Type 0} (xs after : List X) (n : ℕ) (y : X) → after ≡ take n (set xs n y) ++ drop (n + 1) (set xs n y) → after ≡ take n xs ++ drop (n + 1) xs
cut_of_set xs after n y e = e ∙ ap (λ (l : List _). l ++ drop (n + 1) (set xs n y)) (take-set xs n y) ∙ ap (λ (l : List _). take n xs ++ l) (behind_set xs n y)

front_cut : {X : Type 0} (xs : List X) (n : ℕ) → n ≤ length xs → take n (take n xs ++ drop (n + 1) xs) ≡ take n xs
front_cut xs n le = ap (λ (k : ℕ). take k (take n xs ++ drop (n + 1) xs)) (sym (length-take-le n xs le)) ∙ take-append_seam (take n xs) (drop (n + 1) xs)

behind_cut : {X : Type 0} (xs : List X) (n : ℕ) → n ≤ length xs → drop n (take n xs ++ drop (n + 1) xs) ≡ drop (n + 1) xs
behind_cut xs n le = ap (λ (k : ℕ). drop k (take n xs ++ drop (n + 1) xs)) (sym (length-take-le n xs le)) ∙ drop-append_seam (take n xs) (drop (n + 1) xs)

length_cut : {X : Type 0} (xs : List X) (n : ℕ) → n ≤ length xs → length (take n xs ++ drop (n + 1) xs) ≡ n + length (drop (n + 1) xs)
length_cut xs n le = length-append (take n xs) (drop (n + 1) xs) ∙ ap (λ (k : ℕ). k + length (drop (n + 1) xs)) (length-take-le n xs le)

-- the listeners in front of a place stayed, some ended, and those from it on weren't told yet
pub record IsOnWay {X : Type 0} (state : X → ListenerState) (f : Finding) (old new : List X) (at : ℕ) (ended_old ended_new : List X) : Type 0 where
  pub front : List ListenerState
  pub is : map state old ≡ front ++ map state (drop at new)
  pub within : at ≤ length new
  pub ended : List ListenerState
  pub told : IsFindingTold f front (map state (take at new)) ended
  pub ended_is : map state ended_new ≡ map state ended_old ++ ended

pub on_way : {X : Type 0} (state : X → ListenerState) (f : Finding) (list ended ended_new : List X) → ended_new ≡ ended → IsOnWay state f list list 0 ended ended_new
on_way state f list ended ended_new e = record {
  front = [];
  is = refl;
  within = omega arith;
  ended = [];
  told = told_none f;
  ended_is = ap (map state) e ∙ sym (append-nil (map state ended));
}

-- the next one stays
pub on_way_stay : {X : Type 0} (state : X → ListenerState) (f : Finding) (old new : List X) (at : ℕ) (x y : X) (ended_old ended_new : List X) → IsOnWay state f old new at ended_old ended_new → at < length new → drop at new ≡ x ∷ drop (at + 1) new
    → HeardMore (f ∷ []) (state x) (state y) → keep.Stay ≡ keep_of (state x) f → IsOnWay state f old (set new at y) (at + 1) ended_old ended_new
on_way_stay state f old new at x y ended_old ended_new h lt first more stay = record {
  front = h.front ++ state x ∷ [];
  is = h.is ∙ ap (λ (l : List _). h.front ++ map state l) (first ∙ ap (λ l. x ∷ l) (sym (behind_set new at y))) ∙ sym (append_assoc h.front (state x ∷ []) (map state (drop (at + 1) (set new at y))));
  within = omega (arith, lt, length-set new at y);
  ended = h.ended;
  told = subst (λ (l : List ListenerState). IsFindingTold f (h.front ++ state x ∷ []) l h.ended) (sym (map-append state (take at new) (y ∷ [])) ∙ ap (map state) (sym (take_more_set new at y lt)))
      (told_stay f h.front (map state (take at new)) h.ended (state x) (state y) h.told more (stays f (state x) (state y) more stay));
  ended_is = h.ended_is;
}

-- the next one ends, and goes
pub on_way_done : {X : Type 0} (state : X → ListenerState) (f : Finding) (old new after : List X) (at : ℕ) (x y : X) (ended_old ended_new : List X) → IsOnWay state f old new at ended_old ended_new → at < length new → drop at new ≡ x ∷ drop (at + 1) new
    → HeardMore (f ∷ []) (state x) (state y) → keep.Done ≡ keep_of (state x) f → after ≡ take at new ++ drop (at + 1) new → IsOnWay state f old after at ended_old (ended_new ++ y ∷ [])
on_way_done state f old new after at x y ended_old ended_new h lt first more done is = record {
  front = h.front ++ state x ∷ [];
  is = h.is ∙ ap (λ (l : List _). h.front ++ map state l) first ∙ sym (append_assoc h.front (state x ∷ []) (map state (drop (at + 1) new))) ∙ ap (λ (l : List _). (h.front ++ state x ∷ []) ++ map state l) (sym (behind_cut new at (omega (arith, lt))) ∙ ap (drop at) (sym is));
  within = omega (arith, ap length is, length_cut new at (omega (arith, lt)));
  ended = h.ended ++ state y ∷ [];
  told = subst (λ (l : List ListenerState). IsFindingTold f (h.front ++ state x ∷ []) l (h.ended ++ state y ∷ [])) (ap (map state) (sym (front_cut new at (omega (arith, lt))) ∙ ap (take at) (sym is)))
      (told_done f h.front (map state (take at new)) h.ended (state x) (state y) h.told more (ends f (state x) (state y) more done));
  ended_is = map-append state ended_new (y ∷ []) ∙ ap (λ l. l ++ state y ∷ []) h.ended_is ∙ append_assoc (map state ended_old) h.ended (state y ∷ []);
}

-- the next one found no memory: it is as before
pub told_in_part : {X : Type 0} (state : X → ListenerState) (f : Finding) (old new : List X) (at : ℕ) (y : X) (ended_old ended_new : List X) (x : X) → IsOnWay state f old new at ended_old ended_new → at < length new → drop at new ≡ x ∷ drop (at + 1) new → state y ≡ state x
    → TellsInPart f (map state old) (map state (set new at y)) (map state ended_old) (map state ended_new)
told_in_part state f old new at y ended_old ended_new x h lt first same = record {
  ended = h.ended;
  told = record {
    front = h.front;
    behind = map state (drop at new);
    is = h.is;
    stay = map state (take at new);
    told = h.told;
    left_is = ap (map state) (sym (take-append-drop at (set new at y))) ∙ map-append state (take at (set new at y)) (drop at (set new at y))
        ∙ ap (λ (l : List _). map state l ++ map state (drop at (set new at y))) (take-set new at y)
        ∙ ap (λ (l : List _). map state (take at new) ++ map state l) (drop-set new at y lt)
        ∙ ap (λ (s : ListenerState). map state (take at new) ++ s ∷ map state (drop (at + 1) new)) same
        ∙ ap (λ (l : List _). map state (take at new) ++ map state l) (sym first);
  };
  ended_is = h.ended_is;
}

-- nobody was told
pub untold : {X : Type 0} (state : X → ListenerState) (f : Finding) (list ended ended_new : List X) → ended_new ≡ ended → TellsInPart f (map state list) (map state list) (map state ended) (map state ended_new)
untold state f list ended ended_new e = record {
  ended = [];
  told = record { front = []; behind = map state list; is = refl; stay = []; told = told_none f; left_is = refl };
  ended_is = ap (map state) e ∙ sym (append-nil (map state ended));
}
