-- A flood over gates comes to all that lies beyond a gate, and to nothing else.
use Rattle.std.proofs.Common.{◌≡◌, ℕ, zero, suc, ◌+◌, ◌<◌, ◌≤◌, ◌⊎◌, ◌↔◌, inl, inr, List, [], ◌∷◌, ◌++◌, length, slice_get, slice_index_or, Some, Bool, true, false, not, cond, refl, sym, ap, ◌∙◌, subst, arith, set, length-set, length-append, get_or-set_same, get_or-set_other, replicate, Contains}
use Rattle.std.specs.List.{count_by}
use Rattle.std.proofs.lemmas.List.{length-replicate}
use Rattle.std.proofs.lemmas.List.Sums.{sum_by-set, sum_by-cons}
use Rattle.std.proofs.lemmas.Option.{slice_get_within, same_Some}
use Rattle.sight_names.proofs.Lists.{contains_of_get, get_of_contains}
use Rattle.math_base.proofs.Bools.{not_both_values}
use Rattle.math_base.proofs.Numbers.{below_or_last, same_or_not}
use Rattle.math_base.proofs.Lists.{get_before_pushed, get_pushed, pushed_at}
use Rattle.gate_floods.specs.declared.gate_masks.gate.Gate.{Gate}
use Rattle.gate_floods.specs.GateMasks.Following.{GateFollows}
use Rattle.gate_floods.specs.GateMasks.Flood.{AreWaysOn, LiesBeyond, here, further, is_marked, IsFlood, IsQueued, IsFloodStep}

-- ---- marks

mark_new : (marks : List Bool) (c : ℕ) → c < length marks → is_marked (set marks c true) c ≡ true
mark_new marks c lt = get_or-set_same marks c true false lt

marked_before : (marks : List Bool) (c k : ℕ) → c < length marks → is_marked (set marks c true) k ≡ true → (k ≡ c) ⊎ (is_marked marks k ≡ true)
marked_before marks c k lt h = elim (same_or_not k c) as (λ _. (k ≡ c) ⊎ (is_marked marks k ≡ true)) [
  | inl e ↦ inl e
  | inr n ↦ inr (sym (get_or-set_other marks c k true false n) ∙ h)
]

mark_kept : (marks : List Bool) (c k : ℕ) → c < length marks → is_marked marks k ≡ true → is_marked (set marks c true) k ≡ true
mark_kept marks c k lt h = elim (same_or_not k c) as (λ _. is_marked (set marks c true) k ≡ true) [
  | inl e ↦ subst (λ (j : ℕ). is_marked (set marks c true) j ≡ true) (sym e) (mark_new marks c lt)
  | inr n ↦ get_or-set_other marks c k true false n ∙ h
]

count_less : (marks : List Bool) (c : ℕ) → c < length marks → is_marked marks c ≡ false → count_by not (set marks c true) + 1 ≡ count_by not marks
count_less marks c h e =
    let s = sum_by-set (λ (o : Bool). cond (not o) 1 0) marks c true false h in
    let f : ◌≡◌ {A = ℕ} (cond (not (slice_index_or marks c false)) 1 0) 1 = ap (λ (o : Bool). cond (not o) 1 0) e in
    omega (arith, s, f)

count_all : (n : ℕ) → count_by not (replicate n false) ≡ n
count_all zero = refl
count_all (suc n) = let w = count_all n in let s = sum_by-cons (λ (o : Bool). cond (not o) 1 0) false (replicate n false) in omega (arith, w, s)

no_mark : (n k : ℕ) → is_marked (replicate n false) k ≡ false
no_mark zero k = refl
no_mark (suc n) zero = refl
no_mark (suc n) (suc k) = no_mark n k

pub marked_within : (ms : List Bool) (k : ℕ) → is_marked ms k ≡ true → k < length ms
marked_within [] k e = absurd (not_both_values false e refl)
marked_within (m ∷ ms) zero e = omega arith
marked_within (m ∷ ms) (suc k) e = let w = marked_within ms k e in omega (arith, w)

-- ---- a flood

module _ (es : List Gate) (Seen : ℕ → Type 0) (gate : Gate) where
  -- one more sector
  pub put_flood : (c : ℕ) (marks marks' : List Bool) (queue queue' : List ℕ) (h : ℕ) → c < length marks → h ≤ length queue → LiesBeyond es Seen gate c → is_marked marks c ≡ false → IsQueued c marks queue marks' queue'
      → IsFlood es Seen gate marks queue h → IsFlood es Seen gate marks' queue' h
  put_flood c marks marks' queue queue' h lt le lies fresh put f =
      subst (λ (ms : List Bool). IsFlood es Seen gate ms queue' h) (sym put.marked) (subst (λ (q : List ℕ). IsFlood es Seen gate (set marks c true) q h) (sym put.queued) all)
    where
      all : IsFlood es Seen gate (set marks c true) (queue ++ c ∷ []) h
      all = record {
        far = mark_kept marks c gate.far lt f.far;
        marked = λ i k at. elim (pushed_at queue c k i at) as (λ _. is_marked (set marks c true) k ≡ true) [
          | inl e ↦ mark_kept marks c k lt (f.marked i k e)
          | inr e ↦ subst (λ (j : ℕ). is_marked (set marks c true) j ≡ true) e.1 (mark_new marks c lt)
        ];
        queued = λ k m. elim (marked_before marks c k lt m) as (λ _. (i : ℕ) × (slice_get (queue ++ c ∷ []) i ≡ Some k)) [
          | inl e ↦ (length queue, get_pushed queue c ∙ ap (λ (j : ℕ). Some j) (sym e))
          | inr e ↦ let w = f.queued k e in (w.0, get_before_pushed queue c k w.0 w.1)
        ];
        beyond = λ i k at. elim (pushed_at queue c k i at) as (λ _. LiesBeyond es Seen gate k) [
          | inl e ↦ f.beyond i k e
          | inr e ↦ subst (LiesBeyond es Seen gate) e.1 lies
        ];
        closed = λ i e less at seen there may. elim (pushed_at queue c e.near i at) as (λ _. is_marked (set marks c true) e.far ≡ true) [
          | inl old ↦ mark_kept marks c e.far lt (f.closed i e less old seen there may)
          | inr new ↦ let v = new.0 in absurd (omega (arith, v, less, le))
        ];
        count = let a = count_less marks c lt fresh in let b = f.count in simp (length-append, length-set) (omega (arith, a, b));
      }

  -- the beginning: the gate's far sector alone
  begun_flood : (n : ℕ) (marks : List Bool) (queue : List ℕ) → gate.far < n → marks ≡ set (replicate n false) gate.far true → queue ≡ gate.far ∷ [] → IsFlood es Seen gate marks queue 0
  begun_flood n marks queue lt marks_is queue_is =
      subst (λ (ms : List Bool). IsFlood es Seen gate ms queue 0) (sym marks_is) (subst (λ (q : List ℕ). IsFlood es Seen gate (set (replicate n false) gate.far true) q 0) (sym queue_is) all)
    where
      len : length (replicate n false) ≡ n
      len = length-replicate n false

      inside : gate.far < length (replicate n false)
      inside = let e = len in omega (arith, e, lt)

      only : (i k : ℕ) → slice_get (gate.far ∷ []) i ≡ Some k → gate.far ≡ k
      only zero k e = same_Some gate.far k e
      only (suc i) k e = absurd (no i k e)
        where
          no : (i k : ℕ) → slice_get (let none : List ℕ = [] in none) i ≡ Some k → ⊥
          no i k e = cc

      all : IsFlood es Seen gate (set (replicate n false) gate.far true) (gate.far ∷ []) 0
      all = record {
        far = mark_new (replicate n false) gate.far inside;
        marked = λ i k at. subst (λ (j : ℕ). is_marked (set (replicate n false) gate.far true) j ≡ true) (only i k at) (mark_new (replicate n false) gate.far inside);
        queued = λ k m. elim (marked_before (replicate n false) gate.far k inside m) as (λ _. (i : ℕ) × (slice_get (gate.far ∷ []) i ≡ Some k)) [
          | inl e ↦ (0, ap (λ (j : ℕ). Some j) (sym e))
          | inr e ↦ absurd (not_both_values (is_marked (replicate n false) k) e (no_mark n k))
        ];
        beyond = λ i k at. here (sym (only i k at));
        closed = λ i e less. absurd (omega (arith, less));
        count = let a = count_less (replicate n false) gate.far inside (no_mark n gate.far) in let b = count_all n in simp length-set (omega (arith, a, b, len));
      }

  pub begun_put : (n : ℕ) (marks marks' : List Bool) (queue queue' : List ℕ) → gate.far < n → marks ≡ replicate n false → queue ≡ [] → IsQueued gate.far marks queue marks' queue' → IsFlood es Seen gate marks' queue' 0
  begun_put n marks marks' queue queue' lt all none put = begun_flood n marks' queue' lt (put.marked ∙ ap (λ (ms : List Bool). set ms gate.far true) all) (put.queued ∙ ap (λ (q : List ℕ). q ++ gate.far ∷ []) none)

  -- the head moves on, where all is marked that may be reached from it
  pub advanced : (marks : List Bool) (queue : List ℕ) (h x : ℕ) → IsFlood es Seen gate marks queue h → slice_get queue h ≡ Some x → ((e : Gate) → e.near ≡ x → Seen x → Contains es e → GateFollows gate e → is_marked marks e.far ≡ true) → IsFlood es Seen gate marks queue (h + 1)
  advanced marks queue h x f at every = record {
    far = f.far;
    marked = f.marked;
    queued = f.queued;
    beyond = f.beyond;
    closed = λ i e less there seen is may. elim (below_or_last i h less) as (λ _. is_marked marks e.far ≡ true) [
      | inl old ↦ f.closed i e old there seen is may
      | inr same ↦
          let near : e.near ≡ x = same_Some e.near x (sym there ∙ ap (slice_get queue) same ∙ at) in
          every e near (subst Seen near seen) is may
    ];
    count = f.count;
  }

  -- what is known when the gates before place n, of those out of the head's sector, were passed
  pub record IsSettling (start marks : List Bool) (queue : List ℕ) (h x : ℕ) (found : List Gate) (n : ℕ) : Type 0 where
    pub flood : IsFlood es Seen gate marks queue h
    pub len : length marks ≡ length start
    pub at : slice_get queue h ≡ Some x
    pub reached : (k : ℕ) (e : Gate) → k < n → slice_get found k ≡ Some e → GateFollows gate e → is_marked marks e.far ≡ true

  pub settling_begun : (marks : List Bool) (queue : List ℕ) (h x : ℕ) (found : List Gate) → IsFlood es Seen gate marks queue h → slice_get queue h ≡ Some x → IsSettling marks marks queue h x found 0
  settling_begun marks queue h x found f at = record { flood = f; len = refl; at = at; reached = λ k e lt. absurd (omega (arith, lt)) }

  pub settling_step : (start marks marks' : List Bool) (queue queue' : List ℕ) (h x : ℕ) (found : List Gate) (n : ℕ) (e : Gate) → AreWaysOn es Seen x found → slice_get found n ≡ Some e → e.far < length marks
      → IsFloodStep gate e marks queue marks' queue' → IsSettling start marks queue h x found n → IsSettling start marks' queue' h x found (n + 1)
  settling_step start marks marks' queue queue' h x found n e from got lt (inl (fresh, may, put)) s =
      let own = (from e).0 (contains_of_get found e n got) in
      let inside = slice_get_within queue h x s.at in
      let lies : LiesBeyond es Seen gate e.far = further e (subst (LiesBeyond es Seen gate) (sym own.1) (s.flood.beyond h x s.at)) (subst Seen (sym own.1) own.2) own.0 may refl in
      record {
        flood = put_flood e.far marks marks' queue queue' h lt (omega (arith, inside)) lies fresh put s.flood;
        len = ap length put.marked ∙ length-set marks e.far true ∙ s.len;
        at = subst (λ (q : List ℕ). slice_get q h ≡ Some x) (sym put.queued) (get_before_pushed queue e.far x h s.at);
        reached = λ k d less is follows. subst (λ (ms : List Bool). is_marked ms d.far ≡ true) (sym put.marked) (elim (below_or_last k n less) as (λ _. is_marked (set marks e.far true) d.far ≡ true) [
          | inl l ↦ mark_kept marks e.far d.far lt (s.reached k d l is follows)
          | inr same ↦ let q : e ≡ d = same_Some e d (sym got ∙ ap (slice_get found) (sym same) ∙ is) in subst (λ (g : Gate). is_marked (set marks e.far true) g.far ≡ true) q (mark_new marks e.far lt)
        ]);
      }
  settling_step start marks marks' queue queue' h x found n e from got lt (inr (why, same_marks, same_queue)) s =
      subst (λ (ms : List Bool). IsSettling start ms queue' h x found (n + 1)) (sym same_marks) (subst (λ (q : List ℕ). IsSettling start marks q h x found (n + 1)) (sym same_queue) (record {
        flood = s.flood;
        len = s.len;
        at = s.at;
        reached = λ k d less is follows. elim (below_or_last k n less) as (λ _. is_marked marks d.far ≡ true) [
          | inl l ↦ s.reached k d l is follows
          | inr same ↦
              let q : e ≡ d = same_Some e d (sym got ∙ ap (slice_get found) (sym same) ∙ is) in
              elim why as (λ _. is_marked marks d.far ≡ true) [
                | inl marked ↦ subst (λ (g : Gate). is_marked marks g.far ≡ true) q marked
                | inr never ↦ absurd (never (subst (GateFollows gate) (sym q) follows))
              ]
        ];
      }))

  pub all_settled : (start marks : List Bool) (queue : List ℕ) (h x : ℕ) (found : List Gate) (n : ℕ) → AreWaysOn es Seen x found → length found ≤ n → IsSettling start marks queue h x found n → IsFlood es Seen gate marks queue (h + 1)
  all_settled start marks queue h x found n from past s = advanced marks queue h x s.flood s.at (λ e near seen there may.
      let c = (from e).1 (there, near, seen) in
      let lt = c.1 in
      s.reached c.0 e (omega (arith, lt, past)) (get_of_contains found e c.0 c.1 c.2) may)

  -- the end
  module _ (marks : List Bool) (queue : List ℕ) (h : ℕ) (f : IsFlood es Seen gate marks queue h) (past : length queue ≤ h) where
    all_marked : (c : ℕ) → LiesBeyond es Seen gate c → is_marked marks c ≡ true
    all_marked c (here e) = subst (λ (k : ℕ). is_marked marks k ≡ true) (sym e) f.far
    all_marked c (further e lies seen there may is) =
        let w = f.queued e.near (all_marked e.near lies) in
        let lt = slice_get_within queue w.0 e.near w.1 in
        subst (λ (k : ℕ). is_marked marks k ≡ true) (sym is) (f.closed w.0 e (omega (arith, lt, past)) w.1 seen there may)

    pub flooded : (c : ℕ) → Contains queue c ↔ LiesBeyond es Seen gate c
    flooded c = (
      (λ (there : Contains queue c). f.beyond there.0 c (get_of_contains queue c there.0 there.1 there.2)),
      (λ (lies : LiesBeyond es Seen gate c). let w = f.queued c (all_marked c lies) in contains_of_get queue c w.0 w.1),
    )

  pub queue_within : (marks : List Bool) (queue : List ℕ) (h : ℕ) → IsFlood es Seen gate marks queue h → (c : ℕ) → Contains queue c → c < length marks
  queue_within marks queue h f c there = marked_within marks c (f.marked there.0 c (get_of_contains queue c there.0 there.1 there.2))
