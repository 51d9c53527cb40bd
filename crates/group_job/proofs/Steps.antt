-- The steps by which tables of sectors are made.
use Rattle.std.proofs.Common.{◌≡◌, ℕ, ◌⊎◌, inl, inr, List, length, slice_get, Contains, Some, refl, sym, ap, ◌∙◌, subst}
use Rattle.std.proofs.lemmas.Option.{same_Some, slice_get_within}
use Rattle.sight_names.specs.declared.names.Pair.{Pair}
use Rattle.sight_names.specs.Groups.{IsInGroup}
use Rattle.face_groups.proofs.GroupsBase.Ordered.{at_contains, contains_at}
use Rattle.pair_budget.proofs.FoundSectorsLaws.{pair_is}
use Rattle.reject_bits.specs.Parts.{TableParts, Rejects}
use Rattle.group_job.specs.Marks.{SetsMore, OfSteps, HasStepBits}
use Rattle.group_job.specs.Sectors.{AreListed, AreListedByGroups, HasClearPairs}
use Rattle.group_job.proofs.Marks.{sets_as, sets_then}
use Rattle.group_job.proofs.Following.{in_table}

-- ---- one sector with the i-th of some

abbrev pub RowStep : ℕ → List ℕ → ℕ → ℕ → ℕ → Type 0
RowStep a sectors i c d = (c ≡ a) × (slice_get sectors i ≡ Some d)

pub row_set : (a : ℕ) (sectors : List ℕ) (old new : TableParts) → SetsMore (OfSteps (RowStep a sectors) (length sectors)) old new → SetsMore (λ c d. (c ≡ a) × Contains sectors d) old new
row_set a sectors old new = sets_as (OfSteps (RowStep a sectors) (length sectors)) (λ c d. (c ≡ a) × Contains sectors d) old new
    (λ c d w. (w.2.0, at_contains sectors d (w.0, w.2.1)))
    (λ c d h. let x = contains_at sectors d h.1 in (x.0, slice_get_within sectors x.0 d x.1, (h.0, x.1)))

pub row_step : (a : ℕ) (sectors : List ℕ) (i x : ℕ) (old new : TableParts) → slice_get sectors i ≡ Some x → SetsMore (λ c d. (c ≡ a) × (d ≡ x)) old new → SetsMore (RowStep a sectors i) old new
row_step a sectors i x old new at = sets_as (λ c d. (c ≡ a) × (d ≡ x)) (RowStep a sectors i) old new
    (λ c d h. (h.0, subst (λ (u : ℕ). slice_get sectors i ≡ Some u) (sym h.1) at))
    (λ c d h. (h.0, same_Some d x (sym h.1 ∙ at)))

-- ---- the i-th of these with each of those

abbrev pub BlockStep : List ℕ → List ℕ → ℕ → ℕ → ℕ → Type 0
BlockStep from to i c d = (slice_get from i ≡ Some c) × Contains to d

pub block_set : (from to : List ℕ) (old new : TableParts) → SetsMore (OfSteps (BlockStep from to) (length from)) old new → SetsMore (λ c d. Contains from c × Contains to d) old new
block_set from to old new = sets_as (OfSteps (BlockStep from to) (length from)) (λ c d. Contains from c × Contains to d) old new
    (λ c d w. (at_contains from c (w.0, w.2.0), w.2.1))
    (λ c d h. let x = contains_at from c h.0 in (x.0, slice_get_within from x.0 c x.1, (x.1, h.1)))

pub block_step : (from to : List ℕ) (i a : ℕ) (old new : TableParts) → slice_get from i ≡ Some a → SetsMore (λ c d. (c ≡ a) × Contains to d) old new → SetsMore (BlockStep from to i) old new
block_step from to i a old new at = sets_as (λ c d. (c ≡ a) × Contains to d) (BlockStep from to i) old new
    (λ c d h. (subst (λ (u : ℕ). slice_get from i ≡ Some u) (sym h.0) at, h.1))
    (λ c d h. (same_Some c a (sym h.0 ∙ at), h.1))

-- ---- one group with the k-th, where their bit is clear

abbrev pub ClearStep : List (List ℕ) → TableParts → ℕ → ℕ → ℕ → ℕ → Type 0
ClearStep groups t f k c d = IsInGroup groups c f × IsInGroup groups d k × (¬ Rejects t f k)

pub clear_step : (groups : List (List ℕ)) (t : TableParts) (f k : ℕ) (from to : List ℕ) (old new : TableParts) → slice_get groups f ≡ Some from → slice_get groups k ≡ Some to → ¬ Rejects t f k
    → SetsMore (λ c d. Contains from c × Contains to d) old new → SetsMore (ClearStep groups t f k) old new
clear_step groups t f k from to old new at_f at_k clear = sets_as (λ c d. Contains from c × Contains to d) (ClearStep groups t f k) old new
    (λ c d h. ((from, at_f, h.0), (to, at_k, h.1), clear))
    (λ c d h. (subst (λ (xs : List ℕ). Contains xs c) (same_Some h.0.0 from (sym h.0.1 ∙ at_f)) h.0.2, subst (λ (xs : List ℕ). Contains xs d) (same_Some h.1.0 to (sym h.1.1 ∙ at_k)) h.1.2))

abbrev pub ClearRow : List (List ℕ) → TableParts → ℕ → ℕ → ℕ → Type 0
ClearRow groups t f c d = (k : ℕ) × IsInGroup groups c f × IsInGroup groups d k × (¬ Rejects t f k)

pub clear_row_set : (groups : List (List ℕ)) (t : TableParts) (f n : ℕ) (old new : TableParts) → n ≡ length groups → SetsMore (OfSteps (ClearStep groups t f) n) old new → SetsMore (ClearRow groups t f) old new
clear_row_set groups t f n old new count = sets_as (OfSteps (ClearStep groups t f) n) (ClearRow groups t f) old new
    (λ c d w. (w.0, w.2.0, w.2.1, w.2.2))
    (λ c d h. (h.0, in_table groups n h.0 d count h.2, (h.1, h.2, h.3)))

-- ---- each group in turn

abbrev pub ClearRowStep : List (List ℕ) → TableParts → ℕ → ℕ → ℕ → Type 0
ClearRowStep groups t f c d = ClearRow groups t f c d

pub clear_set : (groups : List (List ℕ)) (t : TableParts) (sectors n : ℕ) (marks : TableParts) → n ≡ length groups → HasStepBits (ClearRowStep groups t) n sectors marks → HasClearPairs t groups sectors marks
clear_set groups t sectors n marks count h = record {
  sectors_are = h.sectors_are;
  bits = λ a b la lb. let x = h.bits a b la lb in (
    λ r. let w = x.0 r in (w.0, w.2.0, w.2.1, w.2.2, w.2.3),
    λ c. x.1 (c.0, in_table groups n c.0 a count c.2, (c.1, c.2, c.3, c.4)),
  );
}

-- ---- the i-th pair, both ways

abbrev pub PairStep : List Pair → ℕ → ℕ → ℕ → Type 0
PairStep pairs i c d = (slice_get pairs i ≡ Some (record { a = c; b = d })) ⊎ (slice_get pairs i ≡ Some (record { a = d; b = c }))

pub pair_step : (pairs : List Pair) (i : ℕ) (q : Pair) (old new : TableParts) → slice_get pairs i ≡ Some q → SetsMore (λ c d. ((c ≡ q.a) × (d ≡ q.b)) ⊎ ((c ≡ q.b) × (d ≡ q.a))) old new → SetsMore (PairStep pairs i) old new
pair_step pairs i q old new at = sets_as (λ c d. ((c ≡ q.a) × (d ≡ q.b)) ⊎ ((c ≡ q.b) × (d ≡ q.a))) (PairStep pairs i) old new to back
  where
    to : (c d : ℕ) → ((c ≡ q.a) × (d ≡ q.b)) ⊎ ((c ≡ q.b) × (d ≡ q.a)) → PairStep pairs i c d
    to c d (inl h) = inl (at ∙ ap (λ (r : Pair). Some r) (pair_is q c d (sym h.0) (sym h.1)))
    to c d (inr h) = inr (at ∙ ap (λ (r : Pair). Some r) (pair_is q d c (sym h.1) (sym h.0)))

    back : (c d : ℕ) → PairStep pairs i c d → ((c ≡ q.a) × (d ≡ q.b)) ⊎ ((c ≡ q.b) × (d ≡ q.a))
    back c d (inl h) = let e = same_Some (record { a = c; b = d }) q (sym h ∙ at) in inl (ap (λ (r : Pair). r.a) e, ap (λ (r : Pair). r.b) e)
    back c d (inr h) = let e = same_Some (record { a = d; b = c }) q (sym h ∙ at) in inr (ap (λ (r : Pair). r.b) e, ap (λ (r : Pair). r.a) e)

pub pairs_set : (pairs : List Pair) (old new : TableParts) → SetsMore (OfSteps (PairStep pairs) (length pairs)) old new → SetsMore (AreListed pairs) old new
pairs_set pairs old new = sets_as (OfSteps (PairStep pairs) (length pairs)) (AreListed pairs) old new to back
  where
    to : (c d : ℕ) → OfSteps (PairStep pairs) (length pairs) c d → AreListed pairs c d
    to c d (i, lt, inl h) = inl (at_contains pairs (record { a = c; b = d }) (i, h))
    to c d (i, lt, inr h) = inr (at_contains pairs (record { a = d; b = c }) (i, h))

    back : (c d : ℕ) → AreListed pairs c d → OfSteps (PairStep pairs) (length pairs) c d
    back c d (inl h) = let x = contains_at pairs (record { a = c; b = d }) h in (x.0, slice_get_within pairs x.0 (record { a = c; b = d }) x.1, inl x.1)
    back c d (inr h) = let x = contains_at pairs (record { a = d; b = c }) h in (x.0, slice_get_within pairs x.0 (record { a = d; b = c }) x.1, inr x.1)

-- ---- the sectors of the groups of the i-th pair, both ways

abbrev pub ListedStep : List (List ℕ) → List Pair → ℕ → ℕ → ℕ → Type 0
ListedStep groups pairs i c d = (f k : ℕ) × IsInGroup groups c f × IsInGroup groups d k × PairStep pairs i f k

pub listed_step : (groups : List (List ℕ)) (pairs : List Pair) (i : ℕ) (q : Pair) (from to : List ℕ) (old mid new : TableParts) → slice_get pairs i ≡ Some q → slice_get groups q.a ≡ Some from → slice_get groups q.b ≡ Some to
    → SetsMore (λ c d. Contains from c × Contains to d) old mid → SetsMore (λ c d. Contains to c × Contains from d) mid new → SetsMore (ListedStep groups pairs i) old new
listed_step groups pairs i q from to old mid new at at_a at_b before more =
    sets_as (λ c d. (Contains from c × Contains to d) ⊎ (Contains to c × Contains from d)) (ListedStep groups pairs i) old new forth back (sets_then (λ c d. Contains from c × Contains to d) (λ c d. Contains to c × Contains from d) old mid new before more)
  where
    own : slice_get pairs i ≡ Some (record { a = q.a; b = q.b })
    own = at ∙ ap (λ (r : Pair). Some r) (pair_is q q.a q.b refl refl)

    forth : (c d : ℕ) → (Contains from c × Contains to d) ⊎ (Contains to c × Contains from d) → ListedStep groups pairs i c d
    forth c d (inl h) = (q.a, q.b, (from, at_a, h.0), (to, at_b, h.1), inl own)
    forth c d (inr h) = (q.b, q.a, (to, at_b, h.0), (from, at_a, h.1), inr own)

    in_this : (n f c : ℕ) (xs : List ℕ) → slice_get groups n ≡ Some xs → f ≡ n → IsInGroup groups c f → Contains xs c
    in_this n f c xs there e h = subst (λ (ys : List ℕ). Contains ys c) (same_Some h.0 xs (sym h.1 ∙ (ap (slice_get groups) e ∙ there))) h.2

    back : (c d : ℕ) → ListedStep groups pairs i c d → (Contains from c × Contains to d) ⊎ (Contains to c × Contains from d)
    back c d (f, k, hc, hd, inl x) = let e = same_Some (record { a = f; b = k }) q (sym x ∙ at) in inl (in_this q.a f c from at_a (ap (λ (r : Pair). r.a) e) hc, in_this q.b k d to at_b (ap (λ (r : Pair). r.b) e) hd)
    back c d (f, k, hc, hd, inr x) = let e = same_Some (record { a = k; b = f }) q (sym x ∙ at) in inr (in_this q.b f c to at_b (ap (λ (r : Pair). r.b) e) hc, in_this q.a k d from at_a (ap (λ (r : Pair). r.a) e) hd)

pub listed_set : (groups : List (List ℕ)) (pairs : List Pair) (old new : TableParts) → SetsMore (OfSteps (ListedStep groups pairs) (length pairs)) old new → SetsMore (AreListedByGroups pairs groups) old new
listed_set groups pairs old new = sets_as (OfSteps (ListedStep groups pairs) (length pairs)) (AreListedByGroups pairs groups) old new
    (λ c d w. (w.2.0, w.2.1, w.2.2, w.2.3, listed_of (length pairs) w.2.0 w.2.1 (w.0, w.1, w.2.4)))
    (λ c d h. let w = of_listed h.0 h.1 h.4 in (w.0, w.1, (h.0, h.1, h.2, h.3, w.2)))
  where
    listed_of : (n f k : ℕ) → OfSteps (PairStep pairs) n f k → AreListed pairs f k
    listed_of n f k (i, lt, inl x) = inl (at_contains pairs (record { a = f; b = k }) (i, x))
    listed_of n f k (i, lt, inr x) = inr (at_contains pairs (record { a = k; b = f }) (i, x))

    of_listed : (f k : ℕ) → AreListed pairs f k → OfSteps (PairStep pairs) (length pairs) f k
    of_listed f k (inl x) = let y = contains_at pairs (record { a = f; b = k }) x in (y.0, slice_get_within pairs y.0 (record { a = f; b = k }) y.1, inl y.1)
    of_listed f k (inr x) = let y = contains_at pairs (record { a = k; b = f }) x in (y.0, slice_get_within pairs y.0 (record { a = k; b = f }) y.1, inr y.1)
