-- A table of which the bits of the pairs that aren't blind are set, one pair after the other, and then all others in their place.
use Rattle.std.proofs.Common.{◌≡◌, ◌≢◌, ℕ, ◌+◌, ◌<◌, ◌⊎◌, ◌↔◌, inl, inr, List, length, slice_get, get_or, Contains, Some, refl, sym, ap, ◌∙◌, subst, arith, Bool}
use Rattle.std.proofs.lemmas.Option.{same_Some, slice_get-get_or}
use Rattle.math_base.proofs.Numbers.{below_or_last, below_same_or_above, below_differs}
use Rattle.sight_names.proofs.Lists.{contains_of_get, get_of_contains}
use Rattle.sight_names.specs.declared.names.Pair.{Pair}
use Rattle.sight_names.specs.declared.names.PairRay.{PairRay}
use Rattle.sight_names.specs.Plan.{PlanParts}
use Rattle.reject_bits.specs.Parts.{TableParts, Rejects, SetsPair, KeepsOtherPairs, HasOtherBits}
use Rattle.pair_budget.specs.declared.results.SourceResult.{SourceResult}
use Rattle.pair_budget.specs.Decide.{AreFound, IsLeftUndecided, IsBlind, DecidesTable, DecidesList, DecidesRays}
use Rattle.pair_budget.specs.Rows.{IsSectorMarked, AreNamed}
use Rattle.pair_budget.specs.Opened.{IsPairOfTwo, OpensPair, HasBefore, OpensBefore, OpensNamed}
use Rattle.pair_budget.proofs.FoundSectorsLaws.{found_of_ray, same_or_other, turned_found}

-- ---- one pair

set_one : (old new : TableParts) (a b : ℕ) → SetsPair old new a b → KeepsOtherPairs old new a b → (c d : ℕ) → c < old.n → d < old.n → Rejects new c d ↔ (Rejects old c d ⊎ ((c ≡ a) × (d ≡ b)))
set_one old new a b sets keeps c d lc ld = at (same_or_other c d a b)
  where
    differ : (c ≢ a) ⊎ (d ≢ b) → ¬ ((c ≡ a) × (d ≡ b))
    differ (inl n) same = n same.0
    differ (inr n) same = n same.1

    at : ((c ≡ a) × (d ≡ b)) ⊎ ((c ≢ a) ⊎ (d ≢ b)) → Rejects new c d ↔ (Rejects old c d ⊎ ((c ≡ a) × (d ≡ b)))
    at (inl same) = (λ h. inr same, λ h. subst (λ (u : ℕ). Rejects new u d) (sym same.0) (subst (λ (u : ℕ). Rejects new a u) (sym same.1) sets.set))
    at (inr o) = let k = keeps c d lc ld o in (λ h. inl (k.0 h), λ h. elim h as (λ _. Rejects new c d) [ inl r ↦ k.1 r | inr same ↦ absurd (differ o same) ])

pub pair_opened : (p : Pair) (old mid new : TableParts) → SetsPair old mid p.a p.b → KeepsOtherPairs old mid p.a p.b → SetsPair mid new p.b p.a → KeepsOtherPairs mid new p.b p.a → OpensPair p old new
pair_opened p old mid new sets keeps sets_back keeps_back = record {
  sectors = sets_back.sectors ∙ sets.sectors;
  bits = λ c d lc ld.
      let x = set_one old mid p.a p.b sets keeps c d lc ld in
      let y = set_one mid new p.b p.a sets_back keeps_back c d (subst (λ (n : ℕ). c < n) (sym sets.sectors) lc) (subst (λ (n : ℕ). d < n) (sym sets.sectors) ld) in (
        λ r. elim (y.0 r) as (λ _. Rejects old c d ⊎ IsPairOfTwo p c d) [
          | inl m ↦ elim (x.0 m) as (λ _. Rejects old c d ⊎ IsPairOfTwo p c d) [ inl o ↦ inl o | inr w ↦ inr (inl w) ]
          | inr w ↦ inr (inr w)
        ],
        λ h. elim h as (λ _. Rejects new c d) [
          | inl o ↦ y.1 (inl (x.1 (inl o)))
          | inr k ↦ elim k as (λ _. Rejects new c d) [ inl w ↦ y.1 (inl (x.1 (inr w))) | inr w ↦ y.1 (inr w) ]
        ],
      );
}

-- ---- one pair after the other

module _ (X : Type 0) (pair : X → Pair) (xs : List X) where
  pub opens_none : (t : TableParts) → OpensBefore X pair xs 0 t t
  opens_none t = record { sectors = refl; bits = λ c d lc ld. (λ r. inl r, λ h. elim h as (λ _. Rejects t c d) [ inl r ↦ r | inr w ↦ (let lt = w.2 in absurd (omega (arith, lt))) ]) }

  opens_next : (n : ℕ) (x : X) (old mid new : TableParts) → slice_get xs n ≡ Some x → OpensBefore X pair xs n old mid → OpensPair (pair x) mid new → OpensBefore X pair xs (n + 1) old new
  opens_next n x old mid new there before one = record {
    sectors = one.sectors ∙ before.sectors;
    bits = λ c d lc ld.
        let b = before.bits c d lc ld in
        let o = one.bits c d (subst (λ (u : ℕ). c < u) (sym before.sectors) lc) (subst (λ (u : ℕ). d < u) (sym before.sectors) ld) in (
          λ r. elim (o.0 r) as (λ _. Rejects old c d ⊎ HasBefore X pair xs (n + 1) c d) [
            | inl m ↦ elim (b.0 m) as (λ _. Rejects old c d ⊎ HasBefore X pair xs (n + 1) c d) [ inl k ↦ inl k | inr w ↦ inr (w.0, w.1, (let lt = w.2 in omega (arith, lt)), w.3, w.4) ]
            | inr w ↦ inr (n, x, omega arith, there, w)
          ],
          λ h. elim h as (λ _. Rejects new c d) [
            | inl k ↦ o.1 (inl (b.1 (inl k)))
            | inr w ↦ elim (below_or_last w.0 n w.2) as (λ _. Rejects new c d) [
              | inl lt ↦ o.1 (inl (b.1 (inr (w.0, w.1, lt, w.3, w.4))))
              | inr e ↦ o.1 (inr (subst (λ (y : X). IsPairOfTwo (pair y) c d) (same_Some w.1 x (sym w.3 ∙ (ap (slice_get xs) e ∙ there))) w.4))
            ]
          ],
        );
  }

  -- an item's pair is below what the pairs of all are below
  pub item_below : (n m k : ℕ) (d : X) → ((x : X) → Contains xs x → ((pair x).a < n) × ((pair x).b < n)) → m ≡ n → k < length xs → ((pair (get_or xs k d)).a < m) × ((pair (get_or xs k d)).b < m)
  item_below n m k d all e lt =
      let h = all (get_or xs k d) (contains_of_get xs (get_or xs k d) k (slice_get-get_or xs k d lt)) in
      (subst (λ (u : ℕ). (pair (get_or xs k d)).a < u) (sym e) h.0, subst (λ (u : ℕ). (pair (get_or xs k d)).b < u) (sym e) h.1)

  pub opens_item : (n : ℕ) (d : X) (old mid new : TableParts) → n < length xs → OpensBefore X pair xs n old mid → OpensPair (pair (get_or xs n d)) mid new → OpensBefore X pair xs (n + 1) old new
  opens_item n d old mid new lt = opens_next n (get_or xs n d) old mid new (slice_get-get_or xs n d lt)

-- ---- the marked sectors

module _ (named : List Bool) where
  pub named_none : (t : TableParts) → ((a b : ℕ) → ¬ Rejects t a b) → OpensNamed named 0 t t
  named_none t none = record { sectors = refl; bits = λ c d lc ld. (λ r. absurd (none c d r), λ h. let lt = h.1 in absurd (omega (arith, lt))) }

-- ---- all

module _ (p : PlanParts) (named : List Bool) (rays : List PairRay) (listed : List Pair) (zero_table first second third t : TableParts) (size : zero_table.n ≡ p.sectors) (marked : AreNamed p named)
    (by_name : OpensNamed named (length named) zero_table first) (by_ray : OpensBefore PairRay (λ r. r.pair) rays (length rays) first second) (by_list : OpensBefore Pair (λ q. q) listed (length listed) second third) (others : HasOtherBits third t) where
  -- what is set before the bits are turned round
  abbrev IsOpen : ℕ → ℕ → Type 0
  IsOpen c d = (((c ≡ d) × (c < length named) × IsSectorMarked named c) ⊎ HasBefore PairRay (λ r. r.pair) rays (length rays) c d) ⊎ HasBefore Pair (λ q. q) listed (length listed) c d

  low : (c n : ℕ) → n ≡ p.sectors → c < p.sectors → c < n
  low c n e lt = subst (λ (u : ℕ). c < u) (sym e) lt

  bit : (c d : ℕ) → c < p.sectors → d < p.sectors → Rejects t c d ↔ (¬ IsOpen c d)
  bit c d lc ld =
      let e1 : first.n ≡ p.sectors = by_name.sectors ∙ size in
      let e2 : second.n ≡ p.sectors = by_ray.sectors ∙ e1 in
      let e3 : third.n ≡ p.sectors = by_list.sectors ∙ e2 in
      let x = by_name.bits c d (low c zero_table.n size lc) (low d zero_table.n size ld) in
      let y = by_ray.bits c d (low c first.n e1 lc) (low d first.n e1 ld) in
      let z = by_list.bits c d (low c second.n e2 lc) (low d second.n e2 ld) in
      let o = others.bits c d (low c third.n e3 lc) (low d third.n e3 ld) in (
        λ r one. o.0 r (elim one as (λ _. Rejects third c d) [
          | inl k ↦ elim k as (λ _. Rejects third c d) [ inl w ↦ z.1 (inl (y.1 (inl (x.1 w)))) | inr w ↦ z.1 (inl (y.1 (inr w))) ]
          | inr w ↦ z.1 (inr w)
        ]),
        λ closed. o.1 (λ r. closed (elim (z.0 r) as (λ _. IsOpen c d) [
          | inl k ↦ elim (y.0 k) as (λ _. IsOpen c d) [ inl w ↦ inl (inl (x.0 w)) | inr w ↦ inl (inr w) ]
          | inr w ↦ inr w
        ])),
      )

  module _ (rs : List SourceResult) (components : List ℕ) (by_rays : DecidesRays p rs rays) (list : DecidesList rs components listed) where
    has_ray : (c d : ℕ) → c < p.sectors → d < p.sectors → c ≢ d → AreFound rs c d → HasBefore PairRay (λ r. r.pair) rays (length rays) c d
    has_ray c d lc ld differ found = elim (below_same_or_above c d) as (λ _. HasBefore PairRay (λ r. r.pair) rays (length rays) c d) [
      | inl lt ↦ (let h = by_rays.all c d lt ld found in
          let i = h.1 in (i.0, h.0, i.1, get_of_contains rays h.0 i.0 i.1 i.2, subst (λ (q : Pair). IsPairOfTwo q c d) (sym h.2) (inl (refl, refl))))
      | inr (inl e) ↦ absurd (differ e)
      | inr (inr gt) ↦ (let h = by_rays.all d c gt lc (turned_found rs c d found) in
          let i = h.1 in (i.0, h.0, i.1, get_of_contains rays h.0 i.0 i.1 i.2, subst (λ (q : Pair). IsPairOfTwo q c d) (sym h.2) (inr (refl, refl))))
    ]

    has_listed : (q : Pair) (c d : ℕ) → Contains listed q → IsPairOfTwo q c d → HasBefore Pair (λ q. q) listed (length listed) c d
    has_listed q c d i of = (i.0, q, i.1, get_of_contains listed q i.0 i.1 i.2, of)

    -- a pair with a smaller sector is of two
    two : (q : Pair) (c d : ℕ) → q.a < q.b → IsPairOfTwo q c d → c ≢ d
    two q c d lt (inl h) e = let x = h.0 in let y = h.1 in omega (arith, x, y, e, lt)
    two q c d lt (inr h) e = let x = h.0 in let y = h.1 in omega (arith, x, y, e, lt)

    found_of : (q : Pair) (c d : ℕ) → AreFound rs q.a q.b → IsPairOfTwo q c d → AreFound rs c d
    found_of q c d f (inl h) = subst (λ (u : ℕ). AreFound rs c u) (sym h.1) (subst (λ (u : ℕ). AreFound rs u q.b) (sym h.0) f)
    found_of q c d f (inr h) = subst (λ (u : ℕ). AreFound rs c u) (sym h.1) (subst (λ (u : ℕ). AreFound rs u q.a) (sym h.0) (turned_found rs q.a q.b f))

    listed_of : (q : Pair) (c d : ℕ) → IsLeftUndecided rs components q.a q.b → IsPairOfTwo q c d → IsLeftUndecided rs components c d ⊎ IsLeftUndecided rs components d c
    listed_of q c d l (inl h) = inl (subst (λ (u : ℕ). IsLeftUndecided rs components c u) (sym h.1) (subst (λ (u : ℕ). IsLeftUndecided rs components u q.b) (sym h.0) l))
    listed_of q c d l (inr h) = inr (subst (λ (u : ℕ). IsLeftUndecided rs components d u) (sym h.0) (subst (λ (u : ℕ). IsLeftUndecided rs components u q.b) (sym h.1) l))

    to : (c d : ℕ) → c < p.sectors → d < p.sectors → ¬ IsOpen c d → IsBlind p rs components c d
    to c d lc ld closed = elim (below_same_or_above c d) as (λ _. IsBlind p rs components c d) [
      | inl lt ↦ apart (λ e. below_differs c d lt e)
      | inr (inl e) ↦ inl (e, λ is. closed (inl (inl (e, subst (λ (n : ℕ). c < n) (sym marked.count) lc, (marked.marks c lc).1 is))))
      | inr (inr gt) ↦ apart (λ e. below_differs d c gt (sym e))
    ]
      where
        apart : c ≢ d → IsBlind p rs components c d
        apart differ = inr (
          differ,
          λ found. closed (inl (inr (has_ray c d lc ld differ found))),
          λ l. elim l [
            | inl one ↦ closed (inr (has_listed (record { a = c; b = d }) c d ((list.exactly (record { a = c; b = d })).1 one) (inl (refl, refl))))
            | inr other ↦ closed (inr (has_listed (record { a = d; b = c }) c d ((list.exactly (record { a = d; b = c })).1 other) (inr (refl, refl))))
          ],
        )

    back : (c d : ℕ) → c < p.sectors → IsBlind p rs components c d → ¬ IsOpen c d
    back c d lc (inl h) (inl (inl w)) = h.1 ((marked.marks c lc).0 w.2)
    back c d lc (inl h) (inl (inr w)) = two w.1.pair c d (by_rays.each w.1 (contains_of_get rays w.1 w.0 w.3)).0 w.4 h.0
    back c d lc (inl h) (inr w) = two w.1 c d ((list.exactly w.1).0 (contains_of_get listed w.1 w.0 w.3)).order w.4 h.0
    back c d lc (inr h) (inl (inl w)) = h.0 w.0
    back c d lc (inr h) (inl (inr w)) = h.1 (found_of w.1.pair c d (found_of_ray rs w.1 (by_rays.each w.1 (contains_of_get rays w.1 w.0 w.3)).2) w.4)
    back c d lc (inr h) (inr w) = h.2 (listed_of w.1 c d ((list.exactly w.1).0 (contains_of_get listed w.1 w.0 w.3)) w.4)

    pub table_decided : DecidesTable p rs components t
    table_decided = record {
      sectors = others.sectors_are ∙ (by_list.sectors ∙ (by_ray.sectors ∙ (by_name.sectors ∙ size)));
      bits = λ c d lc ld. let x = bit c d lc ld in (λ r. to c d lc ld (x.0 r), λ h. x.1 (back c d lc h));
    }
