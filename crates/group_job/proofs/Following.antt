-- The table of sectors and its list, from the marks of the pairs that are seen by groups and of those that are listed by groups.
use Rattle.std.proofs.Common.{◌≡◌, ◌≢◌, ℕ, ◌+◌, ◌*◌, ◌<◌, ◌⊎◌, ◌↔◌, inl, inr, List, [], ◌∷◌, length, Contains, sym, ap, ◌∙◌, subst, arith}
use Rattle.std.proofs.lemmas.Option.{slice_get_within}
use Rattle.math_base.proofs.Lists.{contains_here, contains_none}
use Rattle.math_base.proofs.Numbers.{same_or_not}
use Rattle.sight_names.specs.declared.names.Pair.{Pair}
use Rattle.sight_names.specs.Groups.{IsInGroup}
use Rattle.sight_names.specs.Table.{table_bit}
use Rattle.sight_names.proofs.Lists.{contains_cases, contains_tail}
use Rattle.pair_budget.proofs.FoundSectorsLaws.{same_or_other, pair_is}
use Rattle.reject_bits.specs.Parts.{HasOtherBits, TableParts, Rejects}
use Rattle.group_job.specs.Marks.{SetsMore}
use Rattle.group_job.specs.Sectors.{AreClear, AreListed, AreListedByGroups, AreClearByGroups, AreSeenByGroups, HasClearPairs, ListsBetween, FollowGroups}

-- whether a bit is set can be told
pub set_or_clear : (t : TableParts) (a b : ℕ) → Rejects t a b ⊎ ¬ Rejects t a b
set_or_clear t a b = same_or_not (table_bit t.bytes (a * t.n + b)) 1

-- whether a pair is in a list can be told
pair_or_not : (pairs : List Pair) (q : Pair) → Contains pairs q ⊎ ¬ Contains pairs q
pair_or_not [] q = inr (λ c. contains_none q c)
pair_or_not (x ∷ xs) q = go (same_or_other x.a x.b q.a q.b) (pair_or_not xs q)
  where
    differ : (x.a ≢ q.a) ⊎ (x.b ≢ q.b) → ¬ (x ≡ q)
    differ (inl n) e = n (ap (λ (r : Pair). r.a) e)
    differ (inr n) e = n (ap (λ (r : Pair). r.b) e)

    go : ((x.a ≡ q.a) × (x.b ≡ q.b)) ⊎ ((x.a ≢ q.a) ⊎ (x.b ≢ q.b)) → Contains xs q ⊎ ¬ Contains xs q → Contains (x ∷ xs) q ⊎ ¬ Contains (x ∷ xs) q
    go (inl same) rest = inl (subst (λ (r : Pair). Contains (x ∷ xs) r) (pair_is x q.a q.b same.0 same.1) (contains_here x xs))
    go (inr o) (inl c) = inl (contains_tail x q xs c)
    go (inr o) (inr n) = inr (λ c. elim (contains_cases x q xs c) as (λ _. ⊥) [ inl e ↦ differ o e | inr k ↦ n k ])

pub listed_or_not : (pairs : List Pair) (a b : ℕ) → AreListed pairs a b ⊎ ¬ AreListed pairs a b
listed_or_not pairs a b = elim (pair_or_not pairs (record { a = a; b = b })) as (λ _. AreListed pairs a b ⊎ ¬ AreListed pairs a b) [
  | inl c ↦ inl (inl c)
  | inr n ↦ elim (pair_or_not pairs (record { a = b; b = a })) as (λ _. AreListed pairs a b ⊎ ¬ AreListed pairs a b) [
    | inl c ↦ inl (inr c)
    | inr k ↦ inr (λ l. elim l as (λ _. ⊥) [ inl c ↦ n c | inr c ↦ k c ])
  ]
]

pub in_table : (groups : List (List ℕ)) (n f a : ℕ) → n ≡ length groups → IsInGroup groups a f → f < n
in_table groups n f a e h = let lt = slice_get_within groups f h.0 h.1 in omega (arith, lt, e)

module _ (t : TableParts) (pairs : List Pair) (groups : List (List ℕ)) (sectors : ℕ) (count : t.n ≡ length groups) (unlisted : AreClear t pairs) (unseen seen none marks clear table : TableParts) (listed : List Pair)
    (more : SetsMore (AreListed pairs) t unseen) (sees : HasClearPairs unseen groups sectors seen) (size : none.n ≡ sectors) (empty : (a b : ℕ) → ¬ Rejects none a b) (opens : SetsMore (AreListedByGroups pairs groups) none marks)
    (lists : ListsBetween marks seen listed) (clears : SetsMore (AreListedByGroups pairs groups) seen clear) (other : HasOtherBits clear table) where
  -- what the marks of those that are seen tell
  seen_by : (a b : ℕ) → AreClearByGroups unseen groups a b → AreSeenByGroups t pairs groups a b
  seen_by a b (f, k, ha, hb, c) =
      let x = more.bits f k (in_table groups t.n f a count ha) (in_table groups t.n k b count hb) in
      (f, k, ha, hb, (λ bit. c (x.1 (inl bit)), λ l. c (x.1 (inr l))))

  by_seen : (a b : ℕ) → AreSeenByGroups t pairs groups a b → AreClearByGroups unseen groups a b
  by_seen a b (f, k, ha, hb, c) =
      let x = more.bits f k (in_table groups t.n f a count ha) (in_table groups t.n k b count hb) in
      (f, k, ha, hb, λ bit. elim (x.0 bit) as (λ _. ⊥) [ inl r ↦ c.0 r | inr l ↦ c.1 l ])

  seen_low : (a : ℕ) → a < sectors → a < seen.n
  seen_low a la = subst (λ (n : ℕ). a < n) (sym sees.sectors_are) la

  clear_low : (a : ℕ) → a < sectors → a < clear.n
  clear_low a la = subst (λ (n : ℕ). a < n) (sym (clears.sectors ∙ sees.sectors_are)) la

  open_low : (a : ℕ) → a < sectors → a < marks.n
  open_low a la = subst (λ (n : ℕ). a < n) (sym (opens.sectors ∙ size)) la

  open_back : (a : ℕ) → a < marks.n → a < sectors
  open_back a la = subst (λ (n : ℕ). a < n) (opens.sectors ∙ size) la

  below : (a b : ℕ) → a < b → b < sectors → a < sectors
  below a b lt lb = omega (arith, lt, lb)

  -- what the marks of those that are listed tell
  open_bits : (a b : ℕ) → a < sectors → b < sectors → Rejects marks a b ↔ AreListedByGroups pairs groups a b
  open_bits a b la lb =
      let x = opens.bits a b (subst (λ (n : ℕ). a < n) (sym size) la) (subst (λ (n : ℕ). b < n) (sym size) lb) in
      (λ r. elim (x.0 r) as (λ _. AreListedByGroups pairs groups a b) [ inl o ↦ absurd (empty a b o) | inr l ↦ l ], λ l. x.1 (inr l))

  -- the bit of listed groups is clear
  listed_clear : (a b : ℕ) → AreListedByGroups pairs groups a b → AreClearByGroups t groups a b
  listed_clear a b (f, k, ha, hb, inl c) = (f, k, ha, hb, (unlisted (record { a = f; b = k }) c).0)
  listed_clear a b (f, k, ha, hb, inr c) = (f, k, ha, hb, (unlisted (record { a = k; b = f }) c).1)

  -- all that is clear is seen or listed
  clear_bits : (a b : ℕ) → a < sectors → b < sectors → Rejects clear a b ↔ AreClearByGroups t groups a b
  clear_bits a b la lb =
      let x = clears.bits a b (seen_low a la) (seen_low b lb) in
      let y = sees.bits a b la lb in (
        λ r. elim (x.0 r) as (λ _. AreClearByGroups t groups a b) [
          | inl s ↦ let w = seen_by a b (y.0 s) in (w.0, w.1, w.2, w.3, w.4.0)
          | inr l ↦ listed_clear a b l
        ],
        λ c. elim (listed_or_not pairs c.0 c.1) as (λ _. Rejects clear a b) [
          | inl l ↦ x.1 (inr (c.0, c.1, c.2, c.3, l))
          | inr n ↦ x.1 (inl (y.1 (by_seen a b (c.0, c.1, c.2, c.3, (c.4, n)))))
        ],
      )

  clear_there : (a b : ℕ) → a < sectors → b < sectors → ¬ Rejects table a b → AreClearByGroups t groups a b
  clear_there a b la lb free = elim (set_or_clear clear a b) as (λ _. AreClearByGroups t groups a b) [ inl r ↦ (clear_bits a b la lb).0 r | inr n ↦ absurd (free ((other.bits a b (clear_low a la) (clear_low b lb)).1 n)) ]

  -- of those that are clear the ones that aren't seen are listed
  open_there : (a b : ℕ) → AreClearByGroups t groups a b → ¬ AreSeenByGroups t pairs groups a b → AreListedByGroups pairs groups a b
  open_there a b (f, k, ha, hb, c) unseen_by = elim (listed_or_not pairs f k) as (λ _. AreListedByGroups pairs groups a b) [ inl l ↦ (f, k, ha, hb, l) | inr n ↦ absurd (unseen_by (f, k, ha, hb, (c, n))) ]

  listed_so : (q : Pair) → Contains listed q ↔ ((q.a < q.b) × (q.b < sectors) × AreClearByGroups t groups q.a q.b × (¬ AreSeenByGroups t pairs groups q.a q.b))
  listed_so q = (
    λ c.
        let x = (lists.exactly q).0 c in
        let lb = open_back q.b x.1 in
        let la = below q.a q.b x.0 lb in
        (x.0, lb, listed_clear q.a q.b ((open_bits q.a q.b la lb).0 x.2), λ h. x.3 ((sees.bits q.a q.b la lb).1 (by_seen q.a q.b h))),
    λ h.
        let lb = h.1 in
        let la = below q.a q.b h.0 lb in
        (lists.exactly q).1 (h.0, open_low q.b lb, (open_bits q.a q.b la lb).1 (open_there q.a q.b h.2 h.3), λ bit. h.3 (seen_by q.a q.b ((sees.bits q.a q.b la lb).0 bit))),
  )

  seen_so : (a b : ℕ) → a < b → b < sectors → ¬ Rejects table a b → ¬ Contains listed (record { a = a; b = b }) → AreSeenByGroups t pairs groups a b
  seen_so a b lt lb free not_there =
      let la = below a b lt lb in
      elim (set_or_clear seen a b) as (λ _. AreSeenByGroups t pairs groups a b) [
        | inl bit ↦ seen_by a b ((sees.bits a b la lb).0 bit)
        | inr n ↦ absurd (not_there ((listed_so (record { a = a; b = b })).1 (lt, lb, clear_there a b la lb free, λ s. n ((sees.bits a b la lb).1 (by_seen a b s)))))
      ]

  pub follow_groups : FollowGroups t pairs groups sectors table listed
  follow_groups = record {
    sectors_are = other.sectors_are ∙ (clears.sectors ∙ sees.sectors_are);
    bits = λ a b la lb. let x = other.bits a b (clear_low a la) (clear_low b lb) in let y = clear_bits a b la lb in (λ r h. (x.0 r) (y.1 h), λ n. x.1 (λ r. n (y.0 r)));
    listed = listed_so;
    ascend = lists.ascend;
    clear = clear_there;
    seen = seen_so;
  }
