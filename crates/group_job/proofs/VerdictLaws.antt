-- What a build promises of its table, its list and its certificate, from what the walks decide.
use Rattle.std.proofs.Common.{◌≡◌, ◌≢◌, ℕ, zero, suc, ◌<◌, ◌⊎◌, ◌↔◌, inl, inr, List, [], ◌∷◌, length, get_or, slice_get, Contains, Option, Some, refl, sym, ap, ◌∙◌, subst, arith, true}
use Rattle.std.proofs.lemmas.List.Elements.{Contains-append_left, Contains-append_right}
use Rattle.std.proofs.lemmas.Option.{slice_get-get_or, same_Some}
use Rattle.sight_names.proofs.Lists.{contains_cases, contains_tail}
use Rattle.sight_names.specs.declared.names.Budget.{Budget}
use Rattle.sight_names.specs.declared.names.Budget.TheVariants.{Full}
use Rattle.sight_names.specs.declared.names.Pair.{Pair}
use Rattle.sight_names.specs.declared.names.PairRay.{PairRay}
use Rattle.sight_names.specs.Map.{Map, map_of}
use Rattle.sight_names.specs.declared.names.Triangle.{Triangle}
use Rattle.sight_names.specs.Found.{IsChain, AreConnected, Spent}
use Rattle.sight_names.specs.Mesh.{label_of}
use Rattle.face_groups.specs.TriSectors.Components.{AreComponents}
use Rattle.face_groups.proofs.TriSectors.ComponentLemmas.{connected_joined}
use Rattle.sight_names.specs.Plan.{PlanParts}
use Rattle.block_evidence.specs.declared.sight_tree.Tree.{Tree}
use Rattle.reject_bits.specs.Parts.{Rejects}
use Rattle.cert_format.specs.Parts.{CertParts}
use Rattle.cert_format.specs.Accepted.{HasRay, IsNamed}
use Rattle.pair_budget.specs.declared.results.Outcome.{Outcome}
use Rattle.pair_budget.specs.declared.results.Outcome.TheVariants as outcome
use Rattle.pair_budget.specs.declared.results.SourceResult.{SourceResult}
use Rattle.pair_budget.specs.declared.results.Verdicts.{Verdicts}
use Rattle.pair_budget.specs.Decide.{AreFound, IsLeftUndecided, IsBlind, IsSpentSource, trees_of}
use Rattle.pair_budget.specs.Decided.{AreExact, TellsConnected}
use Rattle.pair_budget.specs.Exact.{EndsRightly}
use Rattle.pair_budget.specs.PairRays.{HasRayFor}
use Rattle.pair_budget.specs.Rows.{tree_of_outcome}
use Rattle.pair_budget.specs.Walked.{IsOutcome}
use Rattle.pair_budget.specs.Whole.{IsOfFound, ShowsIfComplete}
use Rattle.pair_budget.proofs.FoundSectorsLaws.{found_of_ray, same_or_other, pair_is}
use Rattle.pair_budget.proofs.NamedLaws.{trees_cons}
use Rattle.group_job.specs.Results.{AreWalksShown, AreSetApart, AreTreesOfUnspent, AreWalkVerdicts, HasTreeKeepingFrom}
use Rattle.group_job.proofs.BuildLaws.{tree_of_source}
use Rattle.math_base.proofs.Lists.{all_so, all_at, contains_none, contains_here}
use Rattle.math_base.proofs.Numbers.{same_or_not, below_or_above}
use Rattle.sight_names.proofs.Neighbours.{neighbours_back}

-- a list of rays has one for the pair, or none
has_or_not : (rays : List PairRay) (a b : ℕ) → HasRayFor rays a b ⊎ ¬ HasRayFor rays a b
has_or_not [] a b = inr (λ h. contains_none h.0 h.1)
has_or_not (r ∷ rs) a b = at (same_or_other r.pair.a r.pair.b a b) (has_or_not rs a b)
  where
    at : ((r.pair.a ≡ a) × (r.pair.b ≡ b)) ⊎ ((r.pair.a ≢ a) ⊎ (r.pair.b ≢ b)) → HasRayFor rs a b ⊎ ¬ HasRayFor rs a b → HasRayFor (r ∷ rs) a b ⊎ ¬ HasRayFor (r ∷ rs) a b
    at (inl same) rest = inl (r, contains_here r rs, pair_is r.pair a b same.0 same.1)
    at (inr other) (inl h) = inl (h.0, contains_tail r h.0 rs h.1, h.2)
    at (inr other) (inr none) = inr (λ h. elim (contains_cases r h.0 rs h.1) [
      | inl e ↦ let q = ap (λ (x : PairRay). x.pair) e ∙ h.2 in elim other [ inl n ↦ n (ap (λ (p : Pair). p.a) q) | inr n ↦ n (ap (λ (p : Pair). p.b) q) ]
      | inr k ↦ none (h.0, k, h.2)
    ])

-- the tree of a source that was walked wholly is one of the trees
has_tree : (rs : List SourceResult) (k : ℕ) (r : SourceResult) (t : Tree) → slice_get rs k ≡ Some r → r.outcome ≡ outcome.Complete t → Contains (trees_of rs) t
has_tree [] k r t h e = absurd cc
has_tree (q ∷ rs) zero r t h e = subst (λ (ts : List Tree). Contains ts t) (sym (trees_cons q rs)) (Contains-append_left (tree_of_outcome q.outcome) (trees_of rs) t (subst (λ (o : Outcome). Contains (tree_of_outcome o) t) (sym (ap (λ (s : SourceResult). s.outcome) (same_Some q r h) ∙ e)) (contains_here t [])))
has_tree (q ∷ rs) (suc k) r t h e = subst (λ (ts : List Tree). Contains ts t) (sym (trees_cons q rs)) (Contains-append_right (tree_of_outcome q.outcome) (trees_of rs) t (has_tree rs k r t h e))

result_at : (rs : List SourceResult) (k : ℕ) → k < length rs → (r : SourceResult) × (slice_get rs k ≡ Some r)
result_at [] k h = absurd (omega arith)
result_at (r ∷ rs) zero h = (r, refl)
result_at (r ∷ rs) (suc k) h = result_at rs k (omega arith)

same_or_apart : (cs : List ℕ) (a b : ℕ) → a < length cs → b < length cs → (slice_get cs a ≡ slice_get cs b) ⊎ (slice_get cs a ≢ slice_get cs b)
same_or_apart cs a b la lb = at (same_or_not (get_or cs a 0) (get_or cs b 0))
  where
    at : (get_or cs a 0 ≡ get_or cs b 0) ⊎ (get_or cs a 0 ≢ get_or cs b 0) → (slice_get cs a ≡ slice_get cs b) ⊎ (slice_get cs a ≢ slice_get cs b)
    at (inl e) = inl (slice_get-get_or cs a 0 la ∙ (ap (λ (x : ℕ). Some x) e ∙ sym (slice_get-get_or cs b 0 lb)))
    at (inr n) = inr (λ q. n (same_Some (get_or cs a 0) (get_or cs b 0) (sym (slice_get-get_or cs a 0 la) ∙ (q ∙ slice_get-get_or cs b 0 lb))))

-- ---- components

connected_back : (m : Map) (a : ℕ) (cs : List ℕ) (b : ℕ) → IsChain m a cs b → AreConnected m b a
connected_back m a [] b h = ([], sym h)
connected_back m a (c ∷ cs) b h = connected_joined m b c a (connected_back m c cs b h.1) (a ∷ [], (neighbours_back m a c h.0, refl))

component_same : (m : Map) (cs : List ℕ) → AreComponents m cs → (a b : ℕ) → a < length cs → b < length cs → AreConnected m a b → slice_get cs a ≡ slice_get cs b
component_same m cs are a b la lb path =
    let x = get_or cs a 0 in
    let y = get_or cs b 0 in
    let ax = slice_get-get_or cs a 0 la in
    let by' = slice_get-get_or cs b 0 lb in
    let down = are.least a x y ax (connected_joined m a b y path (are.connected b y by')) in
    let up = are.least b y x by' (connected_joined m b a x (connected_back m a path.0 b path.1) (are.connected a x ax)) in
    let e : x ≡ y = omega arith in
    ax ∙ (ap (λ (n : ℕ). Some n) e ∙ sym by')

pub tells_connected : (m : Map) (cs : List ℕ) → AreComponents m cs → TellsConnected m cs
tells_connected m cs are a b la lb = (
  (λ e. by (slice_get-get_or cs a 0 la) (slice_get-get_or cs b 0 lb) e),
  component_same m cs are a b la lb,
)
  where
    by : slice_get cs a ≡ Some (get_or cs a 0) → slice_get cs b ≡ Some (get_or cs b 0) → slice_get cs a ≡ slice_get cs b → AreConnected m a b
    by ea eb e =
        let back = are.connected b (get_or cs a 0) (sym e ∙ ea) in
        connected_joined m a (get_or cs a 0) b (are.connected a (get_or cs a 0) ea) (connected_back m b back.0 (get_or cs a 0) back.1)

module _ (p : PlanParts) (budget : Budget) (v : Verdicts) (are : AreWalkVerdicts p budget v) where
  found_of_has : (a b : ℕ) → HasRayFor v.rays a b → AreFound are.results a b
  found_of_has a b (r, c, e) = subst (λ (q : Pair). AreFound are.results q.a q.b) e (found_of_ray are.results r (are.rays.each r c).2)

  not_down : (a b : ℕ) → a < b → ¬ IsLeftUndecided are.results are.components b a
  not_down a b lt l = let k = l.order in omega arith

  pub rays_of_clear : (a b : ℕ) → a < b → b < p.sectors → HasRayFor v.rays a b ↔ (¬ Rejects v.table a b × ¬ Contains v.listed (record { a = a; b = b }))
  rays_of_clear a b lt in' = (
    (λ h. let f = found_of_has a b h in (
      (λ bit. not_blind f ((are.table.bits a b (omega arith) in').0 bit)),
      (λ c. ((are.listed.exactly (record { a = a; b = b })).0 c).not_found f),
    )),
    (λ h. elim (has_or_not v.rays a b) [
      | inl k ↦ k
      | inr none ↦ absurd (h.0 ((are.table.bits a b (omega arith) in').1 (inr (
        (λ e. differ e),
        (λ f. none (are.rays.all a b lt in' f)),
        (λ l. elim l [ inl k ↦ h.1 ((are.listed.exactly (record { a = a; b = b })).1 k) | inr k ↦ not_down a b lt k ]),
      ))))
    ]),
  )
    where
      differ : a ≢ b
      differ e = omega arith

      not_blind : AreFound are.results a b → ¬ IsBlind p are.results are.components a b
      not_blind f (inl h) = differ h.0
      not_blind f (inr h) = h.1 f

  blind_back : (a b : ℕ) → IsBlind p are.results are.components a b → IsBlind p are.results are.components b a
  blind_back a b (inl h) = inl (sym h.0, subst (λ (c : ℕ). ¬ IsNamed (map_of p) c) h.0 h.1)
  blind_back a b (inr h) = inr ((λ e. h.0 (sym e)), (λ f. h.1 (elim f [ inl k ↦ inr k | inr k ↦ inl k ])), (λ l. h.2 (elim l [ inl k ↦ inr k | inr k ↦ inl k ])))

  pub both_bits : (a b : ℕ) → a < p.sectors → b < p.sectors → Rejects v.table a b → Rejects v.table b a
  both_bits a b la lb bit = (are.table.bits b a lb la).1 (blind_back a b ((are.table.bits a b la lb).0 bit))

  pub own_bit : (a : ℕ) → a < p.sectors → Rejects v.table a a ↔ ¬ IsNamed (map_of p) a
  own_bit a la = ((λ bit. unnamed ((are.table.bits a a la la).0 bit)), (λ h. (are.table.bits a a la la).1 (inl (refl, h))))
    where
      unnamed : IsBlind p are.results are.components a a → ¬ IsNamed (map_of p) a
      unnamed (inl h) = h.1
      unnamed (inr h) = absurd (h.0 refl)

  -- ---- with no bound

  not_spent : budget ≡ Full → (a : ℕ) → ¬ IsSpentSource are.results a
  not_spent full a (r, h, e) = subst (λ (o : Outcome). IsOutcome a budget true o) e (are.walks.outcomes a r h) full

  pub nothing_listed : budget ≡ Full → v.listed ≡ []
  nothing_listed full = empty v.listed (λ q c. not_spent full q.a ((are.listed.exactly q).0 c).spent)
    where
      empty : (xs : List Pair) → ((q : Pair) → ¬ Contains xs q) → xs ≡ []
      empty [] none = refl
      empty (x ∷ xs) none = absurd (none x (contains_here x xs))

  -- one of the trees is that of the source, whose walk went to its end
  abbrev pub TreeOf : ℕ → Type 0
  TreeOf a = (t : Tree) × Contains v.trees t × (t.source ≡ a) × ((r : SourceResult) × (slice_get are.results a ≡ Some r) × (r.outcome ≡ outcome.Complete t))

  -- nothing was left that the source could find
  abbrev pub IsSettledSource : ℕ → Type 0
  IsSettledSource a = (r : SourceResult) × (slice_get are.results a ≡ Some r) × (r.outcome ≡ outcome.All)

  -- the tree of a source is there, or its budget ran out, or nothing was left that it could find
  pub tree_or_spent : (a : ℕ) → a < p.sectors → TreeOf a ⊎ (IsSpentSource are.results a ⊎ IsSettledSource a)
  tree_or_spent a la = by_result (result_at are.results a (subst (λ (n : ℕ). a < n) (sym are.walks.results.count) la))
    where
      by_outcome : (r : SourceResult) → slice_get are.results a ≡ Some r → (o : Outcome) → r.outcome ≡ o → TreeOf a ⊎ (IsSpentSource are.results a ⊎ IsSettledSource a)
      by_outcome r h (outcome.Complete t) e = inl (t, subst (λ (ts : List Tree). Contains ts t) (sym are.trees) (has_tree are.results a r t h e), (tree_of_source p are.results are.walks.results a r h t e).source_is, (r, h, e))
      by_outcome r h outcome.Spent e = inr (inl (r, h, e))
      by_outcome r h outcome.All e = inr (inr (r, h, e))

      by_result : (r : SourceResult) × (slice_get are.results a ≡ Some r) → TreeOf a ⊎ (IsSpentSource are.results a ⊎ IsSettledSource a)
      by_result (r, h) = by_outcome r h r.outcome refl

  -- one of the two found the other, where nothing was left that the first could find
  settled_found : (a b : ℕ) → IsSettledSource a → b < p.sectors → a ≢ b → slice_get are.components a ≡ slice_get are.components b → AreFound are.results a b
  settled_found a b (r, h, e) lb differ same = are.settled a b r h e (subst (λ (n : ℕ). b < n) (sym are.each_sector) lb) differ same

  sees_connected : (a : ℕ) → a < p.sectors → IsSettledSource a → (b : ℕ) → b < p.sectors → a ≢ b → AreConnected (map_of p) a b → ¬ Rejects v.table a b
  sees_connected a la settled b lb differ path bit = blind ((are.table.bits a b la lb).0 bit)
    where
      same : slice_get are.components a ≡ slice_get are.components b
      same = component_same (map_of p) are.components are.connected a b (subst (λ (n : ℕ). a < n) (sym are.each_sector) la) (subst (λ (n : ℕ). b < n) (sym are.each_sector) lb) path

      blind : ¬ IsBlind p are.results are.components a b
      blind (inl h) = differ h.0
      blind (inr h) = h.1 (settled_found a b settled lb differ same)

  module _ (ts : List Triangle) (ls : List (Option ℕ)) (exact : AreExact (map_of p) ts ls budget are.results) where
    truly_spent : (a : ℕ) → IsSpentSource are.results a → Spent (map_of p) ts ls a budget
    truly_spent a (r, h, e) = (subst (λ (o : Outcome). EndsRightly (map_of p) ts ls a budget r.found o) e (exact a r h).ends).1

    pub trees_of_unspent : AreTreesOfUnspent p ts ls budget v
    trees_of_unspent a la unspent = elim (tree_or_spent a la) [
      | inl t ↦ inl (t.0, t.1, t.2)
      | inr (inl s) ↦ absurd (unspent (truly_spent a s))
      | inr (inr s) ↦ inr (sees_connected a la s)
    ]

  -- ---- set bits

  not_connected : (a b : ℕ) → a < p.sectors → b < p.sectors → slice_get are.components a ≢ slice_get are.components b → ¬ AreConnected (map_of p) a b
  not_connected a b la lb differ path = differ (component_same (map_of p) are.components are.connected a b (subst (λ (n : ℕ). a < n) (sym are.each_sector) la) (subst (λ (n : ℕ). b < n) (sym are.each_sector) lb) path)

  -- what one of the two found, one of the two found
  found_back : (a b : ℕ) → AreFound are.results a b → AreFound are.results b a
  found_back a b (inl k) = inr k
  found_back a b (inr k) = inl k

  module _ (ts : List Triangle) (ls : List (Option ℕ)) (shown : AreWalksShown p ts ls are.results) where
    -- a tree enters what its walk found, and so no other sector
    keeps : (a b : ℕ) → ¬ AreFound are.results a b → TreeOf a → HasTreeKeepingFrom (map_of p) ts ls v.trees a b
    keeps a b none (t, there, source, (r, h, e)) =
        let s = subst (λ (o : Outcome). ShowsIfComplete p ts ls r.found o) e (all_at (λ (q : SourceResult). ShowsIfComplete p ts ls q.found q.outcome) are.results shown a r h) in
        (t, there, source, (s.opened, s.whole, all_so (IsOfFound ls r.found) (λ (k : ℕ). label_of ls k ≢ Some b) s.opened other s.entered))
      where
        other : (k : ℕ) → IsOfFound ls r.found k → label_of ls k ≢ Some b
        other k (c, label, (x, found, to)) is = none (inl (x.ray, (r, x, h, found, to ∙ same_Some c b (sym label ∙ is), refl)))

    away_of_unlisted : (a b : ℕ) → a < p.sectors → b < p.sectors → a < b → slice_get are.components a ≡ slice_get are.components b → ¬ AreFound are.results a b → ¬ IsLeftUndecided are.results are.components a b
        → HasTreeKeepingFrom (map_of p) ts ls v.trees a b ⊎ HasTreeKeepingFrom (map_of p) ts ls v.trees b a
    away_of_unlisted a b la lb lt same none not_listed = by_first (tree_or_spent a la)
      where
        differ : a ≢ b
        differ e = omega arith

        by_second : IsSpentSource are.results a → TreeOf b ⊎ (IsSpentSource are.results b ⊎ IsSettledSource b) → HasTreeKeepingFrom (map_of p) ts ls v.trees a b ⊎ HasTreeKeepingFrom (map_of p) ts ls v.trees b a
        by_second spent (inl t) = inr (keeps b a (λ f. none (found_back b a f)) t)
        by_second spent (inr (inl spent_too)) = absurd (not_listed (record { order = lt; within = subst (λ (n : ℕ). b < n) (sym are.each_sector) lb; connected = same; not_found = none; spent = spent; spent_too = spent_too }))
        by_second spent (inr (inr s)) = absurd (none (found_back b a (settled_found b a s la (λ e. differ (sym e)) (sym same))))

        by_first : TreeOf a ⊎ (IsSpentSource are.results a ⊎ IsSettledSource a) → HasTreeKeepingFrom (map_of p) ts ls v.trees a b ⊎ HasTreeKeepingFrom (map_of p) ts ls v.trees b a
        by_first (inl t) = inl (keeps a b none t)
        by_first (inr (inl spent)) = by_second spent (tree_or_spent b lb)
        by_first (inr (inr s)) = absurd (none (settled_found a b s lb differ same))

    pub set_apart : AreSetApart p ts ls v
    set_apart a b la lb differ bit = by_blind ((are.table.bits a b la lb).0 bit)
      where
        by_order : slice_get are.components a ≡ slice_get are.components b → ¬ AreFound are.results a b → ¬ (IsLeftUndecided are.results are.components a b ⊎ IsLeftUndecided are.results are.components b a) → (a < b) ⊎ (b < a)
            → HasTreeKeepingFrom (map_of p) ts ls v.trees a b ⊎ HasTreeKeepingFrom (map_of p) ts ls v.trees b a
        by_order same none not_listed (inl lt) = away_of_unlisted a b la lb lt same none (λ l. not_listed (inl l))
        by_order same none not_listed (inr lt) = elim (away_of_unlisted b a lb la lt (sym same) (λ f. none (found_back b a f)) (λ l. not_listed (inr l))) [ inl k ↦ inr k | inr k ↦ inl k ]

        by_component : ¬ AreFound are.results a b → ¬ (IsLeftUndecided are.results are.components a b ⊎ IsLeftUndecided are.results are.components b a) → (slice_get are.components a ≡ slice_get are.components b) ⊎ (slice_get are.components a ≢ slice_get are.components b)
            → ¬ AreConnected (map_of p) a b ⊎ (HasTreeKeepingFrom (map_of p) ts ls v.trees a b ⊎ HasTreeKeepingFrom (map_of p) ts ls v.trees b a)
        by_component none not_listed (inl same) = inr (by_order same none not_listed (below_or_above a b differ))
        by_component none not_listed (inr apart) = inl (not_connected a b la lb apart)

        by_blind : IsBlind p are.results are.components a b → ¬ AreConnected (map_of p) a b ⊎ (HasTreeKeepingFrom (map_of p) ts ls v.trees a b ⊎ HasTreeKeepingFrom (map_of p) ts ls v.trees b a)
        by_blind (inl h) = absurd (differ h.0)
        by_blind (inr h) = by_component h.1 h.2 (same_or_apart are.components a b (subst (λ (n : ℕ). a < n) (sym are.each_sector) la) (subst (λ (n : ℕ). b < n) (sym are.each_sector) lb))

  -- ---- the same of the certificate, whose rays these are

  pub cert_rays : (cert : CertParts) → cert.rays ≡ v.rays → (a b : ℕ) → a < b → b < v.table.n → HasRay cert a b ↔ (¬ Rejects v.table a b × ¬ Contains v.listed (record { a = a; b = b }))
  cert_rays cert rays a b lt in' =
      let h = rays_of_clear a b lt (subst (λ (n : ℕ). b < n) are.table.sectors in') in
      ((λ k. h.0 (subst (λ (rs : List PairRay). HasRayFor rs a b) rays k)), (λ k. subst (λ (rs : List PairRay). HasRayFor rs a b) (sym rays) (h.1 k)))

  pub both_bits_of : (a b : ℕ) → a < v.table.n → b < v.table.n → Rejects v.table a b → Rejects v.table b a
  both_bits_of a b la lb bit = both_bits a b (subst (λ (n : ℕ). a < n) are.table.sectors la) (subst (λ (n : ℕ). b < n) are.table.sectors lb) bit
