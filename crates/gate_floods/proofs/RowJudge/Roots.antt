-- The first root behind which something is left: roots in a chain are no more than there are.
use Rattle.std.proofs.Common.{◌≡◌, ℕ, suc, ◌+◌, ◌<◌, ◌≤◌, inl, inr, List, [], ◌∷◌, ◌++◌, Option, Some, None, Bool, true, false, length, if◌then◌else◌, eqb, refl, sym, ◌∙◌, ap, subst, arith}
use Rattle.std.specs.List.{slice_get, IsDistinct, AllByRecursion, list_any}
use Rattle.std.specs.Prelude.{option_and_then}
use Rattle.std.proofs.lemmas.Option.{slice_get_within}
use Rattle.std.proofs.lemmas.Map.Steps.{length-le_from_distinct_below}
use Rattle.math_base.proofs.Bools.{one_true, first_false, second_false, not_both_values}
use Rattle.math_base.proofs.Numbers.{is_told_same}
use Rattle.math_base.proofs.Options.{some_is_same, none_is_not_some, some_is_not_none}
use Rattle.cert_checker.specs.declared.tree_judge.roots.Root.{Root}
use Rattle.cert_checker.specs.TreeJudge.Path.{IsRootChain}
use Rattle.gate_floods.specs.RowJudge.Masks.{MaskRows}
use Rattle.gate_floods.specs.RowJudge.Asked.{pending_way, pending_roots, with_rest, leaves, mask_of_edge}
use Rattle.gate_floods.specs.RowJudge.Path.{AsksRoot}

-- ---- a chain is as long as its roots at most

module _ (roots : List Root) where
  -- two chains from one place are equally long
  one_length : (o : Option ℕ) (es fs : List ℕ) → IsRootChain roots o es → IsRootChain roots o fs → length es ≡ length fs
  one_length o [] [] c d = refl
  one_length o [] (f ∷ fs) c (k, r, p, q, g, d) = absurd (none_is_not_some k (sym c ∙ p))
  one_length o (e ∷ es) [] (k, r, p, q, g, c) d = absurd (none_is_not_some k (sym d ∙ p))
  one_length o (e ∷ es) (f ∷ fs) (k, r, p, q, g, c) (j, s, u, v, h, d) = ap suc (one_length s.next es fs (subst (λ (x : Root). IsRootChain roots x.next es) same c) d)
    where
      place : k ≡ j
      place = some_is_same k j (sym p ∙ u)

      same : r ≡ s
      same = some_is_same r s (sym q ∙ ap (slice_get roots) place ∙ v)

  -- the places of a chain
  abbrev places_of : (o : Option ℕ) (es : List ℕ) → IsRootChain roots o es → List ℕ
  places_of o [] c = []
  places_of o (e ∷ es) (k, r, p, q, g, c) = k ∷ places_of r.next es c

  count_places : (o : Option ℕ) (es : List ℕ) (c : IsRootChain roots o es) → length (places_of o es c) ≡ length es
  count_places o [] c = refl
  count_places o (e ∷ es) (k, r, p, q, g, c) = ap suc (count_places r.next es c)

  -- from each of its places a chain goes on that is no longer
  later : (k : ℕ) (o : Option ℕ) (es : List ℕ) (c : IsRootChain roots o es) → list_any (eqb k) (places_of o es c) ≡ true → (fs : List ℕ) × IsRootChain roots (Some k) fs × (length fs ≤ length es) × (k < length roots)
  later k o [] c h = absurd (not_both_values false h refl)
  later k o (e ∷ es) (j, r, p, q, g, c) h = elim (one_true (eqb k j) (list_any (eqb k) (places_of r.next es c)) h) as (λ _. (fs : List ℕ) × IsRootChain roots (Some k) fs × (length fs ≤ suc (length es)) × (k < length roots)) [
    | inl s ↦ (let at = is_told_same k j s in (e ∷ es, (j, r, ap (λ (n : ℕ). let u : Option ℕ = Some n in u) at, q, g, c), omega arith, (let l : j < length roots = slice_get_within roots j r q in omega (arith, l, at))))
    | inr s ↦ (let x = later k r.next es c s in (x.0, x.1, (let l : length x.0 ≤ length es = x.2 in omega (arith, l)), x.3))
  ]

  -- so no place comes twice
  no_other : (k : ℕ) (ks : List ℕ) → list_any (eqb k) ks ≡ false → AllByRecursion (λ j. eqb k j ≡ false) ks
  no_other k [] h = tt
  no_other k (j ∷ ks) h = (first_false (eqb k j) (list_any (eqb k) ks) h, no_other k ks (second_false (eqb k j) (list_any (eqb k) ks) h))

  distinct : (o : Option ℕ) (es : List ℕ) (c : IsRootChain roots o es) → IsDistinct eqb (places_of o es c)
  unfolding IsDistinct
  distinct o [] c = tt
  distinct o (e ∷ es) (k, r, p, q, g, c) = (no_other k (places_of r.next es c) (by (list_any (eqb k) (places_of r.next es c)) refl), distinct r.next es c)
    where
      here : IsRootChain roots (Some k) (e ∷ es)
      here = (k, r, refl, q, g, c)

      by : (b : Bool) → list_any (eqb k) (places_of r.next es c) ≡ b → list_any (eqb k) (places_of r.next es c) ≡ false
      by false h = h
      by true h = absurd (let x = later k r.next es c h in let s : length x.0 ≡ suc (length es) = one_length (Some k) x.0 (e ∷ es) x.1 here in let l : length x.0 ≤ length es = x.2 in omega (arith, s, l))

  pub chain_short : (o : Option ℕ) (es : List ℕ) → IsRootChain roots o es → length es ≤ length roots
  chain_short o es c = let n = length-le_from_distinct_below (places_of o es c) (length roots) (distinct o es c) (λ q h. (later q o es c h).3) in let m : length (places_of o es c) ≡ length es = count_places o es c in omega (arith, n, m)

-- ---- roots that are left out

module _ (ms : MaskRows) (row : List ℕ) (roots : List Root) where
  -- so many roots of the chain are left out, and the rest is from this place on
  pub record HasSkipped (es : List ℕ) (count : ℕ) (at : Option ℕ) : Type 0 where
    pub rest : List ℕ
    pub chain : IsRootChain roots at rest
    pub counted : length es ≡ count + length rest
    pub same : pending_roots ms row es ≡ pending_roots ms row rest

  -- the root at this place, and the chain behind it
  next_of : (r : Root) (at : Option ℕ) (rest : List ℕ) → option_and_then (slice_get roots) at ≡ Some r → IsRootChain roots at rest → (more : List ℕ) × (rest ≡ r.edge ∷ more) × IsRootChain roots r.next more
  next_of r at [] is c = absurd (none_is_not_some r (sym (ap (λ (o : Option ℕ). option_and_then (slice_get roots) o) c) ∙ is))
  next_of r at (e ∷ es) is (k, s, p, q, g, c) = (es, ap (λ (n : ℕ). n ∷ es) (sym g ∙ ap (λ (x : Root). x.edge) same), subst (λ (x : Root). IsRootChain roots x.next es) same c)
    where
      same : s ≡ r
      same = some_is_same s r (sym q ∙ sym (ap (λ (o : Option ℕ). option_and_then (slice_get roots) o) p) ∙ is)

  rest_if : (e : ℕ) (b : Bool) → leaves row (mask_of_edge ms e) ≡ b → with_rest ms row e ≡ (let o : Option ℕ = if b then Some e else None in o)
  rest_if e b h = ap (λ (c : Bool). let o : Option ℕ = if c then Some e else None in o) h

  -- one more is left out
  pub one_skipped : (es : List ℕ) (count : ℕ) (at : Option ℕ) (r : Root) → HasSkipped es count at → option_and_then (slice_get roots) at ≡ Some r → leaves row (mask_of_edge ms r.edge) ≡ false → HasSkipped es (count + 1) r.next
  one_skipped es count at r h is none =
      let n = next_of r at h.rest is h.chain in
      record {
        rest = n.0;
        chain = n.2;
        counted = let a : length es ≡ count + length h.rest = h.counted in let b : length h.rest ≡ suc (length n.0) = ap (λ (fs : List ℕ). length fs) n.1 in omega (arith, a, b);
        same = h.same ∙ ap (pending_roots ms row) n.1 ∙ ap (λ (o : Option ℕ). pending_way [] row o ++ pending_roots ms row n.0) (rest_if r.edge false none);
      }

  -- one is asked
  pub root_asked : (es : List ℕ) (count : ℕ) (at : Option ℕ) (r : Root) → HasSkipped es count at → option_and_then (slice_get roots) at ≡ Some r → leaves row (mask_of_edge ms r.edge) ≡ true → AsksRoot ms row roots es (Some r.edge) r.next
  root_asked es count at r h is some =
      let n = next_of r at h.rest is h.chain in
      record {
        rest = n.0;
        chain = n.2;
        all = h.same ∙ ap (pending_roots ms row) n.1 ∙ ap (λ (o : Option ℕ). pending_way [] row o ++ pending_roots ms row n.0) (rest_if r.edge true some);
        last = λ e. absurd (some_is_not_none r.edge e);
      }

  ended : (es : List ℕ) (count : ℕ) (at : Option ℕ) → HasSkipped es count at → (rest : List ℕ) → IsRootChain roots at rest → pending_roots ms row es ≡ pending_roots ms row rest → rest ≡ [] → AsksRoot ms row roots es None at
  ended es count at h rest c same e = record {
    rest = rest;
    chain = c;
    all = same;
    last = λ _. ap (pending_roots ms row) e;
  }

  -- no root is there any more
  pub roots_ended : (es : List ℕ) (count : ℕ) (at : Option ℕ) → HasSkipped es count at → option_and_then (slice_get roots) at ≡ None → AsksRoot ms row roots es None at
  roots_ended es count at h none = ended es count at h h.rest h.chain h.same (empty h.rest h.chain)
    where
      empty : (rest : List ℕ) → IsRootChain roots at rest → rest ≡ []
      empty [] c = refl
      empty (e ∷ rest) (k, s, p, q, g, c) = absurd (none_is_not_some s (sym none ∙ ap (λ (o : Option ℕ). option_and_then (slice_get roots) o) p ∙ q))

  -- as many are left out as there are
  pub all_skipped : (es : List ℕ) (count : ℕ) (o at : Option ℕ) → IsRootChain roots o es → length roots ≤ count → HasSkipped es count at → AsksRoot ms row roots es None at
  all_skipped es count o at c l h = ended es count at h h.rest h.chain h.same (empty h.rest (let s : length es ≤ length roots = chain_short roots o es c in let k : length es ≡ count + length h.rest = h.counted in omega (arith, s, k, l)))
    where
      empty : (rest : List ℕ) → length rest ≤ 0 → rest ≡ []
      empty [] l = refl
      empty (e ∷ rest) l = absurd (omega (arith, l))
