-- Ends of a list of portals, and of a longer one.
use Rattle.std.proofs.Common.{◌≡◌, ℕ, zero, suc, ◌+◌, ◌-◌, ◌<◌, ◌≤◌, List, [], ◌∷◌, ◌++◌, length, Option, Some, None, Bool, true, false, refl, sym, ap, ◌∙◌, arith, ◌⊎◌, inl, inr, subst}
use Rattle.std.specs.Prelude.{slice_get, option_map, nat_lt, if◌then◌else◌}
use Rattle.std.proofs.lemmas.Bool.{lt-ltb, le-ltb}
use Rattle.std.proofs.lemmas.Option.{slice_get_within}
use Rattle.sight_names.specs.declared.limits.TheConstants.{RIGHT_END}
use Rattle.sight_names.specs.declared.names.Pt.{Pt}
use Rattle.sight_names.specs.declared.names.EndAt.{EndAt}
use Rattle.sight_names.specs.declared.names.EndPair.{EndPair}
use Rattle.sight_names.specs.Splitting.{EndPoints, IsEndPairOf, end_of}
use Rattle.math_base.proofs.Options.{some_is_same, none_is_not_some}

pub get_append : {X : Type 0} (xs ys : List X) (k : ℕ) (x : X) → slice_get xs k ≡ Some x → slice_get (xs ++ ys) k ≡ Some x
get_append [] ys k x h = absurd (none_is_not_some x h)
get_append (z ∷ xs) ys zero x h = h
get_append (z ∷ xs) ys (suc k) x h = get_append xs ys k x h

-- an element of a longer list is one of the shorter or the last
pub get_cases : {X : Type 0} (xs : List X) (y : X) (k : ℕ) (x : X) → slice_get (xs ++ y ∷ []) k ≡ Some x → (slice_get xs k ≡ Some x) ⊎ (y ≡ x)
get_cases [] y zero x h = inr (some_is_same y x h)
get_cases [] y (suc k) x h = absurd (none_is_not_some x h)
get_cases (z ∷ xs) y zero x h = inl h
get_cases (z ∷ xs) y (suc k) x h = get_cases xs y k x h

mapped : (code : ℕ) (f : EndPoints → Pt) (o o' : Option EndPoints) (e : EndAt) → ((q : EndPoints) → o ≡ Some q → o' ≡ Some q) → ◌≡◌ {A = Option EndAt} (option_map (λ (p : Pt). record { code = code; at = p }) (option_map f o)) (Some e) → ◌≡◌ {A = Option EndAt} (option_map (λ (p : Pt). record { code = code; at = p }) (option_map f o')) (Some e)
mapped code f None o' e h k = absurd (none_some k)
  where
    none_some : ◌≡◌ {A = Option EndAt} None (Some e) → ⊥
    none_some h = cc
mapped code f (Some q) o' e h k = subst (λ (o : Option EndPoints). ◌≡◌ {A = Option EndAt} (option_map (λ (p : Pt). record { code = code; at = p }) (option_map f o)) (Some e)) (sym (h q refl)) k

end_longer : (es fs : List EndPoints) (code : ℕ) (b : Bool) (e : EndAt)
    → ◌≡◌ {A = Option EndAt} (option_map (λ (p : Pt). record { code = code; at = p }) (if b then option_map (λ (e : EndPoints). e.left) (slice_get es code) else option_map (λ (e : EndPoints). e.right) (slice_get es (code - RIGHT_END)))) (Some e)
    → ◌≡◌ {A = Option EndAt} (option_map (λ (p : Pt). record { code = code; at = p }) (if b then option_map (λ (e : EndPoints). e.left) (slice_get (es ++ fs) code) else option_map (λ (e : EndPoints). e.right) (slice_get (es ++ fs) (code - RIGHT_END)))) (Some e)
end_longer es fs code true e h = mapped code (λ (e : EndPoints). e.left) (slice_get es code) (slice_get (es ++ fs) code) e (λ q k. get_append es fs code q k) h
end_longer es fs code false e h = mapped code (λ (e : EndPoints). e.right) (slice_get es (code - RIGHT_END)) (slice_get (es ++ fs) (code - RIGHT_END)) e (λ q k. get_append es fs (code - RIGHT_END) q k) h

-- an end of portals is an end of more portals
pub end_of_more : (es fs : List EndPoints) (code : ℕ) (e : EndAt) → end_of es code ≡ Some e → end_of (es ++ fs) code ≡ Some e
end_of_more es fs code e h = end_longer es fs code (nat_lt code RIGHT_END) e h

pub pair_of_more : (es fs : List EndPoints) (p : EndPair) → IsEndPairOf es p → IsEndPairOf (es ++ fs) p
pair_of_more es fs p h = record { left_code = h.left_code; right_code = h.right_code; left = end_of_more es fs p.left.code p.left h.left; right = end_of_more es fs p.right.code p.right h.right }

-- ---- ends by their places
below : (k : ℕ) → k < RIGHT_END → nat_lt k RIGHT_END ≡ true
below k h = lt-ltb k RIGHT_END h

not_below : (k : ℕ) → RIGHT_END ≤ k → nat_lt k RIGHT_END ≡ false
not_below k h = le-ltb k RIGHT_END h

pub left_end : (es : List EndPoints) (k : ℕ) (q : EndPoints) → k < RIGHT_END → slice_get es k ≡ Some q → ◌≡◌ {A = Option EndAt} (end_of es k) (Some (record { code = k; at = q.left }))
left_end es k q h e = ap (λ (b : Bool). option_map (λ (p : Pt). let v : EndAt = record { code = k; at = p } in v) (if b then option_map (λ (e : EndPoints). e.left) (slice_get es k) else option_map (λ (e : EndPoints). e.right) (slice_get es (k - RIGHT_END)))) (below k h)
    ∙ ap (λ (o : Option EndPoints). option_map (λ (p : Pt). let v : EndAt = record { code = k; at = p } in v) (option_map (λ (e : EndPoints). e.left) o)) e

pub right_end : (es : List EndPoints) (k : ℕ) (q : EndPoints) → slice_get es k ≡ Some q → ◌≡◌ {A = Option EndAt} (end_of es (RIGHT_END + k)) (Some (record { code = RIGHT_END + k; at = q.right }))
right_end es k q e = ap (λ (b : Bool). option_map (λ (p : Pt). let v : EndAt = record { code = RIGHT_END + k; at = p } in v) (if b then option_map (λ (e : EndPoints). e.left) (slice_get es (RIGHT_END + k)) else option_map (λ (e : EndPoints). e.right) (slice_get es (RIGHT_END + k - RIGHT_END)))) (not_below (RIGHT_END + k) (omega arith))
    ∙ ap (λ (n : ℕ). option_map (λ (p : Pt). let v : EndAt = record { code = RIGHT_END + k; at = p } in v) (option_map (λ (e : EndPoints). e.right) (slice_get es n))) (omega arith)
    ∙ ap (λ (o : Option EndPoints). option_map (λ (p : Pt). let v : EndAt = record { code = RIGHT_END + k; at = p } in v) (option_map (λ (e : EndPoints). e.right) o)) e

-- ---- places by their ends
found : (code : ℕ) (f : EndPoints → Pt) (o : Option EndPoints) (e : EndAt) → ◌≡◌ {A = Option EndAt} (option_map (λ (p : Pt). record { code = code; at = p }) (option_map f o)) (Some e) → (q : EndPoints) × (o ≡ Some q) × (f q ≡ e.at)
found code f None e h = absurd (none_some h)
  where
    none_some : ◌≡◌ {A = Option EndAt} None (Some e) → ⊥
    none_some h = cc
found code f (Some q) e h = (q, refl, ap (λ (v : EndAt). v.at) (some_is_same (record { code = code; at = f q }) e h))

pub left_place : (es : List EndPoints) (e : EndAt) → e.code < RIGHT_END → end_of es e.code ≡ Some e → (i : ℕ) × (p : EndPoints) × (slice_get es i ≡ Some p) × (p.left ≡ e.at)
left_place es e h k =
    let t = found e.code (λ (q : EndPoints). q.left) (slice_get es e.code) e
    (ap (λ (b : Bool). option_map (λ (p : Pt). let v : EndAt = record { code = e.code; at = p } in v) (if b then option_map (λ (e : EndPoints). e.left) (slice_get es e.code) else option_map (λ (e : EndPoints). e.right) (slice_get es (e.code - RIGHT_END)))) (sym (below e.code h)) ∙ k) in
    (e.code, t.0, t.1, t.2)

pub right_place : (es : List EndPoints) (e : EndAt) → RIGHT_END ≤ e.code → end_of es e.code ≡ Some e → (j : ℕ) × (q : EndPoints) × (slice_get es j ≡ Some q) × (q.right ≡ e.at)
right_place es e h k =
    let t = found e.code (λ (q : EndPoints). q.right) (slice_get es (e.code - RIGHT_END)) e
    (ap (λ (b : Bool). option_map (λ (p : Pt). let v : EndAt = record { code = e.code; at = p } in v) (if b then option_map (λ (e : EndPoints). e.left) (slice_get es e.code) else option_map (λ (e : EndPoints). e.right) (slice_get es (e.code - RIGHT_END)))) (sym (not_below e.code h)) ∙ k) in
    (e.code - RIGHT_END, t.0, t.1, t.2)

-- ---- codes of ends are those of places
pub left_within : (es : List EndPoints) (e : EndAt) → e.code < RIGHT_END → end_of es e.code ≡ Some e → e.code < length es
unfolding left_place
left_within es e h k = let t = left_place es e h k in slice_get_within es e.code t.1 t.2

pub right_within : (es : List EndPoints) (e : EndAt) → RIGHT_END ≤ e.code → end_of es e.code ≡ Some e → e.code < length es + RIGHT_END
unfolding right_place
right_within es e h k = let t = right_place es e h k in let b = slice_get_within es (e.code - RIGHT_END) t.1 t.2 in omega (arith, b, h)
