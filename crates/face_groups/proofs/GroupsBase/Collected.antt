-- Lists that ascend strictly, made of what is said at the first places: for any order of which it can be told which of two things comes first.
use Rattle.std.proofs.Common.{◌≡◌, ℕ, zero, suc, ◌<◌, refl, sym, ap, ◌∙◌, subst, ◌⊎◌, inl, inr, List, [], ◌∷◌, slice_get, Option, Some, None, arith}
use Rattle.std.proofs.lemmas.Option.{same_Some, none-some}
use Rattle.math_base.proofs.Numbers.{below_above_or_same}
use Rattle.face_groups.proofs.GroupsBase.Ordered.{Has}

module _ {X : Type 0} (Lt : X → X → Type 0) (trans : (x y z : X) → Lt x y → Lt y z → Lt x z) (order : (x y : X) → Lt x y ⊎ (Lt y x ⊎ (x ≡ y))) where
  abbrev pub Ascend : List X → Type 0
  Ascend xs = (i j : ℕ) (x y : X) → i < j → slice_get xs i ≡ Some x → slice_get xs j ≡ Some y → Lt x y

  cons_ascends : (a : X) (xs : List X) → Ascend xs → ((b : X) → Has xs b → Lt a b) → Ascend (a ∷ xs)
  cons_ascends a xs up low i j x y lt ei ej = go i j lt ei ej
    where
      go : (i j : ℕ) → i < j → slice_get (a ∷ xs) i ≡ Some x → slice_get (a ∷ xs) j ≡ Some y → Lt x y
      go i zero lt ei ej = absurd (omega (arith, lt))
      go zero (suc j) lt ei ej = subst (λ (z : X). Lt z y) (same_Some a x ei) (low y (j, ej))
      go (suc i) (suc j) lt ei ej = up i j x y (omega (arith, lt)) ei ej

  tail_ascends : (a : X) (xs : List X) → Ascend (a ∷ xs) → Ascend xs
  tail_ascends a xs up i j x y lt ei ej = up (suc i) (suc j) x y (omega (arith, lt)) ei ej

  -- with one more member
  record HasMore (a : X) (xs ys : List X) : Type 0 where
    up : Ascend ys
    only : (b : X) → Has ys b → (a ≡ b) ⊎ Has xs b
    new : Has ys a
    old : (b : X) → Has xs b → Has ys b

  put_first : (a : X) (xs : List X) → Ascend xs → ((b : X) → Has xs b → Lt a b) → HasMore a xs (a ∷ xs)
  put_first a xs up low = record { up = cons_ascends a xs up low; only = λ b h. only b h.0 h.1; new = (0, refl); old = λ b h. (suc h.0, h.1) }
    where
      only : (b : X) (i : ℕ) → slice_get (a ∷ xs) i ≡ Some b → (a ≡ b) ⊎ Has xs b
      only b zero e = inl (same_Some a b e)
      only b (suc i) e = inr (i, e)

  put : (a : X) (xs : List X) → Ascend xs → (ys : List X) × HasMore a xs ys
  put a [] up = (a ∷ [], put_first a [] up (λ b h. absurd (none-some b h.1)))
  put a (x ∷ xs) up = elim (order a x) as (λ _. (ys : List X) × HasMore a (x ∷ xs) ys) [
    | inl lt ↦ (a ∷ x ∷ xs, put_first a (x ∷ xs) up (λ b h. low lt b h.0 h.1))
    | inr (inr e) ↦ (x ∷ xs, record { up = up; only = λ b h. inr h; new = (0, ap (λ (y : X). Some y) (sym e)); old = λ b h. h })
    | inr (inl gt) ↦ (let r = put a xs (tail_ascends x xs up) in (x ∷ r.0, after gt r.0 r.1))
  ]
    where
      low : Lt a x → (b : X) (i : ℕ) → slice_get (x ∷ xs) i ≡ Some b → Lt a b
      low lt b zero e = subst (λ (z : X). Lt a z) (same_Some x b e) lt
      low lt b (suc i) e = trans a x b lt (up 0 (suc i) x b (omega arith) refl e)

      after : Lt x a → (ys : List X) → HasMore a xs ys → HasMore a (x ∷ xs) (x ∷ ys)
      after gt ys h = record {
        up = cons_ascends x ys h.up (λ b i. elim (h.only b i) as (λ _. Lt x b) [ inl e ↦ subst (λ (y : X). Lt x y) e gt | inr k ↦ up 0 (suc k.0) x b (omega arith) refl k.1 ]);
        only = λ b i. only b i.0 i.1;
        new = (suc h.new.0, h.new.1);
        old = λ b i. old b i.0 i.1;
      }
        where
          only : (b : X) (i : ℕ) → slice_get (x ∷ ys) i ≡ Some b → (a ≡ b) ⊎ Has (x ∷ xs) b
          only b zero e = inr (0, e)
          only b (suc i) e = elim (h.only b (i, e)) as (λ _. (a ≡ b) ⊎ Has (x ∷ xs) b) [ inl q ↦ inl q | inr k ↦ inr (suc k.0, k.1) ]

          old : (b : X) (i : ℕ) → slice_get (x ∷ xs) i ≡ Some b → Has (x ∷ ys) b
          old b zero e = (0, e)
          old b (suc i) e = let k = h.old b (i, e) in (suc k.0, k.1)

  -- what is said at the first n places, beside what was there
  pub record AreSaid (said : ℕ → Option X) (n : ℕ) (xs ys : List X) : Type 0 where
    pub up : Ascend ys
    pub only : (b : X) → Has ys b → Has xs b ⊎ ((i : ℕ) × (i < n) × (said i ≡ Some b))
    pub old : (b : X) → Has xs b → Has ys b
    pub new : (i : ℕ) (b : X) → i < n → said i ≡ Some b → Has ys b

  one_more : (said : ℕ → Option X) (n : ℕ) (xs rs : List X) → AreSaid said n xs rs → (o : Option X) → said n ≡ o → (ys : List X) × AreSaid said (suc n) xs ys
  one_more said n xs rs r o e = go o e
    where
      earlier : (i : ℕ) (b : X) → i < suc n → said i ≡ Some b → ◌≡◌ {A = Option X} (said n) None → Has rs b
      earlier i b lt e none = elim (below_above_or_same i n) as (λ _. Has rs b) [
        | inl less ↦ r.new i b less e
        | inr (inl more) ↦ absurd (omega (arith, lt, more))
        | inr (inr same) ↦ absurd (none-some b (sym none ∙ ap said (sym same) ∙ e))
      ]

      wider : (b : X) → Has xs b ⊎ ((i : ℕ) × (i < n) × (said i ≡ Some b)) → Has xs b ⊎ ((i : ℕ) × (i < suc n) × (said i ≡ Some b))
      wider b (inl h) = inl h
      wider b (inr (i, lt, e)) = inr (i, omega (arith, lt), e)

      go : (o : Option X) → said n ≡ o → (ys : List X) × AreSaid said (suc n) xs ys
      go None e = (rs, record { up = r.up; only = λ b h. wider b (r.only b h); old = r.old; new = λ i b lt f. earlier i b lt f e })
      go (Some a) e =
          let p = put a rs r.up in (
            p.0,
            record {
              up = p.1.up;
              only = λ b h. elim (p.1.only b h) as (λ _. Has xs b ⊎ ((i : ℕ) × (i < suc n) × (said i ≡ Some b))) [
                | inl q ↦ inr (n, omega arith, e ∙ ap (λ (x : X). Some x) q)
                | inr k ↦ wider b (r.only b k)
              ];
              old = λ b h. p.1.old b (r.old b h);
              new = λ i b lt f. elim (below_above_or_same i n) as (λ _. Has p.0 b) [
                | inl less ↦ p.1.old b (r.new i b less f)
                | inr (inl more) ↦ absurd (omega (arith, lt, more))
                | inr (inr same) ↦ subst (λ (x : X). Has p.0 x) (same_Some a b (sym e ∙ ap said (sym same) ∙ f)) p.1.new
              ];
            },
          )

  pub collect : (said : ℕ → Option X) (n : ℕ) (xs : List X) → Ascend xs → (ys : List X) × AreSaid said n xs ys
  collect said zero xs up = (xs, record { up = up; only = λ b h. inl h; old = λ b h. h; new = λ i b lt e. absurd (omega (arith, lt)) })
  collect said (suc n) xs up = let r = collect said n xs up in one_more said n xs r.0 r.1 (said n) refl
