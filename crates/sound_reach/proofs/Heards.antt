-- The sectors that one search reaches: how many of them hear each other.
use Rattle.std.proofs.Common.{◌≡◌, ℕ, zero, suc, ◌+◌, ◌-◌, ◌*◌, ◌<◌, ◌≤◌, ◌⊎◌, ◌↔◌, inl, inr, List, [], ◌∷◌, ◌++◌, length, Option, Some, None, Bool, true, false, not, cond, refl, sym, ap, ◌∙◌, subst, arith, zero-add, set, length-set, get_or, get_or-set_same, get_or-set_other}
use Rattle.std.specs.Prelude.{IsTrue, is_some, unwrap_or}
use Rattle.std.specs.List.{count_by, range_with_len, sum_by}
use Rattle.std.proofs.lemmas.Bool.{false≢true}
use Rattle.std.proofs.lemmas.List.Sums.{sum_by-cons, count_by-le-length}
use Rattle.std.proofs.lemmas.Option.{same_Some}
use Rattle.sight_names.specs.declared.names.Side.{Side}
use Rattle.sight_names.specs.Map.{Map}
use Rattle.sight_names.specs.Noise.{AreHeardCounts, IsNoiseHeard, LeadThrough, is_damped}
use Rattle.sound_reach.specs.declared.doors.Door.{Door}
use Rattle.sound_reach.specs.Doors.{AreDoors}
use Rattle.sound_reach.specs.Routes.{AreDistances, distance_at}
use Rattle.sound_reach.specs.Counts.{AreFilled, AreRows, IsCountOfHearers, is_heard_near, distance_in}
use Rattle.sound_reach.proofs.Lookups.{read_at, none_some}
use Rattle.sound_reach.proofs.Mapped.{allowance, back, count_back, count_joined, heard_through, lead_back, lead_joined, leads_route, route_leads}
use Rattle.math_base.proofs.Numbers.{below_or_not, below_or_last, same_or_not}

-- ---- what one search tells

some_of : {X : Type 0} (o : Option X) → is_some o ≡ true → (x : X) × (o ≡ Some x)
some_of None e = absurd (false≢true e)
some_of (Some x) e = (x, refl)

is_some_of : {X : Type 0} (o : Option X) (x : X) → o ≡ Some x → is_some o ≡ true
is_some_of o x e = ap is_some e

module _ (m : Map) (d : List Bool) (es : List Door) (are : AreDoors m d es) (r : ℕ) (ds : List (Option ℕ)) (is : AreDistances es m.sectors r ds) where
  near_leads : (spare : Bool) (a : ℕ) → is_heard_near ds spare a ≡ true → (ss : List Side) × LeadThrough m a ss r × (count_by (is_damped d) ss ≤ allowance spare)
  near_leads spare a e =
      let k = some_of (distance_at ds (record { sector = a; spare = spare })) e in
      let w = is.routes (record { sector = a; spare = spare }) k.0 k.1 in
      let v = route_leads m d es are r (record { sector = a; spare = spare }) w.0 w.1 in
      (w.0, v.0, v.1)

  leads_near : (spare : Bool) (a : ℕ) (ss : List Side) → LeadThrough m a ss r → count_by (is_damped d) ss ≤ allowance spare → is_heard_near ds spare a ≡ true
  leads_near spare a ss lead le =
      let w = is.fewest (record { sector = a; spare = spare }) ss (leads_route m d es are a r spare ss lead le) in
      is_some_of (distance_at ds (record { sector = a; spare = spare })) w.0 w.1

  pub own_near : is_heard_near ds false r ≡ true
  own_near = leads_near false r [] refl (omega arith)

  pub near_row : (a : ℕ) → is_heard_near ds false a ≡ true → IsCountOfHearers m d a (count_by (is_heard_near ds true) (range_with_len a (m.sectors - a)))
  near_row a quiet = record { hears = is_heard_near ds true; tells = λ b lt. (forth b, forward b); count_is = refl }
    where
      from : (ss : List Side) × LeadThrough m a ss r × (count_by (is_damped d) ss ≤ 0)
      from = near_leads false a quiet

      sums : (x y z n : ℕ) → x ≡ y + z → y ≤ 0 → z ≤ n → x ≤ n
      sums x y z n e f g = omega (arith, e, f, g)

      forth : (b : ℕ) → IsTrue (is_heard_near ds true b) → IsNoiseHeard m d a b
      forth b e =
          let w = near_leads true b e in
          let c = count_joined d from.0 (back w.0) in
          let k = count_back d w.0 in
          heard_through m d a b (from.0 ++ back w.0) (lead_joined m a r b from.0 (back w.0) from.1 (lead_back m b r w.0 w.1))
          (sums (count_by (is_damped d) (from.0 ++ back w.0)) (count_by (is_damped d) from.0) (count_by (is_damped d) (back w.0)) 1 c from.2 (subst (λ (n : ℕ). n ≤ 1) (sym k) w.2))

      forward : (b : ℕ) → IsNoiseHeard m d a b → IsTrue (is_heard_near ds true b)
      forward b (ss, path) =
          let c = count_joined d (back ss) from.0 in
          let k = count_back d ss in
          leads_near true b (back ss ++ from.0) (lead_joined m b a r (back ss) from.0 (lead_back m a b ss path.lead) from.1)
          (sums2 (count_by (is_damped d) (back ss ++ from.0)) (count_by (is_damped d) (back ss)) (count_by (is_damped d) from.0) c (subst (λ (n : ℕ). n ≤ 1) (sym k) path.damped) from.2)
        where
          sums2 : (x y z : ℕ) → x ≡ y + z → y ≤ 1 → z ≤ 0 → x ≤ 1
          sums2 x y z e f g = omega (arith, e, f, g)

-- ---- the rows that are known

both_ways : (b : Bool) → (b ≡ true) ⊎ (b ≡ false)
both_ways true = inl refl
both_ways false = inr refl

row_within : (rows : List (Option ℕ)) (a c : ℕ) → distance_in rows a ≡ Some c → a < length rows
row_within [] a c e = absurd (none_some None c refl e)
row_within (o ∷ rows) zero c e = omega arith
row_within (o ∷ rows) (suc a) c e = let r = row_within rows a c e in omega (arith, r)

pub rows_more : (m : Map) (d : List Bool) (es : List Door) → AreDoors m d es → (n : ℕ) (ds rows rows' : List (Option ℕ)) → n < m.sectors → AreDistances es m.sectors n ds → AreFilled m.sectors ds rows rows' → AreRows m d n rows → AreRows m d (n + 1) rows'
rows_more m d es are n ds rows rows' lt is filled h = record {
  len = filled.len ∙ h.len;
  each = λ a count e. elim (both_ways (is_heard_near ds false a)) as (λ _. IsCountOfHearers m d a count) [
    | inl near ↦ subst (IsCountOfHearers m d a) (same_Some _ count (sym (filled.near a (inside a count e) near) ∙ e)) (near_row m d es are n ds is a near)
    | inr far ↦ h.each a count (sym (filled.far a (inside a count e) far) ∙ e)
  ];
  known = λ a less. elim (both_ways (is_heard_near ds false a)) as (λ _. (count : ℕ) × (distance_in rows' a ≡ Some count)) [
    | inl near ↦ (count_by (is_heard_near ds true) (range_with_len a (m.sectors - a)), filled.near a (below a less) near)
    | inr far ↦ elim (below_or_last a n less) as (λ _. (count : ℕ) × (distance_in rows' a ≡ Some count)) [
      | inl l ↦ let w = h.known a l in (w.0, filled.far a (below a less) far ∙ w.1)
      | inr same ↦ absurd (false≢true (sym far ∙ ap (is_heard_near ds false) same ∙ own_near m d es are n ds is))
    ]
  ];
}
  where
    inside : (a count : ℕ) → distance_in rows' a ≡ Some count → a < m.sectors
    inside a count e = let w = row_within rows' a count e in let f = filled.len in let g = h.len in omega (arith, w, f, g)

    below : (a : ℕ) → a < n + 1 → a < m.sectors
    below a l = omega (arith, l, lt)

pub rows_known : (m : Map) (d : List Bool) (n count : ℕ) (rows : List (Option ℕ)) → distance_in rows n ≡ Some count → AreRows m d n rows → AreRows m d (n + 1) rows
rows_known m d n count rows e h = record {
  len = h.len;
  each = h.each;
  known = λ a less. elim (below_or_last a n less) as (λ _. (count : ℕ) × (distance_in rows a ≡ Some count)) [ inl l ↦ h.known a l | inr same ↦ (count, ap (distance_in rows) same ∙ e) ];
}

-- ---- sums over the sectors from one on

pub sum_step : (f : ℕ → ℕ) (b n : ℕ) → b < n → sum_by f (range_with_len b (n - b)) ≡ f b + sum_by f (range_with_len (b + 1) (n - (b + 1)))
sum_step f b n h =
    let e : n - b ≡ suc (n - (b + 1)) = omega arith in
    ap (λ k. sum_by f (range_with_len b k)) e ∙ sum_by-cons f b (range_with_len (b + 1) (n - (b + 1)))

pub sum_end : (f : ℕ → ℕ) (b n : ℕ) → n ≤ b → sum_by f (range_with_len b (n - b)) ≡ 0
sum_end f b n h =
    let e : n - b ≡ 0 = omega arith in
    ap (λ k. sum_by f (range_with_len b k)) e

pub sum_same_from : (f g : ℕ → ℕ) (b k : ℕ) → ((a : ℕ) → a < b + k → f a ≡ g a) → sum_by f (range_with_len b k) ≡ sum_by g (range_with_len b k)
sum_same_from f g b zero same = refl
sum_same_from f g b (suc k) same =
    let one = same b (omega arith) in
    let rest = sum_same_from f g (b + 1) k (λ a lt. same a (omega (arith, lt))) in
    let x = sum_by-cons f b (range_with_len (b + 1) k) in
    let y = sum_by-cons g b (range_with_len (b + 1) k) in
    sums (sum_by f (range_with_len b (suc k))) (f b) (sum_by f (range_with_len (b + 1) k)) (sum_by g (range_with_len b (suc k))) (g b) (sum_by g (range_with_len (b + 1) k)) x y one rest
  where
    sums : (x y z u v w : ℕ) → x ≡ y + z → u ≡ v + w → y ≡ v → z ≡ w → x ≡ u
    sums x y z u v w a b c e = omega (arith, a, b, c, e)

pub sum_same : (f g : ℕ → ℕ) (n : ℕ) → ((a : ℕ) → a < n → f a ≡ g a) → sum_by f (range_with_len 0 n) ≡ sum_by g (range_with_len 0 n)
sum_same f g n same = sum_same_from f g 0 n (λ a lt. same a (omega (arith, lt)))

count_not : {X : Type 0} (p : X → Bool) (xs : List X) → count_by p xs + count_by (λ x. not (p x)) xs ≡ length xs
count_not p [] = refl
count_not p (x ∷ xs) =
    let a = sum_by-cons (λ y. cond (p y) 1 0) x xs in
    let b = sum_by-cons (λ y. cond (not (p y)) 1 0) x xs in
    let c = count_not p xs in
    let e = one (p x) in
    sums (count_by p (x ∷ xs)) (cond (p x) 1 0) (count_by p xs) (count_by (λ y. not (p y)) (x ∷ xs)) (cond (not (p x)) 1 0) (count_by (λ y. not (p y)) xs) (length xs) a b e c
  where
    one : (b : Bool) → cond b 1 0 + cond (not b) 1 0 ≡ 1
    one true = refl
    one false = refl

    sums : (x y z u v w n : ℕ) → x ≡ y + z → u ≡ v + w → y + v ≡ 1 → z + w ≡ n → x + u ≡ suc n
    sums x y z u v w n a b c e = omega (arith, a, b, c, e)

range_length : (a n : ℕ) → length (range_with_len a n) ≡ n
range_length a zero = refl
range_length a (suc n) = ap suc (range_length (a + 1) n)

-- ---- all rows known

-- the number in a row
abbrev pub row_value : List (Option ℕ) → ℕ → ℕ
row_value rows a = unwrap_or (distance_in rows a) 0

pub row_few : (m : Map) (d : List Bool) (n : ℕ) (rows : List (Option ℕ)) (a count : ℕ) → AreRows m d n rows → distance_in rows a ≡ Some count → count ≤ m.sectors - a
row_few m d n rows a count h e =
    let row = h.each a count e in
    let is = row.count_is in
    let le = count_by-le-length row.hears (range_with_len a (m.sectors - a)) in
    let len = range_length a (m.sectors - a) in
    omega (arith, is, le, len)

module _ (m : Map) (d : List Bool) (rows : List (Option ℕ)) (h : AreRows m d m.sectors rows) where
  row : (a : ℕ) (lt : a < m.sectors) → IsCountOfHearers m d a (h.known a lt).0
  row a lt = let k = h.known a lt in h.each a k.0 k.1

  pick : (a : ℕ) → (a < m.sectors) ⊎ (m.sectors ≤ a) → ℕ → Bool
  pick a (inl lt) b = (h.each a (h.known a lt).0 (h.known a lt).1).hears b
  pick a (inr le) b = false

  tell : (a b : ℕ) (s : (a < m.sectors) ⊎ (m.sectors ≤ a)) → a < m.sectors → b < m.sectors → IsTrue (pick a s b) ↔ IsNoiseHeard m d a b
  unfolding pick
  tell a b (inl lt) ha hb = (h.each a (h.known a lt).0 (h.known a lt).1).tells b hb
  tell a b (inr le) ha hb = absurd (omega (arith, le, ha))

  value : (a : ℕ) (s : (a < m.sectors) ⊎ (m.sectors ≤ a)) → a < m.sectors → row_value rows a ≡ count_by (pick a s) (range_with_len a (m.sectors - a))
  unfolding pick
  value a (inl lt) ha = ap (λ (o : Option ℕ). unwrap_or o 0) (h.known a lt).1 ∙ (h.each a (h.known a lt).0 (h.known a lt).1).count_is
  value a (inr le) ha = absurd (omega (arith, le, ha))

  unheard : (a : ℕ) → a < m.sectors → m.sectors - a - row_value rows a ≡ count_by (λ b. not (pick a (below_or_not a m.sectors) b)) (range_with_len a (m.sectors - a))
  unheard a ha =
      let v = value a (below_or_not a m.sectors) ha in
      let c = count_not (pick a (below_or_not a m.sectors)) (range_with_len a (m.sectors - a)) in
      let len = range_length a (m.sectors - a) in
      omega (arith, v, c, len)

  pub counts_heard : (pairs silent : ℕ) → pairs ≡ sum_by (row_value rows) (range_with_len 0 m.sectors) → silent ≡ sum_by (λ a. m.sectors - a - row_value rows a) (range_with_len 0 m.sectors) → AreHeardCounts m d pairs silent
  counts_heard pairs silent e f = record {
    hears = λ a. pick a (below_or_not a m.sectors);
    tells = λ a b ha hb. tell a b (below_or_not a m.sectors) ha hb;
    pairs_are = e ∙ sum_same (row_value rows) (λ a. count_by (pick a (below_or_not a m.sectors)) (range_with_len a (m.sectors - a))) m.sectors (λ a lt. value a (below_or_not a m.sectors) lt);
    silent_are = f ∙ sum_same (λ a. m.sectors - a - row_value rows a) (λ a. count_by (λ b. not (pick a (below_or_not a m.sectors) b)) (range_with_len a (m.sectors - a))) m.sectors unheard;
  }

-- ---- the rows filled, from the last sector down

-- the last sectors, so many, are done
pub record IsFilling (sectors : ℕ) (ds rows rows' : List (Option ℕ)) (done count : ℕ) : Type 0 where
  pub count_is : count ≡ count_by (is_heard_near ds true) (range_with_len (sectors - done) (sectors - (sectors - done)))
  pub few : count ≤ done
  pub len : length rows' ≡ length rows
  pub near : (a : ℕ) → sectors - done ≤ a → a < sectors → is_heard_near ds false a ≡ true → distance_in rows' a ≡ Some (count_by (is_heard_near ds true) (range_with_len a (sectors - a)))
  pub far : (a : ℕ) → is_heard_near ds false a ≡ false → distance_in rows' a ≡ distance_in rows a

-- the count with one sector more
pub counted_more : (sectors done count more b : ℕ) (ds : List (Option ℕ)) → done < sectors → b ≡ sectors - 1 - done → count ≡ count_by (is_heard_near ds true) (range_with_len (sectors - done) (sectors - (sectors - done))) → more ≡ cond (is_heard_near ds true b) 1 0 + count
    → more ≡ count_by (is_heard_near ds true) (range_with_len b (sectors - b))
counted_more sectors done count more b ds lt is e f =
    let s = sum_step (λ x. cond (is_heard_near ds true x) 1 0) b sectors (omega (arith, lt, is)) in
    let g : sectors - done ≡ b + 1 = omega (arith, lt, is) in
    let h = subst (λ k. count ≡ count_by (is_heard_near ds true) (range_with_len k (sectors - k))) g e in
    omega (arith, s, h, f)

pub one_more : (t : Bool) (more count : ℕ) → t ≡ true → more ≡ count + 1 → more ≡ cond t 1 0 + count
one_more t more count e f = let g : ◌≡◌ {A = ℕ} (cond t 1 0) 1 = ap (λ (b : Bool). cond b 1 0) e in omega (arith, f, g)

pub none_more : (t : Bool) (more count : ℕ) → t ≡ false → more ≡ count → more ≡ cond t 1 0 + count
none_more t more count e f = let g : ◌≡◌ {A = ℕ} (cond t 1 0) 0 = ap (λ (b : Bool). cond b 1 0) e in omega (arith, f, g)

pub filling_near : (sectors done count more b : ℕ) (ds rows rows' : List (Option ℕ)) → length rows ≡ sectors → done < sectors → b ≡ sectors - 1 - done → more ≡ cond (is_heard_near ds true b) 1 0 + count → is_heard_near ds false b ≡ true
    → IsFilling sectors ds rows rows' done count → IsFilling sectors ds rows (set rows' b (Some more)) (done + 1) more
filling_near sectors done count more b ds rows rows' all lt is e near h =
    let counted = counted_more sectors done count more b ds lt is h.count_is e in
    let len : length rows' ≡ sectors = h.len ∙ all in
    record {
      count_is = subst (λ k. more ≡ count_by (is_heard_near ds true) (range_with_len k (sectors - k))) (next is lt) counted;
      few = at_most (is_heard_near ds true b) e h.few;
      len = length-set rows' b (Some more) ∙ h.len;
      near = λ a ge less quiet. elim (same_or_not a b) as (λ _. distance_in (set rows' b (Some more)) a ≡ Some (count_by (is_heard_near ds true) (range_with_len a (sectors - a)))) [
        | inl same ↦ subst (λ k. distance_in (set rows' b (Some more)) k ≡ Some (count_by (is_heard_near ds true) (range_with_len k (sectors - k)))) (sym same) (get_or-set_same rows' b (Some more) None (omega (arith, len, is, lt)) ∙ ap Some counted)
        | inr differ ↦ get_or-set_other rows' b a (Some more) None differ ∙ h.near a (higher a ge differ is lt) less quiet
      ];
      far = λ a quiet. elim (same_or_not a b) as (λ _. distance_in (set rows' b (Some more)) a ≡ distance_in rows a) [
        | inl same ↦ absurd (false≢true (sym quiet ∙ ap (is_heard_near ds false) same ∙ near))
        | inr differ ↦ get_or-set_other rows' b a (Some more) None differ ∙ h.far a quiet
      ];
    }
  where
    next : b ≡ sectors - 1 - done → done < sectors → b ≡ sectors - (done + 1)
    next is lt = omega (arith, is, lt)

    at_most : (c : Bool) → more ≡ cond c 1 0 + count → count ≤ done → more ≤ done + 1
    at_most true e f = omega (arith, e, f)
    at_most false e f = omega (arith, e, f)

    higher : (a : ℕ) → sectors - (done + 1) ≤ a → (a ≡ b → ⊥) → b ≡ sectors - 1 - done → done < sectors → sectors - done ≤ a
    higher a ge differ is lt = grind arith

pub filling_far : (sectors done count more b : ℕ) (ds rows rows' : List (Option ℕ)) → done < sectors → b ≡ sectors - 1 - done → more ≡ cond (is_heard_near ds true b) 1 0 + count → is_heard_near ds false b ≡ false
    → IsFilling sectors ds rows rows' done count → IsFilling sectors ds rows rows' (done + 1) more
filling_far sectors done count more b ds rows rows' lt is e far h = record {
  count_is = subst (λ k. more ≡ count_by (is_heard_near ds true) (range_with_len k (sectors - k))) (next is lt) (counted_more sectors done count more b ds lt is h.count_is e);
  few = at_most (is_heard_near ds true b) e h.few;
  len = h.len;
  near = λ a ge less quiet. elim (same_or_not a b) as (λ _. distance_in rows' a ≡ Some (count_by (is_heard_near ds true) (range_with_len a (sectors - a)))) [
    | inl same ↦ absurd (false≢true (sym far ∙ sym (ap (is_heard_near ds false) same) ∙ quiet))
    | inr differ ↦ h.near a (higher a ge differ is lt) less quiet
  ];
  far = h.far;
}
  where
    next : b ≡ sectors - 1 - done → done < sectors → b ≡ sectors - (done + 1)
    next is lt = omega (arith, is, lt)

    at_most : (c : Bool) → more ≡ cond c 1 0 + count → count ≤ done → more ≤ done + 1
    at_most true e f = omega (arith, e, f)
    at_most false e f = omega (arith, e, f)

    higher : (a : ℕ) → sectors - (done + 1) ≤ a → (a ≡ b → ⊥) → b ≡ sectors - 1 - done → done < sectors → sectors - done ≤ a
    higher a ge differ is lt = grind arith

-- ---- the sums of the rows

pub sums_on : (f : ℕ → ℕ) (b n count more : ℕ) → b < n → more ≡ f b → count + sum_by f (range_with_len b (n - b)) ≡ sum_by f (range_with_len 0 n) → (count + more) + sum_by f (range_with_len (b + 1) (n - (b + 1))) ≡ sum_by f (range_with_len 0 n)
sums_on f b n count more h is before = omega (arith, sum_step f b n h)

-- the rows before place i are added up
pub record IsSumming (n : ℕ) (rows : List (Option ℕ)) (i pairs silent : ℕ) : Type 0 where
  pub pairs_are : pairs + sum_by (row_value rows) (range_with_len i (n - i)) ≡ sum_by (row_value rows) (range_with_len 0 n)
  pub silent_are : silent + sum_by (λ a. n - a - row_value rows a) (range_with_len i (n - i)) ≡ sum_by (λ a. n - a - row_value rows a) (range_with_len 0 n)
  pub few : pairs + silent ≤ i * 65535

pub summing_begun : (n : ℕ) (rows : List (Option ℕ)) → IsSumming n rows 0 0 0
summing_begun n rows =
    let e : n - 0 ≡ n = omega arith in record {
      pairs_are = zero-add (sum_by (row_value rows) (range_with_len 0 (n - 0))) ∙ ap (λ k. sum_by (row_value rows) (range_with_len 0 k)) e;
      silent_are = zero-add (sum_by (λ a. n - a - row_value rows a) (range_with_len 0 (n - 0))) ∙ ap (λ k. sum_by (λ a. n - a - row_value rows a) (range_with_len 0 k)) e;
      few = omega arith;
    }

pub summing_more : (m : Map) (d : List Bool) (rows : List (Option ℕ)) (i count pairs silent : ℕ) → AreRows m d m.sectors rows → m.sectors < 65536 → i < m.sectors → distance_in rows i ≡ Some count
    → IsSumming m.sectors rows i pairs silent → IsSumming m.sectors rows (i + 1) (pairs + count) (silent + (m.sectors - i - count))
summing_more m d rows i count pairs silent h range lt at s =
    let v : count ≡ row_value rows i = sym (ap (λ (o : Option ℕ). unwrap_or o 0) at) in
    let few = row_few m d m.sectors rows i count h at in
    let before = s.few in record {
      pairs_are = sums_on (row_value rows) i m.sectors pairs count lt v s.pairs_are;
      silent_are = sums_on (λ a. m.sectors - a - row_value rows a) i m.sectors silent (m.sectors - i - count) lt (ap (λ k. m.sectors - i - k) v) s.silent_are;
      few = omega (arith, few, before, range, lt);
    }

pub summed : (m : Map) (d : List Bool) (rows : List (Option ℕ)) (i pairs silent : ℕ) → AreRows m d m.sectors rows → m.sectors ≤ i → IsSumming m.sectors rows i pairs silent → AreHeardCounts m d pairs silent
summed m d rows i pairs silent h past s =
    let x = sum_end (row_value rows) i m.sectors past in
    let y = sum_end (λ a. m.sectors - a - row_value rows a) i m.sectors past in
    let p = s.pairs_are in
    let q = s.silent_are in
    counts_heard m d rows h pairs silent (omega (arith, x, p)) (omega (arith, y, q))

pub each_known : (m : Map) (d : List Bool) (rows : List (Option ℕ)) (i : ℕ) → AreRows m d m.sectors rows → i < m.sectors → distance_in rows i ≡ None → ⊥
each_known m d rows i h lt none = let w = h.known i lt in none_some (distance_in rows i) w.0 none w.1

-- a row that was read, and is known
pub row_seen : (rows : List (Option ℕ)) (n : ℕ) (r : Option ℕ) → n < length rows → r ≡ get_or rows n r → is_some r ≡ true → (count : ℕ) × (distance_in rows n ≡ Some count)
row_seen rows n r lt e known = let w = some_of r known in (w.0, read_at rows n r None lt e ∙ w.1)
