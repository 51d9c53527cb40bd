-- The first record that is awaited, whatever its kind: it comes first of what is left.
use Rattle.std.proofs.Common.{◌≡◌, ℕ, zero, suc, ◌+◌, ◌-◌, ◌<◌, ◌≤◌, ◌⊎◌, inl, inr, true, false, ◌==◌, List, [], ◌∷◌, ◌++◌, map, length, Some, Result, Ok, Err, refl, sym, ap, subst, ◌∙◌, append_assoc, arith}
use Rattle.std.specs.Int.{w64}
use Rattle.std.proofs.lemmas.Bool.{cases_lt, eqb-true, eq-eqb, ne_eqb, and_parts, lt-ltb, le-ltb}
use Rattle.std.proofs.lemmas.List.{append-nil, length-append}
use Rattle.sight_names.specs.declared.faults.CertFault.{CertFault}
use Rattle.sight_names.specs.declared.faults.CertFault.TheVariants as faults
use Rattle.sight_names.specs.declared.names.PairRay.{PairRay}
use Rattle.block_evidence.specs.declared.sight_tree.Node.{Node}
use Rattle.cert_format.specs.declared.cert.Labelled.{Labelled}
use Rattle.cert_format.proofs.FieldLaws.{ok_is}
use Rattle.certificates.proofs.CertParts.Nodes.{node_takes}
use Rattle.cert_format.specs.Reading.{◌>>=◌, begins_at, number_at, triangle_at, ray_at, records_at, node_at}
use Rattle.certificates.specs.CertExact.Reading.{trees_at}
use Rattle.cert_format.proofs.CertGroups.MoreBytes.{place_stays}
use Rattle.certificates.proofs.CertParts.Whole.{longer, whole_number}
use Rattle.certificates.proofs.CertParts.RecordWidths.{triangle_whole, ray_whole}
use Rattle.certificates.specs.CertParts.Steps.{first_width}
use Rattle.certificates.specs.declared.exact_parts.awaited.Awaited.{Awaited}
use Rattle.certificates.specs.declared.exact_parts.part.Part.{Part}
use Rattle.certificates.specs.declared.exact_parts.part.Part.TheVariants as parts
use Rattle.certificates.specs.ExactParts.Left.{TreesLeft, first_or_zero, put_length, settled, shorter, less_first, IsFirstTreeLeft, trees_left, lengths_left, rays_left, left_at, put_before}
use Rattle.certificates.specs.ExactParts.Steps.{is_done, StepOf, as_step, triangle_step, ray_step, Ahead, length_step, node_step, before_trees, in_trees, first_at, room_for, width_at}
use Rattle.certificates.proofs.ExactParts.Settling.{settles, settled_is, none_first as none_settled}
use Rattle.certificates.proofs.ExactParts.OneNode.{some_wide, node_tells, cut_told}
use Rattle.certificates.proofs.ExactParts.Order.{none_first, one_first}

-- ---- what is awaited, kind for kind

module _ (a : Awaited) (t : TreesLeft) (total : ℕ) (bytes : List ℕ) where
  pub no_triangle : a.triangles ≡ 0 → left_at a t total bytes ≡ rays_left a t total bytes
  unfolding left_at
  no_triangle z = none_first (triangle_at a.sizes total) (λ x. Some x) (λ x. parts.Triangle x) (λ xs rest. rays_left a t total rest) a.last_triangle a.triangles bytes z

  no_ray : a.rays ≡ 0 → rays_left a t total bytes ≡ lengths_left a t total bytes
  unfolding rays_left
  no_ray z = none_first (ray_at a.sizes total) (λ x. Some x) (λ x. parts.Ray x) (λ xs rest. lengths_left a t total rest) a.last_ray a.rays bytes z

  no_length : a.lengths ≡ 0 → lengths_left a t total bytes ≡ trees_left t.source t.lengths total bytes
  unfolding lengths_left
  no_length z =
      none_first (λ (k : ℕ). number_at w64 total) (λ n. 0) (λ n. parts.Length) (λ ls rest. trees_left t.source (t.lengths ++ ls) total rest) 0 a.lengths bytes z
      ∙ ap (λ (ls : List ℕ). trees_left t.source ls total bytes) (append-nil t.lengths)

  at_lengths : a.triangles ≡ 0 → a.rays ≡ 0 → left_at a t total bytes ≡ lengths_left a t total bytes
  at_lengths z y = no_triangle z ∙ no_ray y

  pub at_trees : a.triangles ≡ 0 → a.rays ≡ 0 → a.lengths ≡ 0 → left_at a t total bytes ≡ trees_left t.source t.lengths total bytes
  at_trees z y x = at_lengths z y ∙ no_length x

-- ---- steps

-- what is left behind the step
abbrev pub told : ℕ → StepOf Ahead → Result (List Part) CertFault
told total step = step >>= λ x. put_before (Some x.0.0) (left_at x.0.1.0 x.0.1.1 total x.1)

-- a record, its part, and what is left behind it
step_tells : {X : Type 0} (r : Result (X × List ℕ) CertFault) (part : X → Part) (next : X → Ahead) (after : X → List ℕ → Result (List Part) CertFault) (total : ℕ) → ((x : X) (rest : List ℕ) → after x rest ≡ left_at (next x).0 (next x).1 total rest)
    → (r >>= λ x. put_before (Some (part x.0)) (after x.0 x.1)) ≡ told total (as_step r part next)
step_tells (Ok x) part next after total h = ap (put_before (Some (part x.0))) (h x.0 x.1)
step_tells (Err f) part next after total h = refl

step_longer : {X : Type 0} (r : Result (X × List ℕ) CertFault) (part : X → Part) (next : X → Ahead) (more : List ℕ) → as_step (longer more r) part next ≡ longer more (as_step r part next)
step_longer (Ok x) part next more = refl
step_longer (Err f) part next more = refl

step_takes : {X : Type 0} (r : Result (X × List ℕ) CertFault) (part : X → Part) (next : X → Ahead) (width many : ℕ) (x : (Part × Ahead) × List ℕ) → ((y : X × List ℕ) → r ≡ Ok y → many ≡ width + length y.1) → as_step r part next ≡ Ok x → width + length x.1 ≤ many
step_takes (Ok y) part next width many x h e =
    let made : (Part × Ahead) × List ℕ = ((part y.0, next y.0), y.1) in
    omega (arith, h y refl, ap (λ (z : (Part × Ahead) × List ℕ). length z.1) (ok_is made x e))
step_takes (Err f) part next width many x h e = absurd cc

before_is : {X : Type 0} (t : TreesLeft) (r : Result (X × List ℕ) CertFault) (part : X → Part) (next : X → Awaited) → before_trees t (as_step r part next) ≡ as_step r part (λ x. (next x, t))
before_is t (Ok x) part next = refl
before_is t (Err f) part next = refl

abbrev fewer_triangles : Awaited → Labelled → Awaited
fewer_triangles a x = record a { triangles = a.triangles - 1; last_triangle = Some x }

abbrev fewer_rays : Awaited → PairRay → Awaited
fewer_rays a x = record a { rays = a.rays - 1; last_ray = Some x }

abbrev fewer_lengths : Awaited → Awaited
fewer_lengths a = record a { lengths = a.lengths - 1 }

-- ---- which record it is, and how wide

module _ (a : Awaited) (t : TreesLeft) (total : ℕ) (bytes : List ℕ) where
  is_triangle : 0 < a.triangles → first_at a t total bytes ≡ as_step (triangle_at a.sizes total a.last_triangle bytes) (λ x. parts.Triangle x) (λ x. (fewer_triangles a x, t))
  unfolding first_at triangle_step
  is_triangle some = rw (lt-ltb _ _ some) (before_is t (triangle_at a.sizes total a.last_triangle bytes) (λ x. parts.Triangle x) (fewer_triangles a))

  is_ray : a.triangles ≡ 0 → 0 < a.rays → first_at a t total bytes ≡ as_step (ray_at a.sizes total a.last_ray bytes) (λ x. parts.Ray x) (λ x. (fewer_rays a x, t))
  unfolding first_at ray_step
  is_ray z some = rw (le-ltb 0 a.triangles (omega (arith, z)), lt-ltb _ _ some) (before_is t (ray_at a.sizes total a.last_ray bytes) (λ x. parts.Ray x) (fewer_rays a))

  is_length : a.triangles ≡ 0 → a.rays ≡ 0 → 0 < a.lengths → first_at a t total bytes ≡ as_step (number_at w64 total bytes) (λ n. parts.Length) (λ n. (fewer_lengths a, settled (put_length n t)))
  unfolding first_at length_step
  is_length z y some = rw (z, y, lt-ltb _ _ some) refl

  is_node : a.triangles ≡ 0 → a.rays ≡ 0 → a.lengths ≡ 0 → 0 < first_or_zero t.lengths → first_at a t total bytes ≡ in_trees a (node_step t total bytes)
  unfolding first_at
  is_node z y x some = rw (z, y, x, lt-ltb _ _ some) refl

  is_trailing : a.triangles ≡ 0 → a.rays ≡ 0 → a.lengths ≡ 0 → first_or_zero t.lengths ≡ 0 → first_at a t total bytes ≡ Err (faults.Trailing (begins_at total bytes))
  unfolding first_at
  is_trailing z y x w = rw (z, y, x, w) refl

module _ (a : Awaited) (t : TreesLeft) (bytes : List ℕ) where
  triangle_wide : 0 < a.triangles → width_at a t bytes ≡ 8
  unfolding width_at
  triangle_wide some = rw (lt-ltb _ _ some) refl

  ray_wide : a.triangles ≡ 0 → 0 < a.rays → width_at a t bytes ≡ 24
  unfolding width_at
  ray_wide z some = rw (z, lt-ltb _ _ some) refl

  length_wide : a.triangles ≡ 0 → a.rays ≡ 0 → 0 < a.lengths → width_at a t bytes ≡ 8
  unfolding width_at
  length_wide z y some = rw (z, y, lt-ltb _ _ some) refl

  node_wide : a.triangles ≡ 0 → a.rays ≡ 0 → a.lengths ≡ 0 → width_at a t bytes ≡ room_for (first_width bytes) (first_or_zero t.lengths)
  unfolding width_at
  node_wide z y x = rw (z, y, x) refl

-- ---- by kinds

-- of the kinds of records, in their order: what holds in each
abbrev ByKind : Awaited → TreesLeft → Type 0 → Type 0
ByKind a t P =
    (0 < a.triangles → P) → (a.triangles ≡ 0 → 0 < a.rays → P) → (a.triangles ≡ 0 → a.rays ≡ 0 → 0 < a.lengths → P) → (a.triangles ≡ 0 → a.rays ≡ 0 → a.lengths ≡ 0 → 0 < first_or_zero t.lengths → P)
    → (a.triangles ≡ 0 → a.rays ≡ 0 → a.lengths ≡ 0 → first_or_zero t.lengths ≡ 0 → P) → P

by_kind : (a : Awaited) (t : TreesLeft) {P : Type 0} → ByKind a t P
by_kind a t {P} triangle ray len node none = elim (cases_lt 0 a.triangles) [
  | inl lt ↦ triangle lt
  | inr le ↦ behind_triangles (omega (arith, le))
]
  where
    behind_lengths : a.triangles ≡ 0 → a.rays ≡ 0 → a.lengths ≡ 0 → P
    behind_lengths z y x = elim (cases_lt 0 (first_or_zero t.lengths)) [
      | inl lt ↦ node z y x lt
      | inr le ↦ none z y x (omega (arith, le))
    ]

    behind_rays : a.triangles ≡ 0 → a.rays ≡ 0 → P
    behind_rays z y = elim (cases_lt 0 a.lengths) [
      | inl lt ↦ len z y lt
      | inr le ↦ behind_lengths z y (omega (arith, le))
    ]

    behind_triangles : a.triangles ≡ 0 → P
    behind_triangles z = elim (cases_lt 0 a.rays) [
      | inl lt ↦ ray z lt
      | inr le ↦ behind_rays z (omega (arith, le))
    ]

-- ---- triangles, rays and lengths, whatever bytes there are

module _ (a : Awaited) (t : TreesLeft) (total : ℕ) (bytes : List ℕ) where
  triangle_tells : 0 < a.triangles → left_at a t total bytes ≡ told total (first_at a t total bytes)
  unfolding left_at rays_left lengths_left
  triangle_tells some =
      one_first (triangle_at a.sizes total) (λ x. Some x) (λ x. parts.Triangle x) (λ xs rest. rays_left a t total rest) a.last_triangle a.triangles bytes some
      ∙ step_tells (triangle_at a.sizes total a.last_triangle bytes) (λ x. parts.Triangle x) (λ x. (fewer_triangles a x, t)) (λ x rest. left_at (fewer_triangles a x) t total rest) total (λ x rest. refl)
      ∙ ap (told total) (sym (is_triangle a t total bytes some))

  ray_tells : a.triangles ≡ 0 → 0 < a.rays → left_at a t total bytes ≡ told total (first_at a t total bytes)
  unfolding rays_left lengths_left
  ray_tells z some =
      no_triangle a t total bytes z
      ∙ one_first (ray_at a.sizes total) (λ x. Some x) (λ x. parts.Ray x) (λ xs rest. lengths_left a t total rest) a.last_ray a.rays bytes some
      ∙ step_tells (ray_at a.sizes total a.last_ray bytes) (λ x. parts.Ray x) (λ x. (fewer_rays a x, t)) (λ x rest. rays_left (fewer_rays a x) t total rest) total (λ x rest. sym (no_triangle (fewer_rays a x) t total rest z))
      ∙ ap (told total) (sym (is_ray a t total bytes z some))

  -- one more length before those to come, or behind those that have come
  length_more : (n : ℕ) (ls rest : List ℕ) → trees_left t.source (t.lengths ++ n ∷ ls) total rest ≡ trees_left (settled (put_length n t)).source ((settled (put_length n t)).lengths ++ ls) total rest
  length_more n ls rest =
      sym (ap (λ (xs : List ℕ). trees_left t.source xs total rest) (append_assoc t.lengths (n ∷ []) ls)) ∙ settles total t.source (t.lengths ++ n ∷ []) ls rest

  lengths_same : (n : ℕ) (r : Result (List ℕ × List ℕ) CertFault)
      → (r >>= λ ls. trees_left t.source (t.lengths ++ n ∷ ls.0) total ls.1 >>= λ others. Ok (map (λ (k : ℕ). parts.Length) ls.0 ++ others))
      ≡ (r >>= λ ls. trees_left (settled (put_length n t)).source ((settled (put_length n t)).lengths ++ ls.0) total ls.1 >>= λ others. Ok (map (λ (k : ℕ). parts.Length) ls.0 ++ others))
  lengths_same n (Ok ls) = ap (λ (r : Result (List Part) CertFault). r >>= λ others. Ok (map (λ (k : ℕ). parts.Length) ls.0 ++ others)) (length_more n ls.0 ls.1)
  lengths_same n (Err f) = refl

  length_tells : a.triangles ≡ 0 → a.rays ≡ 0 → 0 < a.lengths → left_at a t total bytes ≡ told total (first_at a t total bytes)
  unfolding lengths_left
  length_tells z y some =
      at_lengths a t total bytes z y
      ∙ one_first (λ (k : ℕ). number_at w64 total) (λ n. 0) (λ n. parts.Length) (λ ls rest. trees_left t.source (t.lengths ++ ls) total rest) 0 a.lengths bytes some
      ∙ step_tells (number_at w64 total bytes) (λ n. parts.Length) (λ n. (fewer_lengths a, settled (put_length n t)))
      (λ n rest. records_at (λ (k : ℕ). number_at w64 total) (λ n. 0) 0 (a.lengths - 1) rest >>= λ ls. trees_left t.source (t.lengths ++ n ∷ ls.0) total ls.1 >>= λ others. Ok (map (λ (k : ℕ). parts.Length) ls.0 ++ others)) total
      (λ n rest. lengths_same n (records_at (λ (k : ℕ). number_at w64 total) (λ n. 0) 0 (a.lengths - 1) rest) ∙ sym (at_lengths (fewer_lengths a) (settled (put_length n t)) total rest z y))
      ∙ ap (told total) (sym (is_length a t total bytes z y some))

-- ---- a record that is there whole

module _ (a : Awaited) (t : TreesLeft) (total : ℕ) (whole more : List ℕ) where
  abbrev all : ℕ
  all = total + length more

  abbrev Tells : Type 0
  Tells = left_at a t all (whole ++ more) ≡ told all (longer more (first_at a t total whole))

  triangle_there : 0 < a.triangles → 8 ≤ length whole → Tells
  triangle_there some le =
      triangle_tells a t all (whole ++ more) some
      ∙ ap (told all) (is_triangle a t all (whole ++ more) some ∙ rw ((triangle_whole a.sizes a.last_triangle).grows 0 total whole more le) (step_longer (triangle_at a.sizes total a.last_triangle whole) (λ x. parts.Triangle x) (λ x. (fewer_triangles a x, t)) more))
      ∙ ap (λ (s : StepOf Ahead). told all (longer more s)) (sym (is_triangle a t total whole some))

  ray_there : a.triangles ≡ 0 → 0 < a.rays → 24 ≤ length whole → Tells
  ray_there z some le =
      ray_tells a t all (whole ++ more) z some
      ∙ ap (told all) (is_ray a t all (whole ++ more) z some ∙ rw ((ray_whole a.sizes a.last_ray).grows 0 total whole more le) (step_longer (ray_at a.sizes total a.last_ray whole) (λ x. parts.Ray x) (λ x. (fewer_rays a x, t)) more))
      ∙ ap (λ (s : StepOf Ahead). told all (longer more s)) (sym (is_ray a t total whole z some))

  length_there : a.triangles ≡ 0 → a.rays ≡ 0 → 0 < a.lengths → 8 ≤ length whole → Tells
  length_there z y some le =
      length_tells a t all (whole ++ more) z y some
      ∙ ap (told all) (is_length a t all (whole ++ more) z y some ∙ rw ((whole_number w64).grows 0 total whole more le) (step_longer (number_at w64 total whole) (λ n. parts.Length) (λ n. (fewer_lengths a, settled (put_length n t))) more))
      ∙ ap (λ (s : StepOf Ahead). told all (longer more s)) (sym (is_length a t total whole z y some))

  in_trees_tells : a.triangles ≡ 0 → a.rays ≡ 0 → a.lengths ≡ 0 → (step : StepOf TreesLeft)
      → (longer more step >>= λ x. put_before (Some x.0.0) (trees_left x.0.1.source x.0.1.lengths all x.1)) ≡ told all (longer more (in_trees a step))
  in_trees_tells z y x (Ok s) = ap (put_before (Some s.0.0)) (sym (at_trees a s.0.1 all (s.1 ++ more) z y x))
  in_trees_tells z y x (Err f) = refl

  some_tree : (lengths : List ℕ) → t.lengths ≡ lengths → 0 < first_or_zero lengths → a.triangles ≡ 0 → a.rays ≡ 0 → a.lengths ≡ 0 → width_at a t whole ≡ length whole → left_at a t all (whole ++ more) ≡ told all (longer more (in_trees a (node_step t total whole)))
  some_tree [] e some z y x wide = absurd (omega (arith, some))
  some_tree (n ∷ lengths) e some z y x wide =
      let room : room_for (first_width whole) n ≡ length whole = sym (ap (λ (ls : List ℕ). room_for (first_width whole) (first_or_zero ls)) e) ∙ sym (node_wide a t whole z y x) ∙ wide in
      let here : TreesLeft = record { source = t.source; lengths = n ∷ lengths } in
      let same : here ≡ t = ap (λ (ls : List ℕ). let s : TreesLeft = record { source = t.source; lengths = ls } in s) (sym e) in
      at_trees a t all (whole ++ more) z y x
      ∙ ap (λ (ls : List ℕ). trees_left t.source ls all (whole ++ more)) e
      ∙ node_tells t.source n lengths total whole more some room
      ∙ in_trees_tells z y x (node_step here total whole)
      ∙ ap (λ (s : TreesLeft). told all (longer more (in_trees a (node_step s total whole)))) same

  node_there : a.triangles ≡ 0 → a.rays ≡ 0 → a.lengths ≡ 0 → 0 < first_or_zero t.lengths → width_at a t whole ≡ length whole → Tells
  node_there z y x some wide = some_tree t.lengths refl some z y x wide ∙ ap (λ (s : StepOf Ahead). told all (longer more s)) (sym (is_node a t total whole z y x some))

  byte_there : a.triangles ≡ 0 → a.rays ≡ 0 → a.lengths ≡ 0 → first_or_zero t.lengths ≡ 0 → IsFirstTreeLeft t.lengths → 0 < length whole → Tells
  unfolding trees_left trees_at
  byte_there z y x w is some =
      let none : t.lengths ≡ [] = none_settled t.lengths is w in
      let left : (length (whole ++ more) == 0) ≡ false = ne_eqb _ _ (λ e. omega (arith, e, some, length-append whole more)) in
      at_trees a t all (whole ++ more) z y x ∙ rw (none, left, place_stays total whole more) refl ∙ ap (λ (s : StepOf Ahead). told all (longer more s)) (sym (is_trailing a t total whole z y x w))

  -- whatever it is
  pub first_tells : IsFirstTreeLeft t.lengths → width_at a t whole ≡ length whole → 0 < length whole → Tells
  first_tells is wide some =
      by_kind a t
      (λ lt. triangle_there lt (omega (arith, wide, triangle_wide a t whole lt)))
      (λ z lt. ray_there z lt (omega (arith, wide, ray_wide a t whole z lt)))
      (λ z y lt. length_there z y lt (omega (arith, wide, length_wide a t whole z y lt)))
      (λ z y x lt. node_there z y x lt wide)
      (λ z y x w. byte_there z y x w is some)

-- ---- how many bytes it takes

room_within : (width left : ℕ) → (0 < left → room_for width left ≤ left) × (0 < left → room_for width left ≤ width) × (0 < width → 0 < room_for width left)
room_within width zero = ((λ lt. absurd (omega (arith, lt))), (λ lt. absurd (omega (arith, lt))), (λ lt. omega arith))
room_within width (suc n) = elim (cases_lt (suc n) width) [
  | inl lt ↦ let e : room_for width (suc n) ≡ suc n = rw (ne_eqb (suc n) 0 (λ z. omega (arith, z)), lt-ltb _ _ lt) refl in ((λ _. omega (arith, e)), (λ _. omega (arith, e, lt)), (λ _. omega (arith, e)))
  | inr le ↦ let e : room_for width (suc n) ≡ width = rw (ne_eqb (suc n) 0 (λ z. omega (arith, z)), le-ltb _ _ le) refl in ((λ _. omega (arith, e, le)), (λ _. omega (arith, e)), (λ some. omega (arith, e, some)))
]

module _ (a : Awaited) (t : TreesLeft) where
  pub some_width : (bytes : List ℕ) → 0 < width_at a t bytes
  some_width bytes =
      by_kind a t
      (λ lt. omega (arith, triangle_wide a t bytes lt))
      (λ z lt. omega (arith, ray_wide a t bytes z lt))
      (λ z y lt. omega (arith, length_wide a t bytes z y lt))
      (λ z y x lt. subst (λ (n : ℕ). 0 < n) (sym (node_wide a t bytes z y x)) ((room_within (first_width bytes) (first_or_zero t.lengths)).2 (some_wide bytes)))
      (λ z y x w. subst (λ (n : ℕ). 0 < n) (sym (node_wide a t bytes z y x)) ((room_within (first_width bytes) (first_or_zero t.lengths)).2 (some_wide bytes)))

  -- the first byte says it
  pub width_stays : (bytes more : List ℕ) → 0 < length bytes → width_at a t (bytes ++ more) ≡ width_at a t bytes
  unfolding width_at
  width_stays [] more some = absurd (omega (arith, some))
  width_stays (k ∷ bytes) more some = refl

  -- what is kept isn't a whole record, whatever comes behind it
  pub still_cut : (kept more : List ℕ) → length kept < width_at a t kept → length kept < width_at a t (kept ++ more)
  still_cut [] more lt = some_width more
  still_cut (k ∷ kept) more lt = subst (λ (w : ℕ). suc (length kept) < w) (sym (width_stays (k ∷ kept) more (omega arith))) lt

  of_node : (bytes : List ℕ) (total : ℕ) (r : Result (Node × List ℕ) CertFault) (x : (Part × Ahead) × List ℕ) → ((y : Node × List ℕ) → r ≡ Ok y → length bytes ≡ first_width bytes + length y.1)
      → in_trees a (r >>= λ y. Ok ((parts.Node t.source y.0, settled (shorter (length bytes - length y.1) t)), y.1)) ≡ Ok x → first_width bytes + length x.1 ≤ length bytes
  of_node bytes total (Ok y) x h e =
      let made : (Part × Ahead) × List ℕ = ((parts.Node t.source y.0, (a, settled (shorter (length bytes - length y.1) t))), y.1) in
      omega (arith, h y refl, ap (λ (z : (Part × Ahead) × List ℕ). length z.1) (ok_is made x e))
  of_node bytes total (Err f) x h e = absurd cc

  node_takes_all : (total : ℕ) (bytes : List ℕ) (x : (Part × Ahead) × List ℕ) → in_trees a (node_step t total bytes) ≡ Ok x → first_width bytes + length x.1 ≤ length bytes
  unfolding node_step
  node_takes_all total bytes x e = of_node bytes total (node_at total bytes) x (node_takes total bytes) e

  pub first_takes : (total : ℕ) (bytes : List ℕ) (x : (Part × Ahead) × List ℕ) → first_at a t total bytes ≡ Ok x → width_at a t bytes + length x.1 ≤ length bytes
  first_takes total bytes x e =
      by_kind a t
      (λ lt. omega (arith, triangle_wide a t bytes lt, step_takes (triangle_at a.sizes total a.last_triangle bytes) (λ y. parts.Triangle y) (λ y. (fewer_triangles a y, t)) 8 (length bytes) x ((triangle_whole a.sizes a.last_triangle).takes 0 total bytes) (sym (is_triangle a t total bytes lt) ∙ e)))
      (λ z lt. omega (arith, ray_wide a t bytes z lt, step_takes (ray_at a.sizes total a.last_ray bytes) (λ y. parts.Ray y) (λ y. (fewer_rays a y, t)) 24 (length bytes) x ((ray_whole a.sizes a.last_ray).takes 0 total bytes) (sym (is_ray a t total bytes z lt) ∙ e)))
      (λ z y lt. omega (arith, length_wide a t bytes z y lt, step_takes (number_at w64 total bytes) (λ n. parts.Length) (λ n. (fewer_lengths a, settled (put_length n t))) 8 (length bytes) x ((whole_number w64).takes 0 total bytes) (sym (is_length a t total bytes z y lt) ∙ e)))
      (λ z y w lt. omega (arith, node_wide a t bytes z y w, (room_within (first_width bytes) (first_or_zero t.lengths)).1 lt, node_takes_all total bytes x (sym (is_node a t total bytes z y w lt) ∙ e)))
      (λ z y w v. absurd (let clash = sym (is_trailing a t total bytes z y w v) ∙ e in cc))

-- ---- something is left of the first tree behind each step

pub first_settles : (a : Awaited) (t : TreesLeft) (total : ℕ) (bytes : List ℕ) (x : (Part × Ahead) × List ℕ) → IsFirstTreeLeft t.lengths → first_at a t total bytes ≡ Ok x → IsFirstTreeLeft x.0.1.1.lengths
unfolding node_step
first_settles a t total bytes x is e =
    by_kind a t
    (λ lt. stays (triangle_at a.sizes total a.last_triangle bytes) (λ y. parts.Triangle y) (fewer_triangles a) (sym (is_triangle a t total bytes lt) ∙ e))
    (λ z lt. stays (ray_at a.sizes total a.last_ray bytes) (λ y. parts.Ray y) (fewer_rays a) (sym (is_ray a t total bytes z lt) ∙ e))
    (λ z y lt. of_length (number_at w64 total bytes) (sym (is_length a t total bytes z y lt) ∙ e))
    (λ z y w lt. of_node' (sym (is_node a t total bytes z y w lt) ∙ e))
    (λ z y w v. absurd (let clash = sym (is_trailing a t total bytes z y w v) ∙ e in cc))
  where
    stays : {X : Type 0} (r : Result (X × List ℕ) CertFault) (part : X → Part) (next : X → Awaited) → as_step r part (λ y. (next y, t)) ≡ Ok x → IsFirstTreeLeft x.0.1.1.lengths
    stays (Ok y) part next h =
        let made : (Part × Ahead) × List ℕ = ((part y.0, (next y.0, t)), y.1) in
        subst (λ (z : (Part × Ahead) × List ℕ). IsFirstTreeLeft z.0.1.1.lengths) {x = made} (ok_is made x h) is
    stays (Err f) part next h = absurd cc

    of_length : (r : Result (ℕ × List ℕ) CertFault) → as_step r (λ n. parts.Length) (λ n. (fewer_lengths a, settled (put_length n t))) ≡ Ok x → IsFirstTreeLeft x.0.1.1.lengths
    of_length (Ok y) h =
        let made : (Part × Ahead) × List ℕ = ((parts.Length, (fewer_lengths a, settled (put_length y.0 t))), y.1) in
        subst (λ (z : (Part × Ahead) × List ℕ). IsFirstTreeLeft z.0.1.1.lengths) {x = made} (ok_is made x h) (settled_is t.source (t.lengths ++ y.0 ∷ []))
    of_length (Err f) h = absurd cc

    of_read : (r : Result (Node × List ℕ) CertFault) → in_trees a (r >>= λ y. Ok ((parts.Node t.source y.0, settled (shorter (length bytes - length y.1) t)), y.1)) ≡ Ok x → IsFirstTreeLeft x.0.1.1.lengths
    of_read (Ok y) h =
        let made : (Part × Ahead) × List ℕ = ((parts.Node t.source y.0, (a, settled (shorter (length bytes - length y.1) t))), y.1) in
        subst (λ (z : (Part × Ahead) × List ℕ). IsFirstTreeLeft z.0.1.1.lengths) {x = made} (ok_is made x h) (settled_is t.source (less_first (length bytes - length y.1) t.lengths))
    of_read (Err f) h = absurd cc

    of_node' : in_trees a (node_step t total bytes) ≡ Ok x → IsFirstTreeLeft x.0.1.1.lengths
    of_node' h = of_read (node_at total bytes) h

-- ---- at the end of all bytes

module _ (a : Awaited) (t : TreesLeft) (total : ℕ) (kept : List ℕ) where
  node_fault : (r : Result (Node × List ℕ) CertFault) (f : CertFault) (next : Node × List ℕ → (Part × TreesLeft) × List ℕ) → in_trees a (r >>= λ y. Ok (next y)) ≡ Err f → r ≡ Err f
  node_fault (Ok y) f next e = absurd cc
  node_fault (Err g) f next e = cc

  node_cut : (f : CertFault) (lengths : List ℕ) → t.lengths ≡ lengths → 0 < first_or_zero lengths → length kept < first_or_zero lengths → in_trees a (node_step t total kept) ≡ Err f → trees_left t.source lengths total kept ≡ Err f
  unfolding node_step
  node_cut f [] same some lt e = absurd (omega (arith, some))
  node_cut f (n ∷ lengths) same some lt e = cut_told t.source n lengths total kept f some lt (node_fault (node_at total kept) f (λ y. ((parts.Node t.source y.0, settled (shorter (length kept - length y.1) t)), y.1)) e)

  all_zero : a.triangles ≡ 0 → a.rays ≡ 0 → a.lengths ≡ 0 → first_or_zero t.lengths ≡ 0 → is_done a t ≡ true
  all_zero z y x w = rw (z, y, x, w) refl

  pub end_fault : (f : CertFault) → (is_done a t ≡ false) ⊎ (0 < length kept) → length kept < width_at a t kept → first_at a t total kept ≡ Err f → left_at a t total kept ≡ Err f
  end_fault f owed cut e =
      by_kind a t
      (λ lt. triangle_tells a t total kept lt ∙ rw e refl)
      (λ z lt. ray_tells a t total kept z lt ∙ rw e refl)
      (λ z y lt. length_tells a t total kept z y lt ∙ rw e refl)
      (λ z y x lt. at_trees a t total kept z y x ∙ node_cut f t.lengths refl lt (omega (arith, cut, node_wide a t kept z y x, (room_within (first_width kept) (first_or_zero t.lengths)).0 lt)) (sym (is_node a t total kept z y x lt) ∙ e))
      (λ z y x w. absurd (elim owed [
        | inl open_ ↦ let clash : true ≡ false = sym (all_zero z y x w) ∙ open_ in cc
        | inr some ↦ let one : width_at a t kept ≡ 1 = node_wide a t kept z y x ∙ ap (room_for (first_width kept)) w in omega (arith, one, some, cut)
      ]))

  pub done_left : is_done a t ≡ true → IsFirstTreeLeft t.lengths → length kept ≡ 0 → left_at a t total kept ≡ Ok []
  unfolding trees_left trees_at
  done_left h is none =
      let p3 = and_parts _ _ h in
      let p2 = and_parts _ _ p3.0 in
      let p1 = and_parts _ _ p2.0 in
      let left : (length kept == 0) ≡ true = eq-eqb _ _ none in
      let no_tree : t.lengths ≡ [] = none_settled t.lengths is (eqb-true _ _ p3.1) in
      at_trees a t total kept (eqb-true _ _ p1.0) (eqb-true _ _ p1.1) (eqb-true _ _ p2.1) ∙ rw (no_tree, left) refl
