-- The first record that is awaited, whatever its kind.
use Rattle.std.proofs.Common.{◌≡◌, ℕ, suc, ◌+◌, ◌-◌, ◌<◌, ◌≤◌, Bool, true, false, cond, not, eqb, ltb, List, [], ◌∷◌, ◌++◌, length, Option, Some, None, IsSome, Result, Ok, Err, refl, sym, ap, subst, ◌∙◌, arith}
use Rattle.std.proofs.lemmas.Bool.{lt-ltb}
use Rattle.sight_names.specs.declared.faults.CertFault.{CertFault}
use Rattle.sight_names.specs.declared.faults.CertFault.TheVariants as faults
use Rattle.block_evidence.specs.declared.sight_tree.Node.{Node}
use Rattle.cert_format.specs.Reading.{begins_at, RecordCounts, triangle_at, ray_at, pair_at, node_at}
use Rattle.cert_format.proofs.FieldLaws.{ok_is}
use Rattle.cert_format.proofs.CertGroups.MoreBytes.{place_stays}
use Rattle.certificates.specs.declared.cert_parts.awaited.Awaited.{Awaited}
use Rattle.certificates.specs.declared.cert_parts.part.Part.{Part}
use Rattle.certificates.specs.declared.cert_parts.part.Part.TheVariants as parts
use Rattle.certificates.specs.CertParts.Left.{header_at, all_awaited}
use Rattle.certificates.specs.CertParts.Steps.{FirstRead, as_first, head_at, header_step, triangle_step, ray_step, pair_step, node_step, head_step, first_at, first_width, width_at}
use Rattle.certificates.proofs.CertParts.Whole.{longer, value, IsWhole, whole_then, whole_value}
use Rattle.certificates.proofs.CertParts.RecordWidths.{triangle_whole, ray_whole, pair_whole, head_whole}
use Rattle.certificates.proofs.CertParts.Nodes.{node_grows, node_takes}
use Rattle.certificates.proofs.CertParts.Header.{header_whole}

abbrev pub First : Type 0
First = (Option Part × Awaited) × List ℕ

abbrev both : Option Part → Awaited → Option Part × Awaited
both part next = (part, next)

-- ---- each kind

-- a record, its part, and what is awaited behind it
step_whole : {X : Type 0} (p : ℕ → List ℕ → Result (X × List ℕ) CertFault) (w : ℕ) (part : X → Option Part) (next : X → Awaited) → IsWhole (λ start total bytes. p total bytes) w → IsWhole (λ start total bytes. as_first (p total bytes) part next) (w + 0)
step_whole p w part next whole = whole_then (λ start total bytes. p total bytes) (λ x start total bytes. value (both (part x) (next x)) bytes) w 0 whole (λ x. whole_value (both (part x) (next x)))

module _ (a : Awaited) where
  header_step_whole : IsWhole (λ start total bytes. header_step a total bytes) 28
  unfolding header_step
  header_step_whole = step_whole (λ total bytes. header_at a.sizes total bytes) 28 (λ x. None) (λ x. all_awaited a.sizes x) (header_whole a.sizes)

  triangle_step_whole : IsWhole (λ start total bytes. triangle_step a total bytes) 8
  unfolding triangle_step
  triangle_step_whole =
      step_whole (λ total bytes. triangle_at a.sizes total a.last_triangle bytes) 8 (λ x. Some (parts.Triangle x)) (λ x. record a { triangles = a.triangles - 1; last_triangle = Some x }) (triangle_whole a.sizes a.last_triangle)

  ray_step_whole : IsWhole (λ start total bytes. ray_step a total bytes) 24
  unfolding ray_step
  ray_step_whole = step_whole (λ total bytes. ray_at a.sizes total a.last_ray bytes) 24 (λ x. Some (parts.Ray x)) (λ x. record a { rays = a.rays - 1; last_ray = Some x }) (ray_whole a.sizes a.last_ray)

  pair_step_whole : IsWhole (λ start total bytes. pair_step a total bytes) 4
  unfolding pair_step
  pair_step_whole = step_whole (λ total bytes. pair_at a.map_sizes total a.last_pair bytes) 4 (λ x. Some (parts.Listed x)) (λ x. record a { listed = a.listed - 1; last_pair = Some x }) (pair_whole a.map_sizes a.last_pair)

  head_step_whole : IsWhole (λ start total bytes. head_step a total bytes) 10
  unfolding head_step
  head_step_whole =
      step_whole (λ total bytes. head_at a.sizes total a.last_source bytes) 10 (λ x. Some (parts.Tree x.0 x.1)) (λ x. record a { trees = a.trees - 1; nodes = x.1; last_source = Some x.0 }) (head_whole a.sizes a.last_source)

  abbrev of_node : Result (Node × List ℕ) CertFault → FirstRead
  of_node r = as_first r (λ x. Some (parts.Node x)) (λ x. record a { nodes = a.nodes - 1 })

  node_longer : (more : List ℕ) (r : Result (Node × List ℕ) CertFault) → of_node (longer more r) ≡ longer more (of_node r)
  node_longer more (Ok x) = refl
  node_longer more (Err f) = refl

  node_step_grows : (total : ℕ) (bytes more : List ℕ) → first_width bytes ≤ length bytes → node_step a (total + length more) (bytes ++ more) ≡ longer more (node_step a total bytes)
  unfolding node_step
  node_step_grows total bytes more le = ap of_node (node_grows total bytes more le) ∙ node_longer more (node_at total bytes)

  node_then : (bytes : List ℕ) (r : Result (Node × List ℕ) CertFault) (x : First) → ((y : Node × List ℕ) → r ≡ Ok y → length bytes ≡ first_width bytes + length y.1) → of_node r ≡ Ok x → length bytes ≡ first_width bytes + length x.1
  node_then bytes (Ok y) x taken e =
      let made : First = ((Some (parts.Node y.0), record a { nodes = a.nodes - 1 }), y.1) in
      taken y refl ∙ ap (λ (z : First). first_width bytes + length z.1) (ok_is made x e)
  node_then bytes (Err f) x taken e = absurd cc

  node_step_takes : (total : ℕ) (bytes : List ℕ) (x : First) → node_step a total bytes ≡ Ok x → length bytes ≡ first_width bytes + length x.1
  unfolding node_step
  node_step_takes total bytes x e = node_then bytes (node_at total bytes) x (node_takes total bytes) e

  -- ---- all kinds, by the tests of what is awaited

  abbrev chosen : ℕ → List ℕ → Bool → Bool → Bool → Bool → Bool → Bool → FirstRead
  chosen total bytes begun triangles rays listed nodes trees =
      cond (not begun) (header_step a total bytes) (cond triangles (triangle_step a total bytes) (cond rays (ray_step a total bytes) (cond listed (pair_step a total bytes) (cond nodes (node_step a total bytes) (cond trees (head_step a total bytes) (Err (faults.Trailing (begins_at total bytes))))))))

  abbrev width : List ℕ → Bool → Bool → Bool → Bool → Bool → Bool → ℕ
  width bytes begun triangles rays listed nodes trees = cond (not begun) 28 (cond triangles 8 (cond rays 24 (cond listed 4 (cond nodes (first_width bytes) (cond trees 10 1)))))

  chosen_grows : (total : ℕ) (bytes more : List ℕ) (begun triangles rays listed nodes trees : Bool) → width bytes begun triangles rays listed nodes trees ≤ length bytes
      → chosen (total + length more) (bytes ++ more) begun triangles rays listed nodes trees ≡ longer more (chosen total bytes begun triangles rays listed nodes trees)
  chosen_grows total bytes more false triangles rays listed nodes trees le = header_step_whole.grows 0 total bytes more le
  chosen_grows total bytes more true true rays listed nodes trees le = triangle_step_whole.grows 0 total bytes more le
  chosen_grows total bytes more true false true listed nodes trees le = ray_step_whole.grows 0 total bytes more le
  chosen_grows total bytes more true false false true nodes trees le = pair_step_whole.grows 0 total bytes more le
  chosen_grows total bytes more true false false false true trees le = node_step_grows total bytes more le
  chosen_grows total bytes more true false false false false true le = head_step_whole.grows 0 total bytes more le
  chosen_grows total bytes more true false false false false false le = ap (λ (n : ℕ). Err (faults.Trailing n)) (place_stays total bytes more)

  chosen_takes : (total : ℕ) (bytes : List ℕ) (begun triangles rays listed nodes trees : Bool) (x : First) → chosen total bytes begun triangles rays listed nodes trees ≡ Ok x → length bytes ≡ width bytes begun triangles rays listed nodes trees + length x.1
  chosen_takes total bytes false triangles rays listed nodes trees x e = header_step_whole.takes 0 total bytes x e
  chosen_takes total bytes true true rays listed nodes trees x e = triangle_step_whole.takes 0 total bytes x e
  chosen_takes total bytes true false true listed nodes trees x e = ray_step_whole.takes 0 total bytes x e
  chosen_takes total bytes true false false true nodes trees x e = pair_step_whole.takes 0 total bytes x e
  chosen_takes total bytes true false false false true trees x e = node_step_takes total bytes x e
  chosen_takes total bytes true false false false false true x e = head_step_whole.takes 0 total bytes x e
  chosen_takes total bytes true false false false false false x e = absurd cc

  pub first_grows : (total : ℕ) (bytes more : List ℕ) → width_at a bytes ≤ length bytes → first_at a (total + length more) (bytes ++ more) ≡ longer more (first_at a total bytes)
  unfolding first_at width_at
  first_grows total bytes more le = chosen_grows total bytes more a.begun (ltb 0 a.triangles) (ltb 0 a.rays) (ltb 0 a.listed) (ltb 0 a.nodes) (ltb 0 a.trees) le

  pub first_takes : (total : ℕ) (bytes : List ℕ) (x : First) → first_at a total bytes ≡ Ok x → length bytes ≡ width_at a bytes + length x.1
  unfolding first_at width_at
  first_takes total bytes x e = chosen_takes total bytes a.begun (ltb 0 a.triangles) (ltb 0 a.rays) (ltb 0 a.listed) (ltb 0 a.nodes) (ltb 0 a.trees) x e

-- ---- which record comes first

module _ (a : Awaited) (total : ℕ) (bytes : List ℕ) where
  pub first_header : a.begun ≡ false → first_at a total bytes ≡ header_step a total bytes
  unfolding first_at
  first_header e = rw e refl

  pub first_triangle : a.begun ≡ true → 0 < a.triangles → first_at a total bytes ≡ triangle_step a total bytes
  unfolding first_at
  first_triangle e some = rw (e, lt-ltb _ _ some) refl

  pub first_ray : a.begun ≡ true → a.triangles ≡ 0 → 0 < a.rays → first_at a total bytes ≡ ray_step a total bytes
  unfolding first_at
  first_ray e t some = rw (e, t, lt-ltb _ _ some) refl

  pub first_pair : a.begun ≡ true → a.triangles ≡ 0 → a.rays ≡ 0 → 0 < a.listed → first_at a total bytes ≡ pair_step a total bytes
  unfolding first_at
  first_pair e t r some = rw (e, t, r, lt-ltb _ _ some) refl

  pub first_node : a.begun ≡ true → a.triangles ≡ 0 → a.rays ≡ 0 → a.listed ≡ 0 → 0 < a.nodes → first_at a total bytes ≡ node_step a total bytes
  unfolding first_at
  first_node e t r l some = rw (e, t, r, l, lt-ltb _ _ some) refl

  pub first_head : a.begun ≡ true → a.triangles ≡ 0 → a.rays ≡ 0 → a.listed ≡ 0 → a.nodes ≡ 0 → 0 < a.trees → first_at a total bytes ≡ head_step a total bytes
  unfolding first_at
  first_head e t r l n some = rw (e, t, r, l, n, lt-ltb _ _ some) refl

  pub first_trailing : a.begun ≡ true → a.triangles ≡ 0 → a.rays ≡ 0 → a.listed ≡ 0 → a.nodes ≡ 0 → a.trees ≡ 0 → first_at a total bytes ≡ Err (faults.Trailing (begins_at total bytes))
  unfolding first_at
  first_trailing e t r l n d = rw (e, t, r, l, n, d) refl

-- ---- the header has no part, and each other record has one

-- a record with a part, and what is awaited behind it
has_part : {X : Type 0} (r : Result (X × List ℕ) CertFault) (part : X → Part) (next : X → Awaited) (begun : Bool) (x : First) → ((y : X) → (next y).begun ≡ begun) → as_first r (λ y. Some (part y)) next ≡ Ok x → IsSome x.0.0 × (x.0.1.begun ≡ begun)
has_part (Ok y) part next begun x h e =
    let made : First = ((Some (part y.0), next y.0), y.1) in
    subst (λ (z : First). IsSome z.0.0 × (z.0.1.begun ≡ begun)) {x = made} (ok_is made x e) (refl, h y.0)
has_part (Err f) part next begun x h e = absurd cc

pub record IsFirst (a : Awaited) (x : First) : Type 0 where
  pub begun : x.0.1.begun ≡ true
  pub part : a.begun ≡ true → IsSome x.0.0
  pub header : a.begun ≡ false → x.0.0 ≡ None

module _ (a : Awaited) where
  begun_first : (x : First) → a.begun ≡ true → IsSome x.0.0 × (x.0.1.begun ≡ a.begun) → IsFirst a x
  begun_first x h p = record { begun = p.1 ∙ h; part = λ _. p.0; header = λ g. absurd (let clash : true ≡ false = sym h ∙ g in cc) }

  by_header : (r : Result (RecordCounts × List ℕ) CertFault) (x : First) → a.begun ≡ false → as_first r (λ y. None) (λ y. all_awaited a.sizes y) ≡ Ok x → IsFirst a x
  by_header (Ok y) x h e =
      let made : First = ((None, all_awaited a.sizes y.0), y.1) in
      subst (λ (z : First). IsFirst a z) {x = made} (ok_is made x e) (record { begun = refl; part = λ g. absurd (let clash : true ≡ false = sym g ∙ h in cc); header = λ _. refl })
  by_header (Err f) x h e = absurd cc

  chosen_first : (total : ℕ) (bytes : List ℕ) (begun triangles rays listed nodes trees : Bool) (x : First) → a.begun ≡ begun → chosen a total bytes begun triangles rays listed nodes trees ≡ Ok x → IsFirst a x
  unfolding header_step triangle_step ray_step pair_step node_step head_step
  chosen_first total bytes false triangles rays listed nodes trees x h e = by_header (header_at a.sizes total bytes) x h e
  chosen_first total bytes true true rays listed nodes trees x h e = begun_first x h (has_part (triangle_at a.sizes total a.last_triangle bytes) (λ y. parts.Triangle y) (λ y. record a { triangles = a.triangles - 1; last_triangle = Some y }) a.begun x (λ y. refl) e)
  chosen_first total bytes true false true listed nodes trees x h e = begun_first x h (has_part (ray_at a.sizes total a.last_ray bytes) (λ y. parts.Ray y) (λ y. record a { rays = a.rays - 1; last_ray = Some y }) a.begun x (λ y. refl) e)
  chosen_first total bytes true false false true nodes trees x h e = begun_first x h (has_part (pair_at a.map_sizes total a.last_pair bytes) (λ y. parts.Listed y) (λ y. record a { listed = a.listed - 1; last_pair = Some y }) a.begun x (λ y. refl) e)
  chosen_first total bytes true false false false true trees x h e = begun_first x h (has_part (node_at total bytes) (λ y. parts.Node y) (λ y. record a { nodes = a.nodes - 1 }) a.begun x (λ y. refl) e)
  chosen_first total bytes true false false false false true x h e =
      begun_first x h (has_part (head_at a.sizes total a.last_source bytes) (λ y. parts.Tree y.0 y.1) (λ y. record a { trees = a.trees - 1; nodes = y.1; last_source = Some y.0 }) a.begun x (λ y. refl) e)
  chosen_first total bytes true false false false false false x h e = absurd cc

  pub first_is : (total : ℕ) (bytes : List ℕ) (x : First) → first_at a total bytes ≡ Ok x → IsFirst a x
  unfolding first_at
  first_is total bytes x e = chosen_first total bytes a.begun (ltb 0 a.triangles) (ltb 0 a.rays) (ltb 0 a.listed) (ltb 0 a.nodes) (ltb 0 a.trees) x refl e

-- ---- how many bytes it takes

module _ (a : Awaited) where
  node_widths : (zero two three four : Bool) → (0 < cond zero 1 (cond two 5 (cond three 7 (cond four 9 1)))) × (cond zero 1 (cond two 5 (cond three 7 (cond four 9 1))) ≤ 28)
  node_widths true two three four = (omega arith, omega arith)
  node_widths false true three four = (omega arith, omega arith)
  node_widths false false true four = (omega arith, omega arith)
  node_widths false false false true = (omega arith, omega arith)
  node_widths false false false false = (omega arith, omega arith)

  first_widths : (bytes : List ℕ) → (0 < first_width bytes) × (first_width bytes ≤ 28)
  first_widths [] = (omega arith, omega arith)
  first_widths (k ∷ bytes) = node_widths (eqb k 0) (eqb k 2) (eqb k 3) (eqb k 4)

  widths : (bytes : List ℕ) (begun triangles rays listed nodes trees : Bool) → (0 < width a bytes begun triangles rays listed nodes trees) × (width a bytes begun triangles rays listed nodes trees ≤ 28)
  widths bytes false triangles rays listed nodes trees = (omega arith, omega arith)
  widths bytes true true rays listed nodes trees = (omega arith, omega arith)
  widths bytes true false true listed nodes trees = (omega arith, omega arith)
  widths bytes true false false true nodes trees = (omega arith, omega arith)
  widths bytes true false false false true trees = first_widths bytes
  widths bytes true false false false false true = (omega arith, omega arith)
  widths bytes true false false false false false = (omega arith, omega arith)

  pub some_width : (bytes : List ℕ) → 0 < width_at a bytes
  unfolding width_at
  some_width bytes = (widths bytes a.begun (ltb 0 a.triangles) (ltb 0 a.rays) (ltb 0 a.listed) (ltb 0 a.nodes) (ltb 0 a.trees)).0

  pub most_width : (bytes : List ℕ) → width_at a bytes ≤ 28
  unfolding width_at
  most_width bytes = (widths bytes a.begun (ltb 0 a.triangles) (ltb 0 a.rays) (ltb 0 a.listed) (ltb 0 a.nodes) (ltb 0 a.trees)).1

  -- the first byte says it
  pub width_stays : (bytes more : List ℕ) → 0 < length bytes → width_at a (bytes ++ more) ≡ width_at a bytes
  unfolding width_at
  width_stays [] more some = absurd (omega (arith, some))
  width_stays (k ∷ bytes) more some = refl

  -- what is kept isn't a whole record, whatever comes behind it
  pub still_cut : (kept more : List ℕ) → length kept < width_at a kept → length kept < width_at a (kept ++ more)
  still_cut [] more lt = some_width more
  still_cut (k ∷ kept) more lt = subst (λ (w : ℕ). suc (length kept) < w) (sym (width_stays (k ∷ kept) more (omega arith))) lt
