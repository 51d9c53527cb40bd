-- Record for record: the first part comes before those that the bytes behind it have.
use Rattle.std.proofs.Common.{◌≡◌, ℕ, zero, suc, ◌-◌, ◌<◌, ◌⊎◌, inl, inr, Bool, true, false, ◌==◌, List, [], ◌∷◌, ◌++◌, map, length, flat_map, Option, Some, None, Result, Ok, Err, refl, sym, ap, ◌∙◌, arith}
use Rattle.std.specs.Int.{w64}
use Rattle.std.proofs.lemmas.Bool.{cases_Bool, cases_lt, eqb-true, eq-eqb, ne_eqb, and_parts}
use Rattle.sight_names.specs.declared.faults.CertFault.{CertFault}
use Rattle.sight_names.specs.declared.faults.CertFault.TheVariants as faults
use Rattle.cert_format.specs.declared.cert.Sizes.{Sizes}
use Rattle.block_evidence.specs.declared.sight_tree.Node.{Node}
use Rattle.block_evidence.specs.declared.sight_tree.Tree.{Tree}
use Rattle.cert_format.specs.Reading.{◌>>=◌, begins_at, passed, RecordCounts, comes_after, number_at, number_below, triangle_at, ray_at, pair_at, node_at, nodes_at, tree_at, trees_at, records_at}
use Rattle.cert_format.proofs.FieldLaws.{bind_ok, ok_is}
use Rattle.certificates.specs.declared.cert_parts.awaited.Awaited.{Awaited}
use Rattle.certificates.specs.declared.cert_parts.part.Part.{Part}
use Rattle.certificates.specs.declared.cert_parts.part.Part.TheVariants as parts
use Rattle.certificates.specs.CertParts.Parts.{tree_parts}
use Rattle.certificates.specs.CertParts.Left.{trees_left, nodes_left, pairs_left, rays_left, triangles_left, header_at, all_awaited, left_at, put_before}
use Rattle.certificates.specs.CertParts.Steps.{is_done, as_first, head_at, header_step, triangle_step, ray_step, pair_step, node_step, head_step, first_at}
use Rattle.certificates.proofs.CertParts.First.{first_header, first_triangle, first_ray, first_pair, first_node, first_head, first_trailing}

-- ---- steps

pub same_read : {A : Type 0} (r : Result A CertFault) → (r >>= λ x. Ok x) ≡ r
same_read (Ok x) = refl
same_read (Err f) = refl

-- one more record before those that are read
abbrev cons_read : {X : Type 0} → X → Result (List X × List ℕ) CertFault → Result (List X × List ℕ) CertFault
cons_read x read = read >>= λ xs. Ok (x ∷ xs.0, xs.1)

-- records that are read, as parts, and then what comes behind them
module _ {X K : Type 0} (one : K → List ℕ → Result (X × List ℕ) CertFault) (key : X → K) (part : X → Part) (next : List ℕ → Result (List Part) CertFault) where
  abbrev told_all : Result (List X × List ℕ) CertFault → Result (List Part) CertFault
  told_all read = read >>= λ xs. next xs.1 >>= λ others. Ok (map part xs.0 ++ others)

  pub none_first : (last : K) (n : ℕ) (bytes : List ℕ) → n ≡ 0 → told_all (records_at one key last n bytes) ≡ next bytes
  unfolding records_at
  none_first last zero bytes z = same_read (next bytes)
  none_first last (suc n) bytes z = absurd (omega (arith, z))

  by_next : (x : X) (xs : List X) (r : Result (List Part) CertFault) → (r >>= λ others. Ok (map part (x ∷ xs) ++ others)) ≡ put_before (Some (part x)) (r >>= λ others. Ok (map part xs ++ others))
  by_next x xs (Ok others) = refl
  by_next x xs (Err f) = refl

  by_others : (x : X) (r : Result (List X × List ℕ) CertFault) → told_all (cons_read x r) ≡ put_before (Some (part x)) (told_all r)
  by_others x (Ok xs) = by_next x xs.0 (next xs.1)
  by_others x (Err f) = refl

  by_first : (n : ℕ) (r : Result (X × List ℕ) CertFault)
      → told_all (r >>= λ x. cons_read x.0 (records_at one key (key x.0) n x.1)) ≡ (r >>= λ x. put_before (Some (part x.0)) (told_all (records_at one key (key x.0) n x.1)))
  by_first n (Ok x) = by_others x.0 (records_at one key (key x.0) n x.1)
  by_first n (Err f) = refl

  pub one_first : (last : K) (n : ℕ) (bytes : List ℕ) → 0 < n → told_all (records_at one key last n bytes) ≡ (one last bytes >>= λ x. put_before (Some (part x.0)) (told_all (records_at one key (key x.0) (n - 1) x.1)))
  unfolding records_at
  one_first last zero bytes some = absurd (omega (arith, some))
  one_first last (suc n) bytes some = let less : suc n - 1 ≡ n = omega arith in rw less (by_first n (one last bytes))

-- so many are read
as_many : {X K : Type 0} (one : K → List ℕ → Result (X × List ℕ) CertFault) (key : X → K) (last : K) (n : ℕ) (bytes : List ℕ) (x : List X × List ℕ) → records_at one key last n bytes ≡ Ok x → length x.0 ≡ n
unfolding records_at
as_many {X} one key last zero bytes x e = let nothing : List X × List ℕ = ([], bytes) in ap (λ (y : List X × List ℕ). length y.0) (sym (ok_is nothing x e))
as_many {X} one key last (suc n) bytes x e =
    let a = bind_ok (one last bytes) (λ first. cons_read first.0 (records_at one key (key first.0) n first.1)) x e in
    let b = bind_ok (records_at one key (key a.0.0) n a.0.1) (λ others. Ok (a.0.0 ∷ others.0, others.1)) x a.2 in
    let made : List X × List ℕ = (a.0.0 ∷ b.0.0, b.0.1) in
    ap (λ (y : List X × List ℕ). length y.0) (sym (ok_is made x b.2)) ∙ ap suc (as_many one key (key a.0.0) n a.0.1 b.0 b.1)

-- ---- a tree is its head and its nodes

module _ (sizes : Sizes) (total : ℕ) where
  -- whole trees, and then no byte
  abbrev told_trees : Result (List Tree × List ℕ) CertFault → Result (List Part) CertFault
  told_trees read = read >>= λ ts. passed (length ts.1 == 0) (faults.Trailing (begins_at total ts.1)) (flat_map tree_parts ts.0)

  -- nodes, and then what is left
  abbrev told_nodes : List Node → Result (List Part) CertFault → Result (List Part) CertFault
  told_nodes ns left = left >>= λ others. Ok (map (λ n. parts.Node n) ns ++ others)

  -- a tree under way, and whole ones behind it
  abbrev tree_then : Option ℕ → ℕ → Result (List Node × List ℕ) CertFault → Result (List Part) CertFault
  tree_then last n read = read >>= λ ns. told_nodes ns.0 (told_trees (trees_at sizes total last n ns.1))

  by_test : (source count : ℕ) (ns : List Node) (ts : List Tree) (b : Bool) (f : CertFault) → length ns ≡ count
      → passed b f (flat_map tree_parts (record { source = source; nodes = ns } ∷ ts)) ≡ put_before (Some (parts.Tree source count)) (told_nodes ns (passed b f (flat_map tree_parts ts)))
  by_test source count ns ts true f many = ap (λ (k : ℕ). Ok (parts.Tree source k ∷ (map (λ n. parts.Node n) ns ++ flat_map tree_parts ts))) many
  by_test source count ns ts false f many = refl

  by_trees : (source count : ℕ) (ns : List Node) (r : Result (List Tree × List ℕ) CertFault) → length ns ≡ count
      → told_trees (cons_read (record { source = source; nodes = ns }) r) ≡ put_before (Some (parts.Tree source count)) (told_nodes ns (told_trees r))
  by_trees source count ns (Ok ts) many = by_test source count ns ts.0 (length ts.1 == 0) (faults.Trailing (begins_at total ts.1)) many
  by_trees source count ns (Err f) many = refl

  -- what is read of a tree once its head was
  abbrev tree_of : ℕ → Result (List Node × List ℕ) CertFault → Result (Tree × List ℕ) CertFault
  tree_of source read = read >>= λ ns. Ok (record { source = source; nodes = ns.0 }, ns.1)

  abbrev head_of : ℕ → Result (ℕ × List ℕ) CertFault → Result ((ℕ × ℕ) × List ℕ) CertFault
  head_of source read = read >>= λ count. Ok ((source, count.0), count.1)

  abbrev then_trees : ℕ → Result (Tree × List ℕ) CertFault → Result (List Part) CertFault
  then_trees n read = told_trees (read >>= λ t. cons_read t.0 (trees_at sizes total (Some t.0.source) n t.1))

  abbrev then_nodes : ℕ → Result ((ℕ × ℕ) × List ℕ) CertFault → Result (List Part) CertFault
  then_nodes n read = read >>= λ h. put_before (Some (parts.Tree h.0.0 h.0.1)) (tree_then (Some h.0.0) n (nodes_at total h.0.1 h.1))

  by_nodes : (n source count : ℕ) (r : Result (List Node × List ℕ) CertFault) → ((x : List Node × List ℕ) → r ≡ Ok x → length x.0 ≡ count)
      → then_trees n (tree_of source r) ≡ put_before (Some (parts.Tree source count)) (tree_then (Some source) n r)
  by_nodes n source count (Ok ns) many = by_trees source count ns.0 (trees_at sizes total (Some source) n ns.1) (many ns refl)
  by_nodes n source count (Err f) many = refl

  nodes_many : (count : ℕ) (bytes : List ℕ) (x : List Node × List ℕ) → nodes_at total count bytes ≡ Ok x → length x.0 ≡ count
  nodes_many count bytes x e = as_many (λ (k : ℕ). node_at total) (λ n. 0) 0 count bytes x e

  by_count : (n source : ℕ) (r : Result (ℕ × List ℕ) CertFault) → then_trees n (r >>= λ count. tree_of source (nodes_at total count.0 count.1)) ≡ then_nodes n (head_of source r)
  by_count n source (Ok count) = by_nodes n source count.0 (nodes_at total count.0 count.1) (nodes_many count.0 count.1)
  by_count n source (Err f) = refl

  by_sorted : (n : ℕ) (r : Result (ℕ × List ℕ) CertFault)
      → then_trees n (r >>= λ sorted. number_at w64 total sorted.1 >>= λ count. tree_of sorted.0 (nodes_at total count.0 count.1)) ≡ then_nodes n (r >>= λ sorted. head_of sorted.0 (number_at w64 total sorted.1))
  by_sorted n (Ok sorted) = by_count n sorted.0 (number_at w64 total sorted.1)
  by_sorted n (Err f) = refl

  by_source : (n : ℕ) (last : Option ℕ) (bytes : List ℕ) (r : Result (ℕ × List ℕ) CertFault)
      → then_trees n (r >>= λ source. passed (comes_after last source.0) (faults.NotSorted (begins_at total bytes)) source >>= λ sorted. number_at w64 total sorted.1 >>= λ count. tree_of sorted.0 (nodes_at total count.0 count.1))
      ≡ then_nodes n (r >>= λ source. passed (comes_after last source.0) (faults.NotSorted (begins_at total bytes)) source >>= λ sorted. head_of sorted.0 (number_at w64 total sorted.1))
  by_source n last bytes (Ok source) = by_sorted n (passed (comes_after last source.0) (faults.NotSorted (begins_at total bytes)) source)
  by_source n last bytes (Err f) = refl

  pub head_first : (last : Option ℕ) (n : ℕ) (bytes : List ℕ) → 0 < n → told_trees (trees_at sizes total last n bytes) ≡ then_nodes (n - 1) (head_at sizes total last bytes)
  unfolding records_at tree_at head_at
  head_first last zero bytes some = absurd (omega (arith, some))
  head_first last (suc n) bytes some = let less : suc n - 1 ≡ n = omega arith in rw less (by_source n last bytes (number_below sizes.sectors total bytes))

-- ---- what is awaited, kind for kind

module _ (a : Awaited) (total : ℕ) (bytes : List ℕ) where
  no_triangle : a.triangles ≡ 0 → triangles_left a total bytes ≡ rays_left a total bytes
  unfolding triangles_left
  no_triangle z = none_first (triangle_at a.sizes total) (λ t. Some t) (λ t. parts.Triangle t) (rays_left a total) a.last_triangle a.triangles bytes z

  no_ray : a.rays ≡ 0 → rays_left a total bytes ≡ pairs_left a total bytes
  unfolding rays_left
  no_ray z = none_first (ray_at a.sizes total) (λ t. Some t) (λ t. parts.Ray t) (pairs_left a total) a.last_ray a.rays bytes z

  no_pair : a.listed ≡ 0 → pairs_left a total bytes ≡ nodes_left a total bytes
  unfolding pairs_left
  no_pair z = none_first (pair_at a.map_sizes total) (λ t. Some t) (λ t. parts.Listed t) (nodes_left a total) a.last_pair a.listed bytes z

  no_node : a.nodes ≡ 0 → nodes_left a total bytes ≡ trees_left a total bytes
  unfolding nodes_left
  no_node z = none_first (λ (k : ℕ). node_at total) (λ n. 0) (λ t. parts.Node t) (trees_left a total) 0 a.nodes bytes z

  at_triangles : a.begun ≡ true → left_at a total bytes ≡ triangles_left a total bytes
  unfolding left_at
  at_triangles e = rw e refl

  at_rays : a.begun ≡ true → a.triangles ≡ 0 → left_at a total bytes ≡ rays_left a total bytes
  at_rays e t = at_triangles e ∙ no_triangle t

  at_pairs : a.begun ≡ true → a.triangles ≡ 0 → a.rays ≡ 0 → left_at a total bytes ≡ pairs_left a total bytes
  at_pairs e t r = at_rays e t ∙ no_ray r

  at_nodes : a.begun ≡ true → a.triangles ≡ 0 → a.rays ≡ 0 → a.listed ≡ 0 → left_at a total bytes ≡ nodes_left a total bytes
  at_nodes e t r l = at_pairs e t r ∙ no_pair l

  at_trees : a.begun ≡ true → a.triangles ≡ 0 → a.rays ≡ 0 → a.listed ≡ 0 → a.nodes ≡ 0 → left_at a total bytes ≡ trees_left a total bytes
  at_trees e t r l n = at_nodes e t r l ∙ no_node n

-- a record is still to come, or a byte
abbrev pub IsOwed : Awaited → List ℕ → Type 0
IsOwed a bytes = (is_done a ≡ false) ⊎ (0 < length bytes)

-- the parts of the records behind the first one
abbrev told : ℕ → Result ((Option Part × Awaited) × List ℕ) CertFault → Result (List Part) CertFault
told total read = read >>= λ x. put_before x.0.0 (left_at x.0.1 total x.1)

-- a record, its part, and what is left behind it
step_tells : {X : Type 0} (r : Result (X × List ℕ) CertFault) (part : X → Part) (next : X → Awaited) (after : X → List ℕ → Result (List Part) CertFault) (total : ℕ) → ((x : X) (rest : List ℕ) → left_at (next x) total rest ≡ after x rest)
    → (r >>= λ x. put_before (Some (part x.0)) (after x.0 x.1)) ≡ told total (as_first r (λ x. Some (part x)) next)
step_tells (Ok x) part next after total h = ap (put_before (Some (part x.0))) (sym (h x.0 x.1))
step_tells (Err f) part next after total h = refl

module _ (a : Awaited) (total : ℕ) (bytes : List ℕ) where
  by_header : (r : Result (RecordCounts × List ℕ) CertFault) → (r >>= λ x. triangles_left (all_awaited a.sizes x.0) total x.1) ≡ told total (as_first r (λ x. None) (λ x. all_awaited a.sizes x))
  unfolding left_at
  by_header (Ok x) = refl
  by_header (Err f) = refl

  at_header : a.begun ≡ false → left_at a total bytes ≡ (header_at a.sizes total bytes >>= λ x. triangles_left (all_awaited a.sizes x.0) total x.1)
  unfolding left_at
  at_header e = rw e refl

  header_tells : a.begun ≡ false → left_at a total bytes ≡ told total (header_step a total bytes)
  unfolding header_step
  header_tells e = at_header e ∙ by_header (header_at a.sizes total bytes)

  triangle_tells : a.begun ≡ true → 0 < a.triangles → left_at a total bytes ≡ told total (triangle_step a total bytes)
  unfolding triangle_step triangles_left rays_left pairs_left nodes_left trees_left
  triangle_tells e some =
      at_triangles a total bytes e
      ∙ one_first (triangle_at a.sizes total) (λ t. Some t) (λ t. parts.Triangle t) (rays_left a total) a.last_triangle a.triangles bytes some
      ∙ step_tells (triangle_at a.sizes total a.last_triangle bytes) (λ t. parts.Triangle t) (λ t. record a { triangles = a.triangles - 1; last_triangle = Some t })
      (λ t rest. triangles_left (record a { triangles = a.triangles - 1; last_triangle = Some t }) total rest) total (λ t rest. at_triangles (record a { triangles = a.triangles - 1; last_triangle = Some t }) total rest e)

  ray_tells : a.begun ≡ true → a.triangles ≡ 0 → 0 < a.rays → left_at a total bytes ≡ told total (ray_step a total bytes)
  unfolding ray_step rays_left pairs_left nodes_left trees_left
  ray_tells e t some =
      at_rays a total bytes e t
      ∙ one_first (ray_at a.sizes total) (λ t. Some t) (λ t. parts.Ray t) (pairs_left a total) a.last_ray a.rays bytes some
      ∙ step_tells (ray_at a.sizes total a.last_ray bytes) (λ t. parts.Ray t) (λ y. record a { rays = a.rays - 1; last_ray = Some y })
      (λ y rest. rays_left (record a { rays = a.rays - 1; last_ray = Some y }) total rest) total (λ y rest. at_rays (record a { rays = a.rays - 1; last_ray = Some y }) total rest e t)

  pair_tells : a.begun ≡ true → a.triangles ≡ 0 → a.rays ≡ 0 → 0 < a.listed → left_at a total bytes ≡ told total (pair_step a total bytes)
  unfolding pair_step pairs_left nodes_left trees_left
  pair_tells e t r some =
      at_pairs a total bytes e t r
      ∙ one_first (pair_at a.map_sizes total) (λ t. Some t) (λ t. parts.Listed t) (nodes_left a total) a.last_pair a.listed bytes some
      ∙ step_tells (pair_at a.map_sizes total a.last_pair bytes) (λ t. parts.Listed t) (λ y. record a { listed = a.listed - 1; last_pair = Some y })
      (λ y rest. pairs_left (record a { listed = a.listed - 1; last_pair = Some y }) total rest) total (λ y rest. at_pairs (record a { listed = a.listed - 1; last_pair = Some y }) total rest e t r)

  pub node_tells : a.begun ≡ true → a.triangles ≡ 0 → a.rays ≡ 0 → a.listed ≡ 0 → 0 < a.nodes → left_at a total bytes ≡ told total (node_step a total bytes)
  unfolding node_step nodes_left trees_left
  node_tells e t r l some =
      at_nodes a total bytes e t r l
      ∙ one_first (λ (k : ℕ). node_at total) (λ n. 0) (λ t. parts.Node t) (trees_left a total) 0 a.nodes bytes some
      ∙ step_tells (node_at total bytes) (λ t. parts.Node t) (λ y. record a { nodes = a.nodes - 1 })
      (λ y rest. nodes_left (record a { nodes = a.nodes - 1 }) total rest) total (λ y rest. at_nodes (record a { nodes = a.nodes - 1 }) total rest e t r l)

  head_tells : a.begun ≡ true → a.triangles ≡ 0 → a.rays ≡ 0 → a.listed ≡ 0 → a.nodes ≡ 0 → 0 < a.trees → left_at a total bytes ≡ told total (head_step a total bytes)
  unfolding head_step nodes_left trees_left
  head_tells e t r l n some =
      at_trees a total bytes e t r l n
      ∙ head_first a.sizes total a.last_source a.trees bytes some
      ∙ step_tells (head_at a.sizes total a.last_source bytes) (λ h. parts.Tree h.0 h.1) (λ h. record a { trees = a.trees - 1; nodes = h.1; last_source = Some h.0 })
      (λ h rest. nodes_left (record a { trees = a.trees - 1; nodes = h.1; last_source = Some h.0 }) total rest) total (λ h rest. at_nodes (record a { trees = a.trees - 1; nodes = h.1; last_source = Some h.0 }) total rest e t r l)

  -- nothing is awaited
  all_read : (b : Bool) → a.begun ≡ true → a.triangles ≡ 0 → a.rays ≡ 0 → a.listed ≡ 0 → a.nodes ≡ 0 → a.trees ≡ 0 → (length bytes == 0) ≡ b → left_at a total bytes ≡ passed b (faults.Trailing (begins_at total bytes)) []
  unfolding trees_left records_at
  all_read b e t r l n d h = at_trees a total bytes e t r l n ∙ rw (d, h) refl

  done_is : a.begun ≡ true → a.triangles ≡ 0 → a.rays ≡ 0 → a.listed ≡ 0 → a.nodes ≡ 0 → a.trees ≡ 0 → is_done a ≡ true
  done_is e t r l n d = rw (e, t, r, l, n, d) refl

  trailing_tells : a.begun ≡ true → a.triangles ≡ 0 → a.rays ≡ 0 → a.listed ≡ 0 → a.nodes ≡ 0 → a.trees ≡ 0 → IsOwed a bytes → left_at a total bytes ≡ Err (faults.Trailing (begins_at total bytes))
  trailing_tells e t r l n d (inl open_) = absurd (let clash : true ≡ false = sym (done_is e t r l n d) ∙ open_ in cc)
  trailing_tells e t r l n d (inr some) = all_read false e t r l n d (ne_eqb _ _ (λ z. omega (arith, z, some)))

  -- the first part comes before what the bytes behind it have
  begun_tells : a.begun ≡ true → IsOwed a bytes → left_at a total bytes ≡ told total (first_at a total bytes)
  begun_tells e owed = elim (cases_lt 0 a.triangles) [
    | inl some ↦ triangle_tells e some ∙ ap (told total) (sym (first_triangle a total bytes e some))
    | inr none ↦ no_triangles (let t : a.triangles ≡ 0 = omega arith in t)
  ]
    where
      no_nodes : a.triangles ≡ 0 → a.rays ≡ 0 → a.listed ≡ 0 → a.nodes ≡ 0 → left_at a total bytes ≡ told total (first_at a total bytes)
      no_nodes t r l n = elim (cases_lt 0 a.trees) [
        | inl some ↦ head_tells e t r l n some ∙ ap (told total) (sym (first_head a total bytes e t r l n some))
        | inr none ↦ let d : a.trees ≡ 0 = omega arith in trailing_tells e t r l n d owed ∙ ap (told total) (sym (first_trailing a total bytes e t r l n d))
      ]

      no_pairs : a.triangles ≡ 0 → a.rays ≡ 0 → a.listed ≡ 0 → left_at a total bytes ≡ told total (first_at a total bytes)
      no_pairs t r l = elim (cases_lt 0 a.nodes) [
        | inl some ↦ node_tells e t r l some ∙ ap (told total) (sym (first_node a total bytes e t r l some))
        | inr none ↦ no_nodes t r l (let n : a.nodes ≡ 0 = omega arith in n)
      ]

      no_rays : a.triangles ≡ 0 → a.rays ≡ 0 → left_at a total bytes ≡ told total (first_at a total bytes)
      no_rays t r = elim (cases_lt 0 a.listed) [
        | inl some ↦ pair_tells e t r some ∙ ap (told total) (sym (first_pair a total bytes e t r some))
        | inr none ↦ no_pairs t r (let l : a.listed ≡ 0 = omega arith in l)
      ]

      no_triangles : a.triangles ≡ 0 → left_at a total bytes ≡ told total (first_at a total bytes)
      no_triangles t = elim (cases_lt 0 a.rays) [
        | inl some ↦ ray_tells e t some ∙ ap (told total) (sym (first_ray a total bytes e t some))
        | inr none ↦ no_rays t (let r : a.rays ≡ 0 = omega arith in r)
      ]

  pub left_first : IsOwed a bytes → left_at a total bytes ≡ (first_at a total bytes >>= λ x. put_before x.0.0 (left_at x.0.1 total x.1))
  left_first owed = elim (cases_Bool a.begun) [
    | inl e ↦ begun_tells e owed
    | inr e ↦ header_tells e ∙ ap (told total) (sym (first_header a total bytes e))
  ]

  pub done_left : is_done a ≡ true → length bytes ≡ 0 → left_at a total bytes ≡ Ok []
  done_left h none =
      let p5 = and_parts _ _ h in
      let p4 = and_parts _ _ p5.0 in
      let p3 = and_parts _ _ p4.0 in
      let p2 = and_parts _ _ p3.0 in
      let p1 = and_parts _ _ p2.0 in
      all_read true p1.0 (eqb-true _ _ p1.1) (eqb-true _ _ p2.1) (eqb-true _ _ p3.1) (eqb-true _ _ p4.1) (eqb-true _ _ p5.1) (eq-eqb _ _ none)
