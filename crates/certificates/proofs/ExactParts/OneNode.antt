-- A node of a tree whose length is known: it comes first of what is left.
use Rattle.std.proofs.Common.{◌≡◌, ℕ, zero, suc, ◌+◌, ◌-◌, ◌<◌, ◌≤◌, ◌⊎◌, inl, inr, Bool, true, false, cond, not, ltb, eqb, ◌==◌, List, [], ◌∷◌, ◌++◌, length, take, drop, Some, Result, Ok, Err, refl, sym, ap, ◌∙◌, append_assoc, arith}
use Rattle.std.proofs.lemmas.Bool.{cases_lt, le-ltb, lt-ltb, ne_eqb}
use Rattle.std.proofs.lemmas.List.{append-nil, length-append, length-take, length-drop, take_at, drop_at, take_all, drop_all, take-append-drop, nil_from_length}
use Rattle.std.proofs.Math.Seq.{take-append-add, drop-append-add}
use Rattle.sight_names.specs.declared.faults.CertFault.{CertFault}
use Rattle.sight_names.specs.declared.faults.CertFault.TheVariants as faults
use Rattle.block_evidence.specs.declared.sight_tree.Node.{Node}
use Rattle.cert_format.specs.Reading.{◌>>=◌, begins_at, passed, node_at}
use Rattle.certificates.specs.CertExact.Reading.{nodes_to_end, tree_at, trees_at}
use Rattle.certificates.specs.CertParts.Steps.{first_width}
use Rattle.certificates.proofs.CertParts.Whole.{longer}
use Rattle.certificates.proofs.CertParts.Nodes.{node_grows, node_takes}
use Rattle.certificates.specs.declared.exact_parts.part.Part.{Part}
use Rattle.certificates.specs.declared.exact_parts.part.Part.TheVariants as parts
use Rattle.certificates.specs.ExactParts.Parts.{tree_parts}
use Rattle.certificates.specs.ExactParts.Left.{TreesLeft, settled_from, settled, shorter, trees_left, put_before}
use Rattle.certificates.specs.ExactParts.Steps.{StepOf, node_step, room_for}
use Rattle.certificates.proofs.ExactParts.Settling.{told_trees, settles}

-- ---- a node takes a byte

node_wide : (zero two three four : Bool) → 0 < cond zero 1 (cond two 5 (cond three 7 (cond four 9 1)))
node_wide true two three four = omega arith
node_wide false true three four = omega arith
node_wide false false true four = omega arith
node_wide false false false true = omega arith
node_wide false false false false = omega arith

pub some_wide : (bytes : List ℕ) → 0 < first_width bytes
some_wide [] = omega arith
some_wide (k ∷ bytes) = node_wide (eqb k 0) (eqb k 2) (eqb k 3) (eqb k 4)

less_behind : (total : ℕ) (bytes : List ℕ) (x : Node × List ℕ) → node_at total bytes ≡ Ok x → length x.1 < length bytes
less_behind total bytes x e = omega (arith, node_takes total bytes x e, some_wide bytes)

-- ---- nodes up to the end, with room for more of them

same_then : {A B : Type 0} (r : Result A CertFault) (f g : A → Result B CertFault) → ((x : A) → r ≡ Ok x → f x ≡ g x) → (r >>= f) ≡ (r >>= g)
same_then (Ok x) f g h = h x refl
same_then (Err e) f g h = refl

abbrev put_node : Node → Result (List Node) CertFault → Result (List Node) CertFault
put_node n read = read >>= λ others. Ok (n ∷ others)

pub more_room : (n m total : ℕ) (bytes : List ℕ) → length bytes ≤ n → length bytes ≤ m → nodes_to_end n total bytes ≡ nodes_to_end m total bytes
unfolding nodes_to_end
more_room zero zero total bytes p q = refl
more_room zero (suc m) total [] p q = refl
more_room zero (suc m) total (b ∷ bytes) p q = absurd (omega (arith, p))
more_room (suc n) zero total [] p q = refl
more_room (suc n) zero total (b ∷ bytes) p q = absurd (omega (arith, q))
more_room (suc n) (suc m) total [] p q = refl
more_room (suc n) (suc m) total (b ∷ bytes) p q =
    same_then (node_at total (b ∷ bytes)) (λ x. put_node x.0 (nodes_to_end n total x.1)) (λ x. put_node x.0 (nodes_to_end m total x.1)) (λ x e.
    let less : length x.1 < suc (length bytes) = less_behind total (b ∷ bytes) x e in
    ap (put_node x.0) (more_room n m total x.1 (omega (arith, less, p)) (omega (arith, less, q))))

one_more : (total : ℕ) (bytes : List ℕ) (x : Node × List ℕ) → 0 < length bytes → node_at total bytes ≡ Ok x → nodes_to_end (length bytes) total bytes ≡ put_node x.0 (nodes_to_end (length x.1) total x.1)
unfolding nodes_to_end
one_more total [] x some e = absurd (omega (arith, some))
one_more total (b ∷ bytes) x some e =
    let less : length x.1 < suc (length bytes) = less_behind total (b ∷ bytes) x e in
    rw e (ap (put_node x.0) (more_room (length bytes) (length x.1) total x.1 (omega (arith, less)) (omega arith)))

no_more : (total : ℕ) (bytes : List ℕ) (g : CertFault) → 0 < length bytes → node_at total bytes ≡ Err g → nodes_to_end (length bytes) total bytes ≡ Err g
unfolding nodes_to_end
no_more total [] g some e = absurd (omega (arith, some))
no_more total (b ∷ bytes) g some e = rw e refl

-- ---- the first tree

module _ (f : ℕ) (lengths : List ℕ) (total : ℕ) where
  abbrev Nodes : Type 0
  Nodes = Result (List Node × List ℕ) CertFault

  abbrev then_trees : Nodes → Result (List Part) CertFault
  then_trees read = told_trees total f (read >>= λ tree. trees_at total lengths tree.1 >>= λ others. Ok (tree.0 ∷ others.0, others.1))

  -- a tree of these nodes, whose bytes are all there, or aren't
  abbrev tree_of : Bool → List ℕ → Result (List Node) CertFault → Nodes
  tree_of b rest read = read >>= λ ns. passed b (faults.Short (begins_at total [])) (ns, rest)

  at_tree : (many : ℕ) (bytes : List ℕ) → trees_left f (many ∷ lengths) total bytes ≡ then_trees (tree_of (not (ltb (length bytes) many)) (drop many bytes) (nodes_to_end (length (take many bytes)) (begins_at total (drop many bytes)) (take many bytes)))
  unfolding trees_left trees_at tree_at
  at_tree many bytes = refl

  by_test : (n : Node) (ns : List Node) (trees : List (List Node)) (b : Bool) (g : CertFault) → passed b g (tree_parts f ((n ∷ ns) ∷ trees)) ≡ put_before (Some (parts.Node f n)) (passed b g (tree_parts f (ns ∷ trees)))
  by_test n ns trees true g = refl
  by_test n ns trees false g = refl

  by_others : (n : Node) (ns : List Node) (r : Result (List (List Node) × List ℕ) CertFault)
      → told_trees total f (r >>= λ others. Ok ((n ∷ ns) ∷ others.0, others.1)) ≡ put_before (Some (parts.Node f n)) (told_trees total f (r >>= λ others. Ok (ns ∷ others.0, others.1)))
  by_others n ns (Ok trees) = by_test n ns trees.0 (length trees.1 == 0) (faults.Trailing (begins_at total trees.1))
  by_others n ns (Err g) = refl

  by_first : (n : Node) (r : Result (List Node) CertFault) (b : Bool) (rest : List ℕ) → then_trees (tree_of b rest (put_node n r)) ≡ put_before (Some (parts.Node f n)) (then_trees (tree_of b rest r))
  by_first n (Ok ns) true rest = by_others n ns (trees_at total lengths rest)
  by_first n (Ok ns) false rest = refl
  by_first n (Err g) b rest = refl

  -- what is left of it is there as before
  rest_there : (left : ℕ) (xs ds : List ℕ) → length xs ≤ left → (left ≡ length xs) ⊎ (ds ≡ []) → (take left (xs ++ ds) ≡ xs) × (drop left (xs ++ ds) ≡ ds)
  rest_there left xs ds le (inl e) = (take_at xs ds left (sym e), drop_at xs ds left (sym e))
  rest_there left xs ds le (inr e) =
      let all : xs ++ ds ≡ xs = ap (λ (t : List ℕ). xs ++ t) e ∙ append-nil xs in
      (rw all (take_all left xs le), rw all (drop_all left xs le) ∙ sym e)

  pub first_node : (many : ℕ) (bytes text rest : List ℕ) (x : Node × List ℕ) → text ≡ take many bytes → rest ≡ drop many bytes → 0 < length text → node_at (begins_at total rest) text ≡ Ok x
      → trees_left f (many ∷ lengths) total bytes ≡ put_before (Some (parts.Node f x.0)) (trees_left f ((many - (length text - length x.1)) ∷ lengths) total (x.1 ++ rest))
  first_node many bytes text rest x t r some e =
      let less : length x.1 < length text = less_behind (begins_at total rest) text x e in
      let left = many - (length text - length x.1) in
      let there = rest_there left x.1 rest (omega (arith, less, ap length t, length-take many bytes)) kind in
      let others = nodes_to_end (length x.1) (begins_at total rest) x.1 in
      at_tree many bytes
      ∙ rw (← t, ← r, one_more (begins_at total rest) text x some e) (by_first x.0 (nodes_to_end (length x.1) (begins_at total rest) x.1) (not (ltb (length bytes) many)) rest)
      ∙ ap (put_before (Some (parts.Node f x.0))) {x = then_trees (tree_of (not (ltb (length bytes) many)) rest others)} (sym (at_tree left (x.1 ++ rest) ∙ rw (there.0, there.1) (ap (λ (b : Bool). then_trees (tree_of (not b) rest others)) (sym same_test))))
    where
      kind : (many - (length text - length x.1) ≡ length x.1) ⊎ (rest ≡ [])
      kind = elim (cases_lt (length bytes) many) [
        | inl lt ↦ inr (r ∙ drop_all many bytes (omega (arith, lt)))
        | inr le ↦ inl (let less : length x.1 < length text = less_behind (begins_at total rest) text x e in omega (arith, le, less, ap length t, length-take many bytes))
      ]

      same_test : ltb (length bytes) many ≡ ltb (length (x.1 ++ rest)) (many - (length text - length x.1))
      same_test =
          let less : length x.1 < length text = less_behind (begins_at total rest) text x e in
          elim (cases_lt (length bytes) many) [
            | inl lt ↦ lt-ltb _ _ lt ∙ sym (lt-ltb _ _ (omega (arith, lt, less, ap length t, ap length r, length-take many bytes, length-drop many bytes, length-append x.1 rest)))
            | inr le ↦ le-ltb _ _ le ∙ sym (le-ltb _ _ (omega (arith, le, less, ap length t, ap length r, length-take many bytes, length-drop many bytes, length-append x.1 rest)))
          ]

  pub first_fault : (many : ℕ) (bytes text rest : List ℕ) (g : CertFault) → text ≡ take many bytes → rest ≡ drop many bytes → 0 < length text → node_at (begins_at total rest) text ≡ Err g → trees_left f (many ∷ lengths) total bytes ≡ Err g
  first_fault many bytes text rest g t r some e = at_tree many bytes ∙ rw (← t, ← r, no_more (begins_at total rest) text g some e) refl

  abbrev no_bytes : List ℕ
  no_bytes = []

  nothing : (many : ℕ) (b : Bool) → b ≡ true → then_trees (tree_of (not b) (drop many no_bytes) (nodes_to_end (length (take many no_bytes)) (begins_at total (drop many no_bytes)) (take many no_bytes))) ≡ Err (faults.Short (begins_at total no_bytes))
  unfolding nodes_to_end
  nothing many b e = rw (e, take_all many no_bytes (omega arith)) refl

  -- no byte of it is there
  pub none_there : (many : ℕ) → 0 < many → trees_left f (many ∷ lengths) total [] ≡ Err (faults.Short (begins_at total []))
  none_there many some = at_tree many [] ∙ nothing many (ltb 0 many) (lt-ltb _ _ some)

-- ---- a node that is there whole, or up to the end of its tree

abbrev Step : Type 0
Step = StepOf TreesLeft

module _ (f : ℕ) (many : ℕ) (lengths : List ℕ) (total : ℕ) (whole more : List ℕ) (some : 0 < many) (wide : room_for (first_width whole) many ≡ length whole) where
  abbrev here : TreesLeft
  here = record { source = f; lengths = many ∷ lengths }

  -- the width of the node, or what is left of the tree where that is less
  widths : ((length whole ≡ first_width whole) × (length whole ≤ many)) ⊎ ((length whole ≡ many) × (many < first_width whole))
  widths = elim (cases_lt many (first_width whole)) [
    | inl lt ↦ inr (sym (sym (roomless lt) ∙ wide), lt)
    | inr le ↦ inl (sym (sym (roomy le) ∙ wide), omega (arith, le, sym (sym (roomy le) ∙ wide)))
  ]
    where
      left : eqb many 0 ≡ false
      left = ne_eqb many 0 (λ e. omega (arith, e, some))

      roomless : many < first_width whole → room_for (first_width whole) many ≡ many
      roomless lt = rw (left, lt-ltb _ _ lt) refl

      roomy : first_width whole ≤ many → room_for (first_width whole) many ≡ first_width whole
      roomy le = rw (left, le-ltb _ _ le) refl

  within : length whole ≤ many
  within = elim widths [
    | inl w ↦ w.1
    | inr w ↦ omega (arith, w.0)
  ]

  begun : 0 < length whole
  begun = elim widths [
    | inl w ↦ omega (arith, w.0, some_wide whole)
    | inr w ↦ omega (arith, w.0, some)
  ]

  -- the bytes of the tree behind these
  abbrev front : List ℕ
  front = take (many - length whole) more

  abbrev rest : List ℕ
  rest = drop (many - length whole) more

  text_is : whole ++ front ≡ take many (whole ++ more)
  text_is =
      let n : length whole + (many - length whole) ≡ many = omega (arith, within) in
      sym (take-append-add whole more (many - length whole)) ∙ ap (λ (k : ℕ). take k (whole ++ more)) n

  rest_is : rest ≡ drop many (whole ++ more)
  rest_is =
      let n : length whole + (many - length whole) ≡ many = omega (arith, within) in
      sym (drop-append-add whole more (many - length whole)) ∙ ap (λ (k : ℕ). drop k (whole ++ more)) n

  ends_there : begins_at (total + length more) rest ≡ total + length front
  ends_there = omega (arith, length-take (many - length whole) more, length-drop (many - length whole) more)

  cut_read : (r : Result (Node × List ℕ) CertFault) → node_at total whole ≡ r → length whole ≡ many → many < first_width whole → node_at (total + length front) (whole ++ front) ≡ longer front r
  cut_read (Ok x) e all cut = absurd (omega (arith, node_takes total whole x e, all, cut))
  cut_read (Err g) e all cut =
      let none : front ≡ [] = nil_from_length front (omega (arith, all, length-take (many - length whole) more)) in
      let zero_more : total + 0 ≡ total = omega arith in
      rw (none, append-nil whole, zero_more) e

  read_there : node_at (begins_at (total + length more) rest) (whole ++ front) ≡ longer front (node_at total whole)
  read_there = rw ends_there (elim widths [
    | inl w ↦ node_grows total whole front (omega (arith, w.0))
    | inr w ↦ cut_read (node_at total whole) refl w.0 w.1
  ])

  abbrev told : Step → Result (List Part) CertFault
  told step = step >>= λ x. put_before (Some x.0.0) (trees_left x.0.1.source x.0.1.lengths (total + length more) x.1)

  abbrev as_node : Result (Node × List ℕ) CertFault → Step
  as_node r = r >>= λ x. Ok ((parts.Node f x.0, settled (shorter (length whole - length x.1) here)), x.1)

  by_read : (r : Result (Node × List ℕ) CertFault) → node_at total whole ≡ r → node_at (begins_at (total + length more) rest) (whole ++ front) ≡ longer front r → trees_left f (many ∷ lengths) (total + length more) (whole ++ more) ≡ told (longer more (as_node r))
  by_read (Ok x) e there =
      let used : length (whole ++ front) - length (x.1 ++ front) ≡ length whole - length x.1 = omega (arith, length-append whole front, length-append x.1 front) in
      let behind : (x.1 ++ front) ++ rest ≡ x.1 ++ more = append_assoc x.1 front rest ∙ ap (λ (t : List ℕ). x.1 ++ t) (take-append-drop (many - length whole) more) in
      let left = (many - (length whole - length x.1)) ∷ lengths in
      let bytes = x.1 ++ more in
      first_node f lengths (total + length more) many (whole ++ more) (whole ++ front) rest (x.0, x.1 ++ front) text_is rest_is (omega (arith, begun, length-append whole front)) there
      ∙ ap (λ (k : ℕ). put_before (Some (parts.Node f x.0)) (trees_left f ((many - k) ∷ lengths) (total + length more) ((x.1 ++ front) ++ rest))) used
      ∙ ap (λ (t : List ℕ). put_before (Some (parts.Node f x.0)) (trees_left f left (total + length more) t)) behind
      ∙ ap (put_before (Some (parts.Node f x.0))) (
      sym (ap (λ (t : List ℕ). trees_left f t (total + length more) bytes) (append-nil left))
      ∙ settles (total + length more) f left [] bytes
      ∙ ap (λ (t : List ℕ). trees_left (settled_from f left).source t (total + length more) bytes) (append-nil (settled_from f left).lengths)
      )
  by_read (Err g) e there = first_fault f lengths (total + length more) many (whole ++ more) (whole ++ front) rest g text_is rest_is (omega (arith, begun, length-append whole front)) there

  pub node_tells : trees_left f (many ∷ lengths) (total + length more) (whole ++ more) ≡ told (longer more (node_step here total whole))
  unfolding node_step
  node_tells = by_read (node_at total whole) refl read_there

abbrev unread : CertFault → Result (Node × List ℕ) CertFault
unread f = Err f

fault_is : (f g : CertFault) → unread f ≡ unread g → f ≡ g
fault_is f g e = cc

-- a node that is cut, at the end of all bytes
pub cut_told : (f many : ℕ) (lengths : List ℕ) (total : ℕ) (bytes : List ℕ) (g : CertFault) → 0 < many → length bytes < many → node_at total bytes ≡ Err g → trees_left f (many ∷ lengths) total bytes ≡ Err g
unfolding node_at
cut_told f many lengths total [] g some lt e = none_there f lengths total many some ∙ ap (λ (h : CertFault). Err h) (fault_is (faults.Short (begins_at total [])) g e)
cut_told f many lengths total (b ∷ bytes) g some lt e =
    let all = b ∷ bytes in
    let same : total - 0 ≡ total = omega arith in
    first_fault f lengths total many all all [] g (sym (take_all many all (omega (arith, lt)))) (sym (drop_all many all (omega (arith, lt)))) (omega arith) (ap (λ (n : ℕ). node_at n all) same ∙ e)
