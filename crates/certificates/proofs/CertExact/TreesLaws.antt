-- Lengths and trees: what is read is spelled so and in order, and what is spelled so is read.
use Rattle.std.proofs.Common.{◌≡◌, ℕ, suc, ◌^◌, ◌<◌, ◌≤◌, List, [], ◌∷◌, ◌++◌, length, map, take, drop, false, not, ltb, Ok, refl, sym, ap, subst, ◌∙◌, append_assoc, arith}
use Rattle.std.specs.List.{flat_map, AllByRecursion}
use Rattle.std.specs.Int.{w64}
use Rattle.std.proofs.lemmas.Bool.{ltb-false, le-ltb, not-true}
use Rattle.std.proofs.lemmas.List.{take_at, drop_at, take-append-drop, length-append, length-take}
use Rattle.sight_names.specs.declared.faults.CertFault.TheVariants as faults
use Rattle.block_evidence.specs.declared.sight_tree.Node.{Node}
use Rattle.cert_format.specs.Grammar.{u64}
use Rattle.cert_format.specs.Reading.{◌>>=◌, begins_at, number_at, passed}
use Rattle.cert_format.proofs.FieldLaws.{IsBytes, bind_ok, passed_ok, ok_is, Takes, Takes-then, wide64, number_takes, number_again, IsBytes-take as front_fits, IsBytes-drop as back_fits}
use Rattle.cert_format.proofs.RecordLaws.{IsChain, records_take, records_again}
use Rattle.cert_format.proofs.TreeLaws.{FitsInOrder}
use Rattle.certificates.specs.CertExact.Grammar.{nodes_bytes, length_bytes}
use Rattle.certificates.specs.CertExact.Reading.{lengths_at, nodes_to_end, tree_at, trees_at}
use Rattle.certificates.proofs.CertExact.NodesLaws.{nodes_taken, nodes_again}

-- ---- lengths

abbrev IsLong : ℕ → Type 0
IsLong n = n < 2 ^ 64

abbrev NoOrder : ℕ → ℕ → Type 0
NoOrder k n = Unit {0}

pub record AreLengthsTaken (n : ℕ) (bytes : List ℕ) (lengths : List ℕ) (rest : List ℕ) : Type 0 where
  pub takes : Takes bytes (flat_map u64 lengths) rest
  pub count : length lengths ≡ n
  pub fit : AllByRecursion IsLong lengths

pub lengths_take : (total n : ℕ) (bytes : List ℕ) (x : List ℕ × List ℕ) → IsBytes bytes → lengths_at total n bytes ≡ Ok x → AreLengthsTaken n bytes x.0 x.1
lengths_take total n bytes x fits e =
    let t = records_take (λ (k : ℕ). number_at w64 total) (λ n. 0) u64 IsLong NoOrder (λ k bytes x fits e. let t = number_takes w64 (2 ^ 64) wide64 total bytes x fits e in (t.0, t.1, tt)) n 0 bytes x fits e in
    record { takes = t.takes; count = t.count; fit = t.fit }

no_chain : (total k : ℕ) (ns : List ℕ) → IsChain (λ (k : ℕ). number_at w64 total) (λ n. 0) u64 IsLong NoOrder k ns
no_chain total k [] = tt
no_chain total k (n ∷ ns) = (tt, no_chain total 0 ns)

lengths_read : (total : ℕ) (lengths : List ℕ) (rest : List ℕ) → AllByRecursion IsLong lengths → lengths_at total (length lengths) (flat_map u64 lengths ++ rest) ≡ Ok (lengths, rest)
lengths_read total lengths rest fits =
    records_again (λ (k : ℕ). number_at w64 total) (λ n. 0) u64 IsLong NoOrder (λ k n rest fits after. number_again w64 (2 ^ 64) wide64 total n rest fits) 0 lengths rest fits (no_chain total 0 lengths)

-- how many bytes each of the trees takes
abbrev pub sizes_in : List (List Node) → List ℕ
sizes_in trees = map (λ (ns : List Node). length (nodes_bytes ns)) trees

pub sizes_spelled : (trees : List (List Node)) → flat_map u64 (sizes_in trees) ≡ flat_map length_bytes trees
sizes_spelled [] = refl
sizes_spelled (ns ∷ trees) = ap (λ (t : List ℕ). length_bytes ns ++ t) (sizes_spelled trees)

pub many_sizes : (trees : List (List Node)) → length (sizes_in trees) ≡ length trees
many_sizes [] = refl
many_sizes (ns ∷ trees) = ap suc (many_sizes trees)

sizes_fit : (trees : List (List Node)) → AllByRecursion (λ ns. length (nodes_bytes ns) < 2 ^ 64) trees → AllByRecursion IsLong (sizes_in trees)
sizes_fit [] h = tt
sizes_fit (ns ∷ trees) h = (h.0, sizes_fit trees h.1)

pub fit_sizes : (trees : List (List Node)) → AllByRecursion IsLong (sizes_in trees) → AllByRecursion (λ ns. length (nodes_bytes ns) < 2 ^ 64) trees
fit_sizes [] h = tt
fit_sizes (ns ∷ trees) h = (h.0, fit_sizes trees h.1)

pub lengths_again : (total : ℕ) (trees : List (List Node)) (rest : List ℕ) → AllByRecursion (λ ns. length (nodes_bytes ns) < 2 ^ 64) trees → lengths_at total (length trees) (flat_map length_bytes trees ++ rest) ≡ Ok (sizes_in trees, rest)
lengths_again total trees rest fits =
    ap (λ (t : List ℕ). lengths_at total (length trees) (t ++ rest)) (sym (sizes_spelled trees))
    ∙ ap (λ (n : ℕ). lengths_at total n (flat_map u64 (sizes_in trees) ++ rest)) (sym (many_sizes trees))
    ∙ lengths_read total (sizes_in trees) rest (sizes_fit trees fits)

-- ---- trees

record IsTreeTaken (many : ℕ) (bytes : List ℕ) (ns : List Node) (rest : List ℕ) : Type 0 where
  takes : Takes bytes (nodes_bytes ns) rest
  size : length (nodes_bytes ns) ≡ many
  fit : AllByRecursion FitsInOrder ns

tree_takes : (total many : ℕ) (bytes : List ℕ) (x : List Node × List ℕ) → IsBytes bytes → tree_at total many bytes ≡ Ok x → IsTreeTaken many bytes x.0 x.1
unfolding tree_at
tree_takes total many bytes x fits e =
    let text = take many bytes in
    let rest = drop many bytes in
    let n = bind_ok (nodes_to_end (length text) (begins_at total rest) text) (λ nodes. passed (not (ltb (length bytes) many)) (faults.Short (begins_at total [])) (nodes, rest)) x e in
    let p = passed_ok (not (ltb (length bytes) many)) (faults.Short (begins_at total [])) (n.0, rest) x n.2 in
    let long : many ≤ length bytes = ltb-false _ _ (not-true _ p.0) in
    let t = nodes_taken (begins_at total rest) text n.0 (front_fits many bytes fits) n.1 in
    let made : List Node × List ℕ = (n.0, rest) in
    subst (λ (y : List Node × List ℕ). IsTreeTaken many bytes y.0 y.1) {x = made} p.1 (record {
      takes = record { parts = sym (take-append-drop many bytes) ∙ ap (λ (b : List ℕ). b ++ rest) t.0; rest_fits = back_fits many bytes fits };
      size = omega (arith, ap length t.0, length-take many bytes, long);
      fit = t.1;
    })

tree_again : (total : ℕ) (ns : List Node) (rest : List ℕ) → AllByRecursion FitsInOrder ns → tree_at total (length (nodes_bytes ns)) (nodes_bytes ns ++ rest) ≡ Ok (ns, rest)
unfolding tree_at
tree_again total ns rest fits =
    let text = nodes_bytes ns in
    let long : ltb (length (text ++ rest)) (length text) ≡ false = le-ltb _ _ (omega (arith, length-append text rest)) in
    rw (take_at text rest (length text) refl, drop_at text rest (length text) refl, nodes_again (length text) (begins_at total rest) ns (omega arith) fits, long) refl

pub record AreTreesTaken (lengths : List ℕ) (bytes : List ℕ) (trees : List (List Node)) (rest : List ℕ) : Type 0 where
  pub takes : Takes bytes (flat_map nodes_bytes trees) rest
  pub sizes : sizes_in trees ≡ lengths
  pub fit : AllByRecursion (λ ns. AllByRecursion FitsInOrder ns) trees

pub trees_take : (total : ℕ) (lengths : List ℕ) (bytes : List ℕ) (x : List (List Node) × List ℕ) → IsBytes bytes → trees_at total lengths bytes ≡ Ok x → AreTreesTaken lengths bytes x.0 x.1
unfolding trees_at
trees_take total [] bytes x fits e =
    let nothing : List (List Node) × List ℕ = ([], bytes) in
    subst (λ (y : List (List Node) × List ℕ). AreTreesTaken [] bytes y.0 y.1) (ok_is nothing x e) (record { takes = record { parts = refl; rest_fits = fits }; sizes = refl; fit = tt })
trees_take total (many ∷ lengths) bytes x fits e =
    let a = bind_ok (tree_at total many bytes) (λ tree. trees_at total lengths tree.1 >>= λ others. Ok (tree.0 ∷ others.0, others.1)) x e in
    let b = bind_ok (trees_at total lengths a.0.1) (λ others. Ok (a.0.0 ∷ others.0, others.1)) x a.2 in
    let first = tree_takes total many bytes a.0 fits a.1 in
    let second = trees_take total lengths a.0.1 b.0 first.takes.rest_fits b.1 in
    let both = Takes-then bytes (nodes_bytes a.0.0) a.0.1 (flat_map nodes_bytes b.0.0) b.0.1 first.takes second.takes in
    let made : List (List Node) × List ℕ = (a.0.0 ∷ b.0.0, b.0.1) in
    subst (λ (y : List (List Node) × List ℕ). AreTreesTaken (many ∷ lengths) bytes y.0 y.1) {x = made} (ok_is made x b.2)
    (record { takes = both; sizes = rw (first.size, second.sizes) refl; fit = (first.fit, second.fit) })

pub trees_again : (total : ℕ) (trees : List (List Node)) (rest : List ℕ) → AllByRecursion (λ ns. AllByRecursion FitsInOrder ns) trees → trees_at total (sizes_in trees) (flat_map nodes_bytes trees ++ rest) ≡ Ok (trees, rest)
unfolding trees_at
trees_again total [] rest fits = refl
trees_again total (ns ∷ trees) rest fits =
    let behind = flat_map nodes_bytes trees ++ rest in
    ap (trees_at total (sizes_in (ns ∷ trees))) (append_assoc (nodes_bytes ns) (flat_map nodes_bytes trees) rest)
    ∙ rw (tree_again total ns behind fits.0, trees_again total trees rest fits.1) refl
