-- A tree for each group, as trees with their sources: in range, in order, and within their fields.
use Rattle.std.proofs.Common.{◌≡◌, ℕ, zero, suc, ◌+◌, ◌^◌, ◌<◌, ◌≤◌, List, [], ◌∷◌, length, slice_get, Some, ap, sym, ◌∙◌, arith}
use Rattle.std.specs.List.{AllByRecursion}
use Rattle.std.proofs.lemmas.List.{length-append}
use Rattle.std.proofs.lemmas.List.Concat.{flat_map-cons}
use Rattle.math_base.proofs.Options.{some_is_same}
use Rattle.sight_names.specs.Order.{Ascends}
use Rattle.block_evidence.specs.declared.sight_tree.Node.{Node}
use Rattle.block_evidence.specs.declared.sight_tree.Tree.{Tree}
use Rattle.block_evidence.specs.SightTree.Spelling.{FitsNode, node_bytes}
use Rattle.cert_format.specs.declared.cert.Sizes.{Sizes}
use Rattle.cert_format.specs.Grammar.{IsTreeInRange, FitsTree}
use Rattle.cert_format.proofs.TreeLaws.{FitsInOrder, in_orders, all_fit, fit_in_order}
use Rattle.certificates.specs.CertExact.Grammar.{trees_from, nodes_bytes}
use Rattle.certificates.proofs.CertExact.NodesLaws.{node_long}

abbrev AllFit : List (List Node) → Type 0
AllFit trees = AllByRecursion (λ ns. AllByRecursion FitsInOrder ns) trees

abbrev AreShort : List (List Node) → Type 0
AreShort trees = AllByRecursion (λ ns. length (nodes_bytes ns) < 2 ^ 64) trees

pub tree_ranges : (sizes : Sizes) (f : ℕ) (trees : List (List Node)) → f + length trees ≤ sizes.sectors → AllFit trees → AllByRecursion (IsTreeInRange sizes) (trees_from f trees)
tree_ranges sizes f [] le fit = tt
tree_ranges sizes f (ns ∷ trees) le fit = ((omega (arith, le), in_orders ns fit.0), tree_ranges sizes (suc f) trees (omega (arith, le)) fit.1)

source_at : (f : ℕ) (trees : List (List Node)) (i : ℕ) (t : Tree) → slice_get (trees_from f trees) i ≡ Some t → t.source ≡ f + i
source_at f [] i t e = absurd cc
source_at f (ns ∷ trees) zero t e = let here : Tree = record { source = f; nodes = ns } in sym (ap (λ (u : Tree). u.source) (some_is_same here t e)) ∙ omega arith
source_at f (ns ∷ trees) (suc i) t e = source_at (suc f) trees i t e ∙ omega arith

pub sources_ascend : (f : ℕ) (trees : List (List Node)) → Ascends (λ (t u : Tree). t.source < u.source) (trees_from f trees)
sources_ascend f trees i j t u lt h g = omega (arith, lt, source_at f trees i t h, source_at f trees j u g)

few_nodes : (ns : List Node) → length ns ≤ length (nodes_bytes ns)
few_nodes [] = omega arith
few_nodes (n ∷ ns) = omega (arith, few_nodes ns, node_long n, ap length (flat_map-cons node_bytes n ns), length-append (node_bytes n) (nodes_bytes ns))

pub trees_fit : (f : ℕ) (trees : List (List Node)) → AreShort trees → AllByRecursion (λ (ns : List Node). AllByRecursion FitsNode ns) trees → AllByRecursion FitsTree (trees_from f trees)
trees_fit f [] short fit = tt
trees_fit f (ns ∷ trees) short fit = (record { count = omega (arith, few_nodes ns, short.0); nodes = fit.0 }, trees_fit (suc f) trees short.1 fit.1)

pub nodes_fit : (trees : List (List Node)) → AllFit trees → AllByRecursion (λ (ns : List Node). AllByRecursion FitsNode ns) trees
nodes_fit [] h = tt
nodes_fit (ns ∷ trees) h = (all_fit ns h.0, nodes_fit trees h.1)

pub all_in_order : (sizes : Sizes) (f : ℕ) (trees : List (List Node)) → AllByRecursion (IsTreeInRange sizes) (trees_from f trees) → AllByRecursion FitsTree (trees_from f trees) → AllFit trees
all_in_order sizes f [] h g = tt
all_in_order sizes f (ns ∷ trees) h g = (fit_in_order ns h.0.1 g.0.nodes, all_in_order sizes (suc f) trees h.1 g.1)
