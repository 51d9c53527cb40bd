-- Passing trees of which nothing is left: what is left to come stays the same.
use Rattle.std.proofs.Common.{◌≡◌, ℕ, zero, suc, ◌+◌, List, [], ◌∷◌, ◌++◌, length, false, ltb, ◌==◌, Result, Ok, Err, refl, ◌∙◌, arith}
use Rattle.std.proofs.lemmas.Bool.{le-ltb}
use Rattle.sight_names.specs.declared.faults.CertFault.{CertFault}
use Rattle.sight_names.specs.declared.faults.CertFault.TheVariants as faults
use Rattle.block_evidence.specs.declared.sight_tree.Node.{Node}
use Rattle.cert_format.specs.Reading.{◌>>=◌, begins_at, passed}
use Rattle.certificates.specs.CertExact.Reading.{nodes_to_end, tree_at, trees_at}
use Rattle.certificates.specs.declared.exact_parts.part.Part.{Part}
use Rattle.certificates.specs.ExactParts.Parts.{tree_parts}
use Rattle.certificates.specs.ExactParts.Left.{first_or_zero, settled_from, IsFirstTreeLeft, trees_left}

abbrev Trees : Type 0
Trees = Result (List (List Node) × List ℕ) CertFault

module _ (total : ℕ) where
  -- the parts of trees from one on; behind them no byte is left
  abbrev pub told_trees : ℕ → Trees → Result (List Part) CertFault
  told_trees f read = read >>= λ trees. passed (length trees.1 == 0) (faults.Trailing (begins_at total trees.1)) (tree_parts f trees.0)

  no_nodes : (bytes : List ℕ) → tree_at total 0 bytes ≡ Ok ([], bytes)
  unfolding tree_at nodes_to_end
  no_nodes bytes = let long : ltb (length bytes) 0 ≡ false = le-ltb _ _ (omega arith) in rw long refl

  by_others : (f : ℕ) (r : Trees) → told_trees f (r >>= λ others. Ok ([] ∷ others.0, others.1)) ≡ told_trees (suc f) r
  by_others f (Ok trees) = refl
  by_others f (Err g) = refl

  pub empty_first : (f : ℕ) (lengths bytes : List ℕ) → trees_left f (0 ∷ lengths) total bytes ≡ trees_left (suc f) lengths total bytes
  unfolding trees_left trees_at
  empty_first f lengths bytes = rw (no_nodes bytes) (by_others f (trees_at total lengths bytes))

  pub settles : (f : ℕ) (lengths more bytes : List ℕ) → trees_left f (lengths ++ more) total bytes ≡ trees_left (settled_from f lengths).source ((settled_from f lengths).lengths ++ more) total bytes
  settles f [] more bytes = refl
  settles f (zero ∷ lengths) more bytes = empty_first f (lengths ++ more) bytes ∙ settles (suc f) lengths more bytes
  settles f (suc n ∷ lengths) more bytes = refl

pub settled_is : (f : ℕ) (lengths : List ℕ) → IsFirstTreeLeft (settled_from f lengths).lengths
settled_is f [] = tt
settled_is f (zero ∷ lengths) = settled_is (suc f) lengths
settled_is f (suc n ∷ lengths) = omega arith

-- with nothing left of the first, none is left
pub none_first : (lengths : List ℕ) → IsFirstTreeLeft lengths → first_or_zero lengths ≡ 0 → lengths ≡ []
none_first [] is none = refl
none_first (n ∷ lengths) is none = absurd (omega (arith, is, none))
