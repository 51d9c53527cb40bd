-- Nodes that are read one behind the other.
use Rattle.std.proofs.Common.{◌≡◌, ℕ, ◌+◌, ◌-◌, ◌<◌, ◌≤◌, List, [], ◌∷◌, ◌++◌, length, map, Some, Result, Ok, Err, refl, sym, ap, ◌∙◌, arith}
use Rattle.std.proofs.lemmas.List.{length-append}
use Rattle.sight_names.specs.declared.faults.CertFault.{CertFault}
use Rattle.block_evidence.specs.declared.sight_tree.Node.{Node}
use Rattle.cert_format.specs.Reading.{◌>>=◌, node_at}
use Rattle.certificates.specs.declared.cert_parts.part.Part.{Part}
use Rattle.certificates.specs.declared.cert_parts.part.Part.TheVariants.{Node as OfNode}
use Rattle.certificates.specs.CertParts.Left.{ReaderState, parts_left, put_before}
use Rattle.certificates.specs.CertParts.Nodes.{ReadsNodes, TakesNodes, AwaitsNodes, behind_nodes}
use Rattle.certificates.proofs.CertParts.Nodes.{node_takes}
use Rattle.certificates.proofs.CertParts.State.{node_behind}

-- one node more
pub reads_more : (bytes : List ℕ) (ns : List Node) (rest behind : List ℕ) (n : Node) → ReadsNodes bytes ns rest → ((total : ℕ) → node_at total rest ≡ Ok (n, behind)) → ReadsNodes bytes (ns ++ n ∷ []) behind
reads_more bytes [] rest behind n e read = (behind, λ total. ap (node_at total) e ∙ read total, refl)
reads_more bytes (k ∷ ns) rest behind n (mid, first, others) read = (mid, first, reads_more mid ns rest behind n others read)

module _ (bytes : List ℕ) (count : ℕ) where
  pub takes_none : (P : List Node → Type 0) → P [] → TakesNodes bytes count bytes count P
  takes_none P p = record { nodes = []; read = refl; counted = omega arith; holds = p }

  pub takes_more : (rest behind : List ℕ) (left : ℕ) (n : Node) (P Q : List Node → Type 0) → TakesNodes bytes count rest left P → 0 < left → ((total : ℕ) → node_at total rest ≡ Ok (n, behind)) → ((ns : List Node) → P ns → Q (ns ++ n ∷ []))
      → TakesNodes bytes count behind (left - 1) Q
  takes_more rest behind left n P Q t some read on = record {
    nodes = t.nodes ++ n ∷ [];
    read = reads_more bytes t.nodes rest behind n t.read read;
    counted = let h : length (t.nodes ++ n ∷ []) ≡ length t.nodes + 1 = length-append t.nodes (n ∷ []) in omega (arith, h, t.counted, some);
    holds = on t.nodes t.holds;
  }

  -- what holds of them then
  pub takes_then : (rest : List ℕ) (left : ℕ) (P Q : List Node → Type 0) → ((ns : List Node) → length ns + left ≡ count → P ns → Q ns) → TakesNodes bytes count rest left P → TakesNodes bytes count rest left Q
  takes_then rest left P Q on t = record { nodes = t.nodes; read = t.read; counted = t.counted; holds = on t.nodes t.counted t.holds }

  pub takes_weaker : (rest : List ℕ) (left : ℕ) (P Q : List Node → Type 0) → ((ns : List Node) → P ns → Q ns) → TakesNodes bytes count rest left P → TakesNodes bytes count rest left Q
  takes_weaker rest left P Q on t = takes_then rest left P Q (λ ns _ p. on ns p) t

-- what is left of the bytes isn't more of them
pub reads_within : (bytes : List ℕ) (ns : List Node) (rest : List ℕ) → ReadsNodes bytes ns rest → length rest ≤ length bytes
reads_within bytes [] rest e = omega (arith, ap length e)
reads_within bytes (n ∷ ns) rest (mid, first, others) = omega (arith, reads_within mid ns rest others, node_takes 0 bytes (n, mid) (first 0))

-- ---- the reader behind them

-- these parts, and what is still to come behind them
abbrev pub put_all : List Part → Result (List Part) CertFault → Result (List Part) CertFault
put_all parts left = left >>= λ others. Ok (parts ++ others)

put_none : (left : Result (List Part) CertFault) → put_all [] left ≡ left
put_none (Ok others) = refl
put_none (Err f) = refl

put_first : (part : Part) (parts : List Part) (left : Result (List Part) CertFault) → put_before (Some part) (put_all parts left) ≡ put_all (part ∷ parts) left
put_first part parts (Ok others) = refl
put_first part parts (Err f) = refl

abbrev pub node_parts : List Node → List Part
node_parts ns = map (λ n. OfNode n) ns

-- the parts that were still to come are these nodes, and then those behind them
pub nodes_behind : (s : ReaderState) (count : ℕ) → AwaitsNodes s count → (ns : List Node) (left bytes : ℕ) (ahead rest more : List ℕ) → ReadsNodes ahead ns rest
    → parts_left (behind_nodes s (length ns + left) bytes) (ahead ++ more) ≡ put_all (node_parts ns) (parts_left (behind_nodes s left (bytes + (length ahead - length rest))) (rest ++ more))
nodes_behind s count awaits [] left bytes ahead rest more e =
    let none : bytes + (length ahead - length rest) ≡ bytes = omega (arith, ap length e) in
    let zero : 0 + left ≡ left = omega arith in
    rw (zero, none, e) (sym (put_none (parts_left (behind_nodes s left bytes) (rest ++ more))))
nodes_behind s count awaits (n ∷ ns) left bytes ahead rest more (mid, first, others) =
    let within : length rest ≤ length mid = reads_within mid ns rest others in
    let some : length mid ≤ length ahead = omega (arith, node_takes 0 ahead (n, mid) (first 0)) in
    let later : ℕ = bytes + (length ahead - length mid) in
    let moved : later + length mid ≡ bytes + length ahead = omega (arith, some) in
    let all : later + (length mid - length rest) ≡ bytes + (length ahead - length rest) = omega (arith, some, within) in
    let fewer : length (n ∷ ns) + left - 1 ≡ length ns + left = omega arith in
    node_behind s count (length (n ∷ ns) + left) bytes later ahead mid more n awaits (omega arith) first moved
    ∙ ap (λ (k : ℕ). put_before (Some (OfNode n)) (parts_left (behind_nodes s k later) (mid ++ more))) fewer
    ∙ ap (put_before (Some (OfNode n))) (nodes_behind s count awaits ns left later mid rest more others)
    ∙ put_first (OfNode n) (node_parts ns) (parts_left (behind_nodes s left (later + (length mid - length rest))) (rest ++ more))
    ∙ ap (λ (k : ℕ). put_all (node_parts (n ∷ ns)) (parts_left (behind_nodes s left k) (rest ++ more))) all
