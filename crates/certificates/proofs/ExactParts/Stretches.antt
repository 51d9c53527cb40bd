-- Nodes of a tree whose length is known, read one behind the other: they come first of what is left.
use Rattle.std.proofs.Common.{◌≡◌, ℕ, ◌+◌, ◌-◌, ◌<◌, ◌≤◌, List, [], ◌∷◌, ◌++◌, length, take, drop, Some, Result, Ok, Err, refl, sym, ap, ◌∙◌, append_assoc, arith}
use Rattle.std.proofs.lemmas.List.{append-nil, length-append, length-take, length-drop, take-append-drop}
use Rattle.std.proofs.Math.Seq.{take-append-add, drop-append-add}
use Rattle.sight_names.specs.declared.faults.CertFault.{CertFault}
use Rattle.block_evidence.specs.SightTree.Spelling.{node_bytes}
use Rattle.block_evidence.specs.declared.sight_tree.Node.{Node}
use Rattle.cert_format.specs.Reading.{◌>>=◌, begins_at, node_at}
use Rattle.cert_format.proofs.FieldLaws.{IsBytes}
use Rattle.cert_format.proofs.TreeLaws.{node_takes as node_takes_bytes}
use Rattle.certificates.specs.CertParts.Nodes.{ReadsNodes}
use Rattle.certificates.specs.CertParts.Steps.{first_width}
use Rattle.certificates.proofs.CertParts.Whole.{longer}
use Rattle.certificates.proofs.CertParts.Nodes.{node_grows, node_takes}
use Rattle.certificates.proofs.CertParts.Stretches.{reads_within}
use Rattle.certificates.specs.declared.exact_parts.part.Part.{Part}
use Rattle.certificates.specs.declared.exact_parts.part.Part.TheVariants as parts
use Rattle.certificates.specs.ExactParts.Parts.{node_parts}
use Rattle.certificates.specs.ExactParts.Left.{TreesLeft, ReaderState, first_or_zero, less_first, settled_from, settled, shorter, trees_left, left_at, parts_left, put_before}
use Rattle.certificates.specs.ExactParts.Nodes.{AwaitsTree, behind_bytes}
use Rattle.certificates.proofs.ExactParts.Settling.{settles}
use Rattle.certificates.proofs.ExactParts.OneNode.{some_wide, first_node}
use Rattle.certificates.proofs.ExactParts.First.{at_trees}

-- these parts, and what is still to come behind them
abbrev pub put_all : List Part → Result (List Part) CertFault → Result (List Part) CertFault
put_all parts left = left >>= λ others. Ok (parts ++ others)

put_none : (left : Result (List Part) CertFault) → put_all [] left ≡ left
put_none (Ok others) = refl
put_none (Err f) = refl

put_first : (part : Part) (parts : List Part) (left : Result (List Part) CertFault) → put_before (Some part) (put_all parts left) ≡ put_all (part ∷ parts) left
put_first part parts (Ok others) = refl
put_first part parts (Err f) = refl

module _ (f : ℕ) (lengths : List ℕ) (total : ℕ) where
  -- a node that the bytes of its tree have whole comes first
  node_taken : (left : ℕ) (here behind more : List ℕ) (n : Node) → length here ≤ left → length more ≤ total → ((start : ℕ) → node_at start here ≡ Ok (n, behind))
      → trees_left f (left ∷ lengths) total (here ++ more) ≡ put_before (Some (parts.Node f n)) (trees_left f ((left - (length here - length behind)) ∷ lengths) total (behind ++ more))
  node_taken left here behind more n le low read =
      let takes : length here ≡ first_width here + length behind = node_takes 0 here (n, behind) (read 0) in
      first_node f lengths total left (here ++ more) (here ++ front) rest (n, behind ++ front) text_is rest_is (omega (arith, takes, some_wide here, length-append here front)) there
      ∙ ap (λ (k : ℕ). put_before (Some (parts.Node f n)) (trees_left f ((left - k) ∷ lengths) total ((behind ++ front) ++ rest))) used
      ∙ ap (λ (bytes : List ℕ). put_before (Some (parts.Node f n)) (trees_left f ((left - (length here - length behind)) ∷ lengths) total bytes)) regrouped
    where
      front : List ℕ
      front = take (left - length here) more

      rest : List ℕ
      rest = drop (left - length here) more

      whole : length here + (left - length here) ≡ left
      whole = omega (arith, le)

      text_is : here ++ front ≡ take left (here ++ more)
      text_is = sym (take-append-add here more (left - length here)) ∙ ap (λ (k : ℕ). take k (here ++ more)) whole

      rest_is : rest ≡ drop left (here ++ more)
      rest_is = sym (drop-append-add here more (left - length here)) ∙ ap (λ (k : ℕ). drop k (here ++ more)) whole

      begins : total - length more + length front ≡ begins_at total rest
      begins = omega (arith, length-take (left - length here) more, length-drop (left - length here) more, low)

      there : node_at (begins_at total rest) (here ++ front) ≡ Ok (n, behind ++ front)
      there =
          let takes : length here ≡ first_width here + length behind = node_takes 0 here (n, behind) (read 0) in
          ap (λ (k : ℕ). node_at k (here ++ front)) (sym begins) ∙ node_grows (total - length more) here front (omega (arith, takes)) ∙ ap (λ (r : Result (Node × List ℕ) CertFault). longer front r) (read (total - length more))

      used : length (here ++ front) - length (behind ++ front) ≡ length here - length behind
      used = omega (arith, length-append here front, length-append behind front)

      regrouped : (behind ++ front) ++ rest ≡ behind ++ more
      regrouped = append_assoc behind front rest ∙ ap (λ (t : List ℕ). behind ++ t) (take-append-drop (left - length here) more)

  -- so do more of them
  nodes_left : (left : ℕ) (ns : List Node) (here rest more : List ℕ) → length here ≤ left → length more ≤ total → ReadsNodes here ns rest
      → trees_left f (left ∷ lengths) total (here ++ more) ≡ put_all (node_parts f ns) (trees_left f ((left - (length here - length rest)) ∷ lengths) total (rest ++ more))
  nodes_left left [] here rest more le low e =
      let none : left ≡ left - (length here - length rest) = omega (arith, ap length e) in
      ap (λ (k : ℕ). trees_left f (k ∷ lengths) total (here ++ more)) none
      ∙ ap (λ (bytes : List ℕ). trees_left f ((left - (length here - length rest)) ∷ lengths) total (bytes ++ more)) e
      ∙ sym (put_none (trees_left f ((left - (length here - length rest)) ∷ lengths) total (rest ++ more)))
  nodes_left left (n ∷ ns) here rest more le low (mid, first, others) =
      let within : length rest ≤ length mid = reads_within mid ns rest others in
      let takes : length here ≡ first_width here + length mid = node_takes 0 here (n, mid) (first 0) in
      let fewer : ℕ = left - (length here - length mid) in
      let all : fewer - (length mid - length rest) ≡ left - (length here - length rest) = omega (arith, takes, within, le) in
      node_taken left here mid more n le low first
      ∙ ap (put_before (Some (parts.Node f n))) (nodes_left fewer ns mid rest more (omega (arith, takes, le)) low others)
      ∙ put_first (parts.Node f n) (node_parts f ns) (trees_left f ((fewer - (length mid - length rest)) ∷ lengths) total (rest ++ more))
      ∙ ap (λ (k : ℕ). put_all (node_parts f (n ∷ ns)) (trees_left f (k ∷ lengths) total (rest ++ more))) all

-- what is behind them is an end of the bytes
pub reads_front : (bytes : List ℕ) (ns : List Node) (rest : List ℕ) → IsBytes bytes → ReadsNodes bytes ns rest → (front : List ℕ) × (bytes ≡ front ++ rest)
reads_front bytes [] rest fit e = ([], e)
reads_front bytes (n ∷ ns) rest fit (mid, first, others) =
    let t = node_takes_bytes 0 bytes (n, mid) fit (first 0) in
    let later : (front : List ℕ) × (mid ≡ front ++ rest) = reads_front mid ns rest t.0.rest_fits others in
    (node_bytes n ++ later.0, t.0.parts ∙ ap (λ (b : List ℕ). node_bytes n ++ b) later.1 ∙ sym (append_assoc (node_bytes n) later.0 rest))

-- ---- the reader behind them

-- the parts that were still to come are these nodes, and then those behind them
pub nodes_behind : (s : ReaderState) (left : ℕ) → AwaitsTree s left → 0 < left → (ns : List Node) (here rest more : List ℕ) → length here ≤ left → ReadsNodes here ns rest
    → parts_left s (here ++ more) ≡ put_all (node_parts s.trees.source ns) (parts_left (behind_bytes s (length here - length rest)) (rest ++ more))
unfolding parts_left
nodes_behind s left awaits some ns here rest more le read = by s.trees.lengths refl
  where
    f : ℕ
    f = s.trees.source

    used : ℕ
    used = length here - length rest

    total : ℕ
    total = s.given + length (here ++ more)

    same_total : s.given + used + length (rest ++ more) ≡ total
    same_total = omega (arith, length-append here more, length-append rest more, reads_within here ns rest read)

    low : length more ≤ total
    low = omega (arith, length-append here more)

    by : (ls : List ℕ) → s.trees.lengths ≡ ls
        → left_at s.awaited s.trees total (s.kept ++ (here ++ more)) ≡ put_all (node_parts f ns) (left_at s.awaited (settled (shorter used s.trees)) (s.given + used + length (rest ++ more)) (s.kept ++ (rest ++ more)))
    by [] e = absurd (omega (arith, some, awaits.left_is, ap first_or_zero e))
    by (m ∷ ls) e =
        let is : m ≡ left = sym (ap first_or_zero e) ∙ awaits.left_is in
        let fewer : List ℕ = (m - used) ∷ ls in
        let behind : settled (shorter used s.trees) ≡ settled_from f fewer = ap (λ (xs : List ℕ). settled_from f (less_first used xs)) e in
        let bytes = rest ++ more in
        let later : trees_left f fewer total bytes ≡ left_at s.awaited (settled (shorter used s.trees)) (s.given + used + length bytes) (s.kept ++ bytes) =
        sym (ap (λ (xs : List ℕ). trees_left f xs total bytes) (append-nil fewer))
        ∙ settles total f fewer [] bytes
        ∙ ap (λ (xs : List ℕ). trees_left (settled_from f fewer).source xs total bytes) (append-nil (settled_from f fewer).lengths)
        ∙ sym (at_trees s.awaited (settled_from f fewer) total bytes awaits.triangles awaits.rays awaits.lengths)
        ∙ ap (λ (t : TreesLeft). left_at s.awaited t total bytes) (sym behind)
        ∙ ap (λ (k : ℕ). left_at s.awaited (settled (shorter used s.trees)) k bytes) (sym same_total)
        ∙ ap (λ (kept : List ℕ). left_at s.awaited (settled (shorter used s.trees)) (s.given + used + length bytes) (kept ++ bytes)) (sym awaits.uncut) in
        ap (λ (kept : List ℕ). left_at s.awaited s.trees total (kept ++ (here ++ more))) awaits.uncut
        ∙ at_trees s.awaited s.trees total (here ++ more) awaits.triangles awaits.rays awaits.lengths
        ∙ ap (λ (xs : List ℕ). trees_left f xs total (here ++ more)) e
        ∙ nodes_left f ls total m ns here rest more (omega (arith, le, is)) low read
        ∙ ap (put_all (node_parts f ns)) later
