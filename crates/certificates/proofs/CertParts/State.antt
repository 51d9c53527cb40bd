-- What a reader's parts to come are before and behind a step.
use Rattle.std.proofs.Common.{◌≡◌, ℕ, ◌+◌, ◌-◌, ◌<◌, ◌≤◌, ◌⊎◌, inr, true, false, List, [], ◌++◌, length, take, drop, Some, Result, Ok, Err, refl, sym, ap, subst, ◌∙◌, append_assoc, arith}
use Rattle.std.proofs.lemmas.Bool.{and_parts, and_from, eqb-true, ltb-true, lt-ltb}
use Rattle.std.proofs.lemmas.List.{append-nil, take-append-drop, length-append, length-take, nil_from_length}
use Rattle.sight_names.specs.declared.faults.CertFault.{CertFault}
use Rattle.block_evidence.specs.declared.sight_tree.Node.{Node}
use Rattle.cert_format.specs.Reading.{◌>>=◌, node_at}
use Rattle.certificates.specs.declared.cert_parts.awaited.Awaited.{Awaited}
use Rattle.certificates.specs.declared.cert_parts.part.Part.TheVariants as parts
use Rattle.certificates.specs.CertParts.Left.{ReaderState, left_at, parts_left, put_before}
use Rattle.certificates.specs.CertParts.Steps.{is_done, is_in_tree, first_at, first_width, node_step, width_at}
use Rattle.certificates.specs.CertParts.Nodes.{AwaitsNodes, behind_nodes}
use Rattle.certificates.proofs.CertParts.Whole.{longer}
use Rattle.certificates.proofs.CertParts.First.{First, first_grows, first_takes, some_width, width_stays, still_cut}
use Rattle.certificates.proofs.CertParts.Nodes.{node_grows, node_takes}
use Rattle.certificates.proofs.CertParts.Order.{left_first, done_left, node_tells}

-- a piece that is kept
pub kept_tells : (s new : ReaderState) (piece more : List ℕ) → new.awaited ≡ s.awaited → new.given ≡ s.given + length piece → new.kept ≡ s.kept ++ piece → parts_left s (piece ++ more) ≡ parts_left new more
unfolding parts_left
kept_tells s new piece more p q r =
    let n : s.given + length (piece ++ more) ≡ s.given + length piece + length more = omega (arith, length-append piece more) in
    rw (p, q, r, n, append_assoc s.kept piece more) refl

-- a record that is there whole: what was kept, and the front of the piece
pub record IsRecord (s : ReaderState) (piece front rest whole : List ℕ) : Type 0 where
  pub cut : piece ≡ front ++ rest
  pub joined : whole ≡ s.kept ++ front
  pub wide : width_at s.awaited whole ≡ length whole

pub record_is : (s : ReaderState) (piece front rest whole : List ℕ) (width count : ℕ) → length s.kept < width_at s.awaited s.kept → width ≡ width_at s.awaited (s.kept ++ piece) → count ≡ length s.kept → width - count ≤ length piece
    → front ≡ take (width - count) piece → rest ≡ drop (width - count) piece → whole ≡ s.kept ++ front → IsRecord s piece front rest whole
record_is s piece front rest whole width count lacks wide counted le f r w =
    let cut : piece ≡ front ++ rest = rw (f, r) (sym (take-append-drop (width - count) piece)) in
    let long : length whole ≡ width = omega (arith, ap length w, length-append s.kept front, ap length f, length-take (width - count) piece, le, counted, wide, still_cut s.awaited s.kept piece lacks) in
    let regrouped : s.kept ++ piece ≡ whole ++ rest = ap (λ (t : List ℕ). s.kept ++ t) cut ∙ sym (append_assoc s.kept front rest) ∙ ap (λ (t : List ℕ). t ++ rest) (sym w) in
    let some : 0 < length whole = omega (arith, long, wide, some_width s.awaited (s.kept ++ piece)) in
    record {
      cut = cut;
      joined = w;
      wide = sym (width_stays s.awaited whole rest some) ∙ ap (width_at s.awaited) (sym regrouped) ∙ sym wide ∙ sym long;
    }

module _ (s : ReaderState) (piece front rest whole : List ℕ) (is : IsRecord s piece front rest whole) (more : List ℕ) where
  some : 0 < length whole
  some = subst (λ (n : ℕ). 0 < n) is.wide (some_width s.awaited whole)

  regrouped : s.kept ++ (piece ++ more) ≡ whole ++ (rest ++ more)
  regrouped =
      ap (λ (t : List ℕ). s.kept ++ (t ++ more)) is.cut ∙ ap (λ (t : List ℕ). s.kept ++ t) (append_assoc front rest more) ∙ sym (append_assoc s.kept front (rest ++ more)) ∙ ap (λ (t : List ℕ). t ++ (rest ++ more)) (sym is.joined)

  counted : s.given + length (piece ++ more) ≡ s.given + length front + length (rest ++ more)
  counted = omega (arith, length-append piece more, ap length is.cut, length-append front rest, length-append rest more)

  at_first : parts_left s (piece ++ more)
      ≡ (longer (rest ++ more) (first_at s.awaited (s.given + length front) whole) >>= λ x. put_before x.0.0 (left_at x.0.1 (s.given + length front + length (rest ++ more)) x.1))
  unfolding parts_left
  at_first =
      let n = s.given + length front + length (rest ++ more) in
      ap (λ (t : List ℕ). left_at s.awaited (s.given + length (piece ++ more)) t) regrouped
      ∙ ap (λ (k : ℕ). left_at s.awaited k (whole ++ (rest ++ more))) counted
      ∙ left_first s.awaited n (whole ++ (rest ++ more)) (inr (omega (arith, some, length-append whole (rest ++ more))))
      ∙ ap (λ (r : Result First CertFault). r >>= λ x. put_before x.0.0 (left_at x.0.1 n x.1)) (first_grows s.awaited (s.given + length front) whole (rest ++ more) (omega (arith, is.wide)))

  pub fault_told : (f : CertFault) → first_at s.awaited (s.given + length front) whole ≡ Err f → parts_left s (piece ++ more) ≡ Err f
  fault_told f e = at_first ∙ rw e refl

  pub part_told : (new : ReaderState) (x : First) → first_at s.awaited (s.given + length front) whole ≡ Ok x → new.awaited ≡ x.0.1 → new.given ≡ s.given + length front → new.kept ≡ []
      → parts_left s (piece ++ more) ≡ put_before x.0.0 (parts_left new (rest ++ more))
  unfolding parts_left
  part_told new x e p q r =
      let nothing : x.1 ≡ [] = nil_from_length x.1 (omega (arith, first_takes s.awaited (s.given + length front) whole x e, is.wide)) in
      at_first ∙ rw (e, p, q, r, nothing) refl

-- ---- a node that the piece has whole

abbrev Read : Type 0
Read = Result (Node × List ℕ) CertFault

pub node_told : (s new : ReaderState) (piece rest more : List ℕ) (n : Node) → s.kept ≡ [] → is_in_tree s.awaited ≡ true → ((total : ℕ) → node_at total piece ≡ Ok (n, rest))
    → new.awaited ≡ record s.awaited { nodes = s.awaited.nodes - 1 } → new.given + length rest ≡ s.given + length piece → new.kept ≡ [] → parts_left s (piece ++ more) ≡ put_before (Some (parts.Node n)) (parts_left new (rest ++ more))
unfolding parts_left node_step
node_told s new piece rest more n none on read p q r =
    let total = s.given + length piece in
    let many : s.given + length (piece ++ more) ≡ total + length more = omega (arith, length-append piece more) in
    let still : new.given + length (rest ++ more) ≡ total + length more = omega (arith, length-append rest more, q) in
    let whole : first_width piece ≤ length piece = omega (arith, node_takes total piece (n, rest) (read total)) in
    let longer_read : node_at (total + length more) (piece ++ more) ≡ Ok (n, rest ++ more) = node_grows total piece more whole ∙ ap (λ (x : Read). longer more x) (read total) in
    let p4 = and_parts _ _ on in
    let p3 = and_parts _ _ p4.0 in
    let p2 = and_parts _ _ p3.0 in
    let p1 = and_parts _ _ p2.0 in
    rw (none, many) (node_tells s.awaited (total + length more) (piece ++ more) p1.0 (eqb-true _ _ p1.1) (eqb-true _ _ p2.1) (eqb-true _ _ p3.1) (ltb-true _ _ p4.1) ∙ rw (longer_read, p, still, r) refl)

-- ---- at the end

pub end_told : (s : ReaderState) (f : CertFault) → (is_done s.awaited ≡ false) ⊎ (0 < length s.kept) → first_at s.awaited s.given s.kept ≡ Err f → parts_left s [] ≡ Err f
unfolding parts_left
end_told s f owed e =
    let n : s.given + 0 ≡ s.given = omega arith in
    rw (n, append-nil s.kept) (left_first s.awaited s.given s.kept owed ∙ rw e refl)

pub done_told : (s : ReaderState) → is_done s.awaited ≡ true → length s.kept ≡ 0 → parts_left s [] ≡ Ok []
unfolding parts_left
done_told s h none =
    let n : s.given + 0 ≡ s.given = omega arith in
    rw (n, append-nil s.kept) (done_left s.awaited s.given s.kept h none)

-- a record that is cut is not read
pub not_read : (s : ReaderState) (kept : List ℕ) (x : First) → length s.kept < width_at s.awaited s.kept → kept ≡ s.kept → first_at s.awaited s.given kept ≡ Ok x → ⊥
not_read s kept x lacks same e = omega (arith, first_takes s.awaited s.given s.kept x (subst (λ (t : List ℕ). first_at s.awaited s.given t ≡ Ok x) same e), lacks)

-- ---- nodes that are taken while the reader stays

still_in_tree : (a : Awaited) (left : ℕ) → is_in_tree a ≡ true → 0 < left → is_in_tree (record a { nodes = left }) ≡ true
still_in_tree a left on lt = and_from _ _ (and_parts _ _ on).0 (lt-ltb 0 left lt)

-- the next of them comes first of the parts that were still to come
pub node_behind : (s : ReaderState) (count left bytes later : ℕ) (piece rest more : List ℕ) (n : Node) → AwaitsNodes s count → 0 < left → ((total : ℕ) → node_at total piece ≡ Ok (n, rest)) → later + length rest ≡ bytes + length piece
    → parts_left (behind_nodes s left bytes) (piece ++ more) ≡ put_before (Some (parts.Node n)) (parts_left (behind_nodes s (left - 1) later) (rest ++ more))
node_behind s count left bytes later piece rest more n awaits lt read moved =
    node_told (behind_nodes s left bytes) (behind_nodes s (left - 1) later) piece rest more n awaits.uncut (still_in_tree s.awaited left awaits.in_tree lt) read refl (omega (arith, moved)) awaits.uncut
