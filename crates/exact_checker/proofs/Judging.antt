-- From the rows of what groups own to the certificate: trees.
use Rattle.std.proofs.Common.{◌≡◌, ℕ, zero, suc, ◌+◌, ◌<◌, ◌↔◌, inl, inr, List, [], ◌∷◌, Option, Some, None, length, map, true, refl, sym, ◌∙◌, ap, subst, arith}
use Rattle.std.specs.List.{slice_get}
use Rattle.std.proofs.lemmas.Option.{none-some, slice_get_within, same_Some}
use Rattle.sight_names.specs.declared.names.PairRay.{PairRay}
use Rattle.sight_names.specs.declared.names.Triangle.{Triangle}
use Rattle.sight_names.specs.Plan.{PlanParts, IsPlan}
use Rattle.sight_names.specs.Map.{map_of}
use Rattle.sight_names.specs.Mesh.{IsGoodMesh, label_of}
use Rattle.math_base.proofs.Numbers.{below_or_last}
use Rattle.math_base.proofs.Options.{some_is_same}
use Rattle.block_evidence.specs.declared.sight_tree.Node.{Node}
use Rattle.mesh_shape.specs.declared.half_edges.table.HalfEdge.{HalfEdge}
use Rattle.mesh_shape.specs.HalfEdges.HalfEdges.{AreHalfEdges}
use Rattle.cert_checker.specs.declared.tree_judge.roots.Root.{Root}
use Rattle.cert_checker.specs.TreeJudge.Roots.{AreRootChains}
use Rattle.face_groups.specs.TriSectors.Components.{AreComponents}
use Rattle.cert_format.specs.declared.cert.Labelled.{Labelled}
use Rattle.cert_format.specs.Accepted.{triangles_of, labels_of}
use Rattle.cert_format.specs.Parts.{CertParts}
use Rattle.certificates.specs.declared.cert_exact.cert.ExactParts.{ExactParts}
use Rattle.certificates.specs.CertExact.Grammar.{as_two}
use Rattle.gate_floods.specs.Bits.{is_owned, owned_row, rank_of}
use Rattle.gate_floods.specs.Exact.{IsClaimedBlind, IsOwned}
use Rattle.gate_floods.proofs.RowBits.{bit_is, bit_low}
use Rattle.gate_floods.proofs.Owned.{owned_rows_tell}
use Rattle.gate_floods.specs.RowJudge.Masks.{MaskRows}
use Rattle.gate_floods.specs.RowJudge.Judged.{tree_with}
use Rattle.gate_floods.specs.RowJudge.Laws.{AreHalfEdgeMasks, IsRowGround, TellsByRows}
use Rattle.gate_floods.specs.RowJudge.Words.{AreBitsOf}
use Rattle.exact_checker.specs.declared.trees.WrongNode.{WrongNode}
use Rattle.exact_checker.specs.Owning.{OwningParts, IsOwnedBit, KnowsOwning}
use Rattle.exact_checker.specs.Judged.{AnswersFor, AnswersForEach, Owns, TellsTrees}

-- each triangle of a certificate has a label
pub all_named : (xs : List Labelled) (k : ℕ) (t : Triangle) → slice_get (map (λ (l : Labelled). l.triangle) xs) k ≡ Some t → (a : ℕ) × (label_of (map (λ (l : Labelled). let o : Option ℕ = Some l.sector in o) xs) k ≡ Some a)
all_named [] k t h = absurd (none-some t h)
all_named (x ∷ xs) zero t h = (x.sector, refl)
all_named (x ∷ xs) (suc k) t h = all_named xs k t h

module _ (p : PlanParts) (is : IsPlan p) (c : ExactParts) (count : p.sectors ≡ length c.groups) (xs : List HalfEdge) (good : IsGoodMesh (map_of p) (triangles_of (as_two c).cert) (labels_of (as_two c).cert)) (are : AreHalfEdges p (triangles_of (as_two c).cert) (labels_of (as_two c).cert) xs)
    (roots : List Root) (firsts : List (Option ℕ)) (begin : AreRootChains (map_of p) (triangles_of (as_two c).cert) xs roots firsts) (ms : MaskRows) (masks : AreHalfEdgeMasks (map_of p) (IsClaimedBlind (map_of p) (as_two c).cert) xs ms)
    (known : OwningParts) (sized : known.count ≡ p.sectors) (components : AreComponents (map_of p) known.components) (knows : KnowsOwning c.rays known) where
  -- the bits of what a group owns
  owned_is : (f k : ℕ) → f < p.sectors → IsOwnedBit c.rays known.components known.count f k ↔ Owns (map_of p) c f k
  owned_is f k low = subst (λ (n : ℕ). IsOwnedBit c.rays known.components n f k ↔ Owns (map_of p) c f k) (sym sized) (subst (λ (n : ℕ). IsOwnedBit c.rays known.components p.sectors f k ↔ IsOwned (rank_of c.rays n) (IsClaimedBlind (map_of p) (as_two c).cert) f k) count told)
    where
      law : (slice_get (owned_row c.rays known.components (rank_of c.rays p.sectors) p.sectors f) k ≡ Some true) ↔ IsOwned (rank_of c.rays p.sectors) (IsClaimedBlind (map_of p) (as_two c).cert) f k
      law = owned_rows_tell (rank_of c.rays p.sectors) (map_of p) (as_two c).cert known.components f components low k

      told : IsOwnedBit c.rays known.components p.sectors f k ↔ IsOwned (rank_of c.rays p.sectors) (IsClaimedBlind (map_of p) (as_two c).cert) f k
      told = (
        (λ h. law.0 (bit_is (is_owned c.rays known.components (rank_of c.rays p.sectors) f) p.sectors k h.0 ∙ ap Some h.1)),
        (λ o. let b = law.1 o in let l = bit_low (is_owned c.rays known.components (rank_of c.rays p.sectors) f) 0 p.sectors k true b in (l, some_is_same _ true (sym (bit_is (is_owned c.rays known.components (rank_of c.rays p.sectors) f) p.sectors k l) ∙ b))),
      )

  bits_of : (f : ℕ) (row : List ℕ) → f < p.sectors → AreBitsOf row (IsOwnedBit c.rays known.components known.count f) → AreBitsOf row (Owns (map_of p) c f)
  bits_of f row low bits k = let o = owned_is f k low in ((λ h. o.0 ((bits k).0 h)), (λ h. (bits k).1 (o.1 h)))

  told_for : (f : ℕ) (ns : List Node) (o : Option ℕ) → f < p.sectors → (a : AnswersFor xs ms roots firsts known f ns o) → TellsByRows (map_of p) (triangles_of (as_two c).cert) (labels_of (as_two c).cert) xs ms (IsClaimedBlind (map_of p) (as_two c).cert) (Owns (map_of p) c f) a.row (tree_with f ns) o
  told_for f ns o low a = a.tells p (triangles_of (as_two c).cert) (labels_of (as_two c).cert) (rank_of c.rays (length c.groups)) (as_two c).cert
      (record { plan = is; good = good; edges = are; named = all_named c.triangles; roots_are = begin; masks = masks; kept = bits_of f a.row low (a.bits c.rays knows) }) low

  pub trees_told : (trees : List (List Node)) → trees ≡ c.trees → length trees ≡ p.sectors → (o : Option WrongNode) → AnswersForEach xs ms roots firsts known trees o → TellsTrees (map_of p) c o
  trees_told trees same each None all = λ f ns at. let here : slice_get trees f ≡ Some ns = ap (λ (ts : List (List Node)). slice_get ts f) same ∙ at in told_for f ns None (low f ns here) (all f ns here)
    where
      low : (f : ℕ) (ns : List Node) → slice_get trees f ≡ Some ns → f < p.sectors
      low f ns at = let l = slice_get_within trees f ns at in omega (arith, l, each)
  trees_told trees same each (Some w) ((ns, at, wrong), before) =
      let told = told_for w.source ns (Some w.node) (low w.source ns at) wrong in record {
        nodes = ns;
        is = ap (λ (ts : List (List Node)). slice_get ts w.source) (sym same) ∙ at;
        not_kept = told.not_kept;
        before = λ f us lt there. let here : slice_get trees f ≡ Some us = ap (λ (ts : List (List Node)). slice_get ts f) same ∙ there in told_for f us None (low f us here) (before f us lt here);
        plan = p;
        of_map = refl;
        edges = xs;
        are_edges = are;
        masks = ms;
        are_masks = masks;
        row = wrong.row;
        kept = bits_of w.source wrong.row (low w.source ns at) (wrong.bits c.rays knows);
        node = told.node;
      }
    where
      low : (f : ℕ) (us : List Node) → slice_get trees f ≡ Some us → f < p.sectors
      low f us at = let l = slice_get_within trees f us at in omega (arith, l, each)

-- what the judge of one tree tells, with the row that it was given
module _ (xs : List HalfEdge) (ms : MaskRows) (roots : List Root) (firsts : List (Option ℕ)) (known : OwningParts) (f : ℕ) (owned row : List ℕ) (same : row ≡ owned) (bits : (rays : List PairRay) → KnowsOwning rays known → AreBitsOf owned (IsOwnedBit rays known.components known.count f)) where
  pub answers_for : (ns : List Node) (o wrong : Option ℕ) → o ≡ wrong
      → ((p : PlanParts) (ts : List Triangle) (ls : List (Option ℕ)) (rank : ℕ → ℕ) (cert : CertParts) → IsRowGround p ts ls xs roots firsts ms (IsClaimedBlind (map_of p) cert) (IsOwned rank (IsClaimedBlind (map_of p) cert) f) row → f < p.sectors
      → TellsByRows (map_of p) ts ls xs ms (IsClaimedBlind (map_of p) cert) (IsOwned rank (IsClaimedBlind (map_of p) cert) f) row (tree_with f ns) o)
      → AnswersFor xs ms roots firsts known f ns wrong
  answers_for ns o wrong is tells = subst (AnswersFor xs ms roots firsts known f ns) is (record {
    row = row;
    bits = λ rays knows. subst (λ (ws : List ℕ). AreBitsOf ws (IsOwnedBit rays known.components known.count f)) (sym same) (bits rays knows);
    tells = tells;
  })

-- what holds of the first trees, and of the next
pub tree_more : (P : ℕ → List Node → Type 0) (trees : List (List Node)) (n : ℕ) (ns : List Node) → slice_get trees n ≡ Some ns → ((f : ℕ) (us : List Node) → f < n → slice_get trees f ≡ Some us → P f us) → P n ns → (f : ℕ) (us : List Node) → f < n + 1 → slice_get trees f ≡ Some us → P f us
tree_more P trees n ns at before here f us lt there = elim (below_or_last f n lt) as (λ _. P f us) [
  | inl less ↦ before f us less there
  | inr same ↦ subst (λ (x : ℕ). P x us) (sym same) (subst (P n) (same_Some ns us (sym at ∙ ap (slice_get trees) (sym same) ∙ there)) here)
]
