-- Nodes answer in one way only, and enter the same sectors.
use Rattle.std.proofs.Common.{◌≡◌, List, [], ◌∷◌, ◌++◌, Option, Some, ℕ, sym, ◌∙◌, ap, subst}
use Rattle.std.specs.List.{slice_get}
use Rattle.block_evidence.specs.declared.sight_tree.Node.{Node}
use Rattle.block_evidence.specs.declared.sight_tree.Node.TheVariants.{Open, Blocked}
use Rattle.mesh_shape.specs.declared.half_edges.table.HalfEdge.{HalfEdge}
use Rattle.cert_checker.specs.TreeJudge.Path.{Pending, list_of}
use Rattle.cert_checker.specs.TreeJudge.Whole.{ways_through, AnswersFirst, AreAnswered}

module _ (xs : List HalfEdge) (source : ℕ) where
  first_same : (p q : Pending) (ps qs us : List Pending) → us ≡ p ∷ ps → us ≡ q ∷ qs → p ≡ q
  first_same p q ps qs us e f = cc

  rest_same : (p q : Pending) (ps qs us : List Pending) → us ≡ p ∷ ps → us ≡ q ∷ qs → ps ≡ qs
  rest_same p q ps qs us e f = cc

  one_same : (x y : HalfEdge) (o : Option HalfEdge) → o ≡ Some x → o ≡ Some y → x ≡ y
  one_same x y o e f = cc

  -- what is asked behind the node, and what it enters
  pub one_answer : (n : Node) (ps qs us : List Pending) (here there : List ℕ) → AnswersFirst xs source ps n qs here → AnswersFirst xs source ps n us there → (qs ≡ us) × (here ≡ there)
  one_answer Open ps qs us here there (p, rest, x, first, is, e, f) (q, more, y, also, this, g, h) = (
    e ∙ (λ i. ways_through xs source (same i) (found i) ++ rest_same p q rest more ps first also i) ∙ sym g,
    f ∙ ap (λ (z : HalfEdge). list_of z.sector) found ∙ sym h,
  )
    where
      same : p ≡ q
      same = first_same p q rest more ps first also

      found : x ≡ y
      found = one_same x y (slice_get xs p.edge) is (ap (λ (r : Pending). slice_get xs r.edge) same ∙ this)
  one_answer (Blocked d) ps qs us here there (p, rest, x, first, is, blocks, e, f) (q, more, y, also, this, stuck, g, h) = (e ∙ rest_same p q rest more ps first also ∙ sym g, f ∙ sym h)

  pub same_sectors : (ns : List Node) (ps left more : List Pending) (some all : List ℕ) → AreAnswered xs source ps ns left some → AreAnswered xs source ps ns more all → some ≡ all
  same_sectors [] ps left more some all f g = f.1 ∙ sym g.1
  same_sectors (n ∷ ns) ps left more some all (us, there, others, first, before, f) (rs, here, back, answer, behind, g) =
      let one = one_answer n ps rs us here there answer first in
      f ∙ (λ i. (sym one.1) i ++ same_sectors ns us left more others back before (subst (λ (qs : List Pending). AreAnswered xs source qs ns more back) one.0 behind) i) ∙ sym g
