-- A node that doesn't answer, or is missing, leaves no way to answer for all.
use Rattle.std.proofs.Common.{◌≡◌, ◌≢◌, ℕ, zero, suc, ◌≤◌, List, [], ◌∷◌, Some, length, take, refl, sym, ◌∙◌, ap, subst, arith}
use Rattle.std.specs.List.{slice_get}
use Rattle.block_evidence.specs.declared.sight_tree.Node.{Node}
use Rattle.mesh_shape.specs.declared.half_edges.table.HalfEdge.{HalfEdge}
use Rattle.cert_checker.specs.TreeJudge.Path.{Pending}
use Rattle.cert_checker.specs.TreeJudge.Whole.{AnswersFirst, AreAnswered, IsFirstWrongNode}
use Rattle.cert_checker.proofs.TreeJudge.OneAnswer.{one_answer}

module _ (xs : List HalfEdge) (source : ℕ) where
  pub refuted : (ns : List Node) (k : ℕ) (ps left : List Pending) (some all : List ℕ) → k ≤ length ns → AreAnswered xs source ps (take k ns) left some → AreAnswered xs source ps ns [] all
      → ((n : Node) → slice_get ns k ≡ Some n → (qs : List Pending) (here : List ℕ) → ¬ AnswersFirst xs source left n qs here) → (k ≡ length ns → left ≢ []) → ⊥
  refuted [] zero ps left some all l before whole wrong missing = missing refl (before.0 ∙ sym whole.0)
  refuted [] (suc k) ps left some all l before whole wrong missing = omega (arith, l)
  refuted (n ∷ ns) zero ps left some all l before (rs, here, more, answer, behind, e) wrong missing = wrong n refl rs here (subst (λ (us : List Pending). AnswersFirst xs source us n rs here) (sym before.0) answer)
  refuted (n ∷ ns) (suc k) ps left some all l (us, there, others, first, before, f) (rs, here, more, answer, behind, e) wrong missing =
      refuted ns k us left others more (omega (arith, l)) before (subst (λ (qs : List Pending). AreAnswered xs source qs ns [] more) (one_answer xs source n ps rs us here there answer first).0 behind) wrong (λ h. missing (ap suc h))

pub not_whole : (xs : List HalfEdge) (source : ℕ) (ps : List Pending) (ns : List Node) (k : ℕ) (sectors : List ℕ) → IsFirstWrongNode xs source ps ns k → AreAnswered xs source ps ns [] sectors → ⊥
not_whole xs source ps ns k sectors w all = refuted xs source ns k ps w.left w.sectors sectors w.within w.before all w.wrong w.missing
