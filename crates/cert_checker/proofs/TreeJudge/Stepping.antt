-- Half-edges as steps: what is found of a step is so of its half-edge, and what is noted may be noted again.
use Rattle.std.proofs.Common.{◌≡◌, ℕ, ◌+◌, ◌<◌, ◌≤◌, ◌^◌, ◌⊎◌, inl, inr, List, [], ◌∷◌, ◌++◌, Option, Some, None, Bool, true, false, length, get_or, ◌==◌, if◌then◌else◌, refl, sym, ◌∙◌, ap, subst, arith}
use Rattle.std.specs.List.{slice_get}
use Rattle.std.proofs.lemmas.Bool.{ne_eqb, cases_lt, lt-ltb}
use Rattle.std.proofs.lemmas.Option.{same_Some, slice_get_past, slice_get-get_or}
use Rattle.math_base.proofs.Lists.{length_pushed, get_pushed, get_before_pushed}
use Rattle.mesh_shape.specs.declared.half_edges.table.HalfEdge.{HalfEdge}
use Rattle.mesh_shape.specs.HalfEdges.HalfEdges.{way_outside}
use Rattle.mesh_shape.proofs.HalfEdges.Reached.{outside_is}
use Rattle.sight_names.specs.Sequence.{names_it}
use Rattle.cert_checker.specs.declared.tree_judge.steps.Step.{Step}
use Rattle.cert_checker.specs.TreeJudge.Steps.{sector_code, WayLeadsTo, IsStepOf, IsStepAt, AreSteps, code_told}

-- ---- a way and the sector behind it

no_way : (b : Bool) → ◌≡◌ {A = Option ℕ} (if b then None else None) None
no_way true = refl
no_way false = refl

-- it leads nowhere
pub leads_nowhere : (xs : List HalfEdge) (way : Option ℕ) (sector : ℕ) → ((source : ℕ) → way_outside xs source way ≡ None) → WayLeadsTo xs way None sector
leads_nowhere xs way sector none source few = no_way (sector == source) ∙ sym (none source)

same_test : (o : Option ℕ) (source : ℕ) → source < 65536 → (sector_code o == source) ≡ names_it o source
same_test (Some s) source few = refl
same_test None source few = ne_eqb 65536 source (λ e. omega (arith, e, few))

-- it leads to this half-edge
pub leads_to : (xs : List HalfEdge) (i : ℕ) (x : HalfEdge) → slice_get xs i ≡ Some x → WayLeadsTo xs (Some i) (Some i) (sector_code x.sector)
leads_to xs i x is source few = ap (λ (b : Bool). let o : Option ℕ = if b then None else Some i in o) (same_test x.sector source few) ∙ sym (outside_is xs source i x is)

pub leads_by : (xs : List HalfEdge) (i : ℕ) (x : HalfEdge) (way told : Option ℕ) (sector : ℕ) → slice_get xs i ≡ Some x → way ≡ Some i → told ≡ Some i → sector ≡ sector_code x.sector → WayLeadsTo xs way told sector
leads_by xs i x way told sector is e f g = subst (λ (o : Option ℕ). WayLeadsTo xs o told sector) (sym e) (subst (λ (o : Option ℕ). WayLeadsTo xs (Some i) o sector) (sym f) (subst (WayLeadsTo xs (Some i) (Some i)) (sym g) (leads_to xs i x is)))

pub nothing_there : (xs : List HalfEdge) (i : ℕ) (way : Option ℕ) (sector : ℕ) → slice_get xs i ≡ None → way ≡ Some i → WayLeadsTo xs way None sector
nothing_there xs i way sector none e = leads_nowhere xs way sector (λ source. ap (way_outside xs source) e ∙ by source (slice_get xs i) refl none)
  where
    by : (source : ℕ) (o : Option HalfEdge) → slice_get xs i ≡ o → o ≡ None → way_outside xs source (Some i) ≡ None
    by source None f g = rw f refl
    by source (Some x) f g = absurd (cc)

-- ---- steps and half-edges, by their numbers

at_some : (xs : List HalfEdge) (o : Option HalfEdge) (p : Option Step) (s : Step) → IsStepAt xs o p → p ≡ Some s → (x : HalfEdge) × (o ≡ Some x) × IsStepOf xs x s
at_some xs (Some x) (Some t) s h e = (x, refl, subst (IsStepOf xs x) (same_Some t s e) h)
at_some xs None (Some t) s h e = absurd h
at_some xs (Some x) None s h e = absurd h
at_some xs None None s h e = absurd (cc)

pub step_at : (xs : List HalfEdge) (steps : List Step) (i : ℕ) (s : Step) → AreSteps xs steps → i < 2 ^ 32 → slice_get steps i ≡ Some s → (x : HalfEdge) × (slice_get xs i ≡ Some x) × IsStepOf xs x s
step_at xs steps i s are few is = at_some xs (slice_get xs i) (slice_get steps i) s (are.each i few) is

-- ---- all half-edges as steps

-- the first so many of them
pub record AreStepsBelow (xs : List HalfEdge) (n : ℕ) (steps : List Step) : Type 0 where
  pub len : length steps ≡ n
  pub each : (i : ℕ) → i < n → i < 2 ^ 32 → IsStepAt xs (slice_get xs i) (slice_get steps i)

pub steps_none : (xs : List HalfEdge) (steps : List Step) → steps ≡ [] → AreStepsBelow xs 0 steps
steps_none xs steps e = record { len = ap length e; each = λ i l. absurd (omega (arith, l)) }

pub steps_more : (xs : List HalfEdge) (n : ℕ) (steps : List Step) (x : HalfEdge) (s : Step) → AreStepsBelow xs n steps → (n < 2 ^ 32 → slice_get xs n ≡ Some x) → IsStepOf xs x s → AreStepsBelow xs (n + 1) (steps ++ s ∷ [])
steps_more xs n steps x s are there is = record { len = let h : length (steps ++ s ∷ []) ≡ length steps + 1 = length_pushed steps s in omega (arith, h, are.len); each = λ i l few. by i l few (cases_lt i n) }
  where
    by : (i : ℕ) → i < n + 1 → i < 2 ^ 32 → (i < n) ⊎ (n ≤ i) → IsStepAt xs (slice_get xs i) (slice_get (steps ++ s ∷ []) i)
    by i l few (inl h) = subst (IsStepAt xs (slice_get xs i)) (same ∙ sym (get_before_pushed steps s (get_or steps i s) i same)) (are.each i h few)
      where
        same : slice_get steps i ≡ Some (get_or steps i s)
        same = slice_get-get_or steps i s (omega (arith, h, are.len))
    by i l few (inr h) = subst (λ (k : ℕ). IsStepAt xs (slice_get xs k) (slice_get (steps ++ s ∷ []) k)) last
        (subst (λ (o : Option HalfEdge). IsStepAt xs o (slice_get (steps ++ s ∷ []) n)) (sym (there (omega (arith, last, few)))) (subst (IsStepAt xs (Some x)) (sym (subst (λ (k : ℕ). slice_get (steps ++ s ∷ []) k ≡ Some s) are.len (get_pushed steps s))) is))
      where
        last : n ≡ i
        last = omega (arith, l, h)

pub steps_all : (xs : List HalfEdge) (n : ℕ) (steps : List Step) → ((i : ℕ) → n ≤ i → i < 2 ^ 32 → length xs ≤ i) → AreStepsBelow xs n steps → AreSteps xs steps
steps_all xs n steps past are = record { each = λ i few. by i few (cases_lt i n) }
  where
    by : (i : ℕ) → i < 2 ^ 32 → (i < n) ⊎ (n ≤ i) → IsStepAt xs (slice_get xs i) (slice_get steps i)
    by i few (inl h) = are.each i h few
    by i few (inr h) = subst (λ (o : Option HalfEdge). IsStepAt xs o (slice_get steps i)) (sym (slice_get_past xs i (past i h few))) (subst (IsStepAt xs None) (sym (slice_get_past steps i (omega (arith, h, are.len)))) tt)

-- ---- what is asked, by a plain number

pub told_is : (k : ℕ) → k < 4294967296 → code_told k ≡ Some k
told_is k few = ap (λ (b : Bool). let o : Option ℕ = if b then Some k else None in o) (lt-ltb k 4294967296 few)
