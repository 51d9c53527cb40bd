-- A node that is kept while nothing was found.
use Rattle.std.proofs.Common.{◌≡◌, ℕ, List, [], ◌∷◌, ◌++◌, Option, sym, ◌∙◌, subst}
use Rattle.std.specs.Prelude.{IfOk, OnOk, Result, Ok, Err}
use Rattle.block_evidence.specs.declared.sight_tree.Node.{Node}
use Rattle.mesh_shape.specs.declared.half_edges.table.HalfEdge.{HalfEdge}
use Rattle.cert_checker.specs.declared.tree_judge.roots.Root.{Root}
use Rattle.gate_floods.specs.RowJudge.Masks.{MaskRows}
use Rattle.gate_floods.specs.RowJudge.Judged.{tree_with, IsTreeWalkedInRow}
use Rattle.gate_floods.specs.declared.row_judge.walk.RowWalk.{RowWalk}
use Rattle.row_trees.specs.declared.made.Made.{Made}
use Rattle.row_trees.specs.Made.{IsMadeSoFar}

pub always : {T E : Type 0} {P : Type 0} (r : Result T E) → P → IfOk r (λ _. P)
always (Ok x) h = h
always (Err e) h = tt

pub kept_made : {T E : Type 0} (xs : List HalfEdge) (ms : MaskRows) (row : List ℕ) (roots : List Root) (firsts : List (Option ℕ)) (source : ℕ) (w : RowWalk) (old new : Made) (n : Node) (r : Result T E) → new.found.items ≡ old.found.items → (old.found.items ≡ [] → OnOk r (new.nodes ≡ old.nodes ++ n ∷ []))
    → (old.found.items ≡ [] → IsTreeWalkedInRow xs ms row roots firsts (tree_with source (old.nodes ++ n ∷ [])) w) → IfOk r (λ _. IsMadeSoFar xs ms row roots firsts source w new)
kept_made xs ms row roots firsts source w old new n (Ok u) same nodes walked = λ none.
    let e : old.found.items ≡ [] = sym same ∙ none in
    subst (λ (ns : List Node). IsTreeWalkedInRow xs ms row roots firsts (tree_with source ns) w) (sym (nodes e)) (walked e)
kept_made xs ms row roots firsts source w old new n (Err e) same nodes walked = tt
