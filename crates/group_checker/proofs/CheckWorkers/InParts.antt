-- Trees cut into parts of one size, and what is found of each part.
use Rattle.std.proofs.Common.{◌≡◌, ℕ, ◌<◌, List, [], ◌∷◌, map, sym, ◌∙◌, ap, subst}
use Rattle.std.specs.Borrow.{Bor}
use Rattle.std.specs.List.{flat_map, AllZip}
use Rattle.std.specs.Prelude.{IfOk, MatchResult, Result, Ok, Err}
use Rattle.std.proofs.lemmas.List.Elements.{Contains-append_left, Contains-append_right}
use Rattle.rayon.specs.Lists.{chunks_of}
use Rattle.rayon.proofs.ToStd.{chunks_of-concat}
use Rattle.sight_names.specs.declared.names.Memory.{Memory}
use Rattle.sight_names.specs.declared.names.Triangle.{Triangle}
use Rattle.sight_names.specs.Map.{Map}
use Rattle.block_evidence.specs.declared.sight_tree.Tree.{Tree}
use Rattle.mesh_shape.specs.declared.half_edges.table.HalfEdge.{HalfEdge}
use Rattle.cert_checker.specs.declared.tree_judge.judge.TreeVerdict.{TreeVerdict}
use Rattle.cert_checker.specs.TreeJudge.Part.{TellsPart}
use Rattle.cert_checker.specs.TreeJudge.Whole.{HaveSourcesBelow}
use Rattle.group_checker.specs.CheckWorkers.Joined.{TellParts}

abbrev shown : Bor (List Tree) → List Tree
shown z = z.now

-- what each part is found to be is told of it
abbrev Turns : Map → List Triangle → List HalfEdge → ℕ → (Bor (List Tree) → Result TreeVerdict Memory → Type 0) → Type 0
Turns m ts xs n Found = (z : Bor (List Tree)) (v : TreeVerdict) → Found z (Ok v) → HaveSourcesBelow n z.now → TellsPart m ts xs z.now v

each_told : (m : Map) (ts : List Triangle) (xs : List HalfEdge) (n : ℕ) (Found : Bor (List Tree) → Result TreeVerdict Memory → Type 0) (zs : List (Bor (List Tree))) (vs : List TreeVerdict) → AllZip Found zs (map Ok vs)
    → HaveSourcesBelow n (flat_map (λ l. l) (map shown zs)) → Turns m ts xs n Found → AllZip (TellsPart m ts xs) (map shown zs) vs
each_told m ts xs n Found [] [] h low turn = tt
each_told m ts xs n Found [] (v ∷ vs) h low turn = absurd h
each_told m ts xs n Found (z ∷ zs) [] h low turn = absurd h
each_told m ts xs n Found (z ∷ zs) (v ∷ vs) h low turn = (
  turn z v h.0 (λ t there. low t (Contains-append_left z.now (flat_map (λ l. l) (map shown zs)) t there)),
  each_told m ts xs n Found zs vs h.1 (λ t there. low t (Contains-append_right z.now (flat_map (λ l. l) (map shown zs)) t there)) turn,
)

pub parts_told : (m : Map) (ts : List Triangle) (xs : List HalfEdge) (n : ℕ) (Found : Bor (List Tree) → Result TreeVerdict Memory → Type 0) (size : ℕ) (trees : List Tree) (zs : List (Bor (List Tree))) (rs : List (Result TreeVerdict Memory)) (vs : List TreeVerdict)
    → 0 < size → map shown zs ≡ chunks_of size trees → AllZip Found zs rs → rs ≡ map Ok vs → HaveSourcesBelow n trees → Turns m ts xs n Found → TellParts m ts xs trees vs
parts_told m ts xs n Found size trees zs rs vs pos cut found is low turn = (map shown zs, whole, each_told m ts xs n Found zs vs (subst (AllZip Found zs) is found) (subst (HaveSourcesBelow n) (sym whole) low) turn)
  where
    whole : flat_map (λ l. l) (map shown zs) ≡ trees
    whole = ap (flat_map (λ (l : List Tree). l)) cut ∙ chunks_of-concat size trees pos

pub match_then : {T E : Type 0} (r : Result T E) (P Q : T → Type 0) (R : E → Type 0) → MatchResult r P R → ((v : T) → P v → Q v) → IfOk r Q
match_then (Ok v) P Q R h f = f v h
match_then (Err e) P Q R h f = tt
