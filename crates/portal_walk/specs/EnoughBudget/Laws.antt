-- How many stabbable sequences there are, over a plain mesh, whoever made it. Each is a clause of a function of this crate.
use Rattle.std.specs.Prelude.{◌≡◌, ◌≢◌, ℕ, ◌*◌, ◌≤◌, List, Option, length, All, AllPairs}
use Rattle.sight_names.specs.declared.names.Side.{Side}
use Rattle.sight_names.specs.declared.names.Triangle.{Triangle}
use Rattle.sight_names.specs.declared.names.Budget.TheVariants.{Of}
use Rattle.sight_names.specs.Map.{Map}
use Rattle.sight_names.specs.Points.{points_of}
use Rattle.sight_names.specs.Mesh.{IsPlainMesh}
use Rattle.sight_names.specs.Sequence.{Sequence, roots}
use Rattle.sight_names.specs.Found.{IsStabbableSequence, IsListedOver}
use Rattle.sight_names.specs.Enough.{passable_lines, enough_of}

-- at most so many stabbable sequences of one root
abbrev pub FewAtRoot : Type 0
FewAtRoot = (m : Map) (ts : List Triangle) (ls : List (Option ℕ)) (a : ℕ) (root : Side) (xs : List Sequence) → IsPlainMesh m ts → AllPairs (λ (s t : Sequence). s ≢ t) xs
    → All (λ s. (s.root ≡ root) × IsStabbableSequence m ts ls a s) xs
    → length xs ≤ length (points_of m) * length (points_of m) * length ts

-- at most so many roots of one source
abbrev pub FewRoots : Type 0
FewRoots = (m : Map) (a : ℕ) → length (roots m a) ≤ passable_lines m

-- at most so many stabbable sequences of one source
abbrev pub FewOfSource : Type 0
FewOfSource = (m : Map) (ts : List Triangle) (ls : List (Option ℕ)) (a : ℕ) (xs : List Sequence) → IsPlainMesh m ts → AllPairs (λ (s t : Sequence). s ≢ t) xs
    → All (IsStabbableSequence m ts ls a) xs
    → length xs ≤ passable_lines m * length (points_of m) * length (points_of m) * length ts

-- with the budget that is enough nothing is listed
abbrev pub EnoughListsNone : Type 0
EnoughListsNone = (m : Map) (ts : List Triangle) (ls : List (Option ℕ)) (a b : ℕ) → IsPlainMesh m ts → ¬ IsListedOver m ts ls (Of (enough_of m ts)) a b
