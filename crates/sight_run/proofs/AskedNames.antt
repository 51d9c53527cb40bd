-- The names that are asked for, one more.
use Rattle.std.proofs.Common.{◌≡◌, ℕ, ◌+◌, ◌<◌, List, length, get_or, drop, Bool, true, false, ◌||◌, Option, Some, None, sym, ap, ◌∙◌}
use Rattle.std.proofs.lemmas.List.{drop_more}
use Rattle.sight_names.specs.declared.faults.MapFault.{MapFault}
use Rattle.wad_dir.specs.Map.{has_name, same_name}
use Rattle.wad_dir.specs.AllMaps.Asked.{fault_of_name, first_fault}

-- ---- the first name that is none of a map's

abbrev fault_then : Option MapFault → Option MapFault → Option MapFault
fault_then o rest = elim o [ None ↦ rest | Some why ↦ Some why ]

fault_from : (names only : List (List ℕ)) (k : ℕ) (x : List ℕ) → k < length only → x ≡ get_or only k x → first_fault names (drop k only) ≡ fault_then (fault_of_name names x) (first_fault names (drop (k + 1) only))
fault_from names only k x lt is =
    ap (λ (xs : List (List ℕ)). first_fault names xs) (drop_more only k x lt) ∙ ap (λ (y : List ℕ). fault_then (fault_of_name names y) (first_fault names (drop (k + 1) only))) (sym is)

pub fault_here : (names only : List (List ℕ)) (k : ℕ) (x : List ℕ) (why : MapFault) → k < length only → x ≡ get_or only k x → Some why ≡ fault_of_name names x → first_fault names only ≡ first_fault names (drop k only) → Some why ≡ first_fault names only
fault_here names only k x why lt is found before =
    sym (before ∙ fault_from names only k x lt is ∙ ap (λ (o : Option MapFault). fault_then o (first_fault names (drop (k + 1) only))) (sym found))

pub fault_more : (names only : List (List ℕ)) (k : ℕ) (x : List ℕ) → k < length only → x ≡ get_or only k x → None ≡ fault_of_name names x → first_fault names only ≡ first_fault names (drop k only) → first_fault names only ≡ first_fault names (drop (k + 1) only)
fault_more names only k x lt is none before =
    before ∙ fault_from names only k x lt is ∙ ap (λ (o : Option MapFault). fault_then o (first_fault names (drop (k + 1) only))) (sym none)

-- ---- whether a map has one of the names

named_from : (map : List ℕ) (only : List (List ℕ)) (k : ℕ) (x : List ℕ) → k < length only → x ≡ get_or only k x → has_name map (drop k only) ≡ (same_name x map || has_name map (drop (k + 1) only))
named_from map only k x lt is =
    ap (λ (xs : List (List ℕ)). has_name map xs) (drop_more only k x lt) ∙ ap (λ (y : List ℕ). same_name y map || has_name map (drop (k + 1) only)) (sym is)

pub named_here : (map : List ℕ) (only : List (List ℕ)) (k : ℕ) (x : List ℕ) → k < length only → x ≡ get_or only k x → same_name x map ≡ true → has_name map only ≡ has_name map (drop k only) → true ≡ has_name map only
named_here map only k x lt is same before = sym (before ∙ named_from map only k x lt is ∙ ap (λ (b : Bool). b || has_name map (drop (k + 1) only)) same)

pub named_more : (map : List ℕ) (only : List (List ℕ)) (k : ℕ) (x : List ℕ) → k < length only → x ≡ get_or only k x → same_name x map ≡ false → has_name map only ≡ has_name map (drop k only) → has_name map only ≡ has_name map (drop (k + 1) only)
named_more map only k x lt is other before = before ∙ named_from map only k x lt is ∙ ap (λ (b : Bool). b || has_name map (drop (k + 1) only)) other
