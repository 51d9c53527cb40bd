-- Some names of others, in their order.
use Rattle.std.proofs.Common.{ℕ, inl, inr, List, [], ◌∷◌, filter, Bool, true, false, cond, refl, sym, ◌∙◌, subst, IsTrue}
use Rattle.std.specs.List.{All, AllByRecursion}
use Rattle.std.proofs.lemmas.List.Elements.{All-from_recursion, recursion_from_All}
use Rattle.wad_dir.specs.AllMaps.All.{HasInOrder}
use Rattle.wad_dir.specs.AllMaps.Maps.{is_map_name, maps_in_names}
use Rattle.wad_dir.proofs.AllMaps.Spacing.{maps_named}

-- one name more that isn't among them
pub passed : (m : List ℕ) (ms ns : List (List ℕ)) → HasInOrder ms ns → HasInOrder (m ∷ ms) ns
passed m ms [] h = tt
passed m ms (n ∷ ns) h = inr h

pub all_in_order : (ms : List (List ℕ)) → HasInOrder ms ms
all_in_order [] = tt
all_in_order (m ∷ ms) = inl (refl, all_in_order ms)

-- those that pass a test
pub kept_in_order : (test : List ℕ → Bool) (ms : List (List ℕ)) → HasInOrder ms (filter test ms)
kept_in_order test [] = tt
kept_in_order test (m ∷ ms) = by (test m) (kept_in_order test ms)
  where
    by : (t : Bool) → HasInOrder ms (filter test ms) → HasInOrder (m ∷ ms) (cond t (m ∷ filter test ms) (filter test ms))
    by true later = inl (refl, later)
    by false later = passed m ms (filter test ms) later

-- some of some
pub in_order_through : (ls ms ns : List (List ℕ)) → HasInOrder ls ms → HasInOrder ms ns → HasInOrder ls ns
in_order_through [] [] ns h k = k
in_order_through [] (m ∷ ms) ns h k = absurd h
in_order_through (l ∷ ls) [] [] h k = tt
in_order_through (l ∷ ls) [] (n ∷ ns) h k = absurd k
in_order_through (l ∷ ls) (m ∷ ms) ns (inr h) k = passed l ls ns (in_order_through ls (m ∷ ms) ns h k)
in_order_through (l ∷ ls) (m ∷ ms) [] (inl h) k = tt
in_order_through (l ∷ ls) (m ∷ ms) (n ∷ ns) (inl h) (inl k) = inl (k.0 ∙ h.0, in_order_through ls ms ns h.1 k.1)
in_order_through (l ∷ ls) (m ∷ ms) (n ∷ ns) (inl h) (inr k) = inr (in_order_through ls ms (n ∷ ns) h.1 k)

-- what holds of each name holds of some
holds_in_order : (P : List ℕ → Type 0) (ms ns : List (List ℕ)) → HasInOrder ms ns → AllByRecursion P ms → AllByRecursion P ns
holds_in_order P [] [] h k = tt
holds_in_order P [] (n ∷ ns) h k = absurd h
holds_in_order P (m ∷ ms) [] h k = tt
holds_in_order P (m ∷ ms) (n ∷ ns) (inl h) k = (subst P (sym h.0) k.0, holds_in_order P ms ns h.1 k.1)
holds_in_order P (m ∷ ms) (n ∷ ns) (inr h) k = holds_in_order P ms (n ∷ ns) h k.1

-- some names of maps are names that a map can have
pub named_in_order : (names maps : List (List ℕ)) → HasInOrder (maps_in_names names) maps → All (λ (name : List ℕ). IsTrue (is_map_name name)) maps
named_in_order names maps h =
    All-from_recursion (λ (name : List ℕ). IsTrue (is_map_name name)) maps
    (holds_in_order (λ (name : List ℕ). IsTrue (is_map_name name)) (maps_in_names names) maps h (recursion_from_All (λ (name : List ℕ). IsTrue (is_map_name name)) (maps_in_names names) (maps_named names)))
