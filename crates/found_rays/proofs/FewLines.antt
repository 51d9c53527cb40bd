-- Rays for the same pairs, in the same order.
use Rattle.std.proofs.Common.{◌≡◌, ℕ, ◌+◌, ◌<◌, ◌≤◌, List, [], ◌∷◌, ◌++◌, Option, None, Some, length, map, take, get_or, slice_get, option_map, refl, sym, ap, ◌∙◌, subst}
use Rattle.std.proofs.lemmas.List.{map_more, map_push, take_all}
use Rattle.std.proofs.lemmas.Option.{slice_get-map}
use Rattle.math_base.proofs.Options.{none_is_not_some, some_is_same}
use Rattle.sight_names.specs.declared.names.Pair.{Pair}
use Rattle.sight_names.specs.declared.names.PairRay.{PairRay}
use Rattle.sight_names.specs.declared.names.Ray.{Ray}
use Rattle.sight_names.specs.Order.{Ascends, PairBefore}
use Rattle.found_rays.specs.Lines.{pair_of_ray}
use Rattle.found_rays.specs.Rays.{RayBefore}

-- the ray that stood there, for the same pair
same_place : (old new : List PairRay) → map pair_of_ray new ≡ map pair_of_ray old → (i : ℕ) (r : PairRay) → slice_get new i ≡ Some r → (s : PairRay) × (slice_get old i ≡ Some s) × (s.pair ≡ r.pair)
same_place old new same i r at = go (slice_get old i) refl
  where
    pair_there : option_map pair_of_ray (slice_get old i) ≡ Some r.pair
    pair_there = sym (slice_get-map pair_of_ray old i) ∙ ap (λ (ps : List Pair). slice_get ps i) (sym same) ∙ slice_get-map pair_of_ray new i ∙ ap (option_map pair_of_ray) at

    go : (o : Option PairRay) → slice_get old i ≡ o → (s : PairRay) × (slice_get old i ≡ Some s) × (s.pair ≡ r.pair)
    go None e = absurd (none_is_not_some r.pair (sym (ap (option_map pair_of_ray) e) ∙ pair_there))
    go (Some s) e = (s, e, some_is_same s.pair r.pair (sym (ap (option_map pair_of_ray) e) ∙ pair_there))

pub moved_ascend : (old new : List PairRay) → Ascends RayBefore old → map pair_of_ray new ≡ map pair_of_ray old → Ascends RayBefore new
moved_ascend old new up same i j x y l e f =
    let s = same_place old new same i x e in
    let t = same_place old new same j y f in
    subst (λ (q : Pair). PairBefore q y.pair) s.2 (subst (λ (q : Pair). PairBefore s.0.pair q) t.2 (up i j s.0 t.0 l s.1 t.1))

-- ---- the rays one after another

pub moved_next : (xs : List PairRay) (i : ℕ) (d : PairRay) (all new : List PairRay) (ray : Ray) → i < length xs → map pair_of_ray all ≡ map pair_of_ray (take i xs) → new ≡ all ++ record { pair = (get_or xs i d).pair; ray = ray } ∷ [] → map pair_of_ray new ≡ map pair_of_ray (take (i + 1) xs)
moved_next xs i d all new ray lt same is =
    ap (λ (rs : List PairRay). map pair_of_ray rs) is ∙ map_push pair_of_ray all (record { pair = (get_or xs i d).pair; ray = ray }) ∙ ap (λ (ps : List Pair). ps ++ (get_or xs i d).pair ∷ []) same ∙ sym (map_more pair_of_ray xs i d lt)

pub moved_end : (xs : List PairRay) (i : ℕ) (all : List PairRay) → length xs ≤ i → map pair_of_ray all ≡ map pair_of_ray (take i xs) → map pair_of_ray all ≡ map pair_of_ray xs
moved_end xs i all l same = same ∙ ap (λ (rs : List PairRay). map pair_of_ray rs) (take_all i xs l)
