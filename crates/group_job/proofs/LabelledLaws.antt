-- The labelled triangles of a list in order are in order.
use Rattle.std.proofs.Common.{◌≡◌, ℕ, zero, suc, ◌<◌, ◌≤◌, List, [], ◌∷◌, ◌++◌, ◌+◌, length, map, take, get_or, add-one, slice_get, Option, Some, None, refl, sym, ap, subst, ◌∙◌, arith, zero-lt-suc, suc-le-suc, le_of_suc-le-suc}
use Rattle.std.specs.List.{AllByRecursion}
use Rattle.std.proofs.lemmas.List.{take_all}
use Rattle.std.proofs.lemmas.Option.{slice_get-get_or}
use Rattle.sight_names.specs.declared.names.Triangle.{Triangle}
use Rattle.sight_names.specs.Mesh.{IsAbove, AreTriangles, label_of}
use Rattle.cert_format.specs.declared.cert.Labelled.{Labelled}
use Rattle.group_job.specs.Labelled.{labelled_of, labelled_if_any}
use Rattle.math_base.proofs.Options.{some_is_same}

abbrev triangle_list : List Labelled → List Triangle
triangle_list ls = map (λ (l : Labelled). l.triangle) ls

-- each labelled triangle is one of the list
from : (ts : List Triangle) (ls : List (Option ℕ)) (j : ℕ) (u : Triangle) → slice_get (triangle_list (labelled_of ts ls)) j ≡ Some u → (k : ℕ) × (slice_get ts k ≡ Some u)
from [] ls j u h = absurd cc
from (t ∷ ts) [] j u h = absurd cc
from (t ∷ ts) (None ∷ ls) j u h = let f = from ts ls j u h in (suc f.0, f.1)
from (t ∷ ts) (Some a ∷ ls) zero u h = (zero, h)
from (t ∷ ts) (Some a ∷ ls) (suc j) u h = let f = from ts ls j u h in (suc f.0, f.1)

rest : (points : ℕ) (t : Triangle) (ts : List Triangle) → AreTriangles points (t ∷ ts) → AreTriangles points ts
rest points t ts are = record { each = λ k u h. are.each (suc k) u h; ascend = λ i j u v lt h g. are.ascend (suc i) (suc j) u v (suc-le-suc lt) h g }

pub ascending : (points : ℕ) (ts : List Triangle) (ls : List (Option ℕ)) → AreTriangles points ts → AreTriangles points (triangle_list (labelled_of ts ls))
ascending points ts ls are = record { each = λ k u h. let f = from ts ls k u h in are.each f.0 u f.1; ascend = in_order ts ls are }
  where
    in_order : (ts : List Triangle) (ls : List (Option ℕ)) → AreTriangles points ts → (i j : ℕ) (u v : Triangle) → i < j → slice_get (triangle_list (labelled_of ts ls)) i ≡ Some u → slice_get (triangle_list (labelled_of ts ls)) j ≡ Some v → IsAbove u v
    in_order [] ls are i j u v lt h g = absurd cc
    in_order (t ∷ ts) [] are i j u v lt h g = absurd cc
    in_order (t ∷ ts) (None ∷ ls) are i j u v lt h g = in_order ts ls (rest points t ts are) i j u v lt h g
    in_order (t ∷ ts) (Some a ∷ ls) are zero zero u v lt h g = absurd (omega arith)
    in_order (t ∷ ts) (Some a ∷ ls) are zero (suc j) u v lt h g = let f = from ts ls j v g in subst (λ (w : Triangle). IsAbove w v) (some_is_same t u h) (are.ascend 0 (suc f.0) t v (zero-lt-suc f.0) refl f.1)
    in_order (t ∷ ts) (Some a ∷ ls) are (suc i) zero u v lt h g = absurd (omega arith)
    in_order (t ∷ ts) (Some a ∷ ls) are (suc i) (suc j) u v lt h g = in_order ts ls (rest points t ts are) i j u v (le_of_suc-le-suc lt) h g

pub no_more : (ts : List Triangle) (ls : List (Option ℕ)) → length (labelled_of ts ls) ≤ length ts
no_more [] ls = omega arith
no_more (t ∷ ts) [] = omega arith
no_more (t ∷ ts) (None ∷ ls) = let h = no_more ts ls in omega arith
no_more (t ∷ ts) (Some a ∷ ls) = let h = no_more ts ls in omega arith

pub below : (sectors : ℕ) (ts : List Triangle) (ls : List (Option ℕ)) → ((k a : ℕ) → label_of ls k ≡ Some a → a < sectors) → AllByRecursion (λ (l : Labelled). l.sector < sectors) (labelled_of ts ls)
below sectors [] ls h = tt
below sectors (t ∷ ts) [] h = tt
below sectors (t ∷ ts) (None ∷ ls) h = below sectors ts ls (λ k a e. h (suc k) a e)
below sectors (t ∷ ts) (Some a ∷ ls) h = (h 0 a refl, below sectors ts ls (λ k b e. h (suc k) b e))

pub one_more : (ts : List Triangle) (ls : List (Option ℕ)) (n : ℕ) (t : Triangle) (l : Option ℕ) → slice_get ts n ≡ Some t → slice_get ls n ≡ Some l
    → labelled_of (take (suc n) ts) (take (suc n) ls) ≡ labelled_of (take n ts) (take n ls) ++ labelled_if_any t l
one_more [] ls n t l h g = absurd cc
one_more (u ∷ ts) [] n t l h g = absurd cc
one_more (u ∷ ts) (k ∷ ls) zero t l h g = first u t k l (some_is_same u t h) (some_is_same k l g)
  where
    first : (u t : Triangle) (k l : Option ℕ) → u ≡ t → k ≡ l → labelled_of (u ∷ []) (k ∷ []) ≡ labelled_if_any t l
    first u t None l e f = subst (λ (x : Option ℕ). [] ≡ labelled_if_any t x) f refl
    first u t (Some a) l e f = subst (λ (x : Option ℕ). labelled_of (u ∷ []) (Some a ∷ []) ≡ labelled_if_any t x) f (ap (λ (w : Triangle). labelled_if_any w (Some a)) e)
one_more (u ∷ ts) (None ∷ ls) (suc n) t l h g = one_more ts ls n t l h g
one_more (u ∷ ts) (Some a ∷ ls) (suc n) t l h g = ap (λ (x : List Labelled). record { triangle = u; sector = a } ∷ x) (one_more ts ls n t l h g)

pub one_more_at : (ts : List Triangle) (ls : List (Option ℕ)) (n : ℕ) (d : Triangle) (e : Option ℕ) → n < length ts → n < length ls
    → labelled_of (take (n + 1) ts) (take (n + 1) ls) ≡ labelled_of (take n ts) (take n ls) ++ labelled_if_any (get_or ts n d) (get_or ls n e)
one_more_at ts ls n d e p q = rw add-one (one_more ts ls n (get_or ts n d) (get_or ls n e) (slice_get-get_or ts n d p) (slice_get-get_or ls n e q))

pub all_of_them : (ts : List Triangle) (ls : List (Option ℕ)) (n : ℕ) (found : List Labelled) → found ≡ labelled_of (take n ts) (take n ls) → length ts ≤ n → length ls ≤ n → found ≡ labelled_of ts ls
all_of_them ts ls n found e h k = e ∙ (ap (λ (us : List Triangle). labelled_of us (take n ls)) (take_all n ts h) ∙ ap (labelled_of ts) (take_all n ls k))

pub few_of : (all ts : List Triangle) (ls : List (Option ℕ)) (n : ℕ) (found : List Labelled) → ts ≡ all → found ≡ labelled_of (take n ts) (take n ls) → length ts ≤ n → length ls ≤ n → length found ≤ length all
few_of all ts ls n found same e h k =
    let f = ap length (all_of_them ts ls n found e h k) in
    let g = no_more ts ls in
    let s = ap length same in
    omega arith

pub ascending_of : (points : ℕ) (all ts : List Triangle) (ls : List (Option ℕ)) (n : ℕ) (found : List Labelled) → ts ≡ all → AreTriangles points all → found ≡ labelled_of (take n ts) (take n ls) → length ts ≤ n → length ls ≤ n → AreTriangles points (triangle_list found)
ascending_of points all ts ls n found same are e h k =
    subst (λ (fs : List Labelled). AreTriangles points (triangle_list fs)) (sym (all_of_them ts ls n found e h k)) (ascending points ts ls (subst (λ (us : List Triangle). AreTriangles points us) (sym same) are))
