-- The labelled triangles of a good mesh are a good mesh.
use Rattle.std.proofs.Common.{◌≡◌, ◌≢◌, ℕ, zero, suc, ◌<◌, ◌⊎◌, inl, inr, List, [], ◌∷◌, length, map, slice_get, Option, Some, None, refl, sym, ap, ◌∙◌, subst, arith}
use Rattle.std.specs.Prelude.{option_and_then}
use Rattle.std.proofs.lemmas.Option.{same_Some}
use Rattle.mesh_shape.specs.Faults.{IsNewAt}
use Rattle.mesh_shape.proofs.RuleLemmas.{new_only}
use Rattle.sight_names.specs.declared.names.Side.{Side}
use Rattle.sight_names.specs.declared.names.Triangle.{Triangle}
use Rattle.sight_names.specs.Map.{Map, MapLine, line_at, named}
use Rattle.sight_names.specs.Points.{Edge, points_of, reverse_of}
use Rattle.sight_names.specs.Mesh.{AreTriangles, IsAbove, IsPlainMesh, IsGoodMesh, HasMates, FitsSides, HasEdge, triangle_at, label_of, side_edge}
use Rattle.cert_format.specs.declared.cert.Labelled.{Labelled}
use Rattle.group_job.specs.Labelled.{labelled_of}
use Rattle.group_job.proofs.LabelledLaws.{ascending}
use Rattle.math_base.proofs.Numbers.{below_differs, below_or_above}
use Rattle.math_base.proofs.Options.{none_is_not_some}
use Rattle.mesh_base.proofs.GoodMesh.{found_at}

abbrev pub triangle_list : List Labelled → List Triangle
triangle_list ls = map (λ (l : Labelled). l.triangle) ls

abbrev pub label_list : List Labelled → List (Option ℕ)
label_list ls = map (λ (l : Labelled). Some l.sector) ls

-- one of the labelled triangles, and where it stands in the mesh
pub record IsKept (ts : List Triangle) (ls : List (Option ℕ)) (t : Triangle) (a : ℕ) : Type 0 where
  pub at : ℕ
  pub triangle : slice_get ts at ≡ Some t
  pub label : slice_get ls at ≡ Some (Some a)

pub kept : (ts : List Triangle) (ls : List (Option ℕ)) (j : ℕ) (t : Triangle) → slice_get (triangle_list (labelled_of ts ls)) j ≡ Some t → (a : ℕ) × IsKept ts ls t a × (slice_get (label_list (labelled_of ts ls)) j ≡ Some (Some a))
kept [] ls j t h = absurd cc
kept (u ∷ ts) [] j t h = absurd cc
kept (u ∷ ts) (None ∷ ls) j t h = let k = kept ts ls j t h in (k.0, record { at = suc k.1.at; triangle = k.1.triangle; label = k.1.label }, k.2)
kept (u ∷ ts) (Some a ∷ ls) zero t h = (a, record { at = zero; triangle = h; label = refl }, refl)
kept (u ∷ ts) (Some a ∷ ls) (suc j) t h = let k = kept ts ls j t h in (k.0, record { at = suc k.1.at; triangle = k.1.triangle; label = k.1.label }, k.2)

-- a triangle with a label is one of the labelled ones
pub placed : (ts : List Triangle) (ls : List (Option ℕ)) (k : ℕ) (t : Triangle) (a : ℕ) → slice_get ts k ≡ Some t → slice_get ls k ≡ Some (Some a) → (j : ℕ) × (slice_get (triangle_list (labelled_of ts ls)) j ≡ Some t) × (slice_get (label_list (labelled_of ts ls)) j ≡ Some (Some a))
placed [] ls k t a h g = absurd cc
placed (u ∷ ts) [] k t a h g = absurd cc
placed (u ∷ ts) (None ∷ ls) zero t a h g = absurd (none_is_not_some a (same_Some None (Some a) g))
placed (u ∷ ts) (None ∷ ls) (suc k) t a h g = placed ts ls k t a h g
placed (u ∷ ts) (Some b ∷ ls) zero t a h g = (zero, h, g)
placed (u ∷ ts) (Some b ∷ ls) (suc k) t a h g = let j = placed ts ls k t a h g in (suc j.0, j.1, j.2)

pub label_at : (ls : List (Option ℕ)) (k a : ℕ) → slice_get ls k ≡ Some (Some a) → label_of ls k ≡ Some a
label_at ls k a h = ap (λ (o : Option (Option ℕ)). option_and_then (λ l. l) o) h

pub label_there : (ls : List (Option ℕ)) (k a : ℕ) → label_of ls k ≡ Some a → slice_get ls k ≡ Some (Some a)
label_there [] k a h = absurd cc
label_there (l ∷ ls) zero a h = ap (λ (o : Option ℕ). Some o) h
label_there (l ∷ ls) (suc k) a h = label_there ls k a h

not_above_itself : (t : Triangle) → ¬ IsAbove t t
not_above_itself t (inl h) = omega (arith, h)
not_above_itself t (inr (e, inl h)) = omega (arith, h)
not_above_itself t (inr (e, inr h)) = let k = h.1 in omega arith

module _ (m : Map) (ts : List Triangle) (ls : List (Option ℕ)) (good : IsGoodMesh m ts ls) where
  kept_triangles : AreTriangles (length (points_of m)) (triangle_list (labelled_of ts ls))
  kept_triangles = ascending (length (points_of m)) ts ls good.plain.triangles

  -- two of them at different places stand at different places of the mesh
  places_differ : (i j : ℕ) (t u : Triangle) → i ≢ j → slice_get (triangle_list (labelled_of ts ls)) i ≡ Some t → slice_get (triangle_list (labelled_of ts ls)) j ≡ Some u → t ≢ u
  places_differ i j t u differ h k e = at (below_or_above i j differ)
    where
      at : (i < j) ⊎ (j < i) → ⊥
      at (inl lt) = not_above_itself u (subst (λ (v : Triangle). IsAbove v u) e (kept_triangles.ascend i j t u lt h k))
      at (inr lt) = not_above_itself u (subst (λ (v : Triangle). IsAbove u v) e (kept_triangles.ascend j i u t lt k h))

  kept_once : (i j : ℕ) (t u : Triangle) (e : Edge) → i ≢ j → slice_get (triangle_list (labelled_of ts ls)) i ≡ Some t → slice_get (triangle_list (labelled_of ts ls)) j ≡ Some u → HasEdge t e → ¬ HasEdge u e
  kept_once i j t u e differ h k =
      let x = kept ts ls i t h in
      let y = kept ts ls j u k in
      good.plain.once x.1.at y.1.at t u e (λ q. places_differ i j t u differ h k (same_Some t u (sym x.1.triangle ∙ (ap (slice_get ts) q ∙ y.1.triangle)))) x.1.triangle y.1.triangle

  kept_plain : IsPlainMesh m (triangle_list (labelled_of ts ls))
  kept_plain = record {
    triangles = kept_triangles;
    turn = λ k t h. let x = kept ts ls k t h in good.plain.turn x.1.at t x.1.triangle;
    once = kept_once;
    fair = λ k i t e l h. let x = kept ts ls k t h in good.plain.fair x.1.at i t e l x.1.triangle;
    empty = λ k t h. let x = kept ts ls k t h in good.plain.empty x.1.at t x.1.triangle;
  }

  new_at : (j : ℕ) → IsNewAt (triangle_list (labelled_of ts ls)) j
  new_at j i lt t u e h k has = kept_once i j t u e (λ q. below_differs i j lt q) h k has

  -- a labelled triangle that has the edge is the one of the labelled ones that has it
  pub found_too : (e : Edge) (k a : ℕ) → triangle_at ts e ≡ Some k → label_of ls k ≡ Some a
      → (j : ℕ) × (triangle_at (triangle_list (labelled_of ts ls)) e ≡ Some j) × (label_of (label_list (labelled_of ts ls)) j ≡ Some a) × (slice_get (triangle_list (labelled_of ts ls)) j ≡ slice_get ts k)
  found_too e k a at named =
      let f = found_at ts e k at in
      let j = placed ts ls k f.0 a f.1 (label_there ls k a named) in
      (j.0, new_only (triangle_list (labelled_of ts ls)) j.0 f.0 e j.1 f.2 (new_at j.0), label_at (label_list (labelled_of ts ls)) j.0 a j.2, j.1 ∙ sym f.1)

  kept_mates : HasMates m (triangle_list (labelled_of ts ls)) (label_list (labelled_of ts ls))
  kept_mates j a t e h named has free =
      let x = kept ts ls j t h in
      let same : a ≡ x.0 = same_Some a x.0 (sym named ∙ label_at (label_list (labelled_of ts ls)) j x.0 x.2) in
      let mate = good.mates x.1.at x.0 t e x.1.triangle (label_at ls x.1.at x.0 x.1.label) has free in
      let f = found_too (reverse_of e) mate.0 x.0 mate.1 mate.2 in
      (f.0, f.1, f.2 ∙ ap (λ (n : ℕ). Some n) (sym same))

  kept_fits : FitsSides m (triangle_list (labelled_of ts ls)) (label_list (labelled_of ts ls))
  kept_fits = record {
    sides = λ s l a at names. let f = good.fits.sides s l a at names in let h = found_too (side_edge m l s.left) f.0 a f.1 f.2 in (h.0, h.1, h.2);
    no_sides = λ s l k at none here. absurd (unnamed s l k at none here);
  }
    where
      unnamed : (s : Side) (l : MapLine) (k : ℕ) → line_at m s.line ≡ Some l → named m s ≡ None → triangle_at (triangle_list (labelled_of ts ls)) (side_edge m l s.left) ≡ Some k → ⊥
      unnamed s l k at none here =
          let f = found_at (triangle_list (labelled_of ts ls)) (side_edge m l s.left) k here in
          let x = kept ts ls k f.0 f.1 in
          let there : triangle_at ts (side_edge m l s.left) ≡ Some x.1.at = new_only ts x.1.at f.0 (side_edge m l s.left) x.1.triangle f.2 (new_in_mesh x.1.at) in
          clash x.0 (sym (good.fits.no_sides s l x.1.at at none there) ∙ label_at ls x.1.at x.0 x.1.label)
        where
          clash : (a : ℕ) → ◌≡◌ {A = Option ℕ} None (Some a) → ⊥
          clash a h = cc

          new_in_mesh : (j : ℕ) → IsNewAt ts j
          new_in_mesh j i lt t u e h k has = good.plain.once i j t u e (apart i j lt) h k has
            where
              apart : (i j : ℕ) → i < j → i ≢ j
              apart i j lt q = omega arith

  pub labelled_are_good : IsGoodMesh m (triangle_list (labelled_of ts ls)) (label_list (labelled_of ts ls))
  labelled_are_good = record { plain = kept_plain; one_each = same_length (labelled_of ts ls); mates = kept_mates; fits = kept_fits }
    where
      same_length : (xs : List Labelled) → length (label_list xs) ≡ length (triangle_list xs)
      same_length [] = refl
      same_length (x ∷ xs) = ap suc (same_length xs)
