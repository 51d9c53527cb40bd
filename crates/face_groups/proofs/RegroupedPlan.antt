-- The plan whose sectors are groups is a plan, and its map names the labels.
use Rattle.std.proofs.Common.{◌≡◌, ℕ, ◌<◌, List, [], ◌∷◌, length, map, slice_get, Option, Some, None, Bool, true, false, IfSome, option_map, option_and_then, refl, sym, ap, ◌∙◌, subst, arith}
use Rattle.std.proofs.lemmas.List.{length-map}
use Rattle.std.proofs.lemmas.Option.{slice_get-map, same_Some, none-some}
use Rattle.sight_names.specs.declared.names.Pt.{Pt}
use Rattle.sight_names.specs.declared.names.Triangle.{Triangle}
use Rattle.sight_names.specs.declared.plan.Line.{Line}
use Rattle.sight_names.specs.Plan.{PlanParts, IsPlan, IsPlanLine}
use Rattle.sight_names.specs.Points.{Edge, reverse_of}
use Rattle.sight_names.specs.Map.{MapLine, sector_on, map_of, looked_up}
use Rattle.sight_names.specs.Mesh.{label_of, side_edge, triangle_at}
use Rattle.sight_names.specs.Groups.{unnamed}
use Rattle.sight_names.proofs.PlanMap.{line_of_plan}
use Rattle.sight_names.proofs.PlanNumbers.{line_edge_of_plan}
use Rattle.face_groups.specs.GroupsBase.Table.{NamesLabels, NamesTheLabels, NamedAreLabelled}
use Rattle.face_groups.specs.Regrouped.{label_at_edge, regrouped, regrouped_plan}
use Rattle.mesh_shape.proofs.RuleLemmas.{plan_line_at as line_there}

module _ (ts : List Triangle) (ls : List (Option ℕ)) where
  abbrev renew : Option Line → Option Line
  renew o = option_map (regrouped ts ls) o

  -- a line of the new plan is a line of the old one with other names
  record IsRenewed (lines : List (Option Line)) (i : ℕ) (l : Line) : Type 0 where
    k : Line
    is : slice_get lines i ≡ Some (Some k)
    same : regrouped ts ls k ≡ l

  renewed_at : (lines : List (Option Line)) (i : ℕ) (l : Line) → slice_get (map renew lines) i ≡ Some (Some l) → IsRenewed lines i l
  renewed_at lines i l e = go (slice_get lines i) refl (sym (slice_get-map renew lines i) ∙ e)
    where
      go : (o : Option (Option Line)) → slice_get lines i ≡ o → option_map renew (slice_get lines i) ≡ Some (Some l) → IsRenewed lines i l
      go None is h = absurd (none-some (Some l) (sym (ap (option_map renew) is) ∙ h))
      go (Some None) is h = absurd (none-some l (same_Some (renew None) (Some l) (sym (ap (option_map renew) is) ∙ h)))
      go (Some (Some k)) is h = record { k = k; is = is; same = same_Some (regrouped ts ls k) l (same_Some (renew (Some k)) (Some l) (sym (ap (option_map renew) is) ∙ h)) }

  renewed_there : (lines : List (Option Line)) (i : ℕ) (k : Line) → slice_get lines i ≡ Some (Some k) → slice_get (map renew lines) i ≡ Some (Some (regrouped ts ls k))
  renewed_there lines i k is = slice_get-map renew lines i ∙ ap (option_map renew) is

-- ---- the map

abbrev edge_on : Line → Bool → Edge
edge_on k true = record { from = k.a; to = k.b }
edge_on k false = record { from = k.b; to = k.a }

-- the edge of a plan's line at one of its sides
edge_at : (p : PlanParts) → IsPlan p → (i : ℕ) (k : Line) → slice_get p.lines i ≡ Some (Some k) → (left : Bool) → side_edge (map_of p) (looked_up p.points k) left ≡ edge_on k left
edge_at p is i k at true = line_edge_of_plan p is i k at
edge_at p is i k at false = ap reverse_of (line_edge_of_plan p is i k at)

same_unnamed : (points : List Pt) (ts : List Triangle) (ls : List (Option ℕ)) (lines : List (Option Line)) → map unnamed (map (option_map (looked_up points)) (map (option_map (regrouped ts ls)) lines)) ≡ map unnamed (map (option_map (looked_up points)) lines)
same_unnamed points ts ls [] = refl
same_unnamed points ts ls (None ∷ lines) = ap (λ (ms : List (Option MapLine)). None ∷ ms) (same_unnamed points ts ls lines)
same_unnamed points ts ls (Some k ∷ lines) = ap (λ (ms : List (Option MapLine)). unnamed (Some (looked_up points k)) ∷ ms) (same_unnamed points ts ls lines)

names_labels : (p : PlanParts) → IsPlan p → (ts : List Triangle) (ls : List (Option ℕ)) (n : ℕ) → NamesLabels (map_of p) ts ls (map_of (regrouped_plan ts ls n p))
names_labels p is ts ls n s l at =
    let k = line_of_plan p.points p.lines s.line l at in
    let there = line_there (regrouped_plan ts ls n p) s.line (regrouped ts ls k.0) (renewed_there ts ls p.lines s.line k.0 k.1) in
    ap (option_and_then (λ (x : MapLine). sector_on x s.left)) there ∙ of_side k.0 k.1 s.left ∙ ap (λ (x : MapLine). option_and_then (label_of ls) (triangle_at ts (side_edge (map_of p) x s.left))) k.2
  where
    of_side : (k : Line) → slice_get p.lines s.line ≡ Some (Some k) → (left : Bool) → sector_on (looked_up p.points (regrouped ts ls k)) left ≡ option_and_then (label_of ls) (triangle_at ts (side_edge (map_of p) (looked_up p.points k) left))
    of_side k there true = ap (label_at_edge ts ls) (sym (edge_at p is s.line k there true))
    of_side k there false = ap (label_at_edge ts ls) (sym (edge_at p is s.line k there false))

pub names_the_labels : (p : PlanParts) → IsPlan p → (ts : List Triangle) (groups : List (List ℕ)) (ls : List (Option ℕ)) → NamesTheLabels (map_of p) ts groups ls (map_of (regrouped_plan ts ls (length groups) p))
names_the_labels p is ts groups ls = record { sectors = refl; lines = same_unnamed p.points ts ls p.lines; names = names_labels p is ts ls (length groups) }

-- ---- the plan

pub regrouped_is_plan : (p : PlanParts) → IsPlan p → (ts : List Triangle) (ls : List (Option ℕ)) (n : ℕ) → ((k f : ℕ) → label_of ls k ≡ Some f → f < n) → NamedAreLabelled (map_of p) ts ls → IsPlan (regrouped_plan ts ls n p)
regrouped_is_plan p is ts ls n range labelled = record {
  few_points = is.few_points;
  few_lines = let few = is.few_lines in let e = length-map p.lines (option_map (regrouped ts ls)) in omega (arith, few, e);
  ascend = is.ascend;
  used = λ k lt. let u = is.used k lt in (u.0, regrouped ts ls u.1, renewed_there ts ls p.lines u.0 u.1 u.2, u.3);
  each = λ i l at. let r = renewed_at ts ls p.lines i l at in subst (IsPlanLine n (length p.points)) r.same (line_is i r.k r.is);
}
  where
    in_range : (e : Edge) → IfSome (label_at_edge ts ls e) (λ f. f < n)
    in_range e = go (triangle_at ts e)
      where
        of_label : (k : ℕ) (o : Option ℕ) → label_of ls k ≡ o → IfSome o (λ f. f < n)
        of_label k None h = tt
        of_label k (Some f) h = range k f h

        go : (o : Option ℕ) → IfSome (option_and_then (label_of ls) o) (λ f. f < n)
        go None = tt
        go (Some k) = of_label k (label_of ls k) refl

    -- a side that had a name has a label
    had_name : (i : ℕ) (k : Line) (left : Bool) → slice_get p.lines i ≡ Some (Some k) → (o : Option ℕ) → sector_on (looked_up p.points k) left ≡ o → label_at_edge ts ls (side_edge (map_of p) (looked_up p.points k) left) ≡ None → ◌≡◌ {A = Option ℕ} o None
    had_name i k left at None e none = refl
    had_name i k left at (Some a) e none =
        let there = line_there p i k at in
        let w = labelled (record { line = i; left = left }) (looked_up p.points k) a there (ap (option_and_then (λ (x : MapLine). sector_on x left)) there ∙ e) in
        absurd (none-some w.2.0 (sym none ∙ ap (option_and_then (label_of ls)) w.1 ∙ w.2.1))

    line_is : (i : ℕ) (k : Line) → slice_get p.lines i ≡ Some (Some k) → IsPlanLine n (length p.points) (regrouped ts ls k)
    line_is i k at =
        let h = is.each i k at in record {
          first = h.first;
          second = h.second;
          differ = h.differ;
          right = in_range (record { from = k.b; to = k.a });
          left = in_range (record { from = k.a; to = k.b });
          solid_right = λ none. h.solid_right (had_name i k false at k.right refl (ap (label_at_edge ts ls) (edge_at p is i k at false) ∙ none));
          solid_left = λ none. h.solid_left (had_name i k true at k.left refl (ap (label_at_edge ts ls) (edge_at p is i k at true) ∙ none));
        }
