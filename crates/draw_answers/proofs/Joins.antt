-- A ray of the map of groups joins sectors of the map: passable lines have a name on each side.
use Rattle.std.proofs.Common.{◌≡◌, ℕ, Option, Some, None, IsTrue, Bool, true, false, not, option_and_then, refl, ap, ◌∙◌}
use Rattle.sight_names.specs.declared.names.Ask.{Ask}
use Rattle.sight_names.specs.declared.names.Pair.{Pair}
use Rattle.sight_names.specs.declared.names.Ray.{Ray}
use Rattle.sight_names.specs.declared.names.Side.{Side}
use Rattle.sight_names.specs.Map.{IsMap, IsMapLine, Map, MapLine, Names, line_at, map_of, sector_on}
use Rattle.sight_names.specs.Path.{MissesSolid}
use Rattle.sight_names.specs.Plan.{PlanParts, IsPlan}
use Rattle.sight_names.specs.Point.{OnSegment}
use Rattle.sight_names.specs.Ray.{IsSightRay}
use Rattle.sight_names.proofs.Laws.{on_segment_sym, start_on}
use Rattle.sight_names.proofs.PlanMap.{plan_is_map}
use Rattle.face_groups.proofs.GroupsBase.SameLines.{HaveSameLines, line_of, lines_alike, misses_solid_alike, same_lines_sym}
use Rattle.map_picture.specs.Picture.{JoinsSectors}
use Rattle.pair_answer.specs.declared.answer.PairAnswer.TheVariants as answer
use Rattle.pair_answer.specs.Answer.{IsAnswerFor}
use Rattle.pair_answer.proofs.OneName.{crosses_so, splits_so}

-- ---- names

told : (o : Option ℕ) → (o ≡ None → ⊥) → (a : ℕ) × (o ≡ Some a)
told None some = absurd (some refl)
told (Some a) some = (a, refl)

some_name : (n : ℕ) (l : MapLine) → IsMapLine n l → (IsTrue l.solid → ⊥) → (left : Bool) → (a : ℕ) × (sector_on l left ≡ Some a)
some_name n l h passable false = told l.right (λ e. passable (h.solid_right e))
some_name n l h passable true = told l.left (λ e. passable (h.solid_left e))

-- ---- rays

module _ (m : Map) (is_map : IsMap m) (g : Map) (back : HaveSameLines g m) where
  named_side : (s : Side) (l : MapLine) → line_at m s.line ≡ Some l → (IsTrue l.solid → ⊥) → (a : ℕ) × Names m s a
  named_side s l at passable =
      let n = some_name m.sectors l (is_map s.line l at) passable s.left in
      (n.0, ap (λ (o : Option MapLine). option_and_then (λ k. sector_on k s.left) o) at ∙ n.1)

  ray_joins : (ray : Ray) (f k : ℕ) → IsSightRay g ray f k → JoinsSectors m ray
  ray_joins ray f k r =
      let x = line_of g m back ray.first.line r.first r.is_first in
      let y = line_of g m back ray.last.line r.last r.is_last in
      let clear : MissesSolid m r.start r.stop = misses_solid_alike g m back r.start r.stop r.clear in
      let starts = crosses_so ray r.first x.0 r.start x.2 r.starts in
      let stops = crosses_so ray r.last y.0 r.stop y.2 r.stops in
      let end_on : OnSegment r.start r.stop r.stop = on_segment_sym r.stop r.start r.stop (start_on r.stop r.start) in
      let from = named_side ray.first x.0 x.1 (λ solid. clear ray.first.line x.0 x.1 solid r.start (start_on r.start r.stop) starts.0) in
      let to = named_side ray.last y.0 y.1 (λ solid. clear ray.last.line y.0 y.1 solid r.stop end_on stops.0) in (
        from.0,
        to.0,
        record {
          range = r.range;
          from = from.1;
          to = to.1;
          first = x.0;
          is_first = x.1;
          last = y.0;
          is_last = y.1;
          leaves = splits_so ray r.first x.0 (not ray.first.left) x.2 r.leaves;
          arrives = splits_so ray r.last y.0 ray.last.left y.2 r.arrives;
          start = r.start;
          stop = r.stop;
          starts = starts;
          stops = stops;
          forward = r.forward;
          clear = clear;
        },
      )

pub answer_joins : (p : PlanParts) (ask : Ask) (pair : Pair) (ray : Ray) → IsPlan p → IsAnswerFor (map_of p) ask pair (answer.Sight ray) → JoinsSectors (map_of p) ray
answer_joins p ask pair ray plan h =
    let w = h.walked in
    let r = h.is.1 in
    ray_joins (map_of p) (plan_is_map p plan) w.g (same_lines_sym (map_of p) w.g (lines_alike (map_of p) w.g w.grouped.lines)) ray r.f r.k r.sight
