-- What plans, faults, rows, counts and pairs tell.
use Rattle.std.proofs.Common.{◌≡◌, ◌∙◌, [], ◌∷◌, ◌++◌, map, Option, Some, None, Result, Ok, Err, ap}
use Rattle.map_answers.specs.declared.sight_status.status.Flaw.{Flaw}
use Rattle.map_answers.specs.declared.sight_status.status.Status.{Status}
use Rattle.map_answers.specs.SightStatus.Answer.{Answer}
use Rattle.map_picture.specs.declared.rings.Letter.TheVariants as letter
use Rattle.map_picture.specs.declared.sheet.Subject.TheVariants as subject
use Rattle.map_picture.specs.declared.tint.Tint.TheVariants as tint
use Rattle.map_picture.specs.Picture.{Legend, Marked, arrows_from, faces_from, faults_from, heat_picture, heat_tints, marked_picture, most_of, plan_faces, plan_picture, ring_of, row_picture, row_tint}
use Rattle.map_picture.proofs.Faced.{heat_shown, no_line_in_faces, row_shown}
use Rattle.map_picture.proofs.Ids.{no_line, no_line_heat, no_line_legend, no_line_marked, no_line_ring}
use Rattle.map_picture.proofs.Marking.{arrows_shown, faults_shown, marks_shown}
use Rattle.map_picture.proofs.Ordered.{lines_shown}
use Rattle.pair_answer.proofs.Sectors.{answers_said, answers_tell}
use Rattle.draw_answers.specs.Drawn.{Drawing, one_picture}
use Rattle.draw_answers.specs.Faults.{DrawsFault, IsAuditFaultOf}
use Rattle.draw_answers.specs.Heat.{most_seen, seen_by}
use Rattle.draw_answers.specs.Laws.{FaultsAreMarked, HeatTellsTables, MarksFault, PairsAreOfBuilds, PlansShowLines, RowsTellTables}

writes_of : (x y : Answer) → x ≡ y → x.writes ≡ y.writes
writes_of x y e = ap (λ (a : Answer). a.writes) e

abbrev answer_or : Answer → Result Answer Status → Answer
answer_or x (Ok y) = y
answer_or x (Err s) = x

same_answer : (x y : Answer) → ◌≡◌ {A = Result Answer Status} (Ok x) (Ok y) → x ≡ y
same_answer x y e = ap (answer_or x) e

pub plans_shown : PlansShowLines
plans_shown name out m answer h =
    let g = h.1.groups in (
      plan_picture name m g.groups g.triangles g.labels,
      record { writes = writes_of answer _ (same_answer answer _ h.1.called); lines = lines_shown name subject.Plan m (plan_faces g.groups g.triangles g.labels) [] (no_line_in_faces (λ names. tint.Other) g.triangles g.labels 0 g.groups) no_line },
    )

pub faults_marked : FaultsAreMarked
faults_marked name out m answer h = go h.fault h.first h.shown h.draws h.is
  where
    go : (o : Option Flaw) → IsAuditFaultOf m o → (d : Drawing) → DrawsFault name m o d → answer ≡ one_picture out d → MarksFault name.places out m answer
    go (Some which) first d draws is =
        let x = draws.marks in
        record {
          fault = Some which;
          first = first;
          picture = marked_picture name m x.left_out x.lines x.faults x.arrows;
          writes = record {
            writes = writes_of answer _ (is ∙ ap (λ (y : Drawing). one_picture out y) draws.is);
            lines = lines_shown name (subject.Faults x.left_out) m [] (Marked x.lines ∷ faults_from name.places x.faults ++ arrows_from name.places x.arrows) no_line (no_line_marked name.places x.lines x.faults x.arrows);
          };
          marks = record {
            marks = x;
            are = draws.are;
            lines = marks_shown name m x.left_out x.lines x.faults x.arrows;
            rings = faults_shown name m x.left_out x.lines x.faults x.arrows;
            arrows = arrows_shown name m x.left_out x.lines x.faults x.arrows;
          };
        }
    go None first d draws is = let g = draws.groups in record {
      fault = None;
      first = first;
      picture = plan_picture name m g.groups g.triangles g.labels;
      writes = record {
        writes = writes_of answer _ (is ∙ ap (λ (x : Drawing). one_picture out x) draws.is);
        lines = lines_shown name subject.Plan m (plan_faces g.groups g.triangles g.labels) [] (no_line_in_faces (λ names. tint.Other) g.triangles g.labels 0 g.groups) no_line;
      };
      marks = tt;
    }

pub rows_told : RowsTellTables
rows_told name out m t a answer h =
    let g = h.1.groups in
    let under = faces_from g.triangles g.labels 0 (map (row_tint t a) g.groups) g.groups in
    record {
      picture = row_picture name m g.groups g.triangles g.labels t a;
      writes = record {
        writes = writes_of answer _ h.1.called.1;
        lines = lines_shown name (subject.Row a) m under (ring_of m g.groups g.triangles g.labels letter.A a) (no_line_in_faces (row_tint t a) g.triangles g.labels 0 g.groups) (no_line_ring m g.groups g.triangles g.labels letter.A a);
      };
      groups = g;
      over = h.1.over;
      faces = row_shown name m g.groups g.triangles g.labels t a;
    }

pub heat_told : HeatTellsTables
heat_told name out m t answer h =
    let g = h.1.groups in
    let counts = seen_by t g.groups in
    record {
      picture = heat_picture name m g.groups g.triangles g.labels counts;
      writes = record {
        writes = writes_of answer _ (same_answer answer _ h.1.called);
        lines = lines_shown name subject.Heat m (faces_from g.triangles g.labels 0 (heat_tints counts (most_of counts)) g.groups) (Legend (most_of counts) ∷ []) (no_line_heat g.groups g.triangles g.labels (most_seen t)) (no_line_legend (most_of counts));
      };
      groups = g;
      over = h.1.over;
      faces = heat_shown name m g.groups g.triangles g.labels (most_seen t);
    }

pub pairs_built : PairsAreOfBuilds
pairs_built p name out ask pair b answer plan decided h =
    let x = h.1 in record {
      groups = x.groups;
      over = x.over;
      drawn = x.called;
      built = answers_said p ask pair x.called.given b plan x.over.faces decided x.called.is_answer;
      sight = answers_tell p ask pair x.called.given plan x.over.faces x.called.is_answer;
    }
