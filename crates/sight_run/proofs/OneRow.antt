-- Of the row of a sector in a map's own table, and of its counts, there is one picture: its bits alone are drawn, and the bytes of the
-- REJECT fix them.
use Rattle.std.proofs.Common.{◌≡◌, ℕ, ◌+◌, ◌-◌, ◌*◌, ◌==◌, inl, inr, List, map, Result, Ok, Err, sym, ap, ◌∙◌, if◌then◌else◌}
use Rattle.std.specs.List.{count_by, list_all, list_any, range_with_len}
use Rattle.math_base.proofs.Numbers.{below_or_not}
use Rattle.sight_names.specs.Map.{Map}
use Rattle.sight_names.specs.Table.{table_bit}
use Rattle.reject_bits.specs.Parts.{TableParts}
use Rattle.map_picture.specs.declared.rings.Letter.TheVariants as letter
use Rattle.map_picture.specs.declared.sheet.Subject.TheVariants as subject
use Rattle.map_picture.specs.declared.tint.Tint.TheVariants as tint
use Rattle.map_picture.specs.Bytes.{svg_of}
use Rattle.map_picture.specs.Picture.{NamedParts, faces_from, heat_picture, most_of, picture_of, ring_of}
use Rattle.map_answers.specs.declared.sight_status.status.Flaw.TheVariants as flaw
use Rattle.map_answers.specs.declared.sight_status.status.Why.TheVariants as why
use Rattle.map_answers.specs.declared.sight_status.status.Status.TheVariants as status
use Rattle.map_answers.specs.SightStatus.Answer.{Answer}
use Rattle.map_answers.specs.declared.sight_status.status.Status.{Status}
use Rattle.map_answers.specs.Groups.{MapGroups, OnAudited}
use Rattle.draw_answers.specs.Drawn.{Drawing, one_picture}
use Rattle.draw_answers.specs.Heat.{DrawHeatCalls, HeatCall, clear_in_row, heat_drawing, heat_line_of}
use Rattle.draw_answers.specs.Lines.{row_line_of, set_in_row}
use Rattle.draw_answers.specs.Row.{DrawRowCalls, RowCall, row_drawing}
use Rattle.sight_run.specs.Check.{IsTableOfBytes}
use Rattle.whole_wad.proofs.OneTable.{spare_clear}

module _ (n : ℕ) (bytes : List ℕ) (t u : TableParts) (is : IsTableOfBytes n bytes t) (other : IsTableOfBytes n bytes u) where
  sectors : t.n ≡ u.n
  sectors = is.sectors ∙ sym other.sectors

  bits : (k : ℕ) → table_bit t.bytes k ≡ table_bit u.bytes k
  bits k = elim (below_or_not k (n * n)) as (λ _. table_bit t.bytes k ≡ table_bit u.bytes k) [
    | inl lt ↦ is.bits k lt ∙ sym (other.bits k lt)
    | inr past ↦ spare_clear n t is.sectors is.whole k past ∙ sym (spare_clear n u other.sectors other.whole k past)
  ]

  module _ (name : NamedParts) (out : List ℕ) (m : Map) where
    one_row : (a : ℕ) (g : MapGroups) → row_drawing name m t a g ≡ row_drawing name m u a g
    unfolding set_in_row
    one_row a g = λ i. record {
      bytes = svg_of m (picture_of name (subject.Row a) m
          (faces_from g.triangles g.labels 0 (map (λ names. if list_any (λ b. b == a) names then tint.Source else if list_all (λ b. bits (a * sectors i + b) i == 1) names then tint.Set else tint.Clear) g.groups) g.groups)
          (ring_of m g.groups g.triangles g.labels letter.A a));
      line = row_line_of name.text a (count_by (λ b. bits (a * sectors i + b) i == 1) (range_with_len 0 (sectors i)))
          (sectors i - count_by (λ b. bits (a * sectors i + b) i == 1) (range_with_len 0 (sectors i)));
    }

    one_count : (a : ℕ) → clear_in_row t a ≡ clear_in_row u a
    unfolding set_in_row
    one_count a = λ i. sectors i - count_by (λ b. bits (a * sectors i + b) i == 1) (range_with_len 0 (sectors i))

    abbrev heat_with : MapGroups → (List ℕ → ℕ) → Drawing
    heat_with g count = record { bytes = svg_of m (heat_picture name m g.groups g.triangles g.labels (map count g.groups)); line = heat_line_of name.text (most_of (map count g.groups)) }

    one_heat : (g : MapGroups) → heat_drawing name m t g ≡ heat_drawing name m u g
    one_heat g = λ i. heat_with g (λ names. most_of (map (λ a. one_count a i) names))

    row_too : (a : ℕ) (g : MapGroups) (r : Result Answer Status) → RowCall name out m u a g r → RowCall name out m t a g r
    row_too a g (Ok answer) q = (q.0, q.1 ∙ ap (λ (d : Drawing). one_picture out d) (sym (one_row a g)))
    row_too a g (Err (status.No (why.NoSector k))) q = q
    row_too a g (Err s) q = absurd q

    heat_too : (g : MapGroups) (r : Result Answer Status) → HeatCall name out m u g r → HeatCall name out m t g r
    heat_too g r q = q ∙ ap (λ (d : Drawing). Ok (one_picture out d)) (sym (one_heat g))

-- what calls for an answer of one table calls for it of another
module _ (m : Map) (One Other : MapGroups → Result Answer Status → Type 0) (too : (g : MapGroups) (r : Result Answer Status) → Other g r → One g r) where
  audited_too : (r : Result Answer Status) → OnAudited m Other r → OnAudited m One r
  audited_too (Ok answer) q = (q.0, record { groups = q.1.groups; over = q.1.over; called = too q.1.groups (Ok answer) q.1.called })
  audited_too (Err (status.BadMap (flaw.Line fault))) q = q
  audited_too (Err (status.BadMap (flaw.Open side))) q = q
  audited_too (Err s) q = (q.0, record { groups = q.1.groups; over = q.1.over; called = too q.1.groups (Err s) q.1.called })

-- what one of two tables of the same bytes calls for, the other calls for
abbrev pub IsFixed : Map → (TableParts → Result Answer Status → Type 0) → Type 0
IsFixed m Called = (bytes : List ℕ) (t u : TableParts) (r : Result Answer Status) → IsTableOfBytes m.sectors bytes t → IsTableOfBytes m.sectors bytes u → Called u r → Called t r

pub row_fixed : (name : NamedParts) (out : List ℕ) (a : ℕ) (m : Map) → IsFixed m (λ t. DrawRowCalls name out t a m)
row_fixed name out a m bytes t u r is other q = audited_too m (RowCall name out m t a) (RowCall name out m u a) (row_too m.sectors bytes t u is other name out m a) r q

pub heat_fixed : (name : NamedParts) (out : List ℕ) (m : Map) → IsFixed m (λ t. DrawHeatCalls name out t m)
heat_fixed name out m bytes t u r is other q = audited_too m (HeatCall name out m t) (HeatCall name out m u) (heat_too m.sectors bytes t u is other name out m) r q
