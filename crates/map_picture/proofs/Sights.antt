-- The bytes of a ray between the lines of its sides.
use Rattle.std.proofs.Common.{◌≡◌, ◌∙◌, ℕ, Option, Some, not, sym, ap, subst}
use Rattle.std.proofs.lemmas.List.{append-nil}
use Rattle.std.proofs.lemmas.Option.{same_Some}
use Rattle.sight_names.specs.declared.names.Ray.{Ray}
use Rattle.sight_names.specs.Map.{Map, MapLine, line_at}
use Rattle.sight_names.specs.Ray.{IsSightRay}
use Rattle.geom_exact.specs.Formulas.{AreOnTwoSides, side_value}
use Rattle.map_picture.specs.declared.frame.Frame.{Frame}
use Rattle.map_picture.specs.Bytes.{sight_text, spelled_picture}
use Rattle.map_picture.specs.Picture.{sight_between, sight_elements}
use Rattle.map_picture.proofs.Spots.{two_sides}

module _ (m : Map) (r : Ray) (a b : ℕ) (s : IsSightRay m r a b) where
  pub first_parted : (l : MapLine) → line_at m r.first.line ≡ Some l → AreOnTwoSides (side_value r l.first) (side_value r l.second)
  first_parted l at = subst (λ (k : MapLine). AreOnTwoSides (side_value r k.first) (side_value r k.second)) (same_Some s.first l (sym s.is_first ∙ at)) (two_sides m r s.first (not r.first.left) s.leaves)

  pub last_parted : (l : MapLine) → line_at m r.last.line ≡ Some l → AreOnTwoSides (side_value r l.first) (side_value r l.second)
  last_parted l at = subst (λ (k : MapLine). AreOnTwoSides (side_value r k.first) (side_value r k.second)) (same_Some s.last l (sym s.is_last ∙ at)) (two_sides m r s.last r.last.left s.arrives)

module _ (f : Frame) (m : Map) (r : Ray) where
  pub sight_spelled : (first last : MapLine) → line_at m r.first.line ≡ Some first → line_at m r.last.line ≡ Some last → sight_text f r first last ≡ spelled_picture f m (sight_elements m r)
  sight_spelled first last is is_too =
      sym (append-nil (sight_text f r first last))
      ∙ ap (λ (o : Option MapLine). spelled_picture f m (sight_between r o (Some last))) (sym is)
      ∙ ap (λ (o : Option MapLine). spelled_picture f m (sight_between r (line_at m r.first.line) o)) (sym is_too)
