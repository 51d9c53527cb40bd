-- The marks of a picture, the rings round points at fault, and the arrows.
use Rattle.std.proofs.Common.{◌≡◌, ◌∙◌, ℕ, zero, suc, inl, inr, List, [], ◌∷◌, ◌++◌, Option, Some, None, Contains, map, slice_get, refl, sym, ap, subst}
use Rattle.std.specs.List.{AllByRecursion, flat_map}
use Rattle.std.proofs.lemmas.List.{append-nil}
use Rattle.std.proofs.lemmas.List.Concat.{flat_map-append}
use Rattle.std.proofs.lemmas.List.Folds.{flat_map-map}
use Rattle.std.proofs.lemmas.Option.{none-some, same_Some}
use Rattle.math_base.proofs.Lists.{contains_cons, contains_here, contains_map, contains_none, contains_there}
use Rattle.sight_names.specs.declared.names.Pt.{Pt}
use Rattle.sight_names.specs.Map.{Map, MapLine, map_of}
use Rattle.sight_names.specs.Plan.{IsPlan, PlanParts}
use Rattle.sight_names.proofs.Lists.{get_of_contains}
use Rattle.sight_names.proofs.PlanPoints.{plan_points}
use Rattle.map_picture.specs.declared.arrows.Arrow.{Arrow}
use Rattle.map_picture.specs.declared.faults.FaultAt.{FaultAt}
use Rattle.map_picture.specs.declared.faults.PointFault.{PointFault}
use Rattle.map_picture.specs.declared.frame.Frame.{Frame}
use Rattle.map_picture.specs.declared.sheet.Subject.{Subject}
use Rattle.map_picture.specs.declared.sheet.Subject.TheVariants as subject
use Rattle.map_picture.specs.Bytes.{arrow_text, arrow_texts, bytes_of_element, corners_in, fault_place_text, fault_text, fault_texts, spelled_picture}
use Rattle.map_picture.specs.Picture.{NamedParts, Element, Head, Title, Style, Paper, Scale, Line, Marked, Fault, Out, Foot, arrows_from, fault_mark_if, faults_from, marked_picture}
use Rattle.map_picture.specs.Laws.{Has, ShowsArrows, ShowsFaults, ShowsMarks}
use Rattle.map_picture.proofs.Pieces.{NotSo, all_arrows, all_faults, at_over, behind, has_before, has_behind, has_over, in_front}
use Rattle.map_picture.proofs.Extras.{faults_words, one_over}

pub marks_shown : (name : NamedParts) (m : Map) (left_out : ℕ) (marks : List ℕ) (faults : List FaultAt) (arrows : List Arrow) → ShowsMarks marks (marked_picture name m left_out marks faults arrows)
marks_shown name m left_out marks faults arrows = record {
  has = has_over name (subject.Faults left_out) m [] (Marked marks ∷ faults_from name.places faults ++ arrows_from name.places arrows) (Marked marks) (zero, refl);
  once = λ i j ms ns at more. (one_over name (subject.Faults left_out) m (Marked marks) (faults_from name.places faults ++ arrows_from name.places arrows) (faults_words name.places faults arrows)).fault_once i j (Marked ms) (Marked ns) at more refl refl;
}

-- ---- the rings

has_fault : (places : ℕ) (a : FaultAt) (faults : List FaultAt) (c : Pt) → Contains faults a → a.at ≡ Some c → Has (faults_from places faults) (Fault places a.fault c)
has_fault places a [] c h at = absurd (contains_none a h)
has_fault places a (b ∷ faults) c h at = elim (contains_cons a b faults h) as (λ _. Has (fault_mark_if places b.fault b.at ++ faults_from places faults) (Fault places a.fault c)) [
  | inl same ↦ has_before (fault_mark_if places b.fault b.at) (faults_from places faults) (Fault places a.fault c)
      (subst (λ (x : FaultAt). Has (fault_mark_if places x.fault x.at) (Fault places a.fault c)) (sym same) (subst (λ (o : Option Pt). Has (fault_mark_if places a.fault o) (Fault places a.fault c)) (sym at) (zero, refl)))
  | inr later ↦ has_behind (fault_mark_if places b.fault b.at) (faults_from places faults) (Fault places a.fault c) (has_fault places a faults c later at)
]

abbrev at_point : PointFault → Pt → FaultAt
at_point what c = record { fault = what; at = Some c }

same_fault : (p q : ℕ) (u v : PointFault) (d c : Pt) → ◌≡◌ {A = Element} (Fault p u d) (Fault q v c) → u ≡ v
same_fault p q u v d c e = cc

same_place : (p q : ℕ) (u v : PointFault) (d c : Pt) → ◌≡◌ {A = Element} (Fault p u d) (Fault q v c) → d ≡ c
same_place p q u v d c e = cc

one_point : (places told : ℕ) (a : FaultAt) (what : PointFault) (d c : Pt) → a.at ≡ Some d → ◌≡◌ {A = Element} (Fault places a.fault d) (Fault told what c) → a ≡ at_point what c
one_point places told a what d c at e = λ i. record { fault = same_fault places told a.fault what d c e i; at = second i }
  where
    second : a.at ≡ Some c
    second = at ∙ ap (λ (p : Pt). Some p) (same_place places told a.fault what d c e)

-- among the rings of the first one and those of the others
of_first : (places told : ℕ) (a : FaultAt) (faults : List FaultAt) (what : PointFault) (c : Pt) → ((k : ℕ) → slice_get (faults_from places faults) k ≡ Some (Fault told what c) → Contains faults (at_point what c))
    → (o : Option Pt) → a.at ≡ o → (k : ℕ) → slice_get (fault_mark_if places a.fault o ++ faults_from places faults) k ≡ Some (Fault told what c) → Contains (a ∷ faults) (at_point what c)
of_first places told a faults what c rest None e k at = contains_there (at_point what c) a faults (rest k at)
of_first places told a faults what c rest (Some d) e zero at = subst (λ (x : FaultAt). Contains (a ∷ faults) x) (one_point places told a what d c e (same_Some (Fault places a.fault d) (Fault told what c) at)) (contains_here a faults)
of_first places told a faults what c rest (Some d) e (suc k) at = contains_there (at_point what c) a faults (rest k at)

of_faults : (places : ℕ) (faults : List FaultAt) (k told : ℕ) (what : PointFault) (c : Pt) → slice_get (faults_from places faults) k ≡ Some (Fault told what c) → Contains faults (at_point what c)
of_faults places [] k told what c at = absurd (none-some (Fault told what c) at)
of_faults places (a ∷ faults) k told what c at = of_first places told a faults what c (λ n h. of_faults places faults n told what c h) a.at refl k at

abbrev IsFault : Element → Type 0
IsFault e = (told : ℕ) × (what : PointFault) × (c : Pt) × (e ≡ Fault told what c)

no_head : (told : ℕ) (what : PointFault) (c : Pt) → ◌≡◌ {A = Element} Head (Fault told what c) → ⊥
no_head told what c e = cc

no_title : (n : List ℕ) (s : Subject) (told : ℕ) (what : PointFault) (c : Pt) → ◌≡◌ {A = Element} (Title n s) (Fault told what c) → ⊥
no_title n s told what c e = cc

no_style : (told : ℕ) (what : PointFault) (c : Pt) → ◌≡◌ {A = Element} Style (Fault told what c) → ⊥
no_style told what c e = cc

no_paper : (told : ℕ) (what : PointFault) (c : Pt) → ◌≡◌ {A = Element} Paper (Fault told what c) → ⊥
no_paper told what c e = cc

no_scale : (n : ℕ) (told : ℕ) (what : PointFault) (c : Pt) → ◌≡◌ {A = Element} (Scale n) (Fault told what c) → ⊥
no_scale n told what c e = cc

no_foot : (told : ℕ) (what : PointFault) (c : Pt) → ◌≡◌ {A = Element} Foot (Fault told what c) → ⊥
no_foot told what c e = cc

no_line : (i : ℕ) (l : MapLine) (told : ℕ) (what : PointFault) (c : Pt) → ◌≡◌ {A = Element} (Line i l) (Fault told what c) → ⊥
no_line i l told what c e = cc

no_marked : (marks : List ℕ) (told : ℕ) (what : PointFault) (c : Pt) → ◌≡◌ {A = Element} (Marked marks) (Fault told what c) → ⊥
no_marked marks told what c e = cc

no_out : (places : ℕ) (w : Arrow) (told : ℕ) (what : PointFault) (c : Pt) → ◌≡◌ {A = Element} (Out places w) (Fault told what c) → ⊥
no_out places w told what c e = cc

module _ (name : NamedParts) (m : Map) (left_out : ℕ) (marks : List ℕ) (faults : List FaultAt) (arrows : List Arrow) where
  abbrev about : Subject
  about = subject.Faults left_out

  abbrev marked : List Element
  marked = Marked marks ∷ faults_from name.places faults

  over_all : (told : ℕ) (what : PointFault) (c : Pt) → Has (marked_picture name m left_out marks faults arrows) (Fault told what c) → Has marked (Fault told what c)
  over_all told what c (p, at) =
      let r = at_over IsFault name about m (λ h. no_head h.0 h.1 h.2 h.3) (λ n s h. no_title n s h.0 h.1 h.2 h.3) (λ h. no_style h.0 h.1 h.2 h.3) (λ h. no_paper h.0 h.1 h.2 h.3) (λ n h. no_scale n h.0 h.1 h.2 h.3) (λ h. no_foot h.0 h.1 h.2 h.3)
      (λ i l h. no_line i l h.0 h.1 h.2 h.3) [] (marked ++ arrows_from name.places arrows) tt p (Fault told what c) (told, what, c, refl) at in
      (r.0, in_front IsFault marked (arrows_from name.places arrows) r.0 (Fault told what c) (all_arrows (NotSo IsFault) name.places (λ w h. no_out name.places w h.0 h.1 h.2 h.3) arrows) (told, what, c, refl) r.1)

  only_these : (told : ℕ) (what : PointFault) (c : Pt) → Has marked (Fault told what c) → Contains faults (at_point what c)
  only_these told what c (zero, at) = absurd (no_marked marks told what c (same_Some (Marked marks) (Fault told what c) at))
  only_these told what c (suc k, at) = of_faults name.places faults k told what c at

  pub faults_shown : ShowsFaults name.places faults (marked_picture name m left_out marks faults arrows)
  faults_shown = record {
    has = λ a c h at. has_over name about m [] (marked ++ arrows_from name.places arrows) (Fault name.places a.fault c) (has_before marked (arrows_from name.places arrows) (Fault name.places a.fault c) (let r = has_fault name.places a faults c h at in (suc r.0, r.1)));
    only = λ told what c h. only_these told what c (over_all told what c h);
  }

-- ---- the arrows

abbrev IsOut : Element → Type 0
IsOut e = (told : ℕ) × (w : Arrow) × (e ≡ Out told w)

out_head : (told : ℕ) (w : Arrow) → ◌≡◌ {A = Element} Head (Out told w) → ⊥
out_head told w e = cc

out_title : (n : List ℕ) (s : Subject) (told : ℕ) (w : Arrow) → ◌≡◌ {A = Element} (Title n s) (Out told w) → ⊥
out_title n s told w e = cc

out_style : (told : ℕ) (w : Arrow) → ◌≡◌ {A = Element} Style (Out told w) → ⊥
out_style told w e = cc

out_paper : (told : ℕ) (w : Arrow) → ◌≡◌ {A = Element} Paper (Out told w) → ⊥
out_paper told w e = cc

out_scale : (n : ℕ) (told : ℕ) (w : Arrow) → ◌≡◌ {A = Element} (Scale n) (Out told w) → ⊥
out_scale n told w e = cc

out_foot : (told : ℕ) (w : Arrow) → ◌≡◌ {A = Element} Foot (Out told w) → ⊥
out_foot told w e = cc

out_line : (i : ℕ) (l : MapLine) (told : ℕ) (w : Arrow) → ◌≡◌ {A = Element} (Line i l) (Out told w) → ⊥
out_line i l told w e = cc

out_marked : (marks : List ℕ) (told : ℕ) (w : Arrow) → ◌≡◌ {A = Element} (Marked marks) (Out told w) → ⊥
out_marked marks told w e = cc

out_fault : (places : ℕ) (what : PointFault) (c : Pt) (told : ℕ) (w : Arrow) → ◌≡◌ {A = Element} (Fault places what c) (Out told w) → ⊥
out_fault places what c told w e = cc

same_arrow : (places told : ℕ) (v w : Arrow) → ◌≡◌ {A = Element} (Out places v) (Out told w) → v ≡ w
same_arrow places told v w e = cc

arrow_there : (places : ℕ) (arrows : List Arrow) (k told : ℕ) (w : Arrow) → slice_get (arrows_from places arrows) k ≡ Some (Out told w) → Contains arrows w
arrow_there places [] k told w at = absurd (none-some (Out told w) at)
arrow_there places (v ∷ arrows) zero told w at = subst (λ (x : Arrow). Contains (v ∷ arrows) x) (same_arrow places told v w (same_Some (Out places v) (Out told w) at)) (contains_here v arrows)
arrow_there places (v ∷ arrows) (suc k) told w at = contains_there w v arrows (arrow_there places arrows k told w at)

has_arrow : (places : ℕ) (arrows : List Arrow) (w : Arrow) → Contains arrows w → Has (arrows_from places arrows) (Out places w)
has_arrow places arrows w c = let d = contains_map (λ (x : Arrow). Out places x) arrows w c in (d.0, get_of_contains (arrows_from places arrows) (Out places w) d.0 d.1 d.2)

module _ (name : NamedParts) (m : Map) (left_out : ℕ) (marks : List ℕ) (faults : List FaultAt) (arrows : List Arrow) where
  abbrev told : Subject
  told = subject.Faults left_out

  abbrev others : List Element
  others = Marked marks ∷ faults_from name.places faults

  arrow_among : (n : ℕ) (w : Arrow) → Has (others ++ arrows_from name.places arrows) (Out n w) → Contains arrows w
  arrow_among n w (p, at) =
      let r = behind IsOut others (arrows_from name.places arrows) p (Out n w) ((λ h. out_marked marks h.0 h.1 h.2), all_faults (NotSo IsOut) name.places (λ what c h. out_fault name.places what c h.0 h.1 h.2) faults) (n, w, refl) at in
      arrow_there name.places arrows r.0 n w r.2

  only_arrows : (n : ℕ) (w : Arrow) → Has (marked_picture name m left_out marks faults arrows) (Out n w) → Contains arrows w
  only_arrows n w (p, at) =
      arrow_among n w (at_over IsOut name told m (λ h. out_head h.0 h.1 h.2) (λ k s h. out_title k s h.0 h.1 h.2) (λ h. out_style h.0 h.1 h.2) (λ h. out_paper h.0 h.1 h.2) (λ k h. out_scale k h.0 h.1 h.2) (λ h. out_foot h.0 h.1 h.2)
      (λ i l h. out_line i l h.0 h.1 h.2) [] (others ++ arrows_from name.places arrows) tt p (Out n w) (n, w, refl) at)

  pub arrows_shown : ShowsArrows name.places arrows (marked_picture name m left_out marks faults arrows)
  arrows_shown = record {
    has = λ w c. has_over name told m [] (others ++ arrows_from name.places arrows) (Out name.places w) (has_behind others (arrows_from name.places arrows) (Out name.places w) (has_arrow name.places arrows w c));
    only = only_arrows;
  }

-- ---- their bytes

if_spelled : (f : Frame) (m : Map) (places : ℕ) (what : PointFault) (o : Option Pt) → spelled_picture f m (fault_mark_if places what o) ≡ fault_place_text f places what o
if_spelled f m places what None = refl
if_spelled f m places what (Some c) = append-nil (fault_text f places what c)

pub faults_spelled : (f : Frame) (m : Map) (places : ℕ) (faults : List FaultAt) → spelled_picture f m (faults_from places faults) ≡ fault_texts f places faults
faults_spelled f m places [] = refl
faults_spelled f m places (a ∷ faults) =
    flat_map-append (bytes_of_element f m) (fault_mark_if places a.fault a.at) (faults_from places faults) ∙ ap (λ (l : List ℕ). l ++ spelled_picture f m (faults_from places faults)) (if_spelled f m places a.fault a.at)
    ∙ ap (λ (l : List ℕ). fault_place_text f places a.fault a.at ++ l) (faults_spelled f m places faults)

pub rings_on : (f : Frame) (m : Map) (places : ℕ) (faults : List FaultAt) (a b : List ℕ) → b ≡ a ++ fault_texts f places faults → b ≡ a ++ spelled_picture f m (faults_from places faults)
rings_on f m places faults a b made = made ∙ ap (λ (l : List ℕ). a ++ l) (sym (faults_spelled f m places faults))

arrows_spelled : (f : Frame) (p : PlanParts) → IsPlan p → (places : ℕ) (arrows : List Arrow) → spelled_picture f (map_of p) (arrows_from places arrows) ≡ arrow_texts f places p.points arrows
arrows_spelled f p plan places arrows =
    flat_map-map (bytes_of_element f (map_of p)) (λ (w : Arrow). Out places w) arrows ∙ ap (λ (points : List Pt). flat_map (λ (w : Arrow). arrow_text f places (corners_in points w)) arrows) (plan_points p plan)

pub arrows_on : (f : Frame) (p : PlanParts) (places : ℕ) (arrows : List Arrow) (a b : List ℕ) → IsPlan p → b ≡ a ++ arrow_texts f places p.points arrows → b ≡ a ++ spelled_picture f (map_of p) (arrows_from places arrows)
arrows_on f p places arrows a b plan made = made ∙ ap (λ (l : List ℕ). a ++ l) (sym (arrows_spelled f p plan places arrows))
