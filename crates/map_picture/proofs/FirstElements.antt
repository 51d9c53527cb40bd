-- The first elements of a picture.
use Rattle.std.proofs.Common.{◌≡◌, ℕ, List, ◌++◌, Result, Ok, Err, OnOk, ◌∙◌, ap, sym}
use Rattle.std.proofs.lemmas.List.{append_assoc, append-nil}
use Rattle.sight_names.specs.Map.{Map}
use Rattle.map_picture.specs.declared.frame.Frame.{Frame}
use Rattle.map_picture.specs.declared.frame.Sizes.{Sizes}
use Rattle.map_picture.specs.Frame.{sizes_of_frame, width_of}
use Rattle.map_picture.specs.Scale.{bar_for}
use Rattle.map_picture.specs.Bytes.{head_text, paper_text, scale_text, spelled_picture, style_text, title_text}
use Rattle.map_picture.specs.declared.sheet.Subject.{Subject}
use Rattle.map_picture.specs.Picture.{NamedParts, sheet_of}

pub sheet_spelled : (f : Frame) (m : Map) (name : NamedParts) (about : Subject) (s : Sizes) → s ≡ sizes_of_frame f
    → head_text s ++ title_text name.text about ++ style_text s ++ paper_text s ++ scale_text s (bar_for (width_of f) name.places) ≡ spelled_picture f m (sheet_of name about)
sheet_spelled f m name about s e =
    let t = sizes_of_frame f in
    let c = bar_for (width_of f) name.places in
    let title = title_text name.text about in
    ap (λ (z : Sizes). head_text z ++ title ++ style_text z ++ paper_text z ++ scale_text z c) e
    ∙ append_assoc (head_text t ++ title ++ style_text t) (paper_text t) (scale_text t c)
    ∙ append_assoc (head_text t ++ title) (style_text t) (paper_text t ++ scale_text t c)
    ∙ append_assoc (head_text t) title (style_text t ++ (paper_text t ++ scale_text t c))
    ∙ ap (λ (l : List ℕ). head_text t ++ (title ++ (style_text t ++ (paper_text t ++ l)))) (sym (append-nil (scale_text t c)))

pub same_words : {E : Type 0} (r : Result (Unit {0}) E) (old new words others : List ℕ) → words ≡ others → OnOk r (new ≡ old ++ words) → OnOk r (new ≡ old ++ others)
same_words (Ok x) old new words others e h = h ∙ ap (λ (l : List ℕ). old ++ l) e
same_words (Err x) old new words others e h = tt
