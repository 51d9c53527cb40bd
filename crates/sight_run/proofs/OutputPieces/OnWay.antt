-- A file grows by one piece after the other.
use Rattle.std.proofs.Common.{◌≡◌, ◌∙◌, ◌+◌, ◌<◌, ◌≤◌, ℕ, inl, inr, List, [], ◌∷◌, ◌++◌, length, map, take, drop, get_or, Option, refl, sym, ap, subst, append_assoc, arith}
use Rattle.std.proofs.lemmas.List.{append-nil, drop_all, drop_more, length-drop, length-take-le, take-append-drop}
use Rattle.std.proofs.Math.Seq.{take-append_seam}
use Rattle.std.specs.Option.{option_map}
use Rattle.listeners.specs.Listening.{AreWordsAt, ListenerState, listener_text}
use Rattle.listeners.specs.Told.{texts}
use Rattle.shelf_io.specs.Shelf.{Files, MayHaveFront, MayHoldFront, append_to, put}
use Rattle.shelf_io.proofs.FilesLemmas.{append_more, front_is}
use Rattle.math_base.proofs.Lists.{drop_more as drop-add}
use Rattle.sight_run.specs.OutputPieces.UnderWay.{IsStoring}

-- the file was made empty
pub begun : (before now : Option Files) (name all : List ℕ) → now ≡ option_map (λ files. put files name []) before → IsStoring before now name all all
begun before now name all e = record { front = []; is = refl; stands = e }

module _ (before now after : Option Files) (name all left piece rest : List ℕ) (h : IsStoring before now name all left) (next : left ≡ piece ++ rest) where
  -- all bytes are the front that stands, a front of the piece, and what is behind it
  whole : (k : ℕ) → all ≡ (h.front ++ take k piece) ++ (drop k piece ++ rest)
  whole k =
      h.is
      ∙ ap (λ (t : List ℕ). h.front ++ t) (next ∙ ap (λ (p : List ℕ). p ++ rest) (sym (take-append-drop k piece)) ∙ append_assoc (take k piece) (drop k piece) rest)
      ∙ sym (append_assoc h.front (take k piece) (drop k piece ++ rest))

  pub piece_put : after ≡ option_map (λ files. append_to files name piece) now → IsStoring before after name all rest
  piece_put e = record {
    front = h.front ++ piece;
    is = h.is ∙ ap (λ (t : List ℕ). h.front ++ t) next ∙ sym (append_assoc h.front piece rest);
    stands = append_more before now after name h.front piece h.stands e;
  }

  -- a piece that failed
  pub piece_failed : MayHaveFront now after name piece → MayHoldFront before after name all
  piece_failed (inl same) = inr (length h.front, same ∙ h.stands ∙ ap (λ (f : List ℕ). option_map (λ files. put files name f) before) (front_is all h.front left h.is))
  piece_failed (inr part) =
      let front : List ℕ = h.front ++ take part.0 piece in
      inr (
        length front,
        append_more before now after name h.front (take part.0 piece) h.stands part.1
            ∙ ap (λ (f : List ℕ). option_map (λ files. put files name f) before) (front_is all front (drop part.0 piece ++ rest) (whole part.0)),
      )

-- nothing is left
pub all_put : (before now : Option Files) (name all left : List ℕ) → IsStoring before now name all left → left ≡ [] → now ≡ option_map (λ files. put files name all) before
all_put before now name all left h none =
    h.stands ∙ ap (λ (f : List ℕ). option_map (λ files. put files name f) before) (sym (h.is ∙ ap (λ (t : List ℕ). h.front ++ t) none ∙ append-nil h.front))

-- ---- texts

pub words_fit : (text before after : List ℕ) (at n : ℕ) → AreWordsAt text at before after n → n ≤ length (drop at text)
words_fit text before after at n w = omega (arith, w.count, length-drop at text)

-- a place of a text further on
pub next_bytes : (text piece room rest : List ℕ) (at n : ℕ) → n ≤ length (drop at text) → piece ≡ take n (drop at text) ++ drop n room → drop at text ++ rest ≡ take n piece ++ (drop (at + n) text ++ rest)
next_bytes text piece room rest at n few e =
    ap (λ (t : List ℕ). t ++ rest) (sym (take-append-drop n (drop at text)))
    ∙ append_assoc (take n (drop at text)) (drop n (drop at text)) rest
    ∙ ap (λ (t : List ℕ). t ++ (drop n (drop at text) ++ rest)) (sym front)
    ∙ ap (λ (t : List ℕ). take n piece ++ (t ++ rest)) (sym (drop-add at n text))
  where
    front : take n piece ≡ take n (drop at text)
    front =
        ap (take n) e
        ∙ ap (λ (k : ℕ). take k (take n (drop at text) ++ drop n room)) (sym (length-take-le n (drop at text) few))
        ∙ take-append_seam (take n (drop at text)) (drop n room)

-- the texts of a list are that of its first one and those of the rest
pub next_text : {X : Type 0} (state : X → ListenerState) (list : List X) (i : ℕ) (x : X) (rest : List ℕ) → i < length list → x ≡ get_or list i x
    → texts (map state (drop i list)) ++ rest ≡ listener_text (state x) ++ (texts (map state (drop (i + 1) list)) ++ rest)
next_text state list i x rest lt e =
    ap (λ (l : List _). texts (map state l) ++ rest) (drop_more list i x lt ∙ ap (λ y. y ∷ drop (i + 1) list) (sym e))
    ∙ append_assoc (listener_text (state x)) (texts (map state (drop (i + 1) list))) rest

-- the same, by what is left
pub left_is : (before now : Option Files) (name all one other : List ℕ) → one ≡ other → IsStoring before now name all one → IsStoring before now name all other
left_is before now name all one other e h = subst (λ (t : List ℕ). IsStoring before now name all t) e h

-- nothing of a text is behind its end
pub nothing_left : (text rest : List ℕ) (at : ℕ) → length text ≤ at → drop at text ++ rest ≡ rest
nothing_left text rest at le = ap (λ (t : List ℕ). t ++ rest) (drop_all at text le)

-- no text is behind the last listener
pub no_text : {X : Type 0} (state : X → ListenerState) (list : List X) (i : ℕ) (rest : List ℕ) → length list ≤ i → texts (map state (drop i list)) ++ rest ≡ rest
no_text state list i rest le = ap (λ (l : List _). texts (map state l) ++ rest) (drop_all i list le)
