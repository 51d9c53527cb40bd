-- The words between commas as maps' names: one more, one that is none, and all of them.
use Rattle.std.proofs.Common.{◌≡◌, ℕ, ◌+◌, ◌<◌, List, [], ◌∷◌, ◌++◌, length, get_or, take, drop, map, Bool, true, false, ◌&&◌, if◌then◌else◌, Some, None, sym, ap, ◌∙◌, arith}
use Rattle.std.specs.List.{list_all}
use Rattle.std.proofs.lemmas.List.{drop_all, drop_more, map-append, take_all, take_more}
use Rattle.order_words.specs.Values.{is_map, upper, upper_maps}

-- what is left to be tested, from the word at a place on
tested_from : (words : List (List ℕ)) (k : ℕ) (x : List ℕ) → (k < length words) × (x ≡ get_or words k x) → list_all is_map (drop k words) ≡ is_map x && list_all is_map (drop (k + 1) words)
tested_from words k x at =
    ap (λ (xs : List (List ℕ)). list_all is_map xs) (drop_more words k x at.0) ∙ ap (λ (y : List ℕ). is_map y && list_all is_map (drop (k + 1) words)) (sym at.1)

-- a word that is no map's name
pub other_name : (words : List (List ℕ)) (k : ℕ) (x : List ℕ) → (k < length words) × (x ≡ get_or words k x) → is_map x ≡ false → list_all is_map words ≡ list_all is_map (drop k words) → upper_maps words ≡ None
other_name words k x at other tested =
    let all : list_all is_map words ≡ false = tested ∙ tested_from words k x at ∙ ap (λ (b : Bool). b && list_all is_map (drop (k + 1) words)) other in
    ap (λ (b : Bool). if b then Some (map upper words) else None) all

-- one that is
pub tested_more : (words : List (List ℕ)) (k : ℕ) (x : List ℕ) → (k < length words) × (x ≡ get_or words k x) → is_map x ≡ true → list_all is_map words ≡ list_all is_map (drop k words) → list_all is_map words ≡ list_all is_map (drop (k + 1) words)
tested_more words k x at named tested = tested ∙ tested_from words k x at ∙ ap (λ (b : Bool). b && list_all is_map (drop (k + 1) words)) named

pub upper_more : (words : List (List ℕ)) (k : ℕ) (x name : List ℕ) (names more : List (List ℕ)) → (k < length words) × (x ≡ get_or words k x) → names ≡ map upper (take k words) → name ≡ upper x → more ≡ names ++ name ∷ [] → more ≡ map upper (take (k + 1) words)
upper_more words k x name names more at before is pushed =
    pushed ∙ ap (λ (xs : List (List ℕ)). xs ++ name ∷ []) before
    ∙ ap (λ (y : List ℕ). map upper (take k words) ++ y ∷ []) (is ∙ ap upper at.1)
    ∙ sym (map-append upper (take k words) (get_or words k x ∷ []))
    ∙ ap (λ (xs : List (List ℕ)). map upper xs) (sym (take_more words k x at.0))

-- behind the last
pub all_upper : (words names : List (List ℕ)) (k : ℕ) → k ≡ length words → list_all is_map words ≡ list_all is_map (drop k words) → names ≡ map upper (take k words) → upper_maps words ≡ Some names
all_upper words names k len tested is =
    let all : list_all is_map words ≡ true = tested ∙ ap (λ (xs : List (List ℕ)). list_all is_map xs) (drop_all k words (omega (arith, len))) in
    ap (λ (b : Bool). if b then Some (map upper words) else None) all
    ∙ ap (λ (xs : List (List ℕ)). Some xs) (sym (is ∙ ap (λ (xs : List (List ℕ)). map upper xs) (take_all k words (omega (arith, len)))))
