-- What is in a row one portal further on: behind a gate what its mask has too, elsewhere the same.
use Rattle.std.proofs.Common.{ℕ, inl, inr, List, [], ◌∷◌, ◌++◌, Option, Contains, sym, subst}
use Rattle.std.specs.Prelude.{◌↔◌}
use Rattle.sight_names.specs.declared.names.Triangle.{Triangle}
use Rattle.sight_names.specs.Map.{Map, IsMap}
use Rattle.sight_names.specs.Mesh.{IsGoodMesh}
use Rattle.sight_names.specs.Sequence.{Portal}
use Rattle.sight_names.proofs.Lists.{contains_cases}
use Rattle.math_base.proofs.Lists.{contains_none, contains_here, contains_left, contains_right, contains_append}
use Rattle.gate_floods.specs.Gates.{IsGate, IsInMask}
use Rattle.gate_floods.specs.Rows.{IsInRow}
use Rattle.gate_floods.specs.Exact.{IsClaimedBlind, IsOwned}
use Rattle.gate_floods.specs.Laws.{RowsGoOn}
use Rattle.gate_floods.proofs.Flooding.{one_gate}

module _ (m : Map) (is_map : IsMap m) (ts : List Triangle) (ls : List (Option ℕ)) (good : IsGoodMesh m ts ls) where
  module _ (Claims : ℕ → ℕ → Type 0) (Keeps : ℕ → Type 0) where
    row_front : (ps : List Portal) (p : Portal) (c : ℕ) → IsInRow m Claims Keeps (ps ++ p ∷ []) c → IsInRow m Claims Keeps ps c
    row_front ps p c h = record { keeps = h.keeps; masked = λ q b d there gate. h.masked q b d (contains_left q ps (p ∷ []) there) gate }

    row_more : (ps : List Portal) (p : Portal) (c : ℕ) → IsInRow m Claims Keeps ps c → ((b d : ℕ) → IsGate m b d p → IsInMask m Claims b d p c) → IsInRow m Claims Keeps (ps ++ p ∷ []) c
    row_more ps p c h mask = record { keeps = h.keeps; masked = masked }
      where
        masked : (q : Portal) (b d : ℕ) → Contains (ps ++ p ∷ []) q → IsGate m b d q → IsInMask m Claims b d q c
        masked q b d there gate = elim (contains_append q ps (p ∷ []) there) as (λ _. IsInMask m Claims b d q c) [
          | inl in_front ↦ h.masked q b d in_front gate
          | inr last ↦ elim (contains_cases p q [] last) as (λ _. IsInMask m Claims b d q c) [
            | inl e ↦ subst (λ (r : Portal). IsInMask m Claims b d r c) e (mask b d (subst (λ (r : Portal). IsGate m b d r) (sym e) gate))
            | inr none ↦ absurd (contains_none q none)
          ]
        ]

    pub row_none : (c : ℕ) → Keeps c → IsInRow m Claims Keeps [] c
    row_none c k = record { keeps = k; masked = λ p b d there gate. absurd (contains_none p there) }

    pub row_same : (ps : List Portal) (p : Portal) (c : ℕ) → ((b d : ℕ) → ¬ IsGate m b d p) → IsInRow m Claims Keeps ps c → IsInRow m Claims Keeps (ps ++ p ∷ []) c
    row_same ps p c none h = row_more ps p c h (λ b d gate. absurd (none b d gate))

    pub row_behind : (ps : List Portal) (p : Portal) (b d c : ℕ) → IsGate m b d p → IsInRow m Claims Keeps (ps ++ p ∷ []) c → IsInRow m Claims Keeps ps c × IsInMask m Claims b d p c
    row_behind ps p b d c gate h = (row_front ps p c h, h.masked p b d (contains_right p ps (p ∷ []) (contains_here p [])) gate)

    pub row_masked : (ps : List Portal) (p : Portal) (b d c : ℕ) → IsGate m b d p → IsInRow m Claims Keeps ps c → IsInMask m Claims b d p c → IsInRow m Claims Keeps (ps ++ p ∷ []) c
    row_masked ps p b d c gate h mask = row_more ps p c h (λ e f other. let o = one_gate m ts ls good b d e f p gate other in subst (λ (x : ℕ). IsInMask m Claims e x p c) o.1 (subst (λ (x : ℕ). IsInMask m Claims x d p c) o.0 mask))

    pub goes_on : (c : ℕ) → (IsInRow m Claims Keeps [] c ↔ Keeps c)
        × ((ps : List Portal) (p : Portal) → ((b d : ℕ) → ¬ IsGate m b d p) → (IsInRow m Claims Keeps (ps ++ p ∷ []) c ↔ IsInRow m Claims Keeps ps c))
        × ((ps : List Portal) (p : Portal) (b d : ℕ) → IsGate m b d p → (IsInRow m Claims Keeps (ps ++ p ∷ []) c ↔ (IsInRow m Claims Keeps ps c × IsInMask m Claims b d p c)))
    goes_on c = (
      ((λ h. h.keeps), (λ k. row_none c k)),
      (λ ps p none. ((λ h. row_front ps p c h), (λ h. row_same ps p c none h))),
      (λ ps p b d gate. ((λ h. row_behind ps p b d c gate h), (λ h. row_masked ps p b d c gate h.0 h.1))),
    )

pub rows_go_on : RowsGoOn
rows_go_on rank g ts ls cert f c is_map good = goes_on g is_map ts ls good (IsClaimedBlind g cert) (IsOwned rank (IsClaimedBlind g cert) f) c
