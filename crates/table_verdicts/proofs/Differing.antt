-- How a table at the front of a REJECT differs from the one that is built, in words of sight.
use Rattle.std.proofs.Common.{◌≡◌, ℕ, ◌+◌, ◌*◌, ◌<◌, ◌≤◌, ◌↔◌, inl, inr, List, length, Option, Ok, Err, Contains, refl, sym, ap, ◌∙◌, subst}
use Rattle.math_base.proofs.Lists.{contains_none}
use Rattle.math_base.proofs.Numbers.{place_within}
use Rattle.sight_names.specs.declared.names.Method.TheVariants as method
use Rattle.sight_names.specs.declared.names.Pair.{Pair}
use Rattle.sight_names.specs.Map.{Map}
use Rattle.sight_names.specs.Sees.{Sees}
use Rattle.sight_names.specs.Table.{table_bit}
use Rattle.reject_bits.specs.Parts.{Rejects, TableParts}
use Rattle.table_compare.specs.Compared.{SetsAlone}
use Rattle.table_compare.specs.Counts.{IsCountOf, IsFirstOf}
use Rattle.table_compare.proofs.OneKind.{count_so, first_so}
use Rattle.group_job.proofs.Following.{set_or_clear}
use Rattle.map_answers.specs.declared.sight_status.status.Flaw.TheVariants as flaw
use Rattle.map_answers.specs.declared.sight_status.status.Status.{Status}
use Rattle.map_answers.specs.declared.sight_status.status.Status.TheVariants as status
use Rattle.map_answers.specs.Sound.{IsAuditRefusal}
use Rattle.whole_wad.specs.declared.building.Built.{Built}
use Rattle.whole_wad.specs.Built.{IsBuiltOf}
use Rattle.whole_wad.specs.Rejects.{table_len}
use Rattle.table_verdicts.specs.Own.{IsAtFront}
use Rattle.table_verdicts.specs.Verdict.{IsBitMissing, IsVerdictOrMemory, IsWrong, JudgesReject}

module _ (m : Map) (reject : List ℕ) (own : TableParts) (built : Built) (front : IsAtFront m.sectors reject own) (is : IsBuiltOf m method.Exact built) where
  pub same : built.table.n ≡ own.n
  same = is.sectors ∙ sym front.sectors

  -- ---- the bits of the two

  own_bit : (a b : ℕ) → a < m.sectors → b < m.sectors → table_bit own.bytes (a * own.n + b) ≡ table_bit reject (a * m.sectors + b)
  own_bit a b la lb = ap (λ (n : ℕ). table_bit own.bytes (a * n + b)) front.sectors ∙ front.bits (a * m.sectors + b) (place_within a b m.sectors la lb)

  blind : (a b : ℕ) → a < m.sectors → b < m.sectors → Rejects built.table a b → ¬ Sees m a b
  blind = is.sight.blind

  seen : (a b : ℕ) → a < m.sectors → b < m.sectors → ¬ Rejects built.table a b → Sees m a b
  seen a b la lb clear = is.sight.seen a b la lb clear (unlisted (record { a = a; b = b })) (unlisted (record { a = b; b = a }))
    where
      unlisted : (q : Pair) → Contains built.listed q → ⊥
      unlisted q c = contains_none q (subst (λ (ps : List Pair). Contains ps q) (is.none_listed_in_full refl) c)

  wrong_pairs : (a b : ℕ) → a < m.sectors → b < m.sectors → SetsAlone own built.table a b ↔ IsWrong m reject a b
  wrong_pairs a b la lb = (
    (λ h. (sym (own_bit a b la lb) ∙ h.0, seen a b la lb h.1)),
    (λ h. (own_bit a b la lb ∙ h.0, λ set. blind a b la lb set h.1)),
  )

  missing_pairs : (a b : ℕ) → a < m.sectors → b < m.sectors → SetsAlone built.table own a b ↔ IsBitMissing m reject a b
  missing_pairs a b la lb = (
    (λ h. ((λ set. h.1 (own_bit a b la lb ∙ set)), blind a b la lb h.0)),
    (λ h. (set h.1, λ bit. h.0 (sym (own_bit a b la lb) ∙ bit))),
  )
    where
      set : ¬ Sees m a b → Rejects built.table a b
      set unseen = elim (set_or_clear built.table a b) as (λ _. Rejects built.table a b) [
        | inl bit ↦ bit
        | inr clear ↦ absurd (unseen (seen a b la lb clear))
      ]

  -- ---- their counts, and the first

  pub wrong_counted : (count : ℕ) → IsCountOf own.n (SetsAlone own built.table) count → IsCountOf m.sectors (IsWrong m reject) count
  wrong_counted count h = count_so m.sectors (SetsAlone own built.table) (IsWrong m reject) wrong_pairs count (subst (λ (n : ℕ). IsCountOf n (SetsAlone own built.table) count) front.sectors h)

  pub missing_counted : (count : ℕ) → IsCountOf own.n (SetsAlone built.table own) count → IsCountOf m.sectors (IsBitMissing m reject) count
  missing_counted count h = count_so m.sectors (SetsAlone built.table own) (IsBitMissing m reject) missing_pairs count (subst (λ (n : ℕ). IsCountOf n (SetsAlone built.table own) count) front.sectors h)

  pub first_wrong : (first : Option Pair) → IsFirstOf own.n (SetsAlone own built.table) first → IsFirstOf m.sectors (IsWrong m reject) first
  first_wrong first h = first_so m.sectors (SetsAlone own built.table) (IsWrong m reject) wrong_pairs first (subst (λ (n : ℕ). IsFirstOf n (SetsAlone own built.table) first) front.sectors h)

-- ---- refusals

pub audit_refuses : (m : Map) (reject : List ℕ) (s : Status) → IsAuditRefusal m s → JudgesReject m reject (Err s)
audit_refuses m reject (status.BadMap (flaw.Line fault)) h = h.is
audit_refuses m reject (status.BadMap (flaw.Open side)) h = (h.0.meet, h.1)
audit_refuses m reject (status.Memory _) h = tt
audit_refuses m reject s h = absurd h

pub refused_says : (m : Map) (reject : List ℕ) (s : Status) → table_len m.sectors ≤ length reject → JudgesReject m reject (Err s) → IsVerdictOrMemory (Ok m) reject (Err s)
refused_says m reject (status.Memory _) enough h = tt
refused_says m reject s enough h = record { enough = enough; flaw = h }
