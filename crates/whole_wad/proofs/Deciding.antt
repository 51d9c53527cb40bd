-- What is built within a budget, and what is built that decides every pair, as both are told.
use Rattle.std.proofs.Common.{◌≡◌, ℕ, ◌<◌, inl, inr, List, [], length, refl, sym, subst}
use Rattle.math_base.proofs.Lists.{contains_none}
use Rattle.sight_names.specs.declared.names.Ask.{Ask}
use Rattle.sight_names.specs.declared.names.Ask.TheVariants as ask
use Rattle.sight_names.specs.declared.names.Budget.TheVariants.{Full}
use Rattle.sight_names.specs.declared.names.Pair.{Pair}
use Rattle.sight_names.specs.Groups.{AreGroups, IsListedByGroups}
use Rattle.sight_names.specs.Map.{Map}
use Rattle.sight_names.specs.Sees.{Sees}
use Rattle.sight_names.proofs.Laws.{sees_sym}
use Rattle.reject_bits.specs.Parts.{Rejects, TableParts}
use Rattle.cert_format.specs.declared.cert.Sizes.{Sizes}
use Rattle.cert_format.specs.declared.cert_groups.cert.AnyCert.{AnyCert}
use Rattle.cert_format.specs.declared.cert_groups.cert.AnyCert.TheVariants.{One, Two}
use Rattle.cert_format.specs.CertGroups.Grammar.{IsTwoInOrder}
use Rattle.certificates.specs.declared.cert_exact.cert.ExactParts.{ExactParts}
use Rattle.certificates.specs.CertExact.Grammar.{as_two}
use Rattle.certificates.specs.Grammar.{IsThreeInOrder}
use Rattle.group_job.specs.Built.{HasRaysOfFound, HasTreesOfUnspent, OfTwo}
use Rattle.group_job.proofs.Following.{set_or_clear}
use Rattle.gate_floods.specs.Exact.{TellsAll}
use Rattle.whole_wad.specs.Built.{Decides, IsTableSymmetric, ListsWithin, TellsSightButListed}

-- ---- within a budget

pub lists_within : (m : Map) (asked : Ask) (listed : List Pair) (cert : AnyCert) → OfTwo (λ c. AreGroups m c.groups) cert → OfTwo (λ c. c.listed ≡ listed) cert → OfTwo (HasRaysOfFound m asked) cert → OfTwo (HasTreesOfUnspent m asked) cert → OfTwo (ListsWithin m asked listed) cert
lists_within m asked listed (One c) groups same rays trees = absurd groups
lists_within m asked listed (Two c sizes) groups same rays trees = record { groups = groups; same_list = same; rays = rays; trees = trees }

-- ---- every pair

-- without a budget nothing is listed
never_listed : (m : Map) (a b : ℕ) → IsListedByGroups m Full a b → ⊥
never_listed m a b h = h.some.4.spent

module _ (m : Map) (t : TableParts) (sectors : t.n ≡ m.sectors) (tells : TellsAll m t) where
  pub symmetric : IsTableSymmetric t
  symmetric x y lx ly bit = elim (set_or_clear t y x) as (λ _. Rejects t y x) [
    | inl set ↦ set
    | inr clear ↦ absurd (tells.blind x y (low x lx) (low y ly) bit (sees_sym m y x (tells.seen y x (low y ly) (low x lx) clear)))
  ]
    where
      low : (k : ℕ) → k < t.n → k < m.sectors
      low k h = subst (λ (n : ℕ). k < n) sectors h

  pub sight : TellsSightButListed m t []
  sight = record { blind = tells.blind; seen = λ x y lx ly clear first second. tells.seen x y lx ly clear }

  pub decides : Decides m ask.Full t []
  decides = record {
    budget = Full;
    is_budget = refl;
    bits = λ x y lx ly. (λ bit. (tells.blind x y lx ly bit, never_listed m x y), λ h. blind_bit x y lx ly h.0);
    listed_are = λ q. (λ c. absurd (contains_none q c), λ h. absurd (never_listed m q.a q.b h.1));
  }
    where
      blind_bit : (x y : ℕ) → x < m.sectors → y < m.sectors → ¬ Sees m x y → Rejects t x y
      blind_bit x y lx ly unseen = elim (set_or_clear t x y) as (λ _. Rejects t x y) [
        | inl set ↦ set
        | inr clear ↦ absurd (unseen (tells.seen x y lx ly clear))
      ]

pub three_in_order : (c : ExactParts) (sizes : Sizes) → c.sizes ≡ sizes → IsTwoInOrder sizes (as_two c) → length c.trees ≡ length c.groups → IsThreeInOrder c
three_in_order c sizes same two one_each = record { two = subst (λ (s : Sizes). IsTwoInOrder s (as_two c)) (sym same) two; one_each = one_each }
