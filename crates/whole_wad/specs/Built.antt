-- What is built of a map, by its method.
use Rattle.std.specs.Prelude.{◌≡◌, ◌↔◌, ℕ, ◌<◌, List, [], Contains, Result, Ok, Err, slice_index, ⊤}
use Rattle.sight_names.specs.declared.names.Ask.{Ask}
use Rattle.sight_names.specs.declared.names.Ask.TheVariants.{Enough, Full}
use Rattle.sight_names.specs.declared.names.Budget.{Budget}
use Rattle.sight_names.specs.declared.names.Method.{Method}
use Rattle.sight_names.specs.declared.names.Method.TheVariants as method
use Rattle.sight_names.specs.declared.names.Pair.{Pair}
use Rattle.sight_names.specs.Enough.{IsBudgetOf}
use Rattle.sight_names.specs.Groups.{AreGroups, HasClosedFaces, IsListedByGroups}
use Rattle.sight_names.specs.Map.{Map}
use Rattle.sight_names.specs.Sees.{Sees}
use Rattle.reject_bits.specs.Parts.{IsTableWhole, Rejects, TableParts}
use Rattle.cert_format.specs.declared.cert_groups.cert.AnyCert.{AnyCert}
use Rattle.cert_format.specs.declared.cert_groups.cert.CertTwo.{CertTwo}
use Rattle.certificates.specs.declared.cert_exact.cert.ExactParts.{ExactParts}
use Rattle.certificates.specs.declared.certificate.Certificate.{Certificate}
use Rattle.certificates.specs.declared.certificate.Certificate.TheVariants.{Listing, Exact}
use Rattle.certificates.specs.Grammar.{IsInOrder, sizes_of_certificate}
use Rattle.group_job.specs.Built.{HasRaysOfFound, HasTreesOfUnspent, OfTwo}
use Rattle.gate_floods.specs.Exact.{TellsAll}
use Rattle.any_judge.specs.Accepted.{IsAccepted}
use Rattle.map_answers.specs.declared.sight_status.status.Status.{Status}
use Rattle.map_answers.specs.declared.sight_status.status.Status.TheVariants as status
use Rattle.map_answers.specs.Sound.{IsAuditRefusal}
use Rattle.whole_wad.specs.declared.building.Built.{Built}
use Rattle.whole_wad.specs.Sizes.{sizes_of_map}

-- the budget that is asked for; a build that decides every pair finds what one without a budget finds
abbrev pub ask_of : Method → Ask
ask_of (method.Within ask) = ask
ask_of method.Exact = Full

-- each number is that of a byte
abbrev pub AreBytes : List ℕ → Type 0
AreBytes bytes = (i : ℕ) → slice_index bytes i < 256

-- ---- the table and the list

-- the two bits of a pair are one
abbrev pub IsTableSymmetric : TableParts → Type 0
IsTableSymmetric t = (x y : ℕ) → x < t.n → y < t.n → Rejects t x y → Rejects t y x

-- sectors whose bit is set don't see each other; those whose bit is clear do, unless their pair is listed
pub record TellsSightButListed (m : Map) (t : TableParts) (listed : List Pair) : Type 0 where
  pub blind : (x y : ℕ) → x < m.sectors → y < m.sectors → Rejects t x y → ¬ Sees m x y
  pub seen : (x y : ℕ) → x < m.sectors → y < m.sectors → ¬ Rejects t x y → ¬ Contains listed (record { a = x; b = y }) → ¬ Contains listed (record { a = y; b = x }) → Sees m x y

-- within the budget that is asked for a bit is set exactly where the two sectors neither see each other nor are listed; the listed
-- pairs are just those of which some groups are listed and none are equal or found, the smaller sector first
pub record Decides (m : Map) (ask : Ask) (t : TableParts) (listed : List Pair) : Type 0 where
  pub budget : Budget
  pub is_budget : IsBudgetOf m ask budget
  pub bits : (x y : ℕ) → x < m.sectors → y < m.sectors → Rejects t x y ↔ (¬ Sees m x y × ¬ IsListedByGroups m budget x y)
  pub listed_are : (q : Pair) → Contains listed q ↔ ((q.a < q.b) × IsListedByGroups m budget q.a q.b)

-- ---- the certificate

abbrev pub OfListing : (AnyCert → Type 0) → Certificate → Type 0
OfListing P (Listing c) = P c
OfListing P (Exact c) = ⊥

abbrev pub OfExact : (ExactParts → Type 0) → Certificate → Type 0
OfExact P (Listing c) = ⊥
OfExact P (Exact c) = P c

-- a certificate of version 2 that a build within a budget gives
pub record ListsWithin (m : Map) (ask : Ask) (listed : List Pair) (c : CertTwo) : Type 0 where
  -- its groups are those of the map
  pub groups : AreGroups m c.groups
  pub same_list : c.listed ≡ listed
  -- it has a ray for just the pairs of groups of which one is found from the other
  pub rays : HasRaysOfFound m ask c
  -- each group whose budget isn't spent has its tree, but for those that need none
  pub trees : HasTreesOfUnspent m ask c

-- a build that decides every pair: it lists none, its certificate is of version 3, and a bit is set exactly where two sectors don't
-- see each other
pub record DecidesAll (m : Map) (built : Built) : Type 0 where
  pub cert : OfExact (λ c. AreGroups m c.groups) built.cert
  pub none_listed : built.listed ≡ []
  pub tells : TellsAll m built.table

-- by its method
abbrev pub DecidedBy : Map → Method → Built → Type 0
DecidedBy m (method.Within ask) built = OfListing (OfTwo (ListsWithin m ask built.listed)) built.cert
DecidedBy m method.Exact built = DecidesAll m built

-- ---- all of it

-- what a build of the map gives by this method
pub record IsBuiltOf (m : Map) (by : Method) (built : Built) : Type 0 where
  -- lines meet at ends alone, and each face is closed
  pub fit : HasClosedFaces m
  pub sectors : built.table.n ≡ m.sectors
  -- the table has as many bytes as its sectors ask, and the bits behind the last pair are clear
  pub table_is_whole : IsTableWhole built.table
  pub are_bytes : AreBytes built.table.bytes
  -- the certificate is for a map of these sizes
  pub sizes : sizes_of_certificate built.cert ≡ sizes_of_map m
  pub in_order : IsInOrder built.cert
  -- The certificate is accepted for the table: its triangles are a good mesh, its rays sight rays, and its trees and
  -- each pair keep the rules of its version. So `check` says yes to it.
  pub accepted : IsAccepted m built.table.bytes built.cert
  pub symmetric : IsTableSymmetric built.table
  pub decided : Decides m (ask_of by) built.table built.listed
  -- with a budget that is enough, and without any, no pair is listed
  pub none_listed : ask_of by ≡ Enough → built.listed ≡ []
  pub none_listed_in_full : ask_of by ≡ Full → built.listed ≡ []
  -- sectors whose bit is set don't see each other; those whose bit is clear do, unless their pair is listed
  pub sight : TellsSightButListed m built.table built.listed
  pub by_method : DecidedBy m by built

-- The two have one table, byte for byte, and one list.
pub record HaveOneTable (one other : Built) : Type 0 where
  pub table : one.table ≡ other.table
  pub listed : one.listed ≡ other.listed

-- what was built of the map, or the refusal of its audit
abbrev pub Builds : Map → Method → Result Built Status → Type 0
Builds m by (Ok built) = IsBuiltOf m by built
Builds m by (Err refusal) = IsAuditRefusal m refusal

-- a refusal that building a table can end with
abbrev pub IsOfBuilding : Status → Type 0
IsOfBuilding (status.BadMap flaw) = ⊤
IsOfBuilding (status.Memory _) = ⊤
IsOfBuilding other = ⊥

-- What is built of a map by one method has one table and one list, by how many workers ever; so two builds can differ in the rays
-- and the trees of their certificates alone.
abbrev pub BuildsHaveOneTable : Type 0
BuildsHaveOneTable = (m : Map) (by : Method) (one other : Built) → IsBuiltOf m by one → IsBuiltOf m by other → HaveOneTable one other
