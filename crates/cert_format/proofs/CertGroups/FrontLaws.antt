-- What comes before the parts of version 2: what is read is spelled so and in order.
use Rattle.std.proofs.Common.{◌≡◌, ℕ, ◌≤◌, List, ◌++◌, length, Some, None, Ok, sym, ap, subst}
use Rattle.std.specs.List.{flat_map}
use Rattle.block_evidence.specs.SightTree.Spelling.{u16}
use Rattle.cert_format.specs.declared.cert.Sizes.{Sizes}
use Rattle.cert_format.specs.Reading.{RecordCounts}
use Rattle.cert_format.proofs.FieldLaws.{IsBytes, bind_ok, ok_is, Takes, Takes-then}
use Rattle.cert_format.proofs.RecordLaws.{records_take, ascends_of_chain}
use Rattle.cert_format.proofs.WholeLaws.{FitCounts, count_bytes, counts_take}
use Rattle.cert_format.specs.declared.cert_groups.cert.FrontTwo.{FrontTwo}
use Rattle.cert_format.specs.CertGroups.Grammar.{IsGroupInOrder, AreGroupsInOrder, grouped_sizes, group_bytes}
use Rattle.cert_format.specs.CertGroups.Reading.{group_at, front_two_at}
use Rattle.cert_format.proofs.CertGroups.GroupOrder.{GroupAfter, before_carries}
use Rattle.cert_format.proofs.CertGroups.GroupLaws.{sizes_take, group_count_takes, group_takes}
use Rattle.sight_names.specs.Limits.{most_triangles}

abbrev pub counts_in : FrontTwo → RecordCounts
counts_in f = record { triangles = f.counts.triangles; rays = f.counts.rays; listed = f.counts.listed; trees = f.counts.trees }

abbrev pub head_bytes : Sizes → List (List ℕ) → List ℕ
head_bytes sizes groups = u16 sizes.sectors ++ u16 sizes.points ++ u16 sizes.lines ++ u16 (length groups)

pub record IsFrontTaken (sizes : Sizes) (bytes : List ℕ) (f : FrontTwo) (rest : List ℕ) : Type 0 where
  pub takes : Takes bytes (head_bytes sizes f.groups ++ count_bytes (counts_in f) ++ flat_map group_bytes f.groups) rest
  pub own : f.sizes ≡ grouped_sizes sizes f.groups
  pub counts : FitCounts sizes.points (counts_in f)
  pub in_order : AreGroupsInOrder sizes f.groups

abbrev with_sectors : Sizes → ℕ → Sizes
with_sectors sizes n = record { sectors = n; points = sizes.points; lines = sizes.lines }

pub front_takes : (sizes : Sizes) (total : ℕ) (bytes : List ℕ) (x : FrontTwo × List ℕ) → IsBytes bytes → front_two_at sizes total bytes ≡ Ok x → IsFrontTaken sizes bytes x.0 x.1
unfolding front_two_at
front_takes sizes total bytes x fits e =
    let f = bind_ok _ _ x e in
    let n = bind_ok _ _ x f.2 in
    let k = bind_ok _ _ x n.2 in
    let g = bind_ok _ _ x k.2 in
    let own : Sizes = record { sectors = n.0.0; points = sizes.points; lines = sizes.lines } in
    let made : FrontTwo = record {
      sizes = own;
      groups = g.0.0;
      counts = record { triangles = k.0.0.triangles; rays = k.0.0.rays; listed = k.0.0.listed; trees = k.0.0.trees };
    } in
    let both : FrontTwo × List ℕ = (made, g.0.1) in
    let tf = sizes_take sizes total bytes f.0 fits f.1 in
    let tn = group_count_takes sizes.points total f.0 n.0 tf.rest_fits n.1 in
    let tk = counts_take sizes.points total n.0.1 k.0 tn.0.rest_fits k.1 in
    let tg = records_take (group_at sizes.sectors total) (λ x. Some x) group_bytes (IsGroupInOrder sizes.sectors) GroupAfter (group_takes sizes.sectors total) n.0.0 None k.0.1 g.0 tk.0.rest_fits g.1 in
    let numbered : Takes f.0 (u16 (length g.0.0)) n.0.1 = subst (λ (j : ℕ). Takes f.0 (u16 j) n.0.1) (sym tg.count) tn.0 in
    let e0 = Takes-then bytes (u16 sizes.sectors ++ u16 sizes.points ++ u16 sizes.lines) f.0 (u16 (length g.0.0)) n.0.1 tf numbered in
    let e1 = Takes-then bytes (head_bytes sizes g.0.0) n.0.1 (count_bytes k.0.0) k.0.1 e0 tk.0 in
    let e2 = Takes-then bytes (head_bytes sizes g.0.0 ++ count_bytes k.0.0) k.0.1 (flat_map group_bytes g.0.0) g.0.1 e1 tg.takes in
    let is : IsFrontTaken sizes bytes made g.0.1 = record {
      takes = e2;
      own = ap (λ (j : ℕ). with_sectors sizes j) (sym tg.count);
      counts = tk.1;
      in_order = record {
        few = subst (λ (j : ℕ). j ≤ most_triangles sizes.points) (sym tg.count) tn.1;
        each = tg.fit;
        ascend = ascends_of_chain (group_at sizes.sectors total) (λ x. Some x) group_bytes (IsGroupInOrder sizes.sectors) GroupAfter before_carries None g.0.0 tg.chain;
      };
    } in
    subst (λ (y : FrontTwo × List ℕ). IsFrontTaken sizes bytes y.0 y.1) {x = both} (ok_is both x g.2) is
