-- From what the judge of pairs goes by to the certificate.
use Rattle.std.proofs.Common.{◌≡◌, ℕ, ◌<◌, ◌≤◌, ◌↔◌, [], Some, length, get_or, Contains, sym, subst, arith}
use Rattle.std.specs.List.{slice_get}
use Rattle.std.proofs.lemmas.Option.{slice_get_within, slice_get-get_or}
use Rattle.sight_names.specs.declared.faults.CheckFault.{CheckFault}
use Rattle.sight_names.specs.declared.faults.CheckFault.TheVariants.{Mesh, Ray, Tree as OfTree, ListedSet, Unproved, Uncovered}
use Rattle.sight_names.specs.Groups.{IsInGroup}
use Rattle.cert_format.specs.Accepted.{EitherSet, EitherClear}
use Rattle.cert_checker.specs.AcceptedGroups.Accepted.{AreGroupsJoined, IsGroupedSeen}
use Rattle.cert_checker.specs.declared.verdict.Totals.{Totals}
use Rattle.cert_checker.specs.declared.verdict.Verdict.TheVariants.{Yes, No}
use Rattle.cert_checker.specs.Pairs.{ArePairsFine, AreSomeJoined, AreTotals, IsFirstPairFault}
use Rattle.certificates.specs.declared.cert_exact.cert.ExactParts.{ExactParts}
use Rattle.certificates.specs.CertExact.Grammar.{as_two}
use Rattle.gate_floods.specs.GateMasks.Masks.{IsInRowOf}
use Rattle.exact_checker.specs.Pairs.{KnownParts, IsPairJoined, IsFine, IsFaultAt}
use Rattle.exact_checker.specs.Judged.{IsAbout, IsPairRight, IsExactPairReached, TellsPairsOfThree}
use Rattle.exact_checker.proofs.JoinedRows.{in_joined}

module _ (c : ExactParts) (k : KnownParts) (about : IsAbout c k) where
  in_range : (a f : ℕ) → IsInGroup c.groups a f → f < length c.groups
  in_range a f (at, there, has) = slice_get_within c.groups f at there

  joined_is : (f h : ℕ) → f < length c.groups → h < length c.groups → IsInRowOf k.joined f h ↔ AreGroupsJoined (as_two c).cert f h
  joined_is f h l r = in_joined (length c.groups) (as_two c).cert k.joined about.joined f h l r

  -- the groups of a sector of the table
  groups_at : (a : ℕ) → a < k.table.n → slice_get k.members a ≡ Some (get_or k.members a [])
  groups_at a l = slice_get-get_or k.members a [] (let e = about.members.len in omega (arith, l, e))

  has_group : (a f : ℕ) → a < k.table.n → IsInGroup c.groups a f → Contains (get_or k.members a []) f
  has_group a f l h = (about.members.each a (get_or k.members a []) (groups_at a l) f).1 h

  seen : (a b : ℕ) → IsPairJoined k a b → IsGroupedSeen (as_two c) a b
  seen a b s = by s.joined
    where
      by : AreSomeJoined (IsInRowOf k.joined) s.fs s.gs → IsGroupedSeen (as_two c) a b
      by (f, has_f, (h, has_h, joined)) =
          let in_f = (about.members.each a s.fs s.ones f).0 has_f in
          let in_h = (about.members.each b s.gs s.others h).0 has_h in
          (f, h, in_f, in_h, (joined_is f h (in_range a f in_f) (in_range b h in_h)).0 joined)

  shown : (a b : ℕ) → a < k.table.n → b < k.table.n → IsGroupedSeen (as_two c) a b → IsPairJoined k a b
  shown a b l r (f, h, in_f, in_h, joined) = record {
    fs = get_or k.members a [];
    gs = get_or k.members b [];
    ones = groups_at a l;
    others = groups_at b r;
    joined = (f, has_group a f l in_f, (h, has_group b h r in_h, (joined_is f h (in_range a f in_f) (in_range b h in_h)).1 joined));
  }

  right_of : (a b : ℕ) → a ≤ b → b < k.table.n → IsFine k a b → IsPairRight k.table (as_two c) a b
  right_of a b l r fine = record {
    set = λ s n. fine.set s (shown a b (omega (arith, l, r)) r n);
    clear = λ n. seen a b (fine.clear n);
  }

  pub all_right : (totals : Totals) → ArePairsFine (IsFine k) k.table.n → AreTotals k.table [] k.table.n totals → TellsPairsOfThree k.table (as_two c) (Yes totals)
  all_right totals fine are = ((λ a b l h. right_of a b l h (fine a (omega (arith, l, h)) b h l)), are)

  pub first_wrong : (f : CheckFault) → IsFirstPairFault (IsFine k) (IsFaultAt k) k.table.n f → TellsPairsOfThree k.table (as_two c) (No f)
  first_wrong f first = at f first.row.fault
    where
      reached : IsExactPairReached k.table (as_two c) first.a first.row.b
      reached = record {
        order = first.row.order;
        within = first.row.within;
        row = λ d l h. right_of first.a d l (let w = first.row.within in omega (arith, h, w)) (first.row.before d h l);
        rows = λ d x l h i. right_of d x h i (first.before d l x i h);
      }

      move : (P : ℕ → ℕ → Type 0) (x y : ℕ) → x ≡ first.a → y ≡ first.row.b → P first.a first.row.b → P x y
      move P x y q r h = subst (λ (z : ℕ). P z y) (sym q) (subst (λ (z : ℕ). P first.a z) (sym r) h)

      at : (x : CheckFault) → IsFaultAt k first.a first.row.b x → TellsPairsOfThree k.table (as_two c) (No x)
      at (Unproved x y) h = move (λ a b. IsExactPairReached k.table (as_two c) a b × EitherSet k.table.n k.table.bytes a b × IsGroupedSeen (as_two c) a b) x y h.0 h.1 (reached, h.2, seen first.a first.row.b h.3)
      at (Uncovered x y) h = move (λ a b. IsExactPairReached k.table (as_two c) a b × EitherClear k.table.n k.table.bytes a b × ¬ IsGroupedSeen (as_two c) a b) x y h.0 h.1 (reached, h.2, (λ n. h.3 (shown first.a first.row.b first.within first.row.within n)))
      at (ListedSet x y) h = absurd h
      at (Mesh x) h = absurd h
      at (Ray x y z) h = absurd h
      at (OfTree x y) h = absurd h
