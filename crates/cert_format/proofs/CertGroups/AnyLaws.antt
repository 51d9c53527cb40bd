-- The two laws of the grammar of versions 1 and 2: what is read is spelled so, and what is spelled so is read.
use Rattle.std.proofs.Common.{◌≡◌, ℕ, ◌<◌, ◌^◌, ◌==◌, if◌then◌else◌, inl, inr, List, ◌++◌, length, Result, Ok, Err, IfOk, refl, sym, ap, subst, ◌∙◌, arith, codes}
use Rattle.std.specs.List.{flat_map}
use Rattle.sight_names.specs.declared.faults.CertFault.{CertFault}
use Rattle.block_evidence.specs.SightTree.Spelling.{u16}
use Rattle.cert_format.specs.declared.cert.Sizes.{Sizes}
use Rattle.cert_format.specs.Parts.{CertParts}
use Rattle.cert_format.specs.Grammar.{AreSmall, SpellsOne, triangle_bytes, ray_bytes, pair_bytes, tree_bytes, count_bytes}
use Rattle.cert_format.specs.Grammar as one
use Rattle.cert_format.specs.Reading.{GivesCert, reading}
use Rattle.cert_format.proofs.FieldLaws.{IsBytes, bind_ok, ok_is}
use Rattle.cert_format.proofs.WholeLaws.{reading_takes, spells_again}
use Rattle.cert_format.specs.declared.cert_groups.cert.CertTwo.{CertTwo}
use Rattle.cert_format.specs.declared.cert_groups.cert.AnyCert.{AnyCert}
use Rattle.cert_format.specs.declared.cert_groups.cert.AnyCert.TheVariants.{One, Two}
use Rattle.cert_format.specs.CertGroups.Grammar.{spelling, IsTwoInOrder, IsAnyInOrder, SpellsTwo, SpellsAny}
use Rattle.cert_format.specs.CertGroups.Reading.{version_at, parts_at, cert_two_of, two_at, one_read, two_read, any_at}
use Rattle.cert_format.proofs.CertGroups.GroupLaws.{version_takes, version_again}
use Rattle.cert_format.proofs.CertGroups.PartLaws.{tail_bytes, parts_take, parts_again, cert_of_parts}

one_takes : (sizes : Sizes) (bytes : List ℕ) (c : AnyCert) → AreSmall sizes → IsBytes bytes → one_read sizes bytes ≡ Ok c → SpellsAny sizes bytes c
one_takes sizes bytes c small fits e =
    let d = bind_ok (reading sizes bytes) (λ c. Ok (One c)) c e in
    subst (λ (y : AnyCert). SpellsAny sizes bytes y) {x = One d.0} (ok_is (One d.0) c d.2) (reading_takes sizes bytes d.0 small fits d.1)

two_takes : (sizes : Sizes) (bytes rest : List ℕ) (c : AnyCert) → AreSmall sizes → IsBytes rest → bytes ≡ (codes "DSCT" ++ u16 2) ++ rest → two_read sizes (length bytes) rest ≡ Ok c → SpellsAny sizes bytes c
unfolding spelling
two_takes sizes bytes rest c small fits front e =
    let d = bind_ok (two_at sizes (length bytes) rest) (λ c. Ok (Two c sizes)) c e in
    let p = bind_ok (parts_at sizes (length bytes) rest) (λ p. Ok (cert_two_of p)) d.0 d.1 in
    let t = parts_take sizes (length bytes) rest p.0 small fits p.1 in
    let whole : SpellsTwo sizes bytes (cert_two_of p.0) = record { in_order = t.in_order; fits = t.fits; sectors = small.sectors; spelled = front ∙ ap (λ (r : List ℕ). (codes "DSCT" ++ u16 2) ++ r) t.spelled } in
    let same : SpellsTwo sizes bytes d.0 = subst (λ (y : CertTwo). SpellsTwo sizes bytes y) {x = cert_two_of p.0} (ok_is (cert_two_of p.0) d.0 p.2) whole in
    subst (λ (y : AnyCert). SpellsAny sizes bytes y) {x = Two d.0 sizes} (ok_is (Two d.0 sizes) c d.2) (refl, same)

pub any_takes : (sizes : Sizes) (bytes : List ℕ) (c : AnyCert) → AreSmall sizes → IsBytes bytes → any_at sizes bytes ≡ Ok c → SpellsAny sizes bytes c
unfolding any_at
any_takes sizes bytes c small fits e =
    let v = bind_ok (version_at (length bytes) bytes) (λ version. if version.0 == 1 then one_read sizes bytes else two_read sizes (length bytes) version.1) c e in
    let tv = version_takes (length bytes) bytes v.0 fits v.1 in
    let said : ℕ → Result AnyCert CertFault = λ k. if k == 1 then one_read sizes bytes else two_read sizes (length bytes) v.0.1 in
    elim tv.1 [
      | inl h ↦ one_takes sizes bytes c small fits (subst (λ (k : ℕ). said k ≡ Ok c) h v.2)
      | inr h ↦ two_takes sizes bytes v.0.1 c small tv.0.rest_fits (tv.0.parts ∙ ap (λ (k : ℕ). (codes "DSCT" ++ u16 k) ++ v.0.1) h) (subst (λ (k : ℕ). said k ≡ Ok c) h v.2)
    ]

-- the spelling of version 1 without its first two fields
abbrev one_tail : CertParts → List ℕ
one_tail c = u16 c.sizes.sectors ++ u16 c.sizes.points ++ u16 c.sizes.lines ++ count_bytes (length c.triangles) (length c.rays) (length c.listed) (length c.trees)
    ++ flat_map triangle_bytes c.triangles ++ flat_map ray_bytes c.rays ++ flat_map pair_bytes c.listed ++ flat_map tree_bytes c.trees

one_parts : (c : CertParts) → one.spelling c ≡ codes "DSCT" ++ (u16 1 ++ one_tail c)
unfolding one.spelling
one_parts c = refl

two_parts : (sizes : Sizes) (c : CertTwo) → spelling sizes c ≡ codes "DSCT" ++ (u16 2 ++ tail_bytes sizes c)
unfolding spelling
two_parts sizes c = refl

one_again : (sizes : Sizes) (bytes : List ℕ) (c : CertParts) → SpellsOne sizes bytes c → any_at sizes bytes ≡ Ok (One c)
unfolding any_at
one_again sizes bytes c s =
    let front : version_at (length bytes) bytes ≡ Ok (1, one_tail c) = ap (version_at (length bytes)) (s.spelled ∙ one_parts c) ∙ version_again (length bytes) 1 (one_tail c) (omega arith) refl in
    rw (front, spells_again sizes bytes c s) refl

two_again : (sizes : Sizes) (bytes : List ℕ) (c : CertTwo) → SpellsTwo sizes bytes c → any_at sizes bytes ≡ Ok (Two c sizes)
unfolding any_at
two_again sizes bytes c s =
    let is = s.in_order in
    let small : AreSmall sizes = record { sectors = s.sectors; points = subst (λ (z : Sizes). z.points < 2 ^ 16) is.grouped s.fits.points; lines = subst (λ (z : Sizes). z.lines < 2 ^ 16) is.grouped s.fits.lines } in
    let front : version_at (length bytes) bytes ≡ Ok (2, tail_bytes sizes c) = ap (version_at (length bytes)) (s.spelled ∙ two_parts sizes c) ∙ version_again (length bytes) 2 (tail_bytes sizes c) (omega arith) refl in
    rw (front, parts_again sizes (length bytes) c small is s.fits) (ap (λ (d : CertTwo). made d) (cert_of_parts sizes c is))
  where
    made : CertTwo → Result AnyCert CertFault
    made d = Ok (Two d sizes)

pub any_again : (sizes : Sizes) (bytes : List ℕ) (c : AnyCert) → SpellsAny sizes bytes c → any_at sizes bytes ≡ Ok c
any_again sizes bytes (One c) s = one_again sizes bytes c s
any_again sizes bytes (Two c own) s = two_again sizes bytes c s.1 ∙ ap made (sym s.0)
  where
    made : Sizes → Result AnyCert CertFault
    made z = Ok (Two c z)

-- ---- what the call answers

pub found_of : (sizes : Sizes) (bytes : List ℕ) (r : Result AnyCert CertFault) → AreSmall sizes → IsBytes bytes → GivesCert (λ c. c) r (any_at sizes bytes) → IfOk r (λ c. SpellsAny sizes bytes c)
found_of sizes bytes (Ok c) small fits h = any_takes sizes bytes c small fits h
found_of sizes bytes (Err e) small fits h = tt

pub only_of : (sizes : Sizes) (bytes : List ℕ) (r : Result AnyCert CertFault) (c : AnyCert) → GivesCert (λ d. d) r (any_at sizes bytes) → SpellsAny sizes bytes c → GivesCert (λ d. d) r (Ok c)
only_of sizes bytes r c h s = subst (λ (x : Result AnyCert CertFault). GivesCert (λ d. d) r x) (any_again sizes bytes c s) h

pub in_order_of : (sizes : Sizes) (bytes : List ℕ) (r : Result AnyCert CertFault) → IfOk r (λ c. SpellsAny sizes bytes c) → IfOk r (λ c. IsAnyInOrder c)
in_order_of sizes bytes (Ok (One c)) h = tt
in_order_of sizes bytes (Ok (Two c own)) h = subst (λ (z : Sizes). IsTwoInOrder z c) (sym h.0) h.1.in_order
in_order_of sizes bytes (Err e) h = tt
