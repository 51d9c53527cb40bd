use Rattle.std.proofs.Common.{◌*◌, ◌+◌, ◌<◌, ◌∙◌, ℕ, List, Some, None, length, ap, sym, subst}
use Rattle.table_compare.proofs.Places.{by_bytes, first_is, is_pairs, none_is, same_length}
use Rattle.table_compare.proofs.first_pair.Goals as goal

pub first_bit-requires-clause-same : goal.first_bit-requires-clause-same
first_bit-requires-clause-same c = ap (λ (l : List ℕ). length l) c.bytes_of-2.ensures.bytes ∙ same_length c.args.one.now c.args.other.now c.requires c.bytes_of.ensures.whole c.bytes_of-2.ensures.whole ∙ sym (ap (λ (l : List ℕ). length l) c.bytes_of.ensures.bytes)

pub pair_at-requires : goal.pair_at-requires
pair_at-requires c =
    let first = by_bytes c.args.one.now c.args.other.now c.bytes_of.result.now c.bytes_of-2.result.now (Some c.in-Some.place) c.bytes_of.ensures.bytes c.bytes_of-2.ensures.bytes c.in-Some.ensures in
    subst (λ (n : ℕ). c.in-Some.place < n * n) (sym c.sectors.ensures) (is_pairs c.args.one.now c.args.other.now c.requires c.bytes_of.ensures.whole c.in-Some.place first)

pub returns-in-Some : goal.returns-in-Some
returns-in-Some c =
    let first = by_bytes c.args.one.now c.args.other.now c.bytes_of.result.now c.bytes_of-2.result.now (Some c.in-Some.place) c.bytes_of.ensures.bytes c.bytes_of-2.ensures.bytes c.in-Some.ensures in
    let pair = c.pair_at.result in
    first_is c.args.one.now c.args.other.now c.requires c.bytes_of.ensures.whole c.in-Some.place pair first
    (subst (λ (n : ℕ). pair.a < n) c.sectors.ensures c.pair_at.ensures.row) (subst (λ (n : ℕ). pair.b < n) c.sectors.ensures c.pair_at.ensures.column)
    (c.pair_at.ensures.place ∙ ap (λ (n : ℕ). pair.a * n + pair.b) c.sectors.ensures)

pub returns-in-None : goal.returns-in-None
returns-in-None c =
    none_is c.args.one.now c.args.other.now c.requires c.bytes_of.ensures.whole
    (by_bytes c.args.one.now c.args.other.now c.bytes_of.result.now c.bytes_of-2.result.now None c.bytes_of.ensures.bytes c.bytes_of-2.ensures.bytes c.in-None.ensures)
