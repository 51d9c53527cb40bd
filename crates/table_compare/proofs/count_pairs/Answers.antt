use Rattle.std.proofs.Common.{◌*◌, ◌∙◌, ℕ, List, length, ap, sym}
use Rattle.std.specs.List.{count_by, range_with_len}
use Rattle.table_compare.specs.Compared.{is_alone}
use Rattle.table_compare.proofs.Places.{counts_pairs, same_length}
use Rattle.table_compare.proofs.count_pairs.Goals as goal

pub count_bits-requires-clause-same : goal.count_bits-requires-clause-same
count_bits-requires-clause-same c = ap (λ (l : List ℕ). length l) c.bytes_of-2.ensures.bytes ∙ same_length c.args.one.now c.args.other.now c.requires c.bytes_of.ensures.whole c.bytes_of-2.ensures.whole ∙ sym (ap (λ (l : List ℕ). length l) c.bytes_of.ensures.bytes)

pub returns : goal.returns
returns c = counts_pairs c.args.one.now c.args.other.now c.requires c.bytes_of.ensures.whole c.count_bits.result
    (c.count_bits.ensures ∙ ap (λ (l : List ℕ). count_by (is_alone l c.bytes_of-2.result.now) (range_with_len 0 (8 * length l))) c.bytes_of.ensures.bytes
    ∙ ap (λ (l : List ℕ). count_by (is_alone c.args.one.now.bytes l) (range_with_len 0 (8 * length c.args.one.now.bytes))) c.bytes_of-2.ensures.bytes)
