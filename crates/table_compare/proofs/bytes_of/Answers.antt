use Rattle.std.proofs.Common.{◌<◌, ◌^◌, ℕ, List, length, subst, sym}
use Rattle.table_compare.proofs.Places.{short}
use Rattle.table_compare.proofs.bytes_of.Goals as goal

pub returns-clause-short : goal.returns-clause-short
returns-clause-short c =
    let few = subst (λ (n : ℕ). n < 65536) c.sectors-sectors.ensures c.sectors-sectors.type_inv in
    subst (λ (bs : List ℕ). length bs < 2 ^ 32) (sym c.as_bytes.ensures.bytes) (short c.args.table.now.n c.args.table.now.bytes few c.as_bytes.ensures.whole.len)
