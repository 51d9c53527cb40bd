use Rattle.std.proofs.Common.{◌≡◌, ◌+◌, ◌++◌, List, ℕ, length, take, drop, sym, ◌∙◌, ap, subst}
use Rattle.cert_checker.proofs.TreeJudge.Noting.{stored}
use Rattle.gate_floods.specs.RowJudge.Masks.{rows_of}
use Rattle.gate_floods.specs.RowJudge.Path.{HasPassed, HasRoomFor}
use Rattle.gate_floods.specs.RowJudge.Words.{both_words, row_in_words}
use Rattle.gate_floods.proofs.RowJudge.Following.{passed_gate}
use Rattle.gate_floods.proofs.row_judge.follow.pass.Goals as goal

pub returns : goal.returns
returns c =
    let ms = rows_of c.args.masks.now in
    let w = ms.width in
    let rows = c.args.rows.now.items in
    let row = c.args.row in
    let mid = c.has_room.new.rows in
    let slice = c.as_mut_slice.result.now in
    let new = c.put_both.new.rows in
    let value : slice ≡ mid.items = c.as_mut_slice.ensures.value in
    let back : take mid.len (new ++ drop (length new) mid.items) ≡ new = stored new _ mid.len (c.put_both.ensures.len ∙ c.as_mut_slice.ensures.len) in
    subst (λ (us : List ℕ). HasPassed ms rows row c.args.edge us (row + w)) (sym back)
    (passed_gate ms rows mid.items new row c.args.edge c.in-Some.place (sym c.in-Some.ensures) (subst (HasRoomFor rows row w mid.items) c.if-not-branch.false c.in_ok-has_room.ensures)
    (c.put_both.ensures.len ∙ ap (λ (us : List ℕ). length us) value) (c.put_both.ensures.kept ∙ ap (take (row + w)) value)
    (c.put_both.ensures.put ∙ ap (λ (us : List ℕ). both_words (row_in_words us w row) c.part-mask.result.now) value ∙ ap (λ (us : List ℕ). both_words (row_in_words mid.items w row) us) c.part-mask.ensures))
