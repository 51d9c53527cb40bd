use Rattle.std.proofs.Common.{◌≡◌, ◌-◌, ◌<◌, ◌≤◌, ◌++◌, ◌∙◌, inl, inr, sym, ap, take, drop, length, rules, arith, List, ℕ}
use Rattle.std.proofs.lemmas.Bool.{cases_lt}
use Rattle.cert_format.proofs.CertGroups.PieceLaws.{front_ended, both_gave, take_both, drop_both}
use Rattle.certificates.specs.CertExact.Pieces.{front_left, trees_left}
use Rattle.certificates.proofs.cert_exact.printer.ExactPrinter.next.Goals as goal

pub returns-clause-given : goal.returns-clause-given
returns-clause-given c =
    let g = c.fill-given.result in
    let m = c.fill-more.result in
    let buf = c.fill-given.new.buf in
    let sub = c.fill-more.new.buf in
    let same : length buf ≡ length c.args.buf.now = search rules in
    let lt : g < length c.args.buf.now = elim (cases_lt g (length c.args.buf.now)) [ inl h ↦ h | inr le ↦ absurd (c.if-given-buf.false (omega (arith, le, c.fill-given.ensures.filled, same))) ] in
    let long : m ≤ length sub = search rules in
    let ended = front_ended g (length c.args.buf.now) buf (front_left c.self.inside.front) (front_left c.fill-given.new.self) c.fill-given.ensures.given c.fill-given.ensures.filled lt (omega (arith, same)) in
    sym c.self.view_is
    ∙ both_gave (take g buf) (front_left c.self.inside.front) (front_left c.fill-given.new.self) (trees_left c.self.inside.trees) (take m sub) (trees_left c.fill-more.new.self) c.fill-given.ensures.given ended c.fill-more.ensures.given
    ∙ ap (λ (t : List ℕ). t ++ (front_left c.fill-given.new.self ++ trees_left c.fill-more.new.self)) (sym (take_both g m buf sub (drop (length buf - g) (drop g buf)) (omega (arith, lt, same)) long))

pub returns-clause-others : goal.returns-clause-others
returns-clause-others c =
    let g = c.fill-given.result in
    let m = c.fill-more.result in
    let buf = c.fill-given.new.buf in
    let sub = c.fill-more.new.buf in
    let same : length buf ≡ length c.args.buf.now = search rules in
    let fits : g ≤ length buf = omega (arith, c.fill-given.ensures.filled, same) in
    let long : m ≤ length sub = search rules in
    let long_old : m ≤ length (take (length buf - g) (drop g buf)) = omega (arith, c.fill-more.ensures.filled) in
    drop_both g m (length buf - g) c.args.buf.now buf sub fits long long_old c.fill-more.ensures.others c.fill-given.ensures.others
