use Rattle.std.proofs.Common.{◌≡◌, ℕ, ◌<◌, ◌≤◌, ◌∙◌, arith}
use Rattle.std.proofs.lemmas.Bool.{eqb-true}
use Rattle.reject_bits.specs.Parts.{Rejects}
use Rattle.cert_checker.specs.BlindRows.{IsNoneListed}
use Rattle.cert_checker.proofs.BlindRows.{plain_count, plain_fine, plain_place}
use Rattle.cert_checker.proofs.blind_rows.is_row_plain.Goals as goal

pub returns : goal.returns
returns g c = λ same.
    let t = c.args.table.now in
    let all : c.next_clear.result ≡ t.n = eqb-true _ _ same ∙ c.sectors.ensures in
    let row : (b : ℕ) → c.args.a ≤ b → b < t.n → Rejects t c.args.a b = λ b l h. c.next_clear.ensures.set b l (omega (arith, h, all)) in
    let none : IsNoneListed c.args.listed.now c.args.a = c.is_none_listed.ensures c.if-not-is_none_listed.false in
    let seen = c.sees_none.ensures in
    let blind = c.if-not-sees_none.false in
    record {
      fine_row = plain_fine t c.args.a row c.args.listed.now (g.R.PairRules.can_judge c.args.rules.now) (g.R.PairRules.is_fine c.args.rules.now) c.requires.from c.requires.rules
          (λ b l h. c.requires.columns c.args.a b (seen.blind.0 blind) c.if-a-before.false l h) none (seen.fine blind);
      set = plain_count t c.args.a row;
      place = plain_place c.args.listed.now c.args.a c.args.passed c.requires.place t.n c.requires.listed none;
    }
