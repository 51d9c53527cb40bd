use Rattle.std.proofs.Common.{ℕ, ◌*◌, min, get_or, bit_or, refl, ◌∙◌, ap}
use Rattle.exact_checker.specs.Owning.{owning_of}
use Rattle.exact_checker.proofs.Owned.{behind_is}
use Rattle.exact_checker.proofs.owning.behind_word.Goals as goal

pub returns : goal.returns
returns c = behind_is (owning_of c.args.known) c.args.source (64 * c.args.place) c.min-end.result c.min-middle.result c.from-rank.result (get_or c.args.known.components.now c.args.source 0) c.ranking_from-smaller.result c.ranking_from-greater.result
    (bit_or c.ranking_from-smaller.result c.ranking_from-greater.result) (c.min-middle.ensures ∙ ap (λ (x : ℕ). min x c.min-end.result) c.max-begin.ensures) c.min-end.ensures c.from-rank.ensures refl c.ranking_from-smaller.ensures c.ranking_from-greater.ensures refl
