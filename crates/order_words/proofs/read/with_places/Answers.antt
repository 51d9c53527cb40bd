use Rattle.std.proofs.Common.{ap₂, ◌∙◌, ◌≡◌, refl}
use Rattle.std.proofs.lemmas.Result.{IfOk-weaker}
use Rattle.clap.specs.Words.{app_of, with_rule}
use Rattle.order_words.specs.Command.{verb_rule}
use Rattle.order_words.proofs.read.with_places.Goals as goal

pub returns : goal.returns
returns c =
    let first : app_of c.in_ok-command.command ≡ with_rule (app_of c.args.command) verb_rule = c.in_ok-command.ensures ∙ ap₂ with_rule refl c.verb.ensures.rule in
    IfOk-weaker c.with_arg-2.result _ _ (λ m h. h ∙ ap₂ with_rule first c.rest.ensures.rule) c.with_arg-2.ensures
