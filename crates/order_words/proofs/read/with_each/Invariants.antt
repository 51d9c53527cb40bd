use Rattle.std.proofs.Common.{◌≡◌, drop, map}
use Rattle.clap.specs.Words.{app_of}
use Rattle.order_words.specs.Command.{with_each}
use Rattle.order_words.proofs.read.with_each.Given as goal

-- what comes of the names that are left is what comes of all
abbrev pub invariant-loop-name : goal.invariant-loop-name
invariant-loop-name l = with_each l.action (map (λ n. n.now) (drop l.name-index l.names)) (app_of l.command) ≡ with_each l.action (map (λ n. n.now) l.names) (app_of l.fn.command)
