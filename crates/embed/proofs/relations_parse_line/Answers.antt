-- The line that the parser answers is the text's.
use mathlib.Core.Path.{◌∙◌}
use borrow.Author.Rules.{rules}
use Rattle.embed.proofs.Parsing.{line_chosen, line_told}
use Rattle.embed.proofs.relations_parse_line.Goals as goal

pub returns : goal.returns
returns c =
    line_chosen c.parse.result _ (λ x h. search rules) (λ e h. search rules) c.map_or_else.ensures ∙ line_told _ c.parse.result _ _ _ _ c.parse.ensures
