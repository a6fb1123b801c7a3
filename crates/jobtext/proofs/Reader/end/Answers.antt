-- `end` meets its contract: the text is over, or has a word too many.
use Rattle.tokens.proofs.Taking.{took_word, took_end}
use Rattle.jobtext.proofs.Reading.{ends_there, ends_not}
use Rattle.jobtext.proofs.Reader.end.Goals as goal

pub returns-in-Ok : goal.returns-in-Ok
returns-in-Ok c = ends_not (took_word _ _ c.in-Ok.is c.take_word.ensures).3

pub returns-in-Err : goal.returns-in-Err
returns-in-Err c = ends_there (took_end _ _ c.in-Err.is c.take_word.ensures)
