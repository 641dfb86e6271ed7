use Rattle.std.proofs.Common.{rules, codes, Some, option_map, ap, ◌∙◌}
use Rattle.xl_words.specs.Words.{address_of}
use Rattle.xl_words.proofs.WordLaws.{told_address}
use Rattle.xl_words.proofs.words.listen_in.Goals as goal

pub returns-in-Some : goal.returns-in-Some
returns-in-Some c = c.listened.ensures ∙ ap (λ text. option_map Some (address_of text)) c.as_bytes.ensures.value ∙ told_address c.args.words.now (codes "listen") c.in-Some.word.now (search rules)
