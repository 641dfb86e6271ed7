use Rattle.xl_table.specs.Files.{joined}
use Rattle.xl_table.specs.Pages.{paged}
use Rattle.xl_table.proofs.GrantLaws.{kept_here}
use Rattle.xl_table.proofs.touching.has_byte.Goals as goal

pub has_byte_posix-requires-clause-kept : goal.has_byte_posix-requires-clause-kept
has_byte_posix-requires-clause-kept c = kept_here c.args.file (joined c.args.lists.now) (paged c.on_file-pages.result.now) c.requires.kept c.on_file-pages.ensures.claims
