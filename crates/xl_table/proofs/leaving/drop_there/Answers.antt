use Rattle.std.proofs.Common.{◌≡◌, not, List, sym, subst}
use Rattle.std.specs.List.{filter}
use Rattle.xl_index.specs.Index.{Has, HasLeft}
use Rattle.xl_matrix.specs.declared.claim.Claim.{Claim}
use Rattle.xl_table.specs.Leaving.{goes}
use Rattle.xl_table.specs.Pages.{paged}
use Rattle.xl_table.specs.declared.leaver.Leaver.{Leaver}
use Rattle.xl_table.proofs.leaving.drop_there.Goals as goal

pub leave_file-requires : goal.leave_file-requires
leave_file-requires c = subst (λ (ps : List (List Claim)). Has c.args.index.now (filter (goes c.args.leaver) (paged ps))) (sym c.as_slice.ensures.value) c.requires.has

pub returns-in-Party-clause-index : goal.returns-in-Party-clause-index
returns-in-Party-clause-index c = subst (λ (ps : List (List Claim)). HasLeft c.args.index.now c.leave_file.new.index (filter (goes c.args.leaver) (paged ps))) c.as_slice.ensures.value c.leave_file.ensures

pub drop_open_there-requires-clause-has : goal.drop_open_there-requires-clause-has
drop_open_there-requires-clause-has c = subst (λ (who : Leaver). Has c.args.index.now (filter (goes who) (paged c.args.pages.now.items))) c.in-Open.is c.requires.has

pub returns-in-Open-clause-claims : goal.returns-in-Open-clause-claims
returns-in-Open-clause-claims c = subst (λ (who : Leaver). paged c.drop_open_there.new.pages.items ≡ filter (λ x. not (goes who x)) (paged c.args.pages.now.items)) (sym c.in-Open.is) c.drop_open_there.ensures.claims

pub returns-in-Open-clause-index : goal.returns-in-Open-clause-index
returns-in-Open-clause-index c = subst (λ (who : Leaver). HasLeft c.args.index.now c.drop_open_there.new.index (filter (goes who) (paged c.args.pages.now.items))) (sym c.in-Open.is) c.drop_open_there.ensures.index
