use Rattle.std.proofs.Common.{ℕ, List, Option, ap, sym, subst, ◌∙◌}
use Rattle.std.specs.List.{slice_get, prefix_len}
use Rattle.xl_matrix.specs.declared.claim.Claim.{Claim}
use Rattle.xl_table.specs.Pages.{paged, passes, is_met_there}
use Rattle.xl_index.specs.Parted.{IsParted}
use Rattle.xl_table.specs.declared.marks.Mark.TheVariants.{Ending}
use Rattle.xl_table.proofs.TouchLaws.{byte_asked}
use Rattle.xl_table.proofs.touching.has_byte_posix.Goals as goal

pub first_failing-claim-requires-clause-parted : goal.first_failing-claim-requires-clause-parted
first_failing-claim-requires-clause-parted c =
    subst (λ (front : List ℕ). IsParted (passes (Ending c.args.first) front) (paged c.args.pages.now)) (sym c.group_of-front.ensures)
    (byte_asked c.args.file c.args.owner c.args.first c.args.last (paged c.args.pages.now) c.requires.kept c.requires.posix).parted

pub returns : goal.returns
returns c =
    let claims = paged c.args.pages.now in
    c.is_met_there.ensures
    ∙ ap (λ (o : Option Claim). is_met_there c.args.file c.args.owner c.args.first c.args.last o)
    (c.first_failing-claim.ensures ∙ ap (λ (front : List ℕ). slice_get claims (prefix_len (passes (Ending c.args.first) front) claims)) c.group_of-front.ensures)
    ∙ (byte_asked c.args.file c.args.owner c.args.first c.args.last claims c.requires.kept c.requires.posix).answer
