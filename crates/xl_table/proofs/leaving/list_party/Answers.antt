use Rattle.xl_table.specs.Files.{joined}
use Rattle.xl_table.proofs.LeavingLaws.{listed_first, listed_more, listed_done}
use Rattle.xl_table.proofs.leaving.list_party.Goals as goal

pub files-init : goal.files-init
files-init c = listed_first c.args.party (joined c.args.lists.now) c.new-found.result.items c.new-found.ensures.items

pub files-preserved : goal.files-preserved
files-preserved c =
    let held = joined c.args.lists.now in
    listed_more c.args.party c.who_of-who.result c.files.past c.in-Some.file held c.files.found.items c.push_party_in.new.found.items _ c.requires.ordered c.who_of-who.ensures c.files.invariant
    (c.in-Some.ensures held c.requires.index) c.on_file.ensures.claims c.in_ok-push_party_in.ensures

pub returns : goal.returns
returns c =
    let held = joined c.args.lists.now in
    listed_done c.args.party c.who_of-who.result c.files.past held c.files.found.items c.who_of-who.ensures c.files.invariant (c.in_default.ensures held c.requires.index)
