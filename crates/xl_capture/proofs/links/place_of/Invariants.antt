use Rattle.std.proofs.Common.{◌≡◌, ◌++◌, take, drop}
use Rattle.xl_capture.specs.Links.{link_of, without}
use Rattle.xl_capture.proofs.links.place_of.Given as goal

abbrev pub invariant-links : goal.invariant-links
invariant-links l = (link_of l.conn l.links ≡ link_of l.conn (drop l.i l.links)) × (without l.conn l.links ≡ take l.i l.links ++ without l.conn (drop l.i l.links))
