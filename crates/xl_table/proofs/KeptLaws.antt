-- What a table keeps when a claim is put in, changed or taken out.
use Rattle.std.proofs.Common.{◌≡◌, ◌<◌, ◌≤◌, true, List, [], length, arith}
use Rattle.xl_base.specs.Lists.{IsIn}
use Rattle.xl_matrix.specs.declared.claim.What.{What}
use Rattle.xl_matrix.specs.declared.claim.Claim.{Claim}
use Rattle.xl_table.specs.Order.{goes_first}
use Rattle.xl_table.specs.Flat.{inserted, removed, changed, with_what}
use Rattle.xl_table.specs.declared.change.Change.{Change}
use Rattle.xl_table.specs.Changes.{written, MayBeWritten}
use Rattle.xl_table.specs.Held.{is_real, has_one_party, IsSound, IsKept}
use Rattle.xl_table.proofs.FlatLaws.{removed_shorter, length_removed, all_removed, pairwise_removed, length_inserted}
use Rattle.xl_table.proofs.OrderLaws.{inserted_ordered}
use Rattle.xl_table.proofs.SpanLaws.{canonical_removed}

pub sound_removed : (claim : Claim) (held : List Claim) → IsSound held → IsSound (removed claim held)
sound_removed claim held is = record {
  real = all_removed (λ c. is_real c ≡ true) claim held is.real;
  parties = pairwise_removed has_one_party claim held is.parties;
  canonical = λ file owner p. canonical_removed file owner claim held (is.canonical file owner p);
}

pub kept_removed : (claim : Claim) (held : List Claim) → IsKept held → IsKept (removed claim held)
kept_removed claim held is = record {
  sound = sound_removed claim held is.sound;
  ordered = pairwise_removed goes_first claim held is.ordered;
  room = omega (arith, is.room, length_removed claim held);
}

pub kept_inserted : (claim : Claim) (held : List Claim) → IsKept held → IsSound (inserted claim held) → length held < 16384 → IsKept (inserted claim held)
kept_inserted claim held is sound room = record {
  sound = sound;
  ordered = inserted_ordered claim held is.ordered;
  room = omega (arith, length_inserted claim held);
}

pub kept_changed : (claim : Claim) (to : What) (held : List Claim) → IsKept held → IsIn claim held → IsSound (changed claim to held) → IsKept (changed claim to held)
unfolding changed
kept_changed claim to held is held_one sound = record {
  sound = sound;
  ordered = inserted_ordered (with_what claim to) (removed claim held) (pairwise_removed goes_first claim held is.ordered);
  room = omega (arith, is.room, length_inserted (with_what claim to) (removed claim held), removed_shorter claim held held_one);
}

pub kept_empty : IsKept []
kept_empty = record { sound = record { real = tt; parties = tt; canonical = λ file owner p. tt }; ordered = tt; room = omega arith }

-- a change is written where there is room for what it leaves
pub kept_written : (change : Change) (held : List Claim) → MayBeWritten change held → change.held ≤ 16384 → IsKept (written change held)
kept_written change held fits room = record { sound = fits.sound; ordered = fits.ordered; room = omega (arith, room, fits.count) }
