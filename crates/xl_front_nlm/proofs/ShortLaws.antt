-- What is told of a call has a spelling.
use Rattle.std.proofs.Common.{◌≡◌, ℕ, zero, suc, List, [], ◌∷◌, slice_get, Some, refl, arith}
use Rattle.xl_base.specs.declared.name.Owner.{Owner}
use Rattle.xl_base.specs.declared.name.Owner.TheVariants as owners
use Rattle.xl_names.specs.declared.name.Name.{Name}
use Rattle.xl_names.specs.declared.name.Name.TheVariants.{NlmRange, NlmShare, NlmParty, NfsRange, NfsShare, NfsParty, SmbLease}
use Rattle.xl_format.specs.Formats.{chosen_part}
use Rattle.xl_nlm.specs.Arguments.{TextFits}
use Rattle.xl_nlm.specs.Replies.{holder, is_denied}
use Rattle.xl_core.specs.declared.ask.Answer.TheVariants as answers
use Rattle.xl_front_nlm.specs.Results.{parts_by, owner_parts, status_of, test_holder, IsTestOutcome}
use Rattle.xl_front_nlm.specs.Short.{IsShort, AreShort}
use Rattle.xl_front_nlm.specs.declared.outcome.Outcome.{Outcome}
use Rattle.xl_front_nlm.specs.declared.outcome.Outcome.TheVariants.{NoFile, TooBig, Waits, NotWaiting, Answered, Ended, Nothing}

parts_short : (name : Name) → IsShort name → TextFits (parts_by (Some name)).1
parts_short (NlmRange caller svid oh) short = short.1
parts_short (NlmShare caller oh) short = omega arith
parts_short (NlmParty caller) short = omega arith
parts_short (NfsRange client owner) short = omega arith
parts_short (NfsShare client owner) short = omega arith
parts_short (NfsParty client) short = omega arith
parts_short (SmbLease guid key) short = omega arith

name_short : (names : List Name) (n : ℕ) → AreShort names → TextFits (parts_by (slice_get names n)).1
name_short [] n short = omega arith
name_short (name ∷ names) zero short = parts_short name short.0
name_short (name ∷ names) (suc n) short = name_short names n short.1

pub owner_short : (names : List Name) (o : Owner) → AreShort names → TextFits (owner_parts names o).1
owner_short names (owners.Name protocol number) short = name_short names number short
owner_short names (owners.Open number) short = omega arith

-- a holder is told just where the status is Denied
pub told_as_denied : (names : List Name) (outcome : Outcome) → IsTestOutcome outcome → (chosen_part holder (test_holder names outcome)).key ≡ is_denied (status_of outcome)
told_as_denied names NoFile of = refl
told_as_denied names TooBig of = refl
told_as_denied names (Answered (answers.Granted c)) of = refl
told_as_denied names (Answered (answers.Conflict c)) of = refl
told_as_denied names (Answered (answers.Grace until)) of = refl
told_as_denied names (Answered (answers.NoGrace clock)) of = absurd of
told_as_denied names (Answered (answers.Queued number)) of = absurd of
told_as_denied names (Answered (answers.Full limit)) of = absurd of
told_as_denied names (Answered (answers.Recall c)) of = absurd of
told_as_denied names (Answered answers.NotRecorded) of = absurd of
told_as_denied names (Answered answers.NotHeld) of = absurd of
told_as_denied names (Answered answers.StoreFailed) of = absurd of
told_as_denied names Waits of = absurd of
told_as_denied names NotWaiting of = absurd of
told_as_denied names Ended of = absurd of
told_as_denied names Nothing of = absurd of
