-- All that an entry sends: its news, and the reply to its message.
use Rattle.std.specs.Prelude.{◌≡◌, ◌⊎◌, ℕ, List, [], ◌∷◌, ◌++◌, map, Option, Some, None, is_some}
use Rattle.std.specs.List.{AllByRecursion}
use Rattle.xl_base.specs.Lists.{IsIn}
use Rattle.xl_base.specs.declared.event.Event.{Event}
use Rattle.xl_base.specs.declared.event.Event.TheVariants.{Message, Restart}
use Rattle.xl_base.specs.declared.event.Kind.{Kind}
use Rattle.xl_base.specs.declared.event.Kind.TheVariants.{Rpc, Smb}
use Rattle.xl_base.specs.declared.event.Out.{Out}
use Rattle.xl_base.specs.declared.journal.Exports.{Exports}
use Rattle.xl_base.specs.declared.name.Party.{Party}
use Rattle.xl_matrix.specs.declared.claim.Break.{Break}
use Rattle.xl_matrix.specs.declared.claim.CacheKind.{CacheKind}
use Rattle.xl_matrix.specs.declared.claim.Claim.{Claim}
use Rattle.xl_matrix.specs.declared.claim.What.TheVariants.{Cache}
use Rattle.xl_programs.specs.Programs.{incoming_at}
use Rattle.xl_core.specs.BreaksBegun.{is_recalled}
use Rattle.xl_core.specs.Deeds.{Deed, Asks, Serves, all_done, all_told_of, answers_of, given, done}
use Rattle.xl_core.specs.Places.{CacheOf, held_at}
use Rattle.xl_core.specs.State.{CoreState}
use Rattle.xl_core.specs.declared.ask.Effect.{Effect}
use Rattle.xl_core.specs.declared.ask.Effect.TheVariants.{Begun}
use Rattle.xl_plan.specs.Plans.{AllAt}
use Rattle.xl_smb_laws.specs.Heard.{IsHeard}
use Rattle.xl_house.specs.Done.{Round, deeds, messages, round_outs, rounds}
use Rattle.xl_house.specs.Lawful.{Law, found}
use Rattle.xl_house.specs.Machine.{replied_by}
use Rattle.xl_house.specs.Notices.{IsNews}
use Rattle.xl_house.specs.Replying.{IsRecordReplied}
use Rattle.xl_house.specs.State.{Whole, nfs_opens, rooms_of}
use Rattle.xl_house.specs.Telling.{TurnTaken, all_shown, framed, showing}
use Rattle.xl_house.specs.declared.layers.Fronts.{Fronts}

-- ---- news, in order

-- the news of these effects, one after the other, each with the fronts and the core as those before it left them
abbrev pub AreNews : Exports → Fronts → CoreState → List Effect → List Out → Type 0
AreNews exports f s [] outs = outs ≡ []
AreNews exports f s (effect ∷ effects) outs =
    (first : List Out) × (later : List Out) × (outs ≡ first ++ later) × IsNews exports f s effect first × AreNews exports (showing exports f s effect).1 (showing exports f s effect).2 effects later

-- the news of these turns, each of which tells what the core gave for it
abbrev pub AreTurnNews : ℕ → Exports → Fronts → CoreState → List TurnTaken → List Out → Type 0
AreTurnNews n exports f s [] outs = outs ≡ []
AreTurnNews n exports f s (t ∷ ts) outs =
    (given n s (Serves (rooms_of f)) ≡ (None, t.told, t.left))
    × ((first : List Out) × (later : List Out) × (outs ≡ first ++ later) × AreNews exports f t.left t.told first × AreTurnNews n exports (all_shown exports f t.left t.told).1 (all_shown exports f t.left t.told).2 ts later)

-- ---- replies

-- what is sent to a message by the connection that it came by, in its frames: one reply to a call of ONC RPC, on the same
-- connection and with its xid; and for a message of SMB the final replies to those whom it cancels, and its own
abbrev pub AreRepliesBy : ℕ → Exports → Fronts → CoreState → List Deed → Option Kind → ℕ → List ℕ → List Out → Type 0
AreRepliesBy n exports f s ds None conn bytes outs = outs ≡ []
AreRepliesBy n exports f s ds (Some Rpc) conn bytes outs = (plain : List Out) × (outs ≡ map (framed Rpc) plain) × IsRecordReplied conn (incoming_at bytes) plain
AreRepliesBy n exports f s ds (Some Smb) conn bytes outs = (plain : List Out) × (outs ≡ map (framed Smb) plain) × IsHeard exports (nfs_opens f) f.smb s conn bytes (answers_of n s ds) (all_told_of n s ds) (all_done n s ds) plain

abbrev pub AreReplies : ℕ → Whole → List Deed → Event → List Out → Type 0
AreReplies n s ds (Message conn bytes) outs = AreRepliesBy n s.exports s.front s.core ds (replied_by s (Message conn bytes)) conn bytes outs
AreReplies n s ds event outs = outs ≡ []

-- ---- an entry

-- What is sent in a round: the news of what its own deeds tell, its replies, and the news of the turns.
pub record IsRoundSent (n : ℕ) (r : Round) (outs : List Out) : Type 0 where
  pub first : List Out
  pub replies : List Out
  pub later : List Out
  pub all : outs ≡ first ++ (replies ++ later)
  pub own : AreNews r.found.exports r.own.given.2 (all_done n r.found.core r.own.deeds) (all_told_of n r.found.core r.own.deeds) first
  pub answered : AreReplies n r.found r.own.deeds r.cause replies
  pub turns : (let g = all_shown r.found.exports r.own.given.2 (all_done n r.found.core r.own.deeds) (all_told_of n r.found.core r.own.deeds) in AreTurnNews n r.found.exports g.1 g.2 r.turns later)

-- ---- breaks that begin

-- the break of the party's cache on the file, which is to leave this much, is told of
abbrev pub IsAnnounced : ℕ → Party → Option CacheKind → List Effect → Type 0
IsAnnounced file party to effects = (cache : Claim) × (call : Option ℕ) × IsIn (Begun cache to call) effects × (cache.file ≡ file) × (cache.party ≡ party)

-- A break of a party's cache that runs afterwards ran before, or is told of; and what is told of has the number of a call exactly
-- if the cache is the delegation of a client of NFSv4.
pub record AreAnnounced (s t : CoreState) (effects : List Effect) : Type 0 where
  pub told : (file : ℕ) (party : Party) (kind : CacheKind) (running : Break) → held_at t (CacheOf file party) ≡ Cache kind (Some running) ∷ [] → (held_at s (CacheOf file party) ≡ Cache kind (Some running) ∷ []) ⊎ IsAnnounced file party running.target effects
  pub numbered : (cache : Claim) (to : Option CacheKind) (call : Option ℕ) → IsIn (Begun cache to call) effects → is_some call ≡ is_recalled cache.party

-- so it is of an ask and of a turn; no other deed has a break begin
abbrev pub IsAnnouncing : ℕ → CoreState → Deed → Type 0
IsAnnouncing n s (Asks left a) = AreAnnounced s (done n s (Asks left a)) (given n s (Asks left a)).1
IsAnnouncing n s (Serves left) = AreAnnounced s (done n s (Serves left)) (given n s (Serves left)).1
IsAnnouncing n s deed = Unit {0}

-- a restart sends nothing
abbrev pub IsSentBy : ℕ → Whole → Event → List Out → Type 0
IsSentBy n s Restart outs = outs ≡ []
IsSentBy n s event outs =
    (outs ≡ messages n s event) × AllByRecursion (λ r. IsRoundSent n r (round_outs r)) (rounds n s event) × AllAt (λ u d. IsAnnouncing n u d) n (found s) (deeds n s event)

-- What a round of an entry sends is for each effect of its deeds the one message that is due to it, to whom it is due, and the
-- replies to its message; the entry sends what its rounds send, the replies of a frame of several messages together; and each
-- break that begins is told of by such an effect.
abbrev pub IsNotified : Law
IsNotified n s e t = IsSentBy n s e.event e.outs
