-- What the ask of an open is, and the number of a request that waits.
use Rattle.std.proofs.Common.{◌≡◌, ℕ, ◌+◌, ◌<◌, arith, Bool, true, false, List, [], ◌∷◌, Option, Some, None, option_map, if◌then◌else◌, refl, sym, ap, subst, ◌∙◌}
use Rattle.std.specs.Prelude.{◌==◌}
use Rattle.std.specs.List.{AllByRecursion}
use Rattle.xl_cache.specs.Levels.{choices_of_kind, kind_of_state, lease_choices, oplock_choices}
use Rattle.xl_cache.specs.Parties.{is_kind_of}
use Rattle.std.proofs.lemmas.Bool.{false≢true}
use Rattle.xl_matrix.specs.declared.claim.CacheKind.TheVariants.{R, RH, RW, RWH, ReadDeleg, WriteDeleg}
use Rattle.xl_names.specs.declared.name.Name.TheVariants.{SmbLease}
use Rattle.xl_smb.specs.declared.lease.Lease.{Lease}
use Rattle.xl_smb_state.specs.declared.row.Open.{Open}
use Rattle.xl_smb_locks.proofs.FitLaws.{party_fits}
use Rattle.xl_smb_locks.specs.Levels.{party_by, party_for}
use Rattle.xl_core.specs.declared.ask.Who.{Who}
use Rattle.xl_core.specs.declared.ask.Act.TheVariants.{Share}
use Rattle.xl_matrix.specs.declared.claim.CacheKind.{CacheKind}
use Rattle.xl_matrix.specs.declared.claim.Claim.{Claim}
use Rattle.xl_matrix.specs.declared.claim.Rwd.{Rwd}
use Rattle.xl_smb.specs.Creates.{CreateCallItem}
use Rattle.xl_core.proofs.ChangeLaws.{AskWay, Stays, Tests, Holds, Waits, Frees, Gives, decided_way}
use Rattle.xl_core.proofs.FrameLaws.{made_way_frame}
use Rattle.xl_core.proofs.GoodLaws.{asked_way_good}
use Rattle.xl_core.proofs.RowLaws.{is_refusal}
use Rattle.xl_core.specs.Askers.{asked_claims, asked_whats, is_client, may_wish_for}
use Rattle.xl_core.specs.Decide.{Answered, ask, before_wish, decided, plea_of, way}
use Rattle.xl_core.specs.Good.{IsGood}
use Rattle.xl_core.specs.State.{CoreState}
use Rattle.xl_core.specs.declared.ask.Answer.TheVariants as answers
use Rattle.xl_core.specs.declared.ask.Ask.{Ask}
use Rattle.xl_wait.specs.declared.waiter.Rooms.{Rooms}
use Rattle.xl_core.specs.declared.ask.Who.TheVariants as who
use Rattle.xl_front_smb.specs.Files.{lease_asked, key_asked, choices_by, open_ask}
use Rattle.xl_front_smb.specs.Short.{IsOpenAsk}

-- ---- the ask of a CREATE is one

-- an open wishes for kinds of an oplock
choices_fit : (number level : ℕ) → AllByRecursion (λ kind. may_wish_for (who.Open number) true kind ≡ true) (oplock_choices level)
unfolding oplock_choices is_kind_of
choices_fit number level = by (level == 9) (level == 8) (level == 1)
  where
    by : (batch exclusive second : Bool) → AllByRecursion (λ kind. may_wish_for (who.Open number) true kind ≡ true) (if batch then RWH ∷ R ∷ [] else if exclusive then RW ∷ R ∷ [] else if second then R ∷ [] else [])
    by true exclusive second = (refl, (refl, tt))
    by false true second = (refl, (refl, tt))
    by false false true = (refl, tt)
    by false false false = tt

-- or of a lease
kinds_fit : (client key : List ℕ) (kind : Option CacheKind) → AllByRecursion (λ k. may_wish_for (who.Named (SmbLease client key)) true k ≡ true) (choices_of_kind kind)
unfolding is_kind_of
kinds_fit client key None = tt
kinds_fit client key (Some R) = (refl, tt)
kinds_fit client key (Some RH) = (refl, (refl, tt))
kinds_fit client key (Some RW) = (refl, (refl, tt))
kinds_fit client key (Some RWH) = (refl, (refl, (refl, tt)))
kinds_fit client key (Some ReadDeleg) = tt
kinds_fit client key (Some WriteDeleg) = tt

-- what it is to be under is what it wishes by
wish_fits : (number : ℕ) (client : List ℕ) (level : ℕ) (asked : Option Lease) (key : Option (List ℕ)) → key ≡ option_map (λ lease. lease.key) asked
    → AllByRecursion (λ kind. may_wish_for (party_by client number key) true kind ≡ true) (choices_by level asked)
wish_fits number client level None key is = subst (λ (k : Option (List ℕ)). AllByRecursion (λ kind. may_wish_for (party_by client number k) true kind ≡ true) (oplock_choices level)) (sym is) (choices_fit number level)
wish_fits number client level (Some lease) key is =
    subst (λ (k : Option (List ℕ)). AllByRecursion (λ kind. may_wish_for (party_by client number k) true kind ≡ true) (lease_choices lease.state)) (sym is) (kinds_fit client lease.key (kind_of_state lease.state))

pub open_fits : (conn number : ℕ) (row : Open) (c : CreateCallItem) → row.lease ≡ key_asked c → IsOpenAsk (open_ask conn number row c)
unfolding open_ask
open_fits conn number row c under = record {
  fit = record { act = tt; own = refl; party = party_fits number row; wish = wish_fits number row.client c.oplock_level (lease_asked c) row.lease under };
  unnamed = refl;
  reclaim = refl;
  monitored = refl;
}

-- and it is the open's
pub open_owns : (conn number : ℕ) (row : Open) (c : CreateCallItem) → ((open_ask conn number row c).owner ≡ who.Open number) × ((open_ask conn number row c).party ≡ party_for number row)
unfolding open_ask
open_owns conn number row c = (refl, refl)

-- with a party and a wish as the code has them
pub asks_open : (conn number : ℕ) (row : Open) (c : CreateCallItem) (party : Who) (access deny : Rwd) (wish : List CacheKind) → party ≡ party_for number row → wish ≡ choices_by c.oplock_level (lease_asked c) → row.lease ≡ key_asked c
    → IsOpenAsk (record { file = row.file; owner = who.Open number; party = party; act = Share access deny; wish = wish; conn = Some conn; blocking = false; awaits = true; reclaim = false; monitored = false; mark = None; rows = record { hosts = 0; owners = 0; opens = 1 } })
asks_open conn number row c party access deny wish own is under = record {
  fit = record {
    act = tt;
    own = refl;
    party = ap (is_client (who.Open number)) own ∙ party_fits number row;
    wish = subst (λ (p : Who). AllByRecursion (λ kind. may_wish_for p true kind ≡ true) wish) (sym own)
        (subst (λ (kinds : List CacheKind). AllByRecursion (λ kind. may_wish_for (party_for number row) true kind ≡ true) kinds) (sym is) (wish_fits number row.client c.oplock_level (lease_asked c) row.lease under));
  };
  unnamed = refl;
  reclaim = refl;
  monitored = refl;
}

-- ---- a request that is told to wait

numbered : (x y : ℕ) → answers.Queued x ≡ answers.Queued y → x ≡ y
numbered x y e = cc

not_granted : {c : Claim} {id : ℕ} → answers.Granted c ≡ answers.Queued id → ⊥
not_granted e = cc

way_number : (t : CoreState) (a : Ask) (r : Answered) (id : ℕ) → AskWay t a r → r.0 ≡ answers.Queued id → t.counter + 1 ≡ id
way_number t a r id (Stays answer refused e) at = absurd (false≢true (ap is_refusal (sym at ∙ ap (λ (x : Answered). x.0) e) ∙ refused))
way_number t a r id (Tests c holds e) at = absurd (not_granted (sym (ap (λ (x : Answered). x.0) e) ∙ at))
way_number t a r id (Holds c claims is holds e) at = absurd (not_granted (sym (ap (λ (x : Answered). x.0) e) ∙ at))
way_number t a r id (Frees c first last holds act file owner e) at = absurd (not_granted (sym (ap (λ (x : Answered). x.0) e) ∙ at))
way_number t a r id (Gives c d holds act file owner range e) at = absurd (not_granted (sym (ap (λ (x : Answered). x.0) e) ∙ at))
way_number t a r id (Waits c cs waits is holds e) at = numbered (t.counter + 1) id (sym (ap (λ (x : Answered). x.0) e) ∙ at)

-- it has a later number than those that were given out before
pub queued_after : (n : ℕ) (left : Rooms) (s : CoreState) (a : Ask) (id : ℕ) → IsGood s → is_client a.owner a.party ≡ true → (ask n left s a).0 ≡ answers.Queued id → s.counter < id
unfolding ask before_wish
queued_after n left s a id good client at =
    let t = (way left s a).1 in
    omega (arith, way_number t a (decided n left t a) id (decided_way n left t a (asked_way_good left s a good) client) at, (made_way_frame s.waiters (plea_of left s a) (asked_claims a (asked_whats a.act) s.names) s).counter)
