-- A refused grant is given up, and nothing is left of the opens of a connection that ended.
use Rattle.std.proofs.Common.{◌≡◌, ℕ, true, false, List, [], ◌∷◌, Option, Some, None, refl, sym, subst, ◌∙◌}
use Rattle.std.specs.Prelude.{◌==◌, find}
use Rattle.std.specs.List.{AllByRecursion, list_any}
use Rattle.std.proofs.lemmas.Bool.{both_ways, or_parts}
use Rattle.xl_base.proofs.Members.{all_append, all_from}
use Rattle.xl_base.specs.Lists.{IsIn}
use Rattle.xl_base.specs.declared.event.Event.{Event}
use Rattle.xl_base.specs.declared.event.Event.TheVariants.{End, Called}
use Rattle.xl_base.specs.declared.event.Kind.{Kind}
use Rattle.xl_base.specs.declared.event.Kind.TheVariants.{Rpc, Smb}
use Rattle.xl_base.specs.declared.event.Out.{Out}
use Rattle.xl_base.specs.declared.journal.Entry.{Entry}
use Rattle.xl_base.specs.declared.journal.Head.{Head}
use Rattle.xl_base.specs.declared.name.Owner.TheVariants as owners
use Rattle.xl_matrix.specs.declared.claim.Claim.{Claim}
use Rattle.xl_names.specs.declared.name.Name.{Name}
use Rattle.xl_table.specs.Held.{is_cache}
use Rattle.xl_wait.specs.declared.waiter.Waiter.{Waiter}
use Rattle.xl_smb_state.specs.Links.{IsSound}
use Rattle.xl_smb_state.specs.State.{Lists, closed, open_of, opens_under, creates_under}
use Rattle.xl_smb_state.specs.declared.row.Scope.{Scope}
use Rattle.xl_smb_state.specs.declared.row.Scope.TheVariants as scope
use Rattle.xl_core.proofs.GoodLaws.{begun_good}
use Rattle.xl_core.specs.State.{CoreState}
use Rattle.xl_core.specs.Deeds.{Asks}
use Rattle.xl_core.specs.Settle.{waits_as}
use Rattle.xl_front_nlm.proofs.AnswerLaws.{refused_unlocks}
use Rattle.xl_front_nlm.specs.Answers.{refuses}
use Rattle.xl_front_nlm.specs.Asks.{refusal_ask}
use Rattle.xl_front_nlm.specs.Grants.{grant_of}
use Rattle.xl_front_nlm.specs.Hosts.{rooms}
use Rattle.xl_front_nlm.specs.declared.call.GrantedCall.{GrantedCall}
use Rattle.xl_front_nlm.specs.declared.grant.Grant.{Grant}
use Rattle.xl_front_smb.proofs.GoneLaws.{end_without}
use Rattle.xl_front_smb.specs.Ending.{leavers, numbers_under, smb_end, without_party}
use Rattle.xl_front_smb.specs.State.{FrontSmb}
use Rattle.xl_smb_laws.proofs.NothingHeldLaws.{nothing_left}
use Rattle.xl_smb_laws.specs.OpenRights.{is_held_under}
use Rattle.xl_house.specs.Done.{rounds}
use Rattle.xl_house.specs.Free.{IsFree}
use Rattle.xl_house.specs.Lawful.{Always, found}
use Rattle.xl_house.specs.Owed.{own_deeds, IsOwedBy, IsOwed, AreGone, IsGoneBy}
use Rattle.xl_house.specs.Own.{end_own, own_of}
use Rattle.xl_house.specs.State.{Whole, kind_of, start_of}
use Rattle.xl_house.specs.declared.layers.Fronts.{Fronts}
use Rattle.xl_house.proofs.DoneLaws.{each_round, own_row}
use Rattle.xl_house.proofs.EachEntry.{always}
use Rattle.xl_house.proofs.PartLaws.{of_first}
use Rattle.xl_house.proofs.Splits.{none_of_each}

-- ---- the end of a call

owed_by : (n : ℕ) (s : Whole) (event : Event) → IsOwedBy s event (own_of n s event).deeds
owed_by n s (Called number reply) = λ call g found_call refused grant.
    (Asks (rooms s.front.nlm.hosts) (refusal_ask g), refused_unlocks s.front.nlm s.core number reply call g found_call refused grant, (refl, refl, refl, refl))
owed_by n s event = tt

each_owed : (n : ℕ) (s : Whole) (event : Event) → IsFree s → AllByRecursion (λ r. IsOwedBy r.found r.cause r.own.deeds) (rounds n s event)
each_owed n s event free = each_round n s event (λ r. IsOwedBy r.found r.cause r.own.deeds) ((λ t good. owed_by n t event), (λ t conn message good. tt)) (begun_good s.core free.good)

pub always_owed : (head : Head) (es : List Entry) → Always IsOwed (start_of head) es
always_owed head es = always IsOwed (λ n s e free. each_owed n s e.event free) head es

-- ---- the end of a connection

none_waits : (names : List Name) (l : Lists) (numbers : List ℕ) (w : Waiter) → list_any (λ e. waits_as e.0 w) (leavers names l numbers) ≡ false → AllByRecursion (λ number. waits_as number w ≡ false) numbers
none_waits names l [] w none = tt
none_waits names l (number ∷ numbers) w none =
    let parts = or_parts (waits_as number w) (list_any (λ e. waits_as e.0 w) (leavers names (closed number l) numbers)) none in
    (parts.0, none_waits names (closed number l) numbers w parts.1)

none_to_make : (numbers : List ℕ) (w : Waiter) → list_any (λ e. waits_as e.0 w) (without_party numbers) ≡ false → AllByRecursion (λ number. waits_as number w ≡ false) numbers
none_to_make [] w none = tt
none_to_make (number ∷ numbers) w none = let parts = or_parts (waits_as number w) (list_any (λ e. waits_as e.0 w) (without_party numbers)) none in (parts.0, none_to_make numbers w parts.1)

end_gone : (f : FrontSmb) (s : CoreState) (conn : ℕ) → IsSound f.state → AreGone s.names conn f.state (smb_end f s conn).2
end_gone f s conn sound = record {
  held = nothing_left s.names under l s (smb_end f s conn).2 sound (end_without f s conn);
  waiting = all_from (λ w. AllByRecursion (λ number. waits_as number w ≡ false) (numbers_under under l)) (smb_end f s conn).2.waiters (λ w here.
      let away = (((end_without f s conn).waiters w).0 here).1 in
      let both = none_of_each (λ e. waits_as e.0 w) (leavers s.names l (opens_under under l)) (without_party (creates_under under l)) away in
      all_append (λ number. waits_as number w ≡ false) (opens_under under l) (creates_under under l) (none_waits s.names l (opens_under under l) w both.0) (none_to_make (creates_under under l) w both.1));
} where
  l : Lists
  l = f.state

  under : Scope
  under = scope.Connection conn

ended_gone : (f : Fronts) (s : CoreState) (kind : Option Kind) (number : ℕ) → kind ≡ Some Smb → IsSound f.smb.state → AreGone s.names number f.smb.state (end_own f s kind number).given.3
ended_gone f s (Some Smb) number e sound = end_gone f.smb s number sound
ended_gone f s (Some Rpc) number e sound = absurd cc
ended_gone f s None number e sound = absurd cc

pub gone_by : (n : ℕ) (s : Whole) (event : Event) → IsSound s.front.smb.state → IsGoneBy n s event (own_of n s event).deeds
gone_by n s (End number) sound = λ smb.
    subst (λ (left : CoreState). AreGone s.core.names number s.front.smb.state left) (own_row n s (End number)).does
    (ended_gone s.front s.core (kind_of s.connections number) number smb sound)
gone_by n s event sound = tt

-- ---- machines that don't

-- one does nothing for a grant that is refused
pub refusal_dropped_in : (n stores number : ℕ) (reply : Option (List ℕ)) (outs : List Out) (s t : Whole) (call : GrantedCall) (g : Grant) → find (λ c. c.number == number) s.front.nlm.calls ≡ Some call → refuses reply ≡ true → grant_of (found s).names call.claim ≡ Some g
    → own_deeds n s (Called number reply) ≡ [] → IsOwed n s (record { event = Called number reply; stores = stores; outs = outs }) t → ⊥
refusal_dropped_in n stores number reply outs s t call g at refused grant none owed =
    let is = of_first n s (Called number reply) (λ r. IsOwedBy r.found r.cause r.own.deeds) refl refl owed call g at refused grant in
    let e : [] ≡ (is.0 ∷ []) = sym none ∙ is.1 in
    absurd cc

-- one leaves a share or a range of an open that went with its connection
pub left_behind_is : (names : List Name) (conn number : ℕ) (l : Lists) (left : CoreState) (c : Claim) → is_held_under (scope.Connection conn) (open_of number l) ≡ true → IsIn c left.claims → c.owner ≡ owners.Open number → is_cache c.what ≡ false → AreGone names conn l left → ⊥
left_behind_is names conn number l left c under here own other gone = both_ways (is_cache c.what) other (gone.held.opens number c under here own)
