-- What a LOCK under an open finds, and what its seqids leave.
use Rattle.std.proofs.Common.{◌≡◌, ℕ, true, List, Option, Some, None, is_some, refl, sym, ap, subst, ◌∙◌, inl, inr, true≢false}
use Rattle.std.proofs.lemmas.Bool.{cases_Bool}
use Rattle.std.proofs.lemmas.Option.{same_Some}
use Rattle.std.specs.Bool.{◌==◌}
use Rattle.std.specs.Option.{option_and_then}
use Rattle.std.specs.List.{find}
use Rattle.std.specs.Prelude.{IsSome}
use Rattle.xl_nfs_state.specs.State.{NfsLists, is_client, is_kept, is_owner}
use Rattle.xl_nfs_state.specs.declared.client.ClientRow.{ClientRow}
use Rattle.xl_nfs_state.specs.declared.owner.SeqidState.{SeqidState}
use Rattle.xl_nfs_state.specs.declared.stateid.StateidRow.{StateidRow}
use Rattle.xl_nfs_locks.specs.declared.joining.BothOwners.{BothOwners}
use Rattle.xl_nfs_locks.specs.FirstLocks.{counted_open, locker_under}
use Rattle.xl_nfs_locks.specs.Tests.{locker_of}
use Rattle.xl_nfs_opens.proofs.OpenerLaws.{number_there}
use Rattle.xl_core.specs.Ids.{number_in}
use Rattle.xl_nfs_opens.specs.Opens.{client_in}
use Rattle.xl_nfs_opens.specs.declared.opener.Opener.{Opener}
use Rattle.xl_core.specs.State.{CoreState}
use Rattle.xl_nfs_opens.specs.Seqids.{closed_gone, kept_for, seqid_set, counted}

-- ---- a request that counts leaves the clients

kept_clients : (owner : ℕ) (bytes : List ℕ) (l : NfsLists) → (kept_for owner bytes l).clients ≡ l.clients
kept_clients owner bytes l =
    elim (cases_Bool (is_some (find (is_kept owner) l.kept))) [
      | inl e ↦ rw e refl
      | inr e ↦ rw e (elim (cases_Bool (is_some (find (is_owner owner) l.owners))) [
        | inl d ↦ rw d refl
        | inr d ↦ rw d refl
      ])
    ]

gone_clients : (closed : Option ℕ) (l : NfsLists) → (closed_gone closed l).clients ≡ l.clients
gone_clients None l = refl
gone_clients (Some number) l = refl

counted_clients : (owner : ℕ) (closed : Option ℕ) (seqids : SeqidState) (bytes : List ℕ) (l : NfsLists) → (counted owner closed seqids bytes l).clients ≡ l.clients
unfolding counted
counted_clients owner closed seqids bytes l = kept_clients owner bytes (closed_gone closed (seqid_set owner seqids l)) ∙ gone_clients closed (seqid_set owner seqids l)

pub client_stays : (b : BothOwners) (bytes : List ℕ) (l m : NfsLists) (client : ℕ) → m ≡ counted_open b bytes l → IsSome (find (is_client client true) l.clients) → IsSome (find (is_client client true) m.clients)
client_stays b bytes l m client is there =
    subst (λ (cs : List ClientRow). IsSome (find (is_client client true) cs)) (sym (ap (λ (x : NfsLists). x.clients) is ∙ counted_clients b.number b.seqids.closed _ bytes l)) there

-- ---- a lock owner of the open's client is of one that is there

client_there : (s : CoreState) (l : NfsLists) (clientid : ℕ) (c : ClientRow) → client_in s l clientid ≡ Some c → IsSome (find (is_client c.number true) l.clients)
client_there s l clientid c e = by (number_in s clientid) e
  where
    by : (n : Option ℕ) → option_and_then (λ m. find (is_client m true) l.clients) n ≡ Some c → IsSome (find (is_client c.number true) l.clients)
    by None e = absurd (true≢false (ap is_some (sym e)))
    by (Some m) e = number_there m l.clients c e

under_there : (s : CoreState) (l : NfsLists) (clientid : ℕ) (r : StateidRow) (owner : List ℕ) (c : Option ClientRow) (o : Opener) → client_in s l clientid ≡ c → locker_under r owner c ≡ Some o → IsSome (find (is_client o.client true) l.clients)
under_there s l clientid r owner None o e is = absurd cc
under_there s l clientid r owner (Some c) o e is =
    elim (cases_Bool (c.number == r.client)) [
      | inl h ↦ subst (λ (y : Opener). IsSome (find (is_client y.client true) l.clients)) (same_Some (locker_of c owner) o (rw h at is)) (client_there s l clientid c e)
      | inr h ↦ (let none : None ≡ Some o = rw h at is in absurd cc)
    ]

pub locker_there : (s : CoreState) (l : NfsLists) (clientid : ℕ) (r : StateidRow) (owner : List ℕ) (o : Opener) → Some o ≡ locker_under r owner (client_in s l clientid) → IsSome (find (is_client o.client true) l.clients)
locker_there s l clientid r owner o is = under_there s l clientid r owner (client_in s l clientid) o refl (sym is)
