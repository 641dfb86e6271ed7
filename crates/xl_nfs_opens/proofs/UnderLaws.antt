-- What the owners of locks give up where an open is closed.
use Rattle.std.proofs.Common.{◌≡◌, ℕ, ◌+◌, true, false, List, [], ◌∷◌, ◌++◌, length, Option, Some, None, refl, sym, ap, subst, ◌∙◌, inl, inr, arith}
use Rattle.std.proofs.lemmas.Bool.{cases_Bool}
use Rattle.std.proofs.lemmas.Option.{same_Some}
use Rattle.std.specs.List.{find}
use Rattle.std.specs.Prelude.{nat_le}
use Rattle.xl_matrix.specs.declared.claim.Claim.{Claim}
use Rattle.xl_matrix.specs.declared.claim.Extent.TheVariants.{Bytes}
use Rattle.xl_nfs_state.specs.State.{NfsLists, is_client, is_owner}
use Rattle.xl_nfs_state.specs.declared.client.ClientRow.{ClientRow}
use Rattle.xl_nfs_state.specs.declared.owner.OwnerRow.{OwnerRow}
use Rattle.xl_nfs_state.specs.declared.stateid.StateidRow.{StateidRow}
use Rattle.xl_table.specs.Relock.{holds_byte, most_claims}
use Rattle.xl_core.proofs.DeedLists.{done_append, fit_append}
use Rattle.xl_core.specs.Askers.{known_claim, IsFit}
use Rattle.xl_core.proofs.CacheLaws.{relocked_caches}
use Rattle.xl_core.proofs.WayAsks.{ask_there, ask_way_none}
use Rattle.xl_core.specs.Decide.{ask, decided, unlocked, unlocked_bytes, unlocked_claims}
use Rattle.xl_core.specs.Deeds.{Deed, Asks, all_done, all_told_of, AreFit}
use Rattle.xl_core.specs.Numbers.{numbers_of}
use Rattle.xl_core.specs.State.{CoreState}
use Rattle.xl_core.specs.declared.ask.Answer.{Answer}
use Rattle.xl_core.specs.declared.ask.Ask.{Ask}
use Rattle.xl_core.specs.declared.ask.Effect.{Effect}
use Rattle.xl_nfs_opens.specs.Asks.{all_ones, unlock_ask}
use Rattle.xl_nfs_opens.specs.Closing.{opener_named, opener_by, lock_owner, gives_up, ends_locks}
use Rattle.xl_nfs_opens.specs.Opens.{all_rooms}
use Rattle.xl_nfs_opens.specs.Owners.{AreBy}
use Rattle.xl_nfs_opens.specs.Short.{Leaves}
use Rattle.xl_nfs_opens.specs.declared.opener.Opener.{Opener}
use Rattle.xl_nfs_opens.proofs.LeaveLaws.{left_by_caches}
use Rattle.xl_nfs_opens.proofs.OpenOwn.{by_append}
use Rattle.xl_nfs_opens.proofs.OwnerLaws.{own_client}

-- ---- an unlock: nobody waits for it, and nothing is told besides

abbrev IsQuiet : CoreState → Answer × List Effect × CoreState → Type 0
IsQuiet s r = (numbers_of r.2 ≡ numbers_of s) × (r.1 ≡ [])

-- the caches stay, and so do the delegations that may be recalled
bytes_quiet : (s : CoreState) (c : Claim) (first last : ℕ) → IsQuiet s (unlocked_bytes s c first last)
bytes_quiet s c first last =
    elim (cases_Bool (holds_byte c.file c.owner first last s.claims)) [
      | inr none ↦ rw none (refl, refl)
      | inl some ↦ rw some (elim (cases_Bool (nat_le (length (unlocked_claims c first last s.claims)) most_claims)) [
        | inl room ↦ rw room (ap (λ (left : ℕ). s.counter + length s.waiters + left) (left_by_caches (unlocked_claims c first last s.claims) s.claims (relocked_caches c.file c.owner c.party first last None s.claims)), refl)
        | inr full ↦ rw full (refl, refl)
      ])
    ]

-- no way is made for it
unlock_there : (n : ℕ) (s : CoreState) (o : Opener) (file first last : ℕ) → ask n all_rooms s (unlock_ask o file first last) ≡ decided n all_rooms s (unlock_ask o file first last)
unlock_there n s o file first last = ask_there n all_rooms s (unlock_ask o file first last) (ask_way_none all_rooms s (unlock_ask o file first last) refl)

unlock_decided : (n : ℕ) (s : CoreState) (o : Opener) (file first last : ℕ) → IsQuiet s (decided n all_rooms s (unlock_ask o file first last))
unfolding decided unlocked
unlock_decided n s o file first last = bytes_quiet s (known_claim (unlock_ask o file first last) (Bytes first last) false s.names) first last

unlock_quiet : (n : ℕ) (s : CoreState) (o : Opener) (file first last : ℕ) → IsQuiet s (ask n all_rooms s (unlock_ask o file first last))
unlock_quiet n s o file first last = subst (λ (r : Answer × List Effect × CoreState). IsQuiet s r) (sym (unlock_there n s o file first last)) (unlock_decided n s o file first last)

-- however many stores succeed
unlock_alike : (n m : ℕ) (s : CoreState) (o : Opener) (file first last : ℕ) → decided n all_rooms s (unlock_ask o file first last) ≡ decided m all_rooms s (unlock_ask o file first last)
unfolding decided
unlock_alike n m s o file first last = refl

pub unlock_done : (n : ℕ) (s t : CoreState) (o : Opener) (file first last : ℕ) (a : Ask) (answer : Answer) (effects : List Effect) → a ≡ unlock_ask o file first last → ask t.made all_rooms s a ≡ (answer, effects, t) → all_done n s (Asks all_rooms (unlock_ask o file first last) ∷ []) ≡ t
unlock_done n s t o file first last a answer effects is e =
    ap (λ (r : Answer × List Effect × CoreState). r.2) (unlock_there n s o file first last ∙ unlock_alike n t.made s o file first last ∙ sym (unlock_there t.made s o file first last) ∙ ap (λ (q : Ask). ask t.made all_rooms s q) (sym is) ∙ e)

pub unlock_told : (n : ℕ) (s : CoreState) (o : Opener) (file first last : ℕ) → all_told_of n s (Asks all_rooms (unlock_ask o file first last) ∷ []) ≡ []
unlock_told n s o file first last = ap (λ (x : List Effect). x ++ []) (unlock_quiet n s o file first last).1

pub unlock_leaves : (n : ℕ) (s t : CoreState) (o : Opener) (file first last more : ℕ) (a : Ask) (answer : Answer) (effects : List Effect) → a ≡ unlock_ask o file first last → ask n all_rooms s a ≡ (answer, effects, t) → Leaves more s t → Leaves 0 s t
unlock_leaves n s t o file first last more a answer effects is e leaves =
    let same : numbers_of t ≡ numbers_of s = sym (ap (λ (r : Answer × List Effect × CoreState). numbers_of r.2) (ap (λ (q : Ask). ask n all_rooms s q) (sym is) ∙ e)) ∙ (unlock_quiet n s o file first last).0 in
    record { on = leaves.on; good = leaves.good; numbers = omega (arith, same); names = leaves.names }

-- ---- the locks under an open

pub ends_done : (n : ℕ) (s t u : CoreState) (ds es : List Deed) → all_done n s ds ≡ t → all_done n t es ≡ u → all_done n s (ds ++ es) ≡ u
ends_done n s t u ds es first second = done_append n s ds es ∙ ap (λ (x : CoreState). all_done n x es) first ∙ second

pub ends_told : (n : ℕ) (s : CoreState) (l : NfsLists) (r : StateidRow) (qs : List StateidRow) → all_told_of n s (ends_locks l r qs) ≡ []
ends_told n s l r [] = refl
ends_told n s l r (q ∷ qs) = by (opener_by l r.client (lock_owner q.holder)) (λ t. ends_told n t l r qs)
  where
    by : (o : Option Opener) → ((t : CoreState) → all_told_of n t (ends_locks l r qs) ≡ []) → all_told_of n s (gives_up r.file o ++ ends_locks l r qs) ≡ []
    by None rest = rest s
    by (Some o) rest =
        let t = (ask n all_rooms s (unlock_ask o r.file 0 all_ones)).2 in
        ap (λ (x : List Effect). x ++ all_told_of n t (ends_locks l r qs)) (unlock_quiet n s o r.file 0 all_ones).1 ∙ rest t

-- ---- whose they are

unlock_fits : (o : Opener) (file : ℕ) → IsFit (unlock_ask o file 0 all_ones)
unlock_fits o file = record { act = omega arith; own = refl; party = own_client o.id; wish = refl }

named_is : (Client : List ℕ → Type 0) (c : Option ClientRow) (w : Option OwnerRow) (o : Opener) → ((r : ClientRow) → c ≡ Some r → Client r.id) → opener_named c w ≡ Some o → Client o.id
named_is Client None w o each e = absurd cc
named_is Client (Some c) None o each e = absurd cc
named_is Client (Some c) (Some w) o each e = subst (λ (x : Opener). Client x.id) (same_Some (record { client = c.number; id = c.id; verifier = c.details.verifier; kind = w.name.kind; owner = w.name.owner }) o e) (each c refl)

pub opener_is : (Client : List ℕ → Type 0) (l : NfsLists) (client owner : ℕ) (o : Opener) → ((r : ClientRow) → find (is_client client true) l.clients ≡ Some r → Client r.id) → opener_by l client owner ≡ Some o → Client o.id
unfolding opener_by
opener_is Client l client owner o each e = named_is Client (find (is_client client true) l.clients) (find (is_owner owner) l.owners) o each e

up_own : (n : ℕ) (s : CoreState) (Client : List ℕ → Type 0) (file : ℕ) (o : Option Opener) → ((x : Opener) → o ≡ Some x → Client x.id) → AreFit n s (gives_up file o) × AreBy n s Client (gives_up file o)
up_own n s Client file None each = (tt, tt)
up_own n s Client file (Some o) each = ((unlock_fits o file, tt), ((o.id, each o refl, refl), tt))

pub ends_own : (n : ℕ) (s : CoreState) (l : NfsLists) (Client : List ℕ → Type 0) (r : StateidRow) (qs : List StateidRow) → ((c : ClientRow) → find (is_client r.client true) l.clients ≡ Some c → Client c.id) → AreFit n s (ends_locks l r qs) × AreBy n s Client (ends_locks l r qs)
ends_own n s l Client r [] each = (tt, tt)
ends_own n s l Client r (q ∷ qs) each =
    let o = opener_by l r.client (lock_owner q.holder) in
    let ds = gives_up r.file o in
    let first = up_own n s Client r.file o (λ x e. opener_is Client l r.client (lock_owner q.holder) x each e) in
    let second = ends_own n (all_done n s ds) l Client r qs each in
    (fit_append n s ds (ends_locks l r qs) first.0 second.0, by_append n s Client ds (ends_locks l r qs) first.1 second.1)
